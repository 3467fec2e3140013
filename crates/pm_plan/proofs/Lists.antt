-- look-ups in lists
use Rattle.std.proofs.Common.{◌≡◌, ◌<◌, ℕ, suc, zero, ◌+◌, List, [], ◌∷◌, ◌++◌, length, Option, Some, None, unwrap_or, get_or, slice_get, refl, sym, ap, ◌∙◌, arith}
use Rattle.std.proofs.Common.{Bool, true, false, ◌&&◌, ◌||◌, take, add-one, inl, inr}
use Rattle.std.specs.List.{list_any, list_all}
use Rattle.std.proofs.lemmas.Option.{unwrap_or-slice_get, slice_get_cases, slice_get_within, get_or_from_slice_get}
use Rattle.std.proofs.lemmas.List.{take_all}
use Rattle.std.proofs.lemmas.List.Folds.{list_any_more, list_any_at}

pub slice_get-append_left : {A : Type 0} (a b : List A) (i : ℕ) → i < length a → slice_get (a ++ b) i ≡ slice_get a i
slice_get-append_left [] b i h = absurd (omega arith)
slice_get-append_left (x ∷ a) b zero h = refl
slice_get-append_left (x ∷ a) b (suc i) h = slice_get-append_left a b i (omega arith)

pub slice_get-append_right : {A : Type 0} (a b : List A) (i j : ℕ) → i ≡ length a + j → slice_get (a ++ b) i ≡ slice_get b j
slice_get-append_right [] b i j e = ap (slice_get b) (omega arith)
slice_get-append_right (x ∷ a) b zero j e = absurd (omega arith)
slice_get-append_right (x ∷ a) b (suc i) j e = slice_get-append_right a b i j (omega arith)

pub got_or : {A : Type 0} (xs : List A) (i : ℕ) (d : A) (o : Option A) (r : A) → r ≡ unwrap_or o d → o ≡ slice_get xs i → r ≡ get_or xs i d
got_or xs i d o r e k = e ∙ ap (λ q. unwrap_or q d) k ∙ unwrap_or-slice_get xs i d

-- one more element that passes, and one that does not
all_next : {A : Type 0} (f : A → Bool) (xs : List A) (i : ℕ) (d : A) → i < length xs → list_all f (take i xs) ≡ true → f (get_or xs i d) ≡ true → list_all f (take (suc i) xs) ≡ true
all_next f [] i d h before now = absurd (omega arith)
all_next f (y ∷ xs) zero d h before now = rw now refl
all_next f (y ∷ xs) (suc i) d h before now =
    let parts = both (f y) (list_all f (take i xs)) before in
    ap (λ b. b && list_all f (take (suc i) xs)) parts.0 ∙ all_next f xs i d (omega arith) parts.1 now
  where
    both : (a b : Bool) → (a && b) ≡ true → (a ≡ true) × (b ≡ true)
    both true b e = (refl, e)
    both false b e = absurd cc

pub all_more : {A : Type 0} (f : A → Bool) (xs : List A) (i : ℕ) (d : A) → i < length xs → list_all f (take i xs) ≡ true → f (get_or xs i d) ≡ true → list_all f (take (i + 1) xs) ≡ true
all_more f xs i d h before now = rw add-one (all_next f xs i d h before now)

pub all_broken : {A : Type 0} (f : A → Bool) (xs : List A) (i : ℕ) (d : A) → i < length xs → f (get_or xs i d) ≡ false → list_all f xs ≡ false
all_broken f [] i d h now = absurd (omega arith)
all_broken f (y ∷ xs) zero d h now = rw now refl
all_broken f (y ∷ xs) (suc i) d h now =
    elim (f y) as (λ b. (b && list_all f xs) ≡ false) [ true ↦ all_broken f xs i d (omega arith) now | false ↦ refl ]

-- what a loop over positions finds, up to the first one past the end
pub take_whole : {A : Type 0} (xs : List A) (i : ℕ) → None ≡ slice_get xs i → take i xs ≡ xs
take_whole xs i e = take_all i xs (elim (slice_get_cases xs i).1 [ inl w ↦ absurd cc | inr w ↦ w.0 ])

pub any_next : {A : Type 0} (f : A → Bool) (xs : List A) (i : ℕ) (x : A) → Some x ≡ slice_get xs i → list_any f (take i xs) ≡ false → f x ≡ false → list_any f (take (i + 1) xs) ≡ false
any_next f xs i x e none now =
    list_any_more f xs i x (slice_get_within xs i x (sym e)) ∙ ap (λ b. b || f (get_or xs i x)) none ∙ ap f (get_or_from_slice_get xs i x x (sym e)) ∙ now

pub any_found : {A : Type 0} (f : A → Bool) (xs : List A) (i : ℕ) (x : A) → Some x ≡ slice_get xs i → f x ≡ true → list_any f xs ≡ true
any_found f xs i x e now = list_any_at f xs i x (slice_get_within xs i x (sym e)) (ap f (get_or_from_slice_get xs i x x (sym e)) ∙ now)

pub all_next_at : {A : Type 0} (f : A → Bool) (xs : List A) (i : ℕ) (x : A) → Some x ≡ slice_get xs i → list_all f (take i xs) ≡ true → f x ≡ true → list_all f (take (i + 1) xs) ≡ true
all_next_at f xs i x e before now = all_more f xs i x (slice_get_within xs i x (sym e)) before (ap f (get_or_from_slice_get xs i x x (sym e)) ∙ now)

pub all_broken_at : {A : Type 0} (f : A → Bool) (xs : List A) (i : ℕ) (x : A) → Some x ≡ slice_get xs i → f x ≡ false → list_all f xs ≡ false
all_broken_at f xs i x e now = all_broken f xs i x (slice_get_within xs i x (sym e)) (ap f (get_or_from_slice_get xs i x x (sym e)) ∙ now)
