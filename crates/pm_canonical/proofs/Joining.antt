-- One entry more of a list with separators.
use Rattle.std.proofs.Common.{◌≡◌, ◌<◌, ◌≤◌, ◌+◌, ℕ, suc, true, false, List, [], ◌∷◌, ◌++◌, length, take, map, get_or, refl, sym, ◌∙◌, ap, arith, append_assoc, if◌then◌else◌, ◌==◌}
use Rattle.std.proofs.lemmas.List.{take_more, take_all, map-append, length-map, length-take}
use Rattle.std.proofs.lemmas.Bool.{ne_eqb}
use Rattle.pm_canonical.specs.Canon.{joined, separated}

after_more : (sep : List ℕ) (n : ℕ) (piece : List ℕ) → separated sep (suc n) piece ≡ sep ++ piece
after_more sep n piece = let e : (suc n == 0) ≡ false = ne_eqb (suc n) 0 (λ h. absurd (omega arith)) in rw e refl

regroup : (a b c d : List ℕ) → a ++ (b ++ (c ++ d)) ≡ (a ++ (b ++ c)) ++ d
regroup a b c d = simp append_assoc

joined_push : (sep : List ℕ) (pieces : List (List ℕ)) (piece : List ℕ) → joined sep (pieces ++ piece ∷ []) ≡ joined sep pieces ++ separated sep (length pieces) piece
joined_push sep [] piece = refl
joined_push sep (first ∷ []) piece = refl
joined_push sep (first ∷ next ∷ more) piece =
    ap (λ t. first ++ (sep ++ t)) (joined_push sep (next ∷ more) piece ∙ ap (λ t. joined sep (next ∷ more) ++ t) (after_more sep (length more) piece))
    ∙ regroup first sep (joined sep (next ∷ more)) (sep ++ piece) ∙ ap (λ t. (first ++ (sep ++ joined sep (next ∷ more))) ++ t) (sym (after_more sep (suc (length more)) piece))

pub joined_more : {A : Type 0} (sep : List ℕ) (f : A → List ℕ) (xs : List A) (i : ℕ) (x : A) → i < length xs → x ≡ get_or xs i x
    → joined sep (map f (take (i + 1) xs)) ≡ joined sep (map f (take i xs)) ++ separated sep i (f x)
joined_more sep f xs i x h is =
    let more : map f (take (i + 1) xs) ≡ map f (take i xs) ++ f x ∷ [] = ap (map f) (take_more xs i x h ∙ rw (← is) refl) ∙ map-append f (take i xs) (x ∷ []) in
    let count : length (map f (take i xs)) ≡ i = length-map (take i xs) f ∙ length-take i xs ∙ omega arith in
    ap (joined sep) more ∙ joined_push sep (map f (take i xs)) (f x) ∙ rw count refl

-- and of what was written
pub joined_put : {A : Type 0} (sep : List ℕ) (f : A → List ℕ) (xs : List A) (i : ℕ) (x : A) (start before after : List ℕ) → i < length xs → x ≡ get_or xs i x
    → before ≡ start ++ joined sep (map f (take i xs)) → after ≡ before ++ separated sep i (f x) → after ≡ start ++ joined sep (map f (take (i + 1) xs))
joined_put sep f xs i x start before after h is b a = a ∙ ap (λ t. t ++ separated sep i (f x)) b ∙ append_assoc start _ _ ∙ sym (ap (λ t. start ++ t) (joined_more sep f xs i x h is))

pub after_is : (sep : List ℕ) (i : ℕ) (piece : List ℕ) → separated sep i piece ≡ (if i == 0 then [] else sep) ++ piece
after_is sep i piece = elim (i == 0) as (λ b. (if b then piece else sep ++ piece) ≡ (if b then [] else sep) ++ piece) [ true ↦ refl | false ↦ refl ]

-- the same where the separator was written first
pub member_put : {A : Type 0} (sep : List ℕ) (f : A → List ℕ) (xs : List A) (i : ℕ) (x : A) (start before between after : List ℕ) → i < length xs → x ≡ get_or xs i x
    → before ≡ start ++ joined sep (map f (take i xs)) → between ≡ before ++ (if i == 0 then [] else sep) → after ≡ between ++ f x → after ≡ start ++ joined sep (map f (take (i + 1) xs))
member_put sep f xs i x start before between after h is b m a =
    joined_put sep f xs i x start before after h is b (a ∙ ap (λ t. t ++ f x) m ∙ append_assoc before _ _ ∙ sym (ap (λ t. before ++ t) (after_is sep i (f x))))

map_twice : {A B : Type 0} (f : B → List ℕ) (g : A → B) (xs : List A) → map (λ t. f (g t)) xs ≡ map f (map g xs)
map_twice f g [] = refl
map_twice f g (x ∷ xs) = ap (λ t. f (g x) ∷ t) (map_twice f g xs)

-- all members were written
pub members_put : {A B : Type 0} (sep : List ℕ) (f : B → List ℕ) (g : A → B) (xs : List A) (i : ℕ) (start after : List ℕ) → length xs ≤ i → after ≡ start ++ joined sep (map (λ t. f (g t)) (take i xs)) → after ≡ start ++ joined sep (map f (map g xs))
members_put sep f g xs i start after all a = a ∙ ap (λ t. start ++ joined sep (map (λ t. f (g t)) t)) (take_all i xs all) ∙ ap (λ t. start ++ joined sep t) (map_twice f g xs)
