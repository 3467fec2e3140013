-- Breaches along a list.
use Rattle.std.proofs.Common.{◌≡◌, ◌+◌, ◌<◌, ℕ, zero, suc, List, [], ◌∷◌, ◌++◌, length, get_or, take, drop, Result, Ok, Err, refl, ◌∙◌, ap, sym, drop-cons, append_assoc, append-nil, zero-add, add-zero, arith, ◌≤◌, map}
use Rattle.std.proofs.lemmas.List.{take-append-drop, take_more, take_all, length-take-le}
use Rattle.std.proofs.lemmas.Grind.{flat_map-append}
use Rattle.std.proofs.lemmas.List.Folds.{flat_map-map}
use Rattle.std.specs.List.{flat_map}
use Rattle.std.specs.Result.{is_ok}
use Rattle.pm_names.specs.declared.fault.BindBad.{BindBad}
use Rattle.pm_names.specs.Breaches.{verdict, each_from}
use Rattle.pm_names.specs.Names.{is_sound}

pub none_from_ok : (xs : List BindBad) → verdict xs ≡ Ok tt → xs ≡ []
none_from_ok [] h = refl
none_from_ok (x ∷ xs) h = cc

pub sound_is : (xs : List BindBad) → is_sound xs ≡ is_ok (verdict xs)
sound_is [] = refl
sound_is (x ∷ xs) = refl

pub verdict_left : (e : BindBad) (xs ys : List BindBad) → verdict xs ≡ Err e → verdict (xs ++ ys) ≡ Err e
verdict_left e [] ys h = cc
verdict_left e (x ∷ xs) ys h = h

flat_map-split : {A B : Type 0} (f : A → List B) (xs : List A) (i : ℕ) → flat_map f xs ≡ flat_map f (take i xs) ++ flat_map f (drop i xs)
flat_map-split f xs i = ap (flat_map f) (sym (take-append-drop i xs)) ∙ flat_map-append f (take i xs) (drop i xs)

-- the first breach along a list is told
pub told_at : {A : Type 0} (f : A → List BindBad) (xs : List A) (i : ℕ) (x : A) (e : BindBad) (r : Result (Unit {0}) BindBad)
    → i < length xs → x ≡ get_or xs i x → flat_map f (take i xs) ≡ [] → Err e ≡ verdict (f x) → r ≡ Err e → r ≡ verdict (flat_map f xs)
told_at f xs i x e r within is none h told =
    let here : verdict (f (get_or xs i x)) ≡ Err e = rw (← is) (sym h) in
    told ∙ sym (rw (flat_map-split f xs i, none, drop-cons xs i x within) (verdict_left e (f (get_or xs i x)) (flat_map f (drop (suc i) xs)) here))

-- one item more without a breach
pub none_more : {A : Type 0} (f : A → List BindBad) (xs : List A) (i : ℕ) (x : A) → i < length xs → x ≡ get_or xs i x → flat_map f (take i xs) ≡ [] → Ok tt ≡ verdict (f x) → flat_map f (take (i + 1) xs) ≡ []
none_more f xs i x within is none h =
    let here : f (get_or xs i x) ≡ [] = rw (← is) (none_from_ok (f x) (sym h)) in
    rw (take_more xs i x within, flat_map-append f (take i xs) (get_or xs i x ∷ []), none, here) refl

-- the same of items that are read as they are
same_default : {A : Type 0} (xs : List A) (i : ℕ) (d : A) → i < length xs → get_or xs i d ≡ get_or xs i (get_or xs i d)
same_default [] i d within = absurd (omega arith)
same_default (x ∷ xs) zero d within = refl
same_default (x ∷ xs) (suc i) d within = same_default xs i d (omega arith)

pub told_plain : {A : Type 0} (f : A → List BindBad) (xs : List A) (i : ℕ) (d : A) (e : BindBad) (r : Result (Unit {0}) BindBad)
    → i < length xs → flat_map f (take i xs) ≡ [] → Err e ≡ verdict (f (get_or xs i d)) → r ≡ Err e → r ≡ verdict (flat_map f xs)
told_plain f xs i d e r within none h told = told_at f xs i (get_or xs i d) e r within (same_default xs i d within) none h told

pub none_plain : {A : Type 0} (f : A → List BindBad) (xs : List A) (i : ℕ) (d : A) → i < length xs → flat_map f (take i xs) ≡ [] → Ok tt ≡ verdict (f (get_or xs i d)) → flat_map f (take (i + 1) xs) ≡ []
none_plain f xs i d within none h = none_more f xs i (get_or xs i d) within (same_default xs i d within) none h

-- no breach along a list
all_none : {A : Type 0} (f : A → List BindBad) (xs : List A) (i : ℕ) → length xs ≤ i → flat_map f (take i xs) ≡ [] → flat_map f xs ≡ []
all_none f xs i past none = ap (flat_map f) (sym (take_all i xs past)) ∙ none

-- the same of a list of lists
pub told_within : {A : Type 0} (f : A → List BindBad) (xs : List A) (i : ℕ) (x : A) (e : BindBad) (r : Result (Unit {0}) BindBad)
    → i < length xs → x ≡ get_or xs i x → flat_map f (take i xs) ≡ [] → Err e ≡ verdict (f x) → r ≡ Err e → r ≡ verdict (flat_map (λ m. m) (map f xs))
told_within f xs i x e r within is none h told = rw (flat_map-map (λ m. m) f xs) (told_at f xs i x e r within is none h told)

pub none_within : {A : Type 0} (f : A → List BindBad) (xs : List A) (i : ℕ) → length xs ≤ i → flat_map f (take i xs) ≡ [] → Ok tt ≡ verdict (flat_map (λ m. m) (map f xs))
none_within f xs i past none = rw (flat_map-map (λ m. m) f xs, all_none f xs i past none) refl

-- the same by positions
each_from-append : {A B : Type 0} (f : ℕ → A → List B) (i : ℕ) (xs ys : List A) → each_from f i (xs ++ ys) ≡ each_from f i xs ++ each_from f (i + length xs) ys
each_from-append f i [] ys = rw add-zero refl
each_from-append f i (x ∷ xs) ys =
    let same : i + 1 + length xs ≡ i + length (x ∷ xs) = omega arith in
    ap (λ more. f i x ++ more) (each_from-append f (i + 1) xs ys ∙ ap (λ n. each_from f (i + 1) xs ++ each_from f n ys) same) ∙ sym (append_assoc (f i x) (each_from f (i + 1) xs) (each_from f (i + length (x ∷ xs)) ys))

pub each_from-split : {A B : Type 0} (f : ℕ → A → List B) (xs : List A) (i : ℕ) (d : A) → i < length xs
    → each_from f 0 xs ≡ each_from f 0 (take i xs) ++ (f i (get_or xs i d) ++ each_from f (i + 1) (drop (suc i) xs))
each_from-split f xs i d within =
    let long : length (take i xs) ≡ i = length-take-le i xs (omega arith) in
    ap (each_from f 0) (sym (take-append-drop i xs)) ∙ each_from-append f 0 (take i xs) (drop i xs) ∙ rw (long, zero-add i, drop-cons xs i d within) refl

pub each_told : {A : Type 0} (f : ℕ → A → List BindBad) (xs : List A) (i : ℕ) (x : A) (e : BindBad) (r : Result (Unit {0}) BindBad)
    → i < length xs → x ≡ get_or xs i x → each_from f 0 (take i xs) ≡ [] → Err e ≡ verdict (f i x) → r ≡ Err e → r ≡ verdict (each_from f 0 xs)
each_told f xs i x e r within is none h told =
    let here : verdict (f i (get_or xs i x)) ≡ Err e = rw (← is) (sym h) in
    told ∙ sym (rw (each_from-split f xs i x within, none) (verdict_left e (f i (get_or xs i x)) (each_from f (i + 1) (drop (suc i) xs)) here))

-- one item more
pub each_more : {A B : Type 0} (f : ℕ → A → List B) (xs : List A) (i : ℕ) (x : A) → i < length xs → x ≡ get_or xs i x → each_from f 0 (take (i + 1) xs) ≡ each_from f 0 (take i xs) ++ f i x
each_more f xs i x within is =
    let long : length (take i xs) ≡ i = length-take-le i xs (omega arith) in
    rw (take_more xs i x within) (each_from-append f 0 (take i xs) (get_or xs i x ∷ []) ∙ rw (long, zero-add i, ← is) (ap (λ last. each_from f 0 (take i xs) ++ last) (append-nil (f i x))))

pub each_none_more : {A : Type 0} (f : ℕ → A → List BindBad) (xs : List A) (i : ℕ) (x : A) → i < length xs → x ≡ get_or xs i x → each_from f 0 (take i xs) ≡ [] → Ok tt ≡ verdict (f i x) → each_from f 0 (take (i + 1) xs) ≡ []
each_none_more f xs i x within is none h = each_more f xs i x within is ∙ rw (none, none_from_ok (f i x) (sym h)) refl
