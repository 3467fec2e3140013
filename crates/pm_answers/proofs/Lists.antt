-- filters, products and tests of all items of a list
use Rattle.std.proofs.Common.{◌≡◌, Bool, true, false, cond, not, ◌&&◌, ◌||◌, List, [], ◌∷◌, ◌++◌, map, refl, sym, ap, ◌∙◌}
use Rattle.std.specs.List.{flat_map, filter, list_all, All}
use Rattle.std.proofs.lemmas.Bool.{and_parts, and_from, not-false, false≢true}
use Rattle.std.proofs.lemmas.List.Elements.{filter-append, All-head, All-tail, All-append, All-nil}
use Rattle.pm_values.specs.Keys.{once}

-- ---- tests

pub and-false : (b : Bool) → (b && false) ≡ false
and-false true = refl
and-false false = refl

pub and-true : (b : Bool) → (b && true) ≡ b
and-true true = refl
and-true false = refl

pub and-comm : (a b : Bool) → (a && b) ≡ (b && a)
and-comm true b = sym (and-true b)
and-comm false b = sym (and-false b)

pub and-four : (u v y z : Bool) → ((u && v) && (y && z)) ≡ ((u && y) && (v && z))
and-four true v true z = refl
and-four true v false z = and-false v
and-four false v y z = refl

pub cond-or : (o s k : Bool) → cond (o || s) k true ≡ (cond o k true && cond s k true)
cond-or true true true = refl
cond-or true true false = refl
cond-or true false true = refl
cond-or true false false = refl
cond-or false s k = refl

pub same_tests : (a b : Bool) → (a ≡ true → b ≡ true) → (b ≡ true → a ≡ true) → a ≡ b
same_tests true b f g = sym (f refl)
same_tests false true f g = absurd (false≢true (g refl))
same_tests false false f g = refl

-- ---- filters

pub filter-all : {A : Type 0} (xs : List A) → filter (λ x. true) xs ≡ xs
filter-all [] = refl
filter-all (x ∷ xs) = ap (λ s. x ∷ s) (filter-all xs)

pub filter-filter : {A : Type 0} (p q : A → Bool) (xs : List A) → filter p (filter q xs) ≡ filter (λ x. q x && p x) xs
filter-filter p q [] = refl
filter-filter p q (x ∷ xs) =
    elim (q x) as (λ t. filter p (cond t (x ∷ filter q xs) (filter q xs)) ≡ cond (t && p x) (x ∷ filter (λ y. q y && p y) xs) (filter (λ y. q y && p y) xs))
    [ true ↦ ap (λ s. cond (p x) (x ∷ s) s) (filter-filter p q xs) | false ↦ filter-filter p q xs ]

pub filter-map : {A B : Type 0} (p : B → Bool) (f : A → B) (xs : List A) → filter p (map f xs) ≡ map f (filter (λ x. p (f x)) xs)
filter-map p f [] = refl
filter-map p f (x ∷ xs) =
    elim (p (f x)) as (λ t. cond t (f x ∷ filter p (map f xs)) (filter p (map f xs)) ≡ map f (cond t (x ∷ filter (λ y. p (f y)) xs) (filter (λ y. p (f y)) xs)))
    [ true ↦ ap (λ s. f x ∷ s) (filter-map p f xs) | false ↦ filter-map p f xs ]

-- two tests that agree at each item that passes a third
pub filter-same : {A : Type 0} (f p q : A → Bool) → ((x : A) → f x ≡ true → p x ≡ q x) → (xs : List A) → list_all f xs ≡ true → filter p xs ≡ filter q xs
filter-same f p q same [] all = refl
filter-same f p q same (x ∷ xs) all =
    let parts = and_parts (f x) (list_all f xs) all in
    ap (λ t. cond t (x ∷ filter p xs) (filter p xs)) (same x parts.0) ∙ ap (λ s. cond (q x) (x ∷ s) s) (filter-same f p q same xs parts.1)

pub filter-passing : {A : Type 0} (f : A → Bool) (xs : List A) → list_all f xs ≡ true → filter f xs ≡ xs
filter-passing f xs all = filter-same f f (λ x. true) (λ x h. h) xs all ∙ filter-all xs

-- one test for all items
pub filter-constant : {A : Type 0} (p : A → Bool) (b : Bool) (xs : List A) → All (λ x. p x ≡ b) xs → filter p xs ≡ cond b xs []
filter-constant p true [] all = refl
filter-constant p false [] all = refl
filter-constant p true (x ∷ xs) all =
    ap (λ t. cond t (x ∷ filter p xs) (filter p xs)) (All-head (λ y. p y ≡ true) x xs all)
    ∙ ap (λ s. x ∷ s) (filter-constant p true xs (All-tail (λ y. p y ≡ true) x xs all))
filter-constant p false (x ∷ xs) all =
    ap (λ t. cond t (x ∷ filter p xs) (filter p xs)) (All-head (λ y. p y ≡ false) x xs all)
    ∙ filter-constant p false xs (All-tail (λ y. p y ≡ false) x xs all)

-- ---- products

pub filter-flat_map : {A B : Type 0} (p : B → Bool) (f : A → List B) (xs : List A)
    → filter p (flat_map f xs) ≡ flat_map (λ x. filter p (f x)) xs
filter-flat_map p f [] = refl
filter-flat_map p f (x ∷ xs) = filter-append p (f x) (flat_map f xs) ∙ ap (λ s. filter p (f x) ++ s) (filter-flat_map p f xs)

pub flat_map-filter : {A B : Type 0} (f : A → List B) (p : A → Bool) (xs : List A)
    → flat_map f (filter p xs) ≡ flat_map (λ x. cond (p x) (f x) []) xs
flat_map-filter f p [] = refl
flat_map-filter f p (x ∷ xs) =
    elim (p x) as (λ t. flat_map f (cond t (x ∷ filter p xs) (filter p xs)) ≡ cond t (f x) [] ++ flat_map (λ y. cond (p y) (f y) []) xs)
    [ true ↦ ap (λ s. f x ++ s) (flat_map-filter f p xs) | false ↦ flat_map-filter f p xs ]

-- equal on each item of which Q holds
pub flat_map-same : {A B : Type 0} (Q : A → Type 0) (f g : A → List B) → ((x : A) → Q x → f x ≡ g x)
    → (xs : List A) → All Q xs → flat_map f xs ≡ flat_map g xs
flat_map-same Q f g same [] all = refl
flat_map-same Q f g same (x ∷ xs) all =
    ap (λ s. s ++ flat_map f xs) (same x (All-head Q x xs all))
    ∙ ap (λ s. g x ++ s) (flat_map-same Q f g same xs (All-tail Q x xs all))

pub All-flat_map : {A B : Type 0} (Q : A → Type 0) (P : B → Type 0) (f : A → List B) → ((x : A) → Q x → All P (f x))
    → (xs : List A) → All Q xs → All P (flat_map f xs)
All-flat_map Q P f each [] all = All-nil P
All-flat_map Q P f each (x ∷ xs) all =
    All-append P (f x) (flat_map f xs) (each x (All-head Q x xs all)) (All-flat_map Q P f each xs (All-tail Q x xs all))

-- ---- a test of all items

pub list_all-filter : {A : Type 0} (p f : A → Bool) (x : A) (xs : List A)
    → list_all p (filter f (x ∷ xs)) ≡ (cond (f x) (p x) true && list_all p (filter f xs))
list_all-filter p f x xs =
    elim (f x) as (λ t. list_all p (cond t (x ∷ filter f xs) (filter f xs)) ≡ (cond t (p x) true && list_all p (filter f xs))) [ true ↦ refl | false ↦ refl ]

pub list_all-weaker : {A : Type 0} (f g : A → Bool) → ((x : A) → f x ≡ true → g x ≡ true) → (xs : List A) → list_all f xs ≡ true → list_all g xs ≡ true
list_all-weaker f g weaker [] all = refl
list_all-weaker f g weaker (x ∷ xs) all =
    let parts = and_parts (f x) (list_all f xs) all in
    and_from (g x) (list_all g xs) (weaker x parts.0) (list_all-weaker f g weaker xs parts.1)

pub list_all-kept : {A : Type 0} (p f : A → Bool) (xs : List A) → list_all p xs ≡ true → list_all p (filter f xs) ≡ true
list_all-kept p f [] all = refl
list_all-kept p f (x ∷ xs) all =
    let parts = and_parts (p x) (list_all p xs) all in
    elim (f x) as (λ t. list_all p (cond t (x ∷ filter f xs) (filter f xs)) ≡ true)
    [ true ↦ and_from (p x) (list_all p (filter f xs)) parts.0 (list_all-kept p f xs parts.1) | false ↦ list_all-kept p f xs parts.1 ]

pub list_all-both : {A : Type 0} (p q : A → Bool) (xs : List A) → list_all p xs ≡ true → list_all q xs ≡ true → list_all (λ x. p x && q x) xs ≡ true
list_all-both p q [] ps qs = refl
list_all-both p q (x ∷ xs) ps qs =
    let first = and_parts (p x) (list_all p xs) ps in
    let second = and_parts (q x) (list_all q xs) qs in
    and_from (p x && q x) (list_all (λ y. p y && q y) xs) (and_from (p x) (q x) first.0 second.0) (list_all-both p q xs first.1 second.1)

-- it is the test of those that pass another one, and of the others
pub list_all-split : {A : Type 0} (p f : A → Bool) (xs : List A)
    → list_all p xs ≡ (list_all p (filter f xs) && list_all p (filter (λ x. not (f x)) xs))
list_all-split p f [] = refl
list_all-split p f (x ∷ xs) =
    let rest : list_all p xs ≡ (list_all p (filter f xs) && list_all p (filter (λ y. not (f y)) xs)) = list_all-split p f xs in
    elim (f x) as (λ t. (p x && list_all p xs) ≡ (list_all p (cond t (x ∷ filter f xs) (filter f xs)) && list_all p (cond (not t) (x ∷ filter (λ y. not (f y)) xs) (filter (λ y. not (f y)) xs)))) [
      | true ↦ elim (p x) as (λ t. (t && list_all p xs) ≡ ((t && list_all p (filter f xs)) && list_all p (filter (λ y. not (f y)) xs))) [ true ↦ rest | false ↦ refl ]
      | false ↦ elim (p x) as (λ t. (t && list_all p xs) ≡ (list_all p (filter f xs) && (t && list_all p (filter (λ y. not (f y)) xs))))
          [ true ↦ rest | false ↦ sym (and-false (list_all p (filter f xs))) ]
    ]

-- of those that pass one of two other tests
pub list_all-either : {A : Type 0} (p f g : A → Bool) (xs : List A)
    → list_all p (filter (λ x. f x || g x) xs) ≡ (list_all p (filter f xs) && list_all p (filter g xs))
list_all-either p f g [] = refl
list_all-either p f g (x ∷ xs) =
    list_all-filter p (λ y. f y || g y) x xs
    ∙ ap (λ t. t && list_all p (filter (λ y. f y || g y) xs)) (cond-or (f x) (g x) (p x))
    ∙ ap (λ t. (cond (f x) (p x) true && cond (g x) (p x) true) && t) (list_all-either p f g xs)
    ∙ and-four (cond (f x) (p x) true) (cond (g x) (p x) true) (list_all p (filter f xs)) (list_all p (filter g xs))
    ∙ ap (λ t. t && (cond (g x) (p x) true && list_all p (filter g xs))) (sym (list_all-filter p f x xs))
    ∙ ap (λ t. list_all p (filter f (x ∷ xs)) && t) (sym (list_all-filter p g x xs))

-- two tests that agree at each item that passes a third
pub list_all-same : {A : Type 0} (p q f : A → Bool) → ((x : A) → f x ≡ true → p x ≡ q x)
    → (xs : List A) → list_all p (filter f xs) ≡ list_all q (filter f xs)
list_all-same p q f same [] = refl
list_all-same p q f same (x ∷ xs) =
    elim (f x) as (λ t. (f x ≡ t) → list_all p (cond t (x ∷ filter f xs) (filter f xs)) ≡ list_all q (cond t (x ∷ filter f xs) (filter f xs))) [
      | true ↦ λ h. ap (λ t. t && list_all p (filter f xs)) (same x h) ∙ ap (λ t. q x && t) (list_all-same p q f same xs)
      | false ↦ λ h. list_all-same p q f same xs
    ]
    refl

-- without some that pass anyway
pub list_all-without : {A : Type 0} (f g : A → Bool) → ((x : A) → g x ≡ false → f x ≡ true)
    → (xs : List A) → list_all f (filter g xs) ≡ list_all f xs
list_all-without f g passes [] = refl
list_all-without f g passes (x ∷ xs) =
    list_all-filter f g x xs
    ∙ elim (g x) as (λ t. (g x ≡ t) → (cond t (f x) true && list_all f (filter g xs)) ≡ (f x && list_all f xs)) [
      | true ↦ λ h. ap (λ t. f x && t) (list_all-without f g passes xs)
      | false ↦ λ h. list_all-without f g passes xs ∙ ap (λ t. t && list_all f xs) (sym (passes x h))
    ]
    refl

pub list_all-once : {A : Type 0} (same : A → A → Bool) (f : A → Bool) → ((x y : A) → same x y ≡ true → f x ≡ f y)
    → (xs : List A) → list_all f (once same xs) ≡ list_all f xs
list_all-once same f alike [] = refl
list_all-once same f alike (x ∷ xs) =
    elim (f x) as (λ t. (f x ≡ t) → (t && list_all f (filter (λ y. not (same x y)) (once same xs))) ≡ (t && list_all f xs)) [
      | true ↦ λ h. list_all-without f (λ y. not (same x y)) (λ y n. sym (alike x y (not-false (same x y) n)) ∙ h) (once same xs)
          ∙ list_all-once same f alike xs
      | false ↦ λ h. refl
    ]
    refl

pub list_all-once_kept : {A : Type 0} (same : A → A → Bool) (f : A → Bool) (xs : List A) → list_all f xs ≡ true → list_all f (once same xs) ≡ true
list_all-once_kept same f [] all = refl
list_all-once_kept same f (x ∷ xs) all =
    let parts = and_parts (f x) (list_all f xs) all in
    and_from (f x) (list_all f (filter (λ y. not (same x y)) (once same xs))) parts.0
    (list_all-kept f (λ y. not (same x y)) (once same xs) (list_all-once_kept same f xs parts.1))
