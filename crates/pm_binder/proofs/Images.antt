-- Lists that are images of one list: filtered, with each different item once, and sorted.
use Rattle.std.proofs.Common.{◌≡◌, ℕ, Bool, true, false, not, ◌||◌, if◌then◌else◌, List, [], ◌∷◌, map, filter, refl, sym, ap, ◌∙◌, subst, nat_eq}
use Rattle.std.specs.List.{list_any, AllByRecursion}
use Rattle.std.proofs.lemmas.Bool.{eqb-true}
use Rattle.pm_values.specs.Row.{Row}
use Rattle.pm_values.specs.Keys.{once}
use Rattle.pm_plan.specs.declared.plan.SortKey.{SortKey}
use Rattle.pm_plan.specs.Sorting.{is_before, inserted, sorted}

pub same_function : {A B : Type 0} (f g : A → B) → ((x : A) → f x ≡ g x) → f ≡ g
same_function f g h = λ i. λ x. h x i

pub map_map : {A B C : Type 0} (g : B → C) (f : A → B) (xs : List A) → map g (map f xs) ≡ map (λ x. g (f x)) xs
map_map g f [] = refl
map_map g f (x ∷ xs) = ap (λ ys. g (f x) ∷ ys) (map_map g f xs)

pub map_same : {A : Type 0} (xs : List A) → map (λ x. x) xs ≡ xs
map_same [] = refl
map_same (x ∷ xs) = ap (λ ys. x ∷ ys) (map_same xs)

pub bool_iff : (a b : Bool) → (a ≡ true → b ≡ true) → (b ≡ true → a ≡ true) → a ≡ b
bool_iff true b f g = sym (f refl)
bool_iff false true f g = g refl
bool_iff false false f g = refl

-- ---- filters

pub filter_map : {X A : Type 0} (p : A → Bool) (f : X → A) (xs : List X) → filter p (map f xs) ≡ map f (filter (λ x. p (f x)) xs)
filter_map p f [] = refl
filter_map p f (x ∷ xs) = of (filter_map p f xs) (p (f x))
  where
    of : filter p (map f xs) ≡ map f (filter (λ y. p (f y)) xs) → (b : Bool)
        → (if b then f x ∷ filter p (map f xs) else filter p (map f xs)) ≡ map f (if b then x ∷ filter (λ y. p (f y)) xs else filter (λ y. p (f y)) xs)
    of rest true = ap (λ ys. f x ∷ ys) rest
    of rest false = rest

pub filter_all : {A : Type 0} (P : A → Type 0) (p : A → Bool) (xs : List A) → AllByRecursion P xs → AllByRecursion P (filter p xs)
filter_all P p [] h = tt
filter_all P p (x ∷ xs) h = of (filter_all P p xs h.1) (p x)
  where
    of : AllByRecursion P (filter p xs) → (b : Bool) → AllByRecursion P (if b then x ∷ filter p xs else filter p xs)
    of rest true = (h.0, rest)
    of rest false = rest

-- ---- different items

pub once_map : {X A : Type 0} (same : A → A → Bool) (f : X → A) (xs : List X) → once same (map f xs) ≡ map f (once (λ a b. same (f a) (f b)) xs)
once_map same f [] = refl
once_map same f (x ∷ xs) =
    ap (λ ys. f x ∷ filter (λ y. not (same (f x) y)) ys) (once_map same f xs) ∙ ap (λ ys. f x ∷ ys) (filter_map (λ y. not (same (f x) y)) f (once (λ a b. same (f a) (f b)) xs))

pub once_all : {A : Type 0} (P : A → Type 0) (same : A → A → Bool) (xs : List A) → AllByRecursion P xs → AllByRecursion P (once same xs)
once_all P same [] h = tt
once_all P same (x ∷ xs) h = (h.0, filter_all P (λ y. not (same x y)) (once same xs) (once_all P same xs h.1))

unfiltered : (P : ℕ → Type 0) (x : ℕ) (zs : List ℕ) → P x → AllByRecursion P (filter (λ y. not (nat_eq x y)) zs) → AllByRecursion P zs
unfiltered P x [] here h = tt
unfiltered P x (z ∷ zs) here h = of (unfiltered P x zs here) (nat_eq x z) refl h
  where
    of : (AllByRecursion P (filter (λ y. not (nat_eq x y)) zs) → AllByRecursion P zs) → (b : Bool) → nat_eq x z ≡ b
        → AllByRecursion P (if not b then z ∷ filter (λ y. not (nat_eq x y)) zs else filter (λ y. not (nat_eq x y)) zs) → AllByRecursion P (z ∷ zs)
    of rest true e k = (subst P (eqb-true x z e) here, rest k)
    of rest false e k = (k.0, rest k.1)

-- what holds of the different numbers holds of all
pub all_once : (P : ℕ → Type 0) (xs : List ℕ) → AllByRecursion P (once nat_eq xs) → AllByRecursion P xs
all_once P [] h = tt
all_once P (x ∷ xs) h = (h.0, all_once P xs (unfiltered P x (once nat_eq xs) h.0 h.1))

-- each item is like one of the list
one_more : {A : Type 0} (p : A → A → Bool) (x : A) (xs ys : List A) → AllByRecursion (λ y. list_any (p y) xs ≡ true) ys → AllByRecursion (λ y. list_any (p y) (x ∷ xs) ≡ true) ys
one_more p x xs [] h = tt
one_more p x xs (y ∷ ys) h = (or_second (p y x) (list_any (p y) xs) h.0, one_more p x xs ys h.1)
  where
    or_second : (a b : Bool) → b ≡ true → (a || b) ≡ true
    or_second true b k = refl
    or_second false b k = k

pub all_like : {A : Type 0} (p : A → A → Bool) → ((x : A) → p x x ≡ true) → (xs : List A) → AllByRecursion (λ x. list_any (p x) xs ≡ true) xs
all_like p own [] = tt
all_like p own (x ∷ xs) = (ap (λ b. b || list_any (p x) xs) (own x), one_more p x xs xs (all_like p own xs))

-- ---- sorted

module _ {X : Type 0} (less : X → X → Bool) where
  abbrev pub put : X → List X → List X
  put x [] = x ∷ []
  put x (y ∷ ys) = if less y x then y ∷ put x ys else x ∷ y ∷ ys

  abbrev pub ordered : List X → List X
  ordered [] = []
  ordered (x ∷ xs) = put x (ordered xs)

inserted_map : {X : Type 0} (keys : List SortKey) (f : X → Row) (x : X) (ys : List X) → inserted keys (f x) (map f ys) ≡ map f (put (λ a b. is_before keys (f a) (f b)) x ys)
inserted_map keys f x [] = refl
inserted_map keys f x (y ∷ ys) = of (inserted_map keys f x ys) (is_before keys (f y) (f x))
  where
    of : inserted keys (f x) (map f ys) ≡ map f (put (λ a b. is_before keys (f a) (f b)) x ys) → (b : Bool)
        → (if b then f y ∷ inserted keys (f x) (map f ys) else f x ∷ f y ∷ map f ys) ≡ map f (if b then y ∷ put (λ a b. is_before keys (f a) (f b)) x ys else x ∷ y ∷ ys)
    of rest true = ap (λ zs. f y ∷ zs) rest
    of rest false = refl

pub sorted_map : {X : Type 0} (keys : List SortKey) (f : X → Row) (xs : List X) → sorted keys (map f xs) ≡ map f (ordered (λ a b. is_before keys (f a) (f b)) xs)
sorted_map keys f [] = refl
sorted_map keys f (x ∷ xs) = ap (inserted keys (f x)) (sorted_map keys f xs) ∙ inserted_map keys f x (ordered (λ a b. is_before keys (f a) (f b)) xs)
