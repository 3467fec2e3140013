-- How many sources, keys and aggregates there are.
use Rattle.std.proofs.Common.{◌≡◌, ◌≤◌, ◌<◌, ◌+◌, ◌*◌, ℕ, Bool, true, false, not, ◌||◌, cond, List, [], ◌∷◌, ◌++◌, length, map, filter, take, get_or, refl, ap, sym, ◌∙◌, subst, arith, nat_lt, nat_eq, ◌&&◌}
use Rattle.std.specs.List.{list_any, IsDistinct, AllByRecursion}
use Rattle.std.proofs.lemmas.Bool.{eqb-true}
use Rattle.std.proofs.lemmas.Bool.Decides.{nat_tests}
use Rattle.std.proofs.lemmas.Map.Steps.{length-le_from_distinct_below}
use Rattle.std.proofs.lemmas.List.{length-map}
use Rattle.pm_syntax.specs.declared.tree.Source.{Source}
use Rattle.pm_values.specs.Keys.{once}
use Rattle.pm_values.specs.Table.{Declaration}
use Rattle.pm_plan.specs.declared.plan.Aggregate.{Aggregate}
use Rattle.pm_plan.specs.declared.plan.Aggregate.TheVariants as aggregate
use Rattle.pm_query.specs.Bound.{same_aggregate}
use Rattle.pm_names.specs.declared.fault.BindBad.{BindBad}
use Rattle.pm_names.specs.Breaches.{each_from}
use Rattle.pm_names.specs.Sources.{source_breaches, from_breaches}
use Rattle.pm_names.proofs.Along.{each_from-split}

pub empty_left : {A : Type 0} (xs ys : List A) → xs ++ ys ≡ [] → xs ≡ []
empty_left [] ys h = refl
empty_left (x ∷ xs) ys h = cc

pub empty_right : {A : Type 0} (xs ys : List A) → xs ++ ys ≡ [] → ys ≡ []
empty_right [] ys h = h
empty_right (x ∷ xs) ys h = cc

-- where there is no breach, there is none at a position
pub none_at : {A : Type 0} (f : ℕ → A → List BindBad) (xs : List A) (i : ℕ) (d : A) → i < length xs → each_from f 0 xs ≡ [] → f i (get_or xs i d) ≡ []
none_at f xs i d within none =
    let split = sym (each_from-split f xs i d within) ∙ none in
    empty_left (f i (get_or xs i d)) _ (empty_right (each_from f 0 (take i xs)) _ split)

ninth : (schema : List Declaration) (sources : List Source) (source : Source) → source_breaches schema sources 8 source ≡ [] → ⊥
ninth schema sources source h = cc h

pub few_sources : (schema : List Declaration) (sources : List Source) → from_breaches schema sources ≡ [] → length sources ≤ 8
few_sources schema [] none = omega arith
few_sources schema (s ∷ sources) none = of (nat_lt 8 (length (s ∷ sources))) refl
  where
    of : (b : Bool) → nat_lt 8 (length (s ∷ sources)) ≡ b → length (s ∷ sources) ≤ 8
    of true e =
        let within : 8 < length (s ∷ sources) = grind (arith, nat_tests) in
        absurd (ninth schema (s ∷ sources) (get_or (s ∷ sources) 8 s) (none_at (source_breaches schema (s ∷ sources)) (s ∷ sources) 8 s within none))
    of false e = grind (arith, nat_tests)

-- ---- different numbers below a bound are few

dropped : (x : ℕ) (zs : List ℕ) → AllByRecursion (λ y. nat_eq x y ≡ false) (filter (λ y. not (nat_eq x y)) zs)
dropped x [] = tt
dropped x (z ∷ zs) = of (dropped x zs) (nat_eq x z) refl
  where
    of : AllByRecursion (λ y. nat_eq x y ≡ false) (filter (λ y. not (nat_eq x y)) zs) → (b : Bool) → nat_eq x z ≡ b
        → AllByRecursion (λ y. nat_eq x y ≡ false) (cond (not b) (z ∷ filter (λ y. not (nat_eq x y)) zs) (filter (λ y. not (nat_eq x y)) zs))
    of rest true e = rest
    of rest false e = (e, rest)

filtered : (P : ℕ → Type 0) (p : ℕ → Bool) (zs : List ℕ) → AllByRecursion P zs → AllByRecursion P (filter p zs)
filtered P p [] h = tt
filtered P p (z ∷ zs) h = of (filtered P p zs h.1) (p z)
  where
    of : AllByRecursion P (filter p zs) → (b : Bool) → AllByRecursion P (cond b (z ∷ filter p zs) (filter p zs))
    of rest true = (h.0, rest)
    of rest false = rest

distinct_filtered : (p : ℕ → Bool) (zs : List ℕ) → IsDistinct nat_eq zs → IsDistinct nat_eq (filter p zs)
unfolding IsDistinct
distinct_filtered p [] h = tt
distinct_filtered p (z ∷ zs) h = of (distinct_filtered p zs h.1) (p z)
  where
    of : IsDistinct nat_eq (filter p zs) → (b : Bool) → IsDistinct nat_eq (cond b (z ∷ filter p zs) (filter p zs))
    of rest true = (filtered (λ y. nat_eq z y ≡ false) p zs h.0, rest)
    of rest false = rest

pub distinct_once : (xs : List ℕ) → IsDistinct nat_eq (once nat_eq xs)
unfolding IsDistinct
distinct_once [] = tt
distinct_once (x ∷ xs) = (dropped x (once nat_eq xs), distinct_filtered (λ y. not (nat_eq x y)) (once nat_eq xs) (distinct_once xs))

-- what is among them is below the bound
below_filtered : (n : ℕ) (p : ℕ → Bool) (zs : List ℕ) → AllByRecursion (λ x. x < n) zs → AllByRecursion (λ x. x < n) (filter p zs)
below_filtered n p zs h = filtered (λ x. x < n) p zs h

pub below_once : (n : ℕ) (xs : List ℕ) → AllByRecursion (λ x. x < n) xs → AllByRecursion (λ x. x < n) (once nat_eq xs)
below_once n [] h = tt
below_once n (x ∷ xs) h = (h.0, below_filtered n (λ y. not (nat_eq x y)) (once nat_eq xs) (below_once n xs h.1))

below_any : (n : ℕ) (xs : List ℕ) → AllByRecursion (λ x. x < n) xs → (q : ℕ) → list_any (nat_eq q) xs ≡ true → q < n
below_any n [] h q e = absurd (cc e)
below_any n (x ∷ xs) h q e = of (below_any n xs h.1 q) (nat_eq q x) refl e
  where
    of : (list_any (nat_eq q) xs ≡ true → q < n) → (b : Bool) → nat_eq q x ≡ b → (b || list_any (nat_eq q) xs) ≡ true → q < n
    of further true same e = let is : q ≡ x = eqb-true q x same in rw is h.0
    of further false other e = further e

-- different numbers below a bound are at most as many
pub few_once : (n : ℕ) (xs : List ℕ) → AllByRecursion (λ x. x < n) xs → length (once nat_eq xs) ≤ n
few_once n xs h = length-le_from_distinct_below (once nat_eq xs) n (distinct_once xs) (below_any n (once nat_eq xs) (below_once n xs h))

-- ---- aggregates as numbers

abbrev form_of : Aggregate → ℕ
form_of aggregate.CountAll = 0
form_of (aggregate.Count c) = 1
form_of (aggregate.Sum c) = 2
form_of (aggregate.Min c) = 3
form_of (aggregate.Max c) = 4

abbrev column_in : Aggregate → ℕ
column_in aggregate.CountAll = 0
column_in (aggregate.Count c) = c
column_in (aggregate.Sum c) = c
column_in (aggregate.Min c) = c
column_in (aggregate.Max c) = c

abbrev pub number_of : Aggregate → ℕ
number_of a = form_of a + 5 * column_in a

form_below : (a : Aggregate) → form_of a < 5
form_below aggregate.CountAll = omega arith
form_below (aggregate.Count c) = omega arith
form_below (aggregate.Sum c) = omega arith
form_below (aggregate.Min c) = omega arith
form_below (aggregate.Max c) = omega arith

same_parts : (a b : Aggregate) → same_aggregate a b ≡ (nat_eq (form_of a) (form_of b) && nat_eq (column_in a) (column_in b))
same_parts aggregate.CountAll aggregate.CountAll = refl
same_parts aggregate.CountAll b = refl
same_parts (aggregate.Count a) (aggregate.Count b) = refl
same_parts (aggregate.Count a) b = refl
same_parts (aggregate.Sum a) (aggregate.Sum b) = refl
same_parts (aggregate.Sum a) b = refl
same_parts (aggregate.Min a) (aggregate.Min b) = refl
same_parts (aggregate.Min a) b = refl
same_parts (aggregate.Max a) (aggregate.Max b) = refl
same_parts (aggregate.Max a) b = refl

digits : (k l c d : ℕ) → k < 5 → l < 5 → (nat_eq k l && nat_eq c d) ≡ nat_eq (k + 5 * c) (l + 5 * d)
digits k l c d low high = of (nat_eq k l) (nat_eq c d) (nat_eq (k + 5 * c) (l + 5 * d)) refl refl refl
  where
    of : (x y z : Bool) → nat_eq k l ≡ x → nat_eq c d ≡ y → nat_eq (k + 5 * c) (l + 5 * d) ≡ z → (x && y) ≡ z
    of true true true e f g = refl
    of true true false e f g = let same : k ≡ l = eqb-true k l e in let alike : c ≡ d = eqb-true c d f in absurd (grind (arith, nat_tests))
    of true false true e f g = let same : k ≡ l = eqb-true k l e in let whole : k + 5 * c ≡ l + 5 * d = eqb-true (k + 5 * c) (l + 5 * d) g in let alike : c ≡ d = omega arith in absurd (grind (arith, nat_tests))
    of true false false e f g = refl
    of false y true e f g = let whole : k + 5 * c ≡ l + 5 * d = eqb-true (k + 5 * c) (l + 5 * d) g in let alike : k ≡ l = omega arith in absurd (grind (arith, nat_tests))
    of false y false e f g = refl

same_numbers : (a b : Aggregate) → same_aggregate a b ≡ nat_eq (number_of a) (number_of b)
same_numbers a b = same_parts a b ∙ digits (form_of a) (form_of b) (column_in a) (column_in b) (form_below a) (form_below b)

map_filtered : (a : Aggregate) (zs : List Aggregate) → map number_of (filter (λ y. not (same_aggregate a y)) zs) ≡ filter (λ n. not (nat_eq (number_of a) n)) (map number_of zs)
map_filtered a [] = refl
map_filtered a (z ∷ zs) = rw (same_numbers a z) (of (map_filtered a zs) (nat_eq (number_of a) (number_of z)))
  where
    of : map number_of (filter (λ y. not (same_aggregate a y)) zs) ≡ filter (λ n. not (nat_eq (number_of a) n)) (map number_of zs) → (b : Bool) → map number_of (cond (not b) (z ∷ filter (λ y. not (same_aggregate a y)) zs) (filter (λ y. not (same_aggregate a y)) zs))
        ≡ cond (not b) (number_of z ∷ filter (λ n. not (nat_eq (number_of a) n)) (map number_of zs)) (filter (λ n. not (nat_eq (number_of a) n)) (map number_of zs))
    of rest true = rest
    of rest false = ap (λ more. number_of z ∷ more) rest

once_numbers : (xs : List Aggregate) → map number_of (once same_aggregate xs) ≡ once nat_eq (map number_of xs)
once_numbers [] = refl
once_numbers (x ∷ xs) = ap (λ rest. number_of x ∷ rest) (map_filtered x (once same_aggregate xs) ∙ ap (filter (λ n. not (nat_eq (number_of x) n))) (once_numbers xs))

pub few_calls : (n : ℕ) (xs : List Aggregate) → AllByRecursion (λ x. x < n) (map number_of xs) → length (once same_aggregate xs) ≤ n
few_calls n xs h = subst (λ m. m ≤ n) (ap length (sym (once_numbers xs)) ∙ length-map (once same_aggregate xs) number_of) (few_once n (map number_of xs) h)
