-- members of lists, by a test that says when two items are the same
use Rattle.std.proofs.Common.{◌≡◌, ℕ, ◌≤◌, Bool, true, false, not, ◌||◌, List, [], ◌∷◌, length, filter, refl, ap, ◌∙◌, arith}
use Rattle.std.specs.Prelude.{nat_eq, if◌then◌else◌}
use Rattle.std.specs.List.{list_all, list_any, AllByRecursion, IsDistinct}
use Rattle.std.specs.Cmp.{IsEquivalence}
use Rattle.std.proofs.lemmas.Bool.{and_parts, and_from, or_parts, or_left, or_right, eqb-true, false≢true, not-true}
use Rattle.std.proofs.lemmas.Bool.Decides.{nat_tests}
use Rattle.std.proofs.lemmas.Map.Made.{length-le_from_is_member}
use Rattle.std.proofs.lemmas.Map.Keys.{IsDistinct-cons, IsDistinct-tail, IsDistinct-head}
use Rattle.pm_values.specs.Keys.{once}
use Rattle.pm_plan.specs.declared.plan.Pair.{Pair}
use Rattle.pm_plan.specs.References.{same_pair}
use Rattle.pm_query.specs.Bound.{differ}
use Rattle.pm_answers.proofs.Lists.{list_all-weaker}

pub pair-same : (p q : Pair) → same_pair p q ≡ true → p ≡ q
pair-same p q h =
    let parts = and_parts (nat_eq p.left q.left) (nat_eq p.right q.right) h in
    let left : p.left ≡ q.left = eqb-true p.left q.left parts.0 in
    let right : p.right ≡ q.right = eqb-true p.right q.right parts.1 in
    ap (λ k. record { left = k; right = p.right }) left ∙ ap (λ k. record { left = q.left; right = k }) right

pub pairs_alike : IsEquivalence same_pair
pairs_alike = record { refl = λ p. grind (arith, nat_tests); symm = λ p q. grind (arith, nat_tests); congr = λ p q r h. grind (arith, nat_tests) }

module _ {A : Type 0} (same : A → A → Bool) (equal : (a b : A) → same a b ≡ true → a ≡ b) where
  -- a member of a list that passes a test
  pub member-passes : (f : A → Bool) (x : A) (xs : List A) → list_any (same x) xs ≡ true → list_all f xs ≡ true → f x ≡ true
  member-passes f x [] m h = absurd (false≢true m)
  member-passes f x (y ∷ xs) m h =
      let parts = and_parts (f y) (list_all f xs) h in
      elim (same x y) as (λ t. (same x y ≡ t) → (t || list_any (same x) xs) ≡ true → f x ≡ true)
      [ true ↦ λ g n. ap f (equal x y g) ∙ parts.0 | false ↦ λ g n. member-passes f x xs n parts.1 ]
      refl m

  pub members-pass : (f : A → Bool) (xs ys : List A) → list_all (λ x. list_any (same x) ys) xs ≡ true → list_all f ys ≡ true → list_all f xs ≡ true
  members-pass f xs ys m h = list_all-weaker (λ x. list_any (same x) ys) f (λ x n. member-passes f x ys n h) xs m

  module _ (alike : IsEquivalence same) where
    pub own-members : (xs : List A) → list_all (λ x. list_any (same x) xs) xs ≡ true
    own-members [] = refl
    own-members (x ∷ xs) =
        and_from (list_any (same x) (x ∷ xs)) (list_all (λ y. list_any (same y) (x ∷ xs)) xs)
        (or_left (same x x) (list_any (same x) xs) (alike.refl x))
        (list_all-weaker (λ y. list_any (same y) xs) (λ y. list_any (same y) (x ∷ xs)) (λ y h. or_right (same y x) (list_any (same y) xs) h) xs (own-members xs))

    -- different members of a list are no more than it has items
    pub few-members : (xs ys : List A) → IsDistinct same xs → list_all (λ x. list_any (same x) ys) xs ≡ true → length xs ≤ length ys
    few-members xs ys different within =
        length-le_from_is_member alike xs ys different (λ x h. member-passes (λ z. list_any (same z) ys) x xs h within)

    pub not_member : (x : A) (xs : List A) → list_any (same x) xs ≡ false → AllByRecursion (λ y. same x y ≡ false) xs
    not_member x [] h = tt
    not_member x (y ∷ xs) h = let parts = or_parts (same x y) (list_any (same x) xs) h in (parts.0, not_member x xs parts.1)

  -- what is there once is different
  apart-filter : (x : A) (f : A → Bool) (xs : List A) → AllByRecursion (λ y. same x y ≡ false) xs → AllByRecursion (λ y. same x y ≡ false) (filter f xs)
  apart-filter x f [] all = tt
  apart-filter x f (y ∷ xs) all =
      elim (f y) as (λ t. AllByRecursion (λ y. same x y ≡ false) (if t then y ∷ filter f xs else filter f xs))
      [ true ↦ (all.0, apart-filter x f xs all.1) | false ↦ apart-filter x f xs all.1 ]

  distinct-filter : (f : A → Bool) (xs : List A) → IsDistinct same xs → IsDistinct same (filter f xs)
  distinct-filter f [] d = d
  distinct-filter f (x ∷ xs) d =
      let rest = distinct-filter f xs (IsDistinct-tail same x xs d) in
      elim (f x) as (λ t. IsDistinct same (if t then x ∷ filter f xs else filter f xs))
      [ true ↦ IsDistinct-cons same x (filter f xs) (apart-filter x f xs (IsDistinct-head same x xs d)) rest | false ↦ rest ]

  apart-others : (x : A) (xs : List A) → AllByRecursion (λ y. same x y ≡ false) (filter (λ y. not (same x y)) xs)
  apart-others x [] = tt
  apart-others x (y ∷ xs) =
      elim (same x y) as (λ t. (same x y ≡ t) → AllByRecursion (λ y. same x y ≡ false) (if not t then y ∷ filter (λ y. not (same x y)) xs else filter (λ y. not (same x y)) xs))
      [ true ↦ λ h. apart-others x xs | false ↦ λ h. (h, apart-others x xs) ]
      refl

  pub once-distinct : (xs : List A) → IsDistinct same (once same xs)
  unfolding IsDistinct
  once-distinct [] = tt
  once-distinct (x ∷ xs) = (apart-others x (once same xs), distinct-filter (λ y. not (same x y)) (once same xs) (once-distinct xs))

pub differ-distinct : (xs : List ℕ) → differ xs ≡ true → IsDistinct nat_eq xs
unfolding IsDistinct
differ-distinct [] d = tt
differ-distinct (x ∷ xs) d =
    let parts = and_parts (not (list_any (nat_eq x) xs)) (differ xs) d in
    (not_member nat_eq (λ a b. eqb-true a b) (record { refl = λ p. grind (arith, nat_tests); symm = λ p q. grind (arith, nat_tests); congr = λ p q r h. grind (arith, nat_tests) }) x xs (not-true (list_any (nat_eq x) xs) parts.0), differ-distinct xs parts.1)
