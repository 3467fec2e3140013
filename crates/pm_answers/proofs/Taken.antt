-- what one more source takes of the conditions: its own ones, and its join pairs
use Rattle.std.proofs.Common.{◌≡◌, ℕ, ◌-◌, ◌<◌, ◌≤◌, Bool, true, false, cond, ◌&&◌, ◌||◌, List, [], ◌∷◌, ◌++◌, length, map, refl, sym, ap, subst, ◌∙◌, arith, Option, None, Some, ⊎_elim}
use Rattle.std.specs.Prelude.{nat_le, nat_lt, nat_eq, pos, ◌*ℤ◌, ◌^◌, is_some}
use Rattle.std.specs.List.{filter, list_all, filter_map, cons_option}
use Rattle.std.specs.Ordering.{int_cmp}
use Rattle.std.proofs.lemmas.Bool.{and_parts, and_from, or_cases, or_from, leb-true, ltb-true, eqb-true, lt-ltb, le-leb, false≢true, false_from_ne_true}
use Rattle.std.proofs.lemmas.Bool.Decides.{nat_tests}
use Rattle.std.proofs.lemmas.List.{get_or_append_left, get_or-append_right}
use Rattle.pm_values.specs.declared.value.Value.{Value}
use Rattle.pm_values.specs.declared.value.Value.TheVariants as value
use Rattle.pm_values.specs.declared.condition.Comparison.{Comparison}
use Rattle.pm_values.specs.declared.condition.Comparison.TheVariants as comparison
use Rattle.pm_values.specs.declared.condition.Operand.{Operand}
use Rattle.pm_values.specs.declared.condition.Operand.TheVariants as operand
use Rattle.pm_values.specs.declared.condition.Cond.{Cond}
use Rattle.pm_values.specs.declared.condition.Cond.TheVariants as node
use Rattle.pm_values.specs.Row.{Row, cell, pick}
use Rattle.pm_values.specs.Order.{value_cmp}
use Rattle.pm_values.specs.Equality.{is_equal, same_key_value, same_key}
use Rattle.pm_values.specs.Condition.{truth_of, is_yes, compared, keeps}
use Rattle.pm_values.proofs.Folds.{fold_all, fold_any, fold_not, fold_compare, fold_null}
use Rattle.pm_values.proofs.Truths.{truth_compare}
use Rattle.pm_values.proofs.Keys.{same_key_comm}
use Rattle.pm_values.proofs.Scaling.{int_cmp_scaled, ten-positive}
use Rattle.pm_plan.specs.declared.plan.Pair.{Pair}
use Rattle.pm_plan.specs.Joins.{left_columns, right_columns}
use Rattle.pm_query.specs.Answer.{meets}
use Rattle.pm_query.specs.Columns.{within_layer, within, reads, shift_columns}
use Rattle.pm_query.specs.Pairs.{is_own, pair_at, operand_pair, equal_pair, pair_layer, pair_of}
use Rattle.pm_answers.proofs.Lists.{and-true, and-four, cond-or, list_all-filter, list_all-same}
use Rattle.pm_answers.proofs.Conditions.{by_cases, truth-stable, truth-shifted, reads-apart}

-- ---- a pair of columns with one value, which is not NULL

abbrev pub meets_pair : Row → Row → Pair → Bool
meets_pair l r pair = same_key_value (cell l pair.left) (cell r pair.right)

pub same_key-pairs : (l r : Row) (pairs : List Pair)
    → same_key (pick (left_columns pairs) l) (pick (right_columns pairs) r) ≡ list_all (meets_pair l r) pairs
same_key-pairs l r [] = refl
same_key-pairs l r (p ∷ pairs) = ap (λ t. meets_pair l r p && t) (same_key-pairs l r pairs)

same_key_value-comm : (a b : Value) → same_key_value a b ≡ same_key_value b a
same_key_value-comm a b = sym (and-true (same_key_value a b)) ∙ same_key_comm (a ∷ []) (b ∷ []) ∙ and-true (same_key_value b a)

is_yes-truth_of : (b : Bool) → is_yes (truth_of b) ≡ b
is_yes-truth_of true = refl
is_yes-truth_of false = refl

-- values of one scale are equal exactly where they are one key
yes-equal : (s : ℕ) (a b : Value) → is_yes (compared comparison.Equal s s a b) ≡ same_key_value a b
yes-equal s value.Null b = refl
yes-equal s (value.Int m) value.Null = refl
yes-equal s (value.Int m) (value.Int n) =
    is_yes-truth_of (is_equal (int_cmp (m *ℤ pos (10 ^ s)) (n *ℤ pos (10 ^ s)))) ∙ ap is_equal (int_cmp_scaled m n (10 ^ s) (ten-positive s))
yes-equal s (value.Int m) (value.Text b) = refl
yes-equal s (value.Text a) value.Null = refl
yes-equal s (value.Text a) (value.Int n) = refl
yes-equal s (value.Text a) (value.Text b) = is_yes-truth_of (is_equal (value_cmp (value.Text a) (value.Text b)))

-- ---- a condition that is a pair

abbrev meets_if : Row → Row → Option Pair → Bool
meets_if l r None = true
meets_if l r (Some p) = meets_pair l r p

module _ (from to : ℕ) where
  pair_at-meets : (x y : ℕ) (l r : Row) → length l ≡ from
      → meets_if l r (pair_at from to x y) ≡ cond (is_some (pair_at from to x y)) (same_key_value (cell (l ++ r) x) (cell (l ++ r) y)) true
  pair_at-meets x y l r long =
      let whole : Bool = same_key_value (cell (l ++ r) x) (cell (l ++ r) y) in
      let first : Option Pair = Some (record { left = x; right = y - from }) in
      let second : Option Pair = Some (record { left = y; right = x - from }) in
      let none : Option Pair = None in
      let from_left : (k : ℕ) → nat_lt k from ≡ true → cell l k ≡ cell (l ++ r) k =
      λ k h. let below : k < from = ltb-true k from h in sym (get_or_append_left l r value.Null k (omega arith)) in
      let from_right : (k : ℕ) → (nat_le from k && nat_lt k to) ≡ true → cell r (k - from) ≡ cell (l ++ r) k =
      λ k h. sym (get_or-append_right l r from k value.Null long (leb-true from k (and_parts (nat_le from k) (nat_lt k to) h).0)) in
      elim (nat_lt x from && (nat_le from y && nat_lt y to)) as (λ t. ((nat_lt x from && (nat_le from y && nat_lt y to)) ≡ t)
      → meets_if l r (cond t first (cond (nat_lt y from && (nat_le from x && nat_lt x to)) second none)) ≡ cond (is_some (cond t first (cond (nat_lt y from && (nat_le from x && nat_lt x to)) second none))) whole true) [
        | true ↦ λ h.
            let parts = and_parts (nat_lt x from) (nat_le from y && nat_lt y to) h in
            ap (λ v. same_key_value v (cell r (y - from))) (from_left x parts.0)
            ∙ ap (λ v. same_key_value (cell (l ++ r) x) v) (from_right y parts.1)
        | false ↦ λ h.
            elim (nat_lt y from && (nat_le from x && nat_lt x to)) as (λ t. ((nat_lt y from && (nat_le from x && nat_lt x to)) ≡ t)
            → meets_if l r (cond t second none) ≡ cond (is_some (cond t second none)) whole true) [
              | true ↦ λ g.
                  let parts = and_parts (nat_lt y from) (nat_le from x && nat_lt x to) g in
                  ap (λ v. same_key_value v (cell r (x - from))) (from_left y parts.0)
                  ∙ ap (λ v. same_key_value (cell (l ++ r) y) v) (from_right x parts.1)
                  ∙ same_key_value-comm (cell (l ++ r) y) (cell (l ++ r) x)
              | false ↦ λ g. refl
            ]
            refl
      ]
      refl

  -- a pair is of two columns of one scale that are equal
  module _ (P : Option Pair → Cond → Type 0) (none : (c : Cond) → P None c)
      (at : (x y s : ℕ) → P (pair_at from to x y) (node.Compare comparison.Equal (operand.Column x s) (operand.Column y s))) where
    scales : (x y s t : ℕ) → P (operand_pair from to (operand.Column x s) (operand.Column y t)) (node.Compare comparison.Equal (operand.Column x s) (operand.Column y t))
    scales x y s t =
        let whole : Cond = node.Compare comparison.Equal (operand.Column x s) (operand.Column y t) in
        let pair : Option Pair = pair_at from to x y in
        let nothing : Option Pair = None in
        elim (nat_eq s t) as (λ k. (nat_eq s t ≡ k) → P (cond k pair nothing) whole) [
          | true ↦ λ h. subst (λ z. P (pair_at from to x y) (node.Compare comparison.Equal (operand.Column x s) (operand.Column y z))) (eqb-true s t h) (at x y s)
          | false ↦ λ h. none whole
        ]
        refl

    operands : (left right : Operand) → P (operand_pair from to left right) (node.Compare comparison.Equal left right)
    operands (operand.Column x s) (operand.Column y t) = scales x y s t
    operands (operand.Column x s) (operand.Literal v t) = none (node.Compare comparison.Equal (operand.Column x s) (operand.Literal v t))
    operands (operand.Literal v s) right = none (node.Compare comparison.Equal (operand.Literal v s) right)

    compares : (how : Comparison) (left right : Operand) → P (equal_pair from to how left right) (node.Compare how left right)
    compares comparison.Equal left right = operands left right
    compares comparison.Unequal left right = none (node.Compare comparison.Unequal left right)
    compares comparison.Less left right = none (node.Compare comparison.Less left right)
    compares comparison.AtMost left right = none (node.Compare comparison.AtMost left right)
    compares comparison.Greater left right = none (node.Compare comparison.Greater left right)
    compares comparison.AtLeast left right = none (node.Compare comparison.AtLeast left right)

    pub pair_cases : (c : Cond) → P (pair_of from to c) c
    pair_cases =
        by_cases (λ c. P (pair_of from to c) c)
        (λ members. rw (fold_all (pair_layer from to) members) (none (node.All members)))
        (λ members. rw (fold_any (pair_layer from to) members) (none (node.Any members)))
        (λ part. rw (fold_not (pair_layer from to) part) (none (node.Not part)))
        (λ how left right. rw (fold_compare (pair_layer from to) how left right) (compares how left right))
        (λ of. rw (fold_null (pair_layer from to) of) (none (node.IsNull of)))

  -- a pair is met exactly where its condition is true
  pair_of-meets : (l r : Row) → length l ≡ from → (c : Cond) → meets_if l r (pair_of from to c) ≡ cond (is_some (pair_of from to c)) (keeps c (l ++ r)) true
  pair_of-meets l r long =
      pair_cases (λ o c. meets_if l r o ≡ cond (is_some o) (keeps c (l ++ r)) true) (λ c. refl)
      (λ x y s.
      pair_at-meets x y l r long
      ∙ ap (λ t. cond (is_some (pair_at from to x y)) t true)
      (sym (ap is_yes (truth_compare (l ++ r) comparison.Equal (operand.Column x s) (operand.Column y s)) ∙ yes-equal s (cell (l ++ r) x) (cell (l ++ r) y))))

  -- ---- what is taken

  abbrev pub is_taken : Cond → Bool
  is_taken c = is_own from to c || is_some (pair_of from to c)

  list_all-filter_map : (l r : Row) (h : Cond → Option Pair) (c : Cond) (conds : List Cond)
      → list_all (meets_pair l r) (filter_map h (c ∷ conds)) ≡ (meets_if l r (h c) && list_all (meets_pair l r) (filter_map h conds))
  list_all-filter_map l r h c conds =
      elim (h c) as (λ o. list_all (meets_pair l r) (cons_option o (filter_map h conds)) ≡ (meets_if l r o && list_all (meets_pair l r) (filter_map h conds))) [ None ↦ refl | Some p ↦ refl ]

  -- it is the own conditions and the pairs
  pub meets-taken : (l r : Row) → length l ≡ from → (conds : List Cond)
      → meets (filter is_taken conds) (l ++ r) ≡ (meets (filter (is_own from to) conds) (l ++ r) && list_all (meets_pair l r) (filter_map (pair_of from to) conds))
  meets-taken l r long [] = refl
  meets-taken l r long (c ∷ conds) =
      let k : Bool = keeps c (l ++ r) in
      let own : Bool = cond (is_own from to c) k true in
      let pair : Bool = meets_if l r (pair_of from to c) in
      let one : cond (is_taken c) k true ≡ (own && pair) =
      cond-or (is_own from to c) (is_some (pair_of from to c)) k ∙ ap (λ t. own && t) (sym (pair_of-meets l r long c)) in
      let owns : Bool = meets (filter (is_own from to) conds) (l ++ r) in
      let pairs : Bool = list_all (meets_pair l r) (filter_map (pair_of from to) conds) in
      list_all-filter (λ x. keeps x (l ++ r)) is_taken c conds
      ∙ ap (λ t. t && meets (filter is_taken conds) (l ++ r)) one
      ∙ ap (λ t. (own && pair) && t) (meets-taken l r long conds)
      ∙ and-four own pair owns pairs
      ∙ ap (λ t. t && (pair && pairs)) (sym (list_all-filter (λ x. keeps x (l ++ r)) (is_own from to) c conds))
      ∙ ap (λ t. meets (filter (is_own from to) (c ∷ conds)) (l ++ r) && t) (sym (list_all-filter_map l r (pair_of from to) c conds))

  own-within : (c : Cond) → is_own from to c ≡ true → within from to c ≡ true
  own-within c own = (and_parts (reads c) (within from to c) own).1

  -- the own conditions, read on the source's own row
  pub meets-shifted : (l r : Row) → length l ≡ from → (conds : List Cond)
      → meets (map (shift_columns from) (filter (is_own from to) conds)) r ≡ meets (filter (is_own from to) conds) (l ++ r)
  meets-shifted l r long [] = refl
  meets-shifted l r long (c ∷ conds) =
      let owns : List Cond = filter (is_own from to) conds in
      elim (is_own from to c) as (λ t. (is_own from to c ≡ t) → meets (map (shift_columns from) (cond t (c ∷ owns) owns)) r ≡ meets (cond t (c ∷ owns) owns) (l ++ r)) [
        | true ↦ λ h.
            ap (λ t. is_yes t && meets (map (shift_columns from) owns) r) (truth-shifted from to l r long c (own-within c h))
            ∙ ap (λ t. keeps c (l ++ r) && t) (meets-shifted l r long conds)
        | false ↦ λ h. meets-shifted l r long conds
      ]
      refl

  -- ---- what is taken reads columns of the source and of those before it alone

  module _ (order : from ≤ to) where
    pair_at-below : (x y : ℕ) → is_some (pair_at from to x y) ≡ true → (x < to) × (y < to)
    pair_at-below x y h = grind (arith, nat_tests)

    pair-within : (c : Cond) → is_some (pair_of from to c) ≡ true → within 0 to c ≡ true
    pair-within =
        pair_cases (λ o c. is_some o ≡ true → within 0 to c ≡ true) (λ c h. absurd (false≢true h))
        (λ x y s h.
        let below = pair_at-below x y h in
        let at : (k : ℕ) → k < to → (nat_le 0 k && nat_lt k to) ≡ true =
        λ k less. and_from (nat_le 0 k) (nat_lt k to) (le-leb 0 k (omega arith)) (lt-ltb k to less) in
        fold_compare (within_layer 0 to) comparison.Equal (operand.Column x s) (operand.Column y s)
        ∙ and_from (nat_le 0 x && nat_lt x to) (nat_le 0 y && nat_lt y to) (at x below.0) (at y below.1))

    -- a test of what is taken does not change by what follows the source's columns
    pub taken-stable : (l r : Row) → to ≤ length l → (conds : List Cond) → meets (filter is_taken conds) (l ++ r) ≡ meets (filter is_taken conds) l
    taken-stable l r long =
        list_all-same (λ c. keeps c (l ++ r)) (λ c. keeps c l) is_taken
        (λ c h. ap is_yes (⊎_elim
        (λ own. truth-stable from to l r long c (own-within c own))
        (λ pair. truth-stable 0 to l r long c (pair-within c pair))
        (or_cases (is_own from to c) (is_some (pair_of from to c)) h)))

-- ---- no condition is taken by two sources

module _ (from to start end : ℕ) (order : from ≤ to) (apart : to ≤ start) where
  own_once : (low : ℕ) (c : Cond) → within low to c ≡ true → is_own start end c ≡ false
  own_once low c w =
      false_from_ne_true (is_own start end c) (λ own.
      let parts = and_parts (reads c) (within start end c) own in
      false≢true (sym (reads-apart start end low to apart c parts.1 w) ∙ parts.0))

  pair_at-apart : (x y : ℕ) → x < to → y < to → is_some (pair_at start end x y) ≡ false
  pair_at-apart x y low high = grind (arith, nat_tests)

  pair_once : (low : ℕ) (c : Cond) → within low to c ≡ true → is_some (pair_of start end c) ≡ false
  pair_once low =
      pair_cases start end (λ o c. within low to c ≡ true → is_some o ≡ false) (λ c w. refl)
      (λ x y s w.
      let sides = and_parts (nat_le low x && nat_lt x to) (nat_le low y && nat_lt y to) (sym (fold_compare (within_layer low to) comparison.Equal (operand.Column x s) (operand.Column y s)) ∙ w) in
      pair_at-apart x y (ltb-true x to (and_parts (nat_le low x) (nat_lt x to) sides.0).1) (ltb-true y to (and_parts (nat_le low y) (nat_lt y to) sides.1).1))

  pub taken_once : (c : Cond) → is_taken from to c ≡ true → is_taken start end c ≡ false
  taken_once c taken =
      let neither : (low : ℕ) → within low to c ≡ true → is_taken start end c ≡ false =
      λ low w. or_from (is_own start end c) (is_some (pair_of start end c)) (own_once low c w) (pair_once low c w) in
      ⊎_elim (λ own. neither from (own-within from to c own)) (λ pair. neither 0 (pair-within from to order c pair)) (or_cases (is_own from to c) (is_some (pair_of from to c)) taken)

-- the first source has no pairs
pub no_pair : (to : ℕ) (c : Cond) → is_some (pair_of 0 to c) ≡ false
no_pair to = pair_cases 0 to (λ o c. is_some o ≡ false) (λ c. refl) (λ x y s. grind (arith, nat_tests))
