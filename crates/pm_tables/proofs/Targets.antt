-- what a search in the order of the targets' keys says of the targets
use Rattle.std.proofs.Common.{◌≡◌, ◌∙◌, ◌≤◌, ◌<◌, ◌+◌, ◌⊎◌, ℕ, true, false, List, [], length, get_or, refl, sym, ap, arith, inl, inr}
use Rattle.std.specs.Prelude.{◌≢◌, Result, Ok, Err, is_ok}
use Rattle.std.specs.List.Sorted.{IsBinarySearchResult, IsPartitionPoint, IsSearchInRange, IsSortedBy}
use Rattle.std.specs.Ordering.{is_lt, ordering_reverse}
use Rattle.std.specs.declared.cmp.Ordering.{Ordering}
use Rattle.std.specs.declared.cmp.Ordering.TheVariants as ordering
use Rattle.std.proofs.lemmas.Bool.{cases_order}
use Rattle.std.proofs.lemmas.List.{get_or_default}
use Rattle.std.proofs.lemmas.List.Folds.{list_any_at, list_any_none}
use Rattle.std.proofs.lemmas.List.Sorted.{searchable_from_sorted}
use Rattle.pm_values.specs.declared.value.Value.{Value}
use Rattle.pm_values.specs.declared.table.Reference.{Reference}
use Rattle.pm_values.specs.Equality.{is_equal, same_values}
use Rattle.pm_values.specs.Order.{key_at, values_cmp}
use Rattle.pm_values.specs.Row.{pick}
use Rattle.pm_values.specs.References.{has_target}
use Rattle.pm_values.proofs.ValueOrder.{values_cmp_equal, values_cmp_itself, values_cmp_reversed, values_cmp_total}
use Rattle.pm_tables.specs.Keys.{IsKeyOrder, Precedes}
use Rattle.pm_tables.proofs.KeyOrders.{ordered_below, position_of}

module _ (keys : List ℕ) (targets : List (List Value)) where
  no_fall : (i j : ℕ) → Precedes keys targets i j → is_lt (values_cmp (key_at keys targets j) (key_at keys targets i)) ≡ false
  no_fall i j (inl less) = ap is_lt (values_cmp_reversed (key_at keys targets i) (key_at keys targets j) ∙ ap ordering_reverse less)
  no_fall i j (inr same) = rw same.0 (ap is_lt (values_cmp_itself (key_at keys targets j)))

  keys_ascend : (order : List ℕ) → IsKeyOrder keys targets order → IsSortedBy (λ a b. is_lt (values_cmp (key_at keys targets a) (key_at keys targets b))) order
  keys_ascend order ordered k d low lt = no_fall (get_or order k d) (get_or order (k + 1) d) (ordered.ascending k (k + 1) d (omega arith) lt)

lt_or_le : (a b : ℕ) → (a < b) ⊎ (b ≤ a)
lt_or_le a b = elim (cases_order a b) [ inl e ↦ inr (omega arith) | inr other ↦ elim other [ inl e ↦ inl e | inr e ↦ inr (omega arith) ] ]

-- how a target's key stands to the row's reference columns
abbrev pub target_cmp : Reference → List (List Value) → List Value → ℕ → Ordering
target_cmp reference targets row y = values_cmp (key_at reference.keys targets y) (pick reference.columns row)

is_one : (a b : List Value) → values_cmp a b ≡ ordering.Equal → same_values b a ≡ true
is_one a b e = rw ((values_cmp_equal a b).0 e) (ap is_equal (values_cmp_itself b))

is_none : (a b : List Value) → values_cmp a b ≢ ordering.Equal → same_values b a ≡ false
is_none a b other = by (values_cmp b a) refl
  where
    by : (o : Ordering) → values_cmp b a ≡ o → same_values b a ≡ false
    by ordering.Less e = ap is_equal e
    by ordering.Equal e = absurd (other ((values_cmp_equal a b).1 (sym ((values_cmp_equal b a).0 e))))
    by ordering.Greater e = ap is_equal e

module _ (reference : Reference) (targets : List (List Value)) (order : List ℕ) (row : List Value) (ordered : IsKeyOrder reference.keys targets order) where
  -- between the lesser and the greater keys stands no equal one
  no_target : (i : ℕ) → IsPartitionPoint (λ y. target_cmp reference targets row y ≡ ordering.Less) (λ y. target_cmp reference targets row y ≡ ordering.Greater) order i
      → (k : ℕ) → k < length targets → target_cmp reference targets row k ≢ ordering.Equal
  no_target i split k lt same =
      let there = position_of reference.keys targets order ordered k lt in
      elim (lt_or_le there.0 i) [
        | inl low ↦
            let less : target_cmp reference targets row k ≡ ordering.Less = rw there.2 at (split.0 there.0 0 (omega arith) low) in
            cc (less, same)
        | inr high ↦
            let greater : target_cmp reference targets row k ≡ ordering.Greater = rw there.2 at (split.1 there.0 0 high there.1) in
            cc (greater, same)
      ]

  pub search_tells : (r : Result ℕ ℕ) → IsSearchInRange r (length order) → IsBinarySearchResult (target_cmp reference targets row) order r
      → is_ok r ≡ has_target reference targets row
  search_tells (Ok i) within found =
      let there = ordered_below reference.keys targets order ordered i within in
      sym (list_any_at (λ target. same_values (pick reference.columns row) (pick reference.keys target)) targets (get_or order i 0) [] there
      (is_one (key_at reference.keys targets (get_or order i 0)) (pick reference.columns row) (found 0)))
  search_tells (Err i) within found =
      let rising = searchable_from_sorted values_cmp_total (key_at reference.keys targets) order (pick reference.columns row) (keys_ascend reference.keys targets order ordered) in
      sym (list_any_none (λ target. same_values (pick reference.columns row) (pick reference.keys target)) targets
      (λ k d lt. rw (get_or_default targets k d [] lt)
      (is_none (key_at reference.keys targets k) (pick reference.columns row) (no_target i (found rising) k lt))))
