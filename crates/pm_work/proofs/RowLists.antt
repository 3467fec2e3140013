-- what holds of each row of some lists holds of each row of what operators make of them
use Rattle.std.proofs.Common.{◌≡◌, ℕ, Bool, true, false, cond, List, [], ◌∷◌, ◌++◌, replicate, get_or, refl, ap}
use Rattle.std.specs.Prelude.{All, not}
use Rattle.std.specs.List.{filter}
use Rattle.std.proofs.lemmas.List.Elements.{All-nil, All-cons, All-head, All-tail, All-append, All-filter, All-map, All-weaker}
use Rattle.pm_values.specs.declared.value.Value.TheVariants as value
use Rattle.pm_values.specs.Row.{Row, pick}
use Rattle.pm_values.specs.Order.{is_less}
use Rattle.pm_values.specs.Equality.{same_key}
use Rattle.pm_values.specs.Keys.{once}
use Rattle.pm_values.specs.Condition.{keeps}
use Rattle.pm_plan.specs.declared.plan.Pair.{Pair}
use Rattle.pm_plan.specs.declared.plan.SortKey.{SortKey}
use Rattle.pm_plan.specs.Joins.{left_columns, right_columns, matches, joined_rows, padded_row, or_padded, rows_for, joined_by}
use Rattle.pm_plan.specs.Sorting.{keys_cmp, inserted, sorted}
use Rattle.pm_plan.specs.Tree.{Unary, Filter, Project, Sort, Group, Method, Hash, Merge, keeps_columns, pads}
use Rattle.pm_plan.specs.Outputs.{rows_over}

All-inserted : (P : Row → Type 0) (keys : List SortKey) (row : Row) (xs : List Row) → P row → All P xs → All P (inserted keys row xs)
All-inserted P keys row [] p all = All-cons P row [] p all
All-inserted P keys row (x ∷ xs) p all =
    elim (is_less (keys_cmp keys x row)) as (λ t. All P (cond t (x ∷ inserted keys row xs) (row ∷ x ∷ xs))) [
      | true ↦ All-cons P x (inserted keys row xs) (All-head P x xs all) (All-inserted P keys row xs p (All-tail P x xs all))
      | false ↦ All-cons P row (x ∷ xs) p all
    ]

pub All-sorted : (P : Row → Type 0) (keys : List SortKey) (xs : List Row) → All P xs → All P (sorted keys xs)
All-sorted P keys [] all = all
All-sorted P keys (x ∷ xs) all = All-inserted P keys x (sorted keys xs) (All-head P x xs all) (All-sorted P keys xs (All-tail P x xs all))

pub All-once : (P : Row → Type 0) (same : Row → Row → Bool) (xs : List Row) → All P xs → All P (once same xs)
All-once P same [] all = all
All-once P same (x ∷ xs) all =
    All-cons P x (filter (λ y. not (same x y)) (once same xs)) (All-head P x xs all)
    (All-filter (λ y. not (same x y)) P (once same xs) (All-once P same xs (All-tail P x xs all)))

-- of an operator that hands out rows of its child
pub All-kept : (P : Row → Type 0) (op : Unary) (xs : List Row) → keeps_columns op ≡ true → All P xs → All P (rows_over op xs)
All-kept P (Filter c) xs k all = All-filter (keeps c) P xs all
All-kept P (Project columns) xs k all = absurd cc
All-kept P (Sort keys) xs k all = All-sorted P keys xs all
All-kept P (Group keys items) xs k all = absurd cc

-- of a join: rows made of a left and a right row each, and padded left rows where it pads
module _ (P Q R : Row → Type 0) (both : (l r : Row) → P l → Q r → R (l ++ r)) where
  All-pairs : (pairs : List Pair) (l : Row) (rs : List Row) → P l → All Q rs → All R (joined_rows pairs rs l)
  All-pairs pairs l rs p q =
      All-map R (λ r. l ++ r) (matches pairs l rs)
      (All-weaker Q (λ r. R (l ++ r)) (λ r h. both l r p h) (matches pairs l rs)
      (All-filter (λ r. same_key (pick (left_columns pairs) l) (pick (right_columns pairs) r)) Q rs q))

  module _ (w : ℕ) where
    All-padded : (l : Row) (rows : List Row) → R (padded_row w l) → All R rows → All R (or_padded w l rows)
    All-padded l [] p all = All-cons R (padded_row w l) [] p (All-nil R)
    All-padded l (row ∷ rows) p all = all

    All-rows_for : (method : Method) → (pads method ≡ true → (l : Row) → P l → R (padded_row w l)) → (pairs : List Pair) (l : Row) (rs : List Row)
        → P l → All Q rs → All R (rows_for method pairs w rs l)
    All-rows_for (Hash true) alone pairs l rs p q = All-padded l (joined_rows pairs rs l) (alone refl l p) (All-pairs pairs l rs p q)
    All-rows_for (Hash false) alone pairs l rs p q = All-pairs pairs l rs p q
    All-rows_for Merge alone pairs l rs p q = All-pairs pairs l rs p q

    pub All-joined : (method : Method) → (pads method ≡ true → (l : Row) → P l → R (padded_row w l)) → (pairs : List Pair) (ls rs : List Row)
        → All P ls → All Q rs → All R (joined_by method pairs w ls rs)
    All-joined method alone pairs [] rs p q = All-nil R
    All-joined method alone pairs (l ∷ ls) rs p q =
        All-append R (rows_for method pairs w rs l) (joined_by method pairs w ls rs)
        (All-rows_for method alone pairs l rs (All-head P l ls p) q) (All-joined method alone pairs ls rs (All-tail P l ls p) q)

pub All-each : (P : Row → Type 0) (rows : List Row) → ((row : Row) → P row) → All P rows
All-each P rows each = λ k d h. each (get_or rows k d)

-- the row begins with this one
abbrev pub BeginsWith : Row → Row → Type 0
BeginsWith l row = (rest : Row) × (row ≡ l ++ rest)

pub rows_for_begin : (method : Method) (pairs : List Pair) (w : ℕ) (rs : List Row) (l : Row) → All (BeginsWith l) (rows_for method pairs w rs l)
rows_for_begin method pairs w rs l =
    All-rows_for (λ k. k ≡ l) (λ r. Unit {0}) (BeginsWith l) (λ k r e q. (r, ap (λ k. k ++ r) e)) w
    method (λ pad k e. (replicate w value.Null, ap (λ k. k ++ replicate w value.Null) e))
    pairs l rs refl (All-each (λ r. Unit {0}) rs (λ r. tt))
