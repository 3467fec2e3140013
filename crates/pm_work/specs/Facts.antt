-- what the declarations of a valid plan say of its rows: keys that differ, left rows that have a match, and keys that ascend
use Rattle.std.specs.Prelude.{◌≡◌, ℕ, ◌<◌, ◌≤◌, true, false, List, length, All}
use Rattle.pm_values.specs.Row.{Row}
use Rattle.pm_values.specs.Order.{Ascends, key_at}
use Rattle.pm_values.specs.Equality.{same_key}
use Rattle.pm_plan.specs.declared.plan.Pair.{Pair}
use Rattle.pm_plan.specs.Rows.{Db, table_rows}
use Rattle.pm_plan.specs.Joins.{left_columns, right_columns, matches, multiplicity}
use Rattle.pm_plan.specs.Tree.{Method, Hash, Merge, On, Tree, Scan, Over, Join, Index, Each}
use Rattle.pm_plan.specs.Outputs.{output}

-- no two rows agree in these columns and hold no NULL there
abbrev pub KeysDiffer : List ℕ → List Row → Type 0
KeysDiffer columns rows = (i j : ℕ) → i < j → j < length rows → same_key (key_at columns rows i) (key_at columns rows j) ≡ false

-- at most one row has a key in these columns
abbrev pub AtMostOne : List ℕ → List Row → Type 0
AtMostOne columns rows = (key : Row) → multiplicity columns key rows ≤ 1

-- each left row has a match on the right
abbrev pub AllMatched : List Pair → List Row → List Row → Type 0
AllMatched pairs lefts rights = All (λ l. 1 ≤ length (matches pairs l rights)) lefts

-- a flag that is set is so of the sides' rows
pub record FlagsHold (on : On) (lefts rights : List Row) : Type 0 where
  pub left : on.unique.left ≡ true → AtMostOne (left_columns on.pairs) lefts
  pub right : on.unique.right ≡ true → AtMostOne (right_columns on.pairs) rights
  pub total : on.unique.total ≡ true → AllMatched on.pairs lefts rights

abbrev pub flags_hold : Db → Tree → Type 0
flags_hold db (Scan table label) = Unit {0}
flags_hold db (Over op child) = Unit {0}
flags_hold db (Join method on left right) = FlagsHold on (output db left) (output db right)
flags_hold db (Index left seek cond) = Unit {0}

-- of all joins of the tree
abbrev pub AllFlagsHold : Db → Tree → Type 0
AllFlagsHold db tree = Each (flags_hold db) (λ left seek. FlagsHold seek.on (output db left) (table_rows db seek.table)) tree

-- the keys of both sides ascend
pub record SidesAscend (pairs : List Pair) (lefts rights : List Row) : Type 0 where
  pub left : Ascends (left_columns pairs) lefts
  pub right : Ascends (right_columns pairs) rights

abbrev pub method_ascends : Method → List Pair → List Row → List Row → Type 0
method_ascends (Hash pad) pairs lefts rights = Unit {0}
method_ascends Merge pairs lefts rights = SidesAscend pairs lefts rights

abbrev pub merge_ascends : Db → Tree → Type 0
merge_ascends db (Scan table label) = Unit {0}
merge_ascends db (Over op child) = Unit {0}
merge_ascends db (Join method on left right) = method_ascends method on.pairs (output db left) (output db right)
merge_ascends db (Index left seek cond) = Unit {0}

-- of each merge join of the tree
abbrev pub MergesAscend : Db → Tree → Type 0
MergesAscend db tree = Each (merge_ascends db) (λ left seek. Unit {0}) tree
