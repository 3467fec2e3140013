-- the flags of a join, as the declarations call for them
use Rattle.std.specs.Prelude.{ℕ, Bool, false, if◌then◌else◌, List, Option, None, Some}
use Rattle.pm_values.specs.Table.{Declaration}
use Rattle.pm_plan.specs.declared.plan.Pair.{Pair}
use Rattle.pm_plan.specs.declared.plan.Unique.{Unique}
use Rattle.pm_plan.specs.Joins.{left_columns, right_columns}
use Rattle.pm_plan.specs.Tree.{Method, Tree, Scan, Over, Join, Index, pads}
use Rattle.pm_plan.specs.Unique.{unique_on, unique_table}
use Rattle.pm_plan.specs.References.{refers}

-- the table whose rows, all of them, are the tree's
abbrev pub scanned_table : Tree → Option ℕ
scanned_table (Scan table label) = Some table
scanned_table (Over op child) = None
scanned_table (Join method on left right) = None
scanned_table (Index left seek cond) = None

abbrev pub refers_if : List Declaration → Tree → List Pair → Option ℕ → Bool
refers_if decls left pairs None = false
refers_if decls left pairs (Some target) = refers decls left target pairs

-- of a left side: whether it is unique on the left columns; whether the right side is unique on the right columns; and whether each left
-- row has a match, where the right side is the whole of a table
abbrev pub flags_of : List Declaration → Tree → List Pair → Bool → Option ℕ → Unique
flags_of decls left pairs unique_right whole =
    record { left = unique_on decls left (left_columns pairs); right = unique_right; total = refers_if decls left pairs whole }

-- a join that pads is never total
abbrev pub join_flags : List Declaration → Method → Tree → Tree → List Pair → Unique
join_flags decls method left right pairs =
    flags_of decls left pairs (unique_on decls right (right_columns pairs)) (if pads method then None else scanned_table right)

abbrev pub seek_flags : List Declaration → Tree → ℕ → List Pair → Unique
seek_flags decls left table pairs = flags_of decls left pairs (unique_table decls table (right_columns pairs)) (Some table)
