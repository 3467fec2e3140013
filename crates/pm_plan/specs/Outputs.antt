-- the rows that an operator hands out in all
use Rattle.std.specs.Prelude.{Bool, true, List, map, filter, Option, None, Some}
use Rattle.std.specs.List.{flat_map}
use Rattle.pm_values.specs.declared.condition.Cond.{Cond}
use Rattle.pm_values.specs.Row.{Row, pick}
use Rattle.pm_values.specs.Condition.{keeps}
use Rattle.pm_plan.specs.Rows.{Db, table_rows, decls_of}
use Rattle.pm_plan.specs.Joins.{matches, join, joined_by}
use Rattle.pm_plan.specs.Sorting.{sorted}
use Rattle.pm_plan.specs.Grouping.{grouped}
use Rattle.pm_plan.specs.Tree.{Unary, Filter, Project, Sort, Group, Tree, Scan, Over, Join, Index, Seek}
use Rattle.pm_plan.specs.Kinds.{width}

-- the condition is true on the row, where there is one
abbrev pub keeps_if : Option Cond → Row → Bool
keeps_if None row = true
keeps_if (Some cond) row = keeps cond row

-- what an operator makes of its child's rows
abbrev pub rows_over : Unary → List Row → List Row
rows_over (Filter cond) rows = filter (keeps cond) rows
rows_over (Project columns) rows = map (pick columns) rows
rows_over (Sort keys) rows = sorted keys rows
rows_over (Group keys items) rows = grouped keys items rows

-- the output of the tree's root
abbrev pub output : Db → Tree → List Row
output db (Scan table label) = table_rows db table
output db (Over op child) = rows_over op (output db child)
output db (Join method on left right) = joined_by method on.pairs (width (decls_of db) right) (output db left) (output db right)
output db (Index left seek cond) = filter (keeps_if cond) (join seek.on.pairs (output db left) (table_rows db seek.table))

-- the rows that a Seek hands out for these left rows
abbrev pub sought : Db → Seek → List Row → List Row
sought db seek lefts = flat_map (λ l. matches seek.on.pairs l (table_rows db seek.table)) lefts
