-- the whole work: the rows that all operators hand out (the getnext model of work)
use Rattle.std.specs.Prelude.{ℕ, length}
use Rattle.pm_plan.specs.Rows.{Db, table_rows}
use Rattle.pm_plan.specs.Tree.{Tree, Scan, Over, Join, Index, sum_in}
use Rattle.pm_plan.specs.Outputs.{output, sought}

abbrev pub whole_work : Db → Tree → ℕ
whole_work db tree = sum_in (λ t. length (output db t)) (λ left seek. length (sought db seek (output db left))) tree

abbrev pub scanned_at : Db → Tree → ℕ
scanned_at db (Scan table label) = length (table_rows db table)
scanned_at db (Over op child) = 0
scanned_at db (Join method on left right) = 0
scanned_at db (Index left seek cond) = 0

-- the rows of the Scans
abbrev pub scanned_rows : Db → Tree → ℕ
scanned_rows db tree = sum_in (scanned_at db) (λ left seek. 0) tree
