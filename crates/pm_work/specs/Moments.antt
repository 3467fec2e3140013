-- what stands at each operator after some events: its count, and what is settled by the counts below it
use Rattle.std.specs.Prelude.{◌≡◌, ℕ, ◌+◌, ◌-◌, List, length, take, filter, get_or}
use Rattle.pm_values.specs.Row.{Row}
use Rattle.pm_plan.specs.declared.gauge.Gauge.{Gauge}
use Rattle.pm_plan.specs.declared.plan.Pair.{Pair}
use Rattle.pm_plan.specs.Rows.{Db, table_rows, decls_of}
use Rattle.pm_plan.specs.Joins.{join, joined_by, right_columns, worst}
use Rattle.pm_plan.specs.Tree.{Unary, Filter, Project, Sort, Group, Method, Hash, Merge, Tree, Scan, Over, Join, Index, Seek, right_number, EachAt, list_at}
use Rattle.pm_plan.specs.Kinds.{width}
use Rattle.pm_plan.specs.Outputs.{output, rows_over, keeps_if, sought}
use Rattle.pm_work.specs.Events.{events, counts}

-- a count for each node
abbrev pub Counts : Type 0
Counts = ℕ → ℕ

-- the counts after the first t events
abbrev pub counts_at : Db → Tree → ℕ → Counts
counts_at db tree t = counts (take t (events db tree 1))

-- the first rows of a node's output, as many as its count says
abbrev pub handed_out : Db → Tree → ℕ → Counts → List Row
handed_out db tree n K = take (K n) (output db tree)

-- what an operator owes for these rows of its child; of a projection and of a sort nothing reads it
abbrev pub settled_over : Unary → List Row → ℕ
settled_over (Filter cond) rows = length (rows_over (Filter cond) rows)
settled_over (Project columns) rows = 0
settled_over (Sort keys) rows = 0
settled_over (Group keys items) rows = length (rows_over (Group keys items) rows)

-- what is settled at node n, the root of the tree: the rows that it owes for those that were handed out below it. A Scan owes its table's
-- rows; an Index owes those pairs that it keeps of as many as its Seek has handed out
abbrev pub settled : Db → Tree → ℕ → Counts → ℕ
settled db (Scan table label) n K = length (table_rows db table)
settled db (Over op child) n K = settled_over op (handed_out db child (n + 1) K)
settled db (Join method on left right) n K =
    length (joined_by method on.pairs (width (decls_of db) right) (handed_out db left (n + 1) K) (handed_out db right (right_number n left) K))
settled db (Index left seek cond) n K =
    length (filter (keeps_if cond) (take (K (right_number n left)) (join seek.on.pairs (output db left) (table_rows db seek.table))))

-- the same of the Seek of Index n
abbrev pub seek_settled : Db → Tree → Seek → ℕ → Counts → ℕ
seek_settled db left seek n K = length (sought db seek (handed_out db left (n + 1) K))

-- the greatest multiplicity of a key among the rows that a hash join has read on its right side; a merge join needs none
abbrev pub worst_joined : Method → List Pair → List Row → ℕ
worst_joined (Hash pad) pairs rights = worst (right_columns pairs) rights
worst_joined Merge pairs rights = 0

abbrev pub worst_at : Db → Tree → ℕ → Counts → ℕ
worst_at db (Scan table label) n K = 0
worst_at db (Over op child) n K = 0
worst_at db (Join method on left right) n K = worst_joined method on.pairs (handed_out db right (right_number n left) K)
worst_at db (Index left seek cond) n K = 0

abbrev pub size_at : Db → Tree → ℕ
size_at db (Scan table label) = length (table_rows db table)
size_at db (Over op child) = 0
size_at db (Join method on left right) = 0
size_at db (Index left seek cond) = 0

abbrev pub gauge_of : Db → Tree → ℕ → Counts → Gauge
gauge_of db tree n K = record { handed = K n; settled = settled db tree n K; worst = worst_at db tree n K; size = size_at db tree }

abbrev pub seek_gauge : Db → Tree → Seek → ℕ → Counts → Gauge
seek_gauge db left seek n K =
    record {
      handed = K (right_number n left);
      settled = seek_settled db left seek n K;
      worst = worst (right_columns seek.on.pairs) (table_rows db seek.table);
      size = length (table_rows db seek.table);
    }

-- a gauge for each node
abbrev pub Gauges : Type 0
Gauges = ℕ → Gauge

-- these are the gauges of the tree's nodes at these counts, its root being number n
abbrev pub HasGauges : Db → Tree → ℕ → Counts → Gauges → Type 0
HasGauges db tree n K G =
    EachAt (λ t m. G m ≡ gauge_of db t m K) (λ left seek m. G (right_number m left) ≡ seek_gauge db left seek m K) tree n

-- the gauges of the tree's nodes in preorder
abbrev pub gauges_of : Db → Tree → ℕ → Counts → List Gauge
gauges_of db tree n K = list_at (λ t m. gauge_of db t m K) (λ left seek m. seek_gauge db left seek m K) tree n

-- the gauge of node n in such a list, counted from 1, and zeros past its end
abbrev pub gauge_in : List Gauge → Gauges
gauge_in gauges n = get_or gauges (n - 1) (record { handed = 0; settled = 0; worst = 0; size = 0 })

-- the gauges after the first t events
abbrev pub gauges_at : Db → Tree → ℕ → List Gauge
gauges_at db tree t = gauges_of db tree 1 (counts_at db tree t)
