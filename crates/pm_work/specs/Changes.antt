-- how an event changes what stands at each operator: the count of its own node, and at the node that reads its row what is settled, and the
-- greatest multiplicity of a hash join
use Rattle.std.specs.Prelude.{◌≡◌, ℕ, ◌+◌, ◌-◌, ◌==◌, if◌then◌else◌, List, [], ◌∷◌, ◌++◌, length, filter, get_or, max, Option, All}
use Rattle.std.specs.List.{list_any}
use Rattle.pm_values.specs.declared.condition.Cond.{Cond}
use Rattle.pm_values.specs.Row.{Row, pick}
use Rattle.pm_values.specs.Equality.{same_key, same_values}
use Rattle.pm_plan.specs.declared.gauge.Gauge.{Gauge}
use Rattle.pm_plan.specs.declared.plan.Pair.{Pair}
use Rattle.pm_plan.specs.Rows.{Db, table_rows, decls_of}
use Rattle.pm_plan.specs.Joins.{right_columns, keys_of, matches, join, rows_for, multiplicity, worst}
use Rattle.pm_plan.specs.Kinds.{width}
use Rattle.pm_plan.specs.Tree.{Unary, Filter, Project, Sort, Group, Method, Hash, Merge, Tree, Scan, Over, Join, Index, Seek, right_number}
use Rattle.pm_plan.specs.Outputs.{rows_over, keeps_if}
use Rattle.pm_work.specs.Events.{Event}
use Rattle.pm_work.specs.Moments.{Counts, handed_out, gauge_of, seek_gauge}

-- a row with a key that none of these rows has begins a group; without keys there is one group from the start
abbrev pub new_groups : List ℕ → List Row → Row → ℕ
new_groups [] rows row = 0
new_groups (key ∷ keys) rows row = if list_any (λ other. same_values other (pick (key ∷ keys) row)) (keys_of (key ∷ keys) rows) then 0 else 1

-- the rows that a row of its child settles at an operator, after these rows
abbrev pub settled_by_row : Unary → List Row → Row → ℕ
settled_by_row (Filter cond) rows row = length (rows_over (Filter cond) (row ∷ []))
settled_by_row (Project columns) rows row = 0
settled_by_row (Sort keys) rows row = 0
settled_by_row (Group keys items) rows row = new_groups keys rows row

-- at a join: the rows for a left row, and the pairs of a right row with the left rows so far
abbrev pub settled_by_left : Method → List Pair → ℕ → List Row → Row → ℕ
settled_by_left method pairs width rights row = length (rows_for method pairs width rights row)

abbrev pub settled_by_right : List Pair → List Row → Row → ℕ
settled_by_right pairs lefts row = length (join pairs lefts (row ∷ []))

-- at an Index: the pair of the last left row and the Seek's row, if it is kept
abbrev pub last_row : List Row → Row
last_row rows = get_or rows (length rows - 1) []

abbrev pub settled_by_sought : Option Cond → List Row → Row → ℕ
settled_by_sought cond lefts row = length (filter (keeps_if cond) ((last_row lefts ++ row) ∷ []))

-- the rows that an event settles at node n, the root of the tree
abbrev pub settled_by : Db → Tree → ℕ → Counts → Event → ℕ
settled_by db (Scan table label) n K e = 0
settled_by db (Over op child) n K e = if e.node == n + 1 then settled_by_row op (handed_out db child (n + 1) K) e.row else 0
settled_by db (Join method on left right) n K e =
    (if e.node == n + 1 then settled_by_left method on.pairs (width (decls_of db) right) (handed_out db right (right_number n left) K) e.row else 0)
    + (if e.node == right_number n left then settled_by_right on.pairs (handed_out db left (n + 1) K) e.row else 0)
settled_by db (Index left seek cond) n K e = if e.node == right_number n left then settled_by_sought cond (handed_out db left (n + 1) K) e.row else 0

-- the same of the Seek of Index n: a left row's matches
abbrev pub seek_settled_by : Db → Seek → ℕ → Event → ℕ
seek_settled_by db seek n e = if e.node == n + 1 then length (matches seek.on.pairs e.row (table_rows db seek.table)) else 0

-- the greatest multiplicity with one row more: a key without NULL counts once more
abbrev pub worst_with : List ℕ → List Row → Row → ℕ
worst_with columns rows row =
    let key = pick columns row in
    if same_key key key then max (worst columns rows) (multiplicity columns key rows + 1) else worst columns rows

abbrev pub worst_joined_with : Method → List Pair → List Row → Row → ℕ
worst_joined_with (Hash pad) pairs rights row = worst_with (right_columns pairs) rights row
worst_joined_with Merge pairs rights row = 0

-- after an event at node n, where it was this one
abbrev pub worst_after : Db → Tree → ℕ → Counts → Event → ℕ → ℕ
worst_after db (Scan table label) n K e worst = worst
worst_after db (Over op child) n K e worst = worst
worst_after db (Join method on left right) n K e worst =
    if e.node == right_number n left then worst_joined_with method on.pairs (handed_out db right (right_number n left) K) e.row else worst
worst_after db (Index left seek cond) n K e worst = worst

-- the gauge g with so many rows settled more, after an event, at node n
abbrev pub stepped : Gauge → ℕ → Event → ℕ → ℕ → Gauge
stepped g n e more worst =
    record { handed = g.handed + (if e.node == n then 1 else 0); settled = g.settled + more; worst = worst; size = g.size }

-- the gauge of node n after an event at these counts
abbrev pub gauge_after : Db → Tree → ℕ → Counts → Event → Gauge
gauge_after db tree n K e =
    let g = gauge_of db tree n K in stepped g n e (settled_by db tree n K e) (worst_after db tree n K e g.worst)

-- of its Seek
abbrev pub seek_gauge_after : Db → Tree → Seek → ℕ → Counts → Event → Gauge
seek_gauge_after db left seek n K e =
    let g = seek_gauge db left seek n K in stepped g (right_number n left) e (seek_settled_by db seek n e) g.worst

-- ---- what a gauge does not depend on

-- the numbers of the nodes whose counts a gauge is made from: its own, and those that the node reads
abbrev pub numbers_read : Tree → ℕ → List ℕ
numbers_read (Scan table label) n = n ∷ []
numbers_read (Over op child) n = n ∷ (n + 1) ∷ []
numbers_read (Join method on left right) n = n ∷ (n + 1) ∷ right_number n left ∷ []
numbers_read (Index left seek cond) n = n ∷ right_number n left ∷ []

abbrev pub numbers_sought : Tree → ℕ → List ℕ
numbers_sought left n = right_number n left ∷ (n + 1) ∷ []

-- counts that are the same at these numbers
abbrev pub AgreeAt : List ℕ → Counts → Counts → Type 0
AgreeAt numbers K L = All (λ n. K n ≡ L n) numbers
