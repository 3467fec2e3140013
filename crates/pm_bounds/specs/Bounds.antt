-- a lower and an upper bound of the rows of each operator, from the gauges of a moment
use Rattle.std.specs.Prelude.{ℕ, ◌+◌, ◌-◌, true, false, if◌then◌else◌, List, [], ◌∷◌, min, max}
use Rattle.pm_plan.specs.declared.plan.Unique.{Unique}
use Rattle.pm_plan.specs.declared.gauge.Gauge.{Gauge}
use Rattle.pm_plan.specs.declared.gauge.Bound.{Bound}
use Rattle.pm_plan.specs.declared.gauge.Whole.{Whole}
use Rattle.pm_plan.specs.Rows.{Db}
use Rattle.pm_plan.specs.Tree.{Unary, Filter, Project, Sort, Group, Method, Hash, Merge, Tree, Scan, Over, Join, Index, Seek, right_number, sum_at, list_at}
use Rattle.pm_work.specs.Formulas.{Arithmetic, exact, Side, hi_over, hi_joined, seek_hi, index_hi}
use Rattle.pm_work.specs.Moments.{Gauges, gauge_in, gauges_at}

-- of a group with these keys: the groups so far, or one where there is a row to come
abbrev pub group_lo : List ℕ → ℕ → ℕ → ℕ
group_lo [] settled child_lo = 1
group_lo (key ∷ keys) settled child_lo = max settled (min 1 child_lo)

-- of an operator over a child
abbrev pub lo_over : Unary → Gauge → ℕ → ℕ
lo_over (Filter cond) g child_lo = g.settled
lo_over (Project columns) g child_lo = child_lo
lo_over (Sort keys) g child_lo = child_lo
lo_over (Group keys items) g child_lo = group_lo keys g.settled child_lo

-- where each left row has a match, there are at least as many rows as on the left
abbrev pub lo_matched : Unique → ℕ → ℕ → ℕ
lo_matched unique settled left_lo = if unique.total then max settled left_lo else settled

-- of a join, from the count and the lower bound of its left side: where it pads, each left row that is to come gives a row at least
abbrev pub lo_joined : Method → Unique → Gauge → ℕ → ℕ → ℕ
lo_joined (Hash true) unique g left_count left_lo = g.settled + (left_lo - left_count)
lo_joined (Hash false) unique g left_count left_lo = lo_matched unique g.settled left_lo
lo_joined Merge unique g left_count left_lo = lo_matched unique g.settled left_lo

-- the lower bound of the tree's root, which is node n
abbrev pub lo : Tree → ℕ → Gauges → ℕ
lo (Scan table label) n G = (G n).size
lo (Over op child) n G = lo_over op (G n) (lo child (n + 1) G)
lo (Join method on left right) n G = lo_joined method on.unique (G n) (G (n + 1)).handed (lo left (n + 1) G)
lo (Index left seek cond) n G = (G n).settled

-- of the Seek of Index n
abbrev pub lo_of_seek : Tree → Seek → ℕ → Gauges → ℕ
lo_of_seek left seek n G = lo_matched seek.on.unique (G (right_number n left)).settled (lo left (n + 1) G)

-- what node n is as a side of the operator above it, from its upper bound
abbrev pub side_of : ℕ → Gauges → ℕ → Side
side_of n G hi = record { count = (G n).handed; hi = hi }

-- of the Seek of Index n, from the upper bound of the left side
abbrev pub seek_above : Arithmetic → Tree → Seek → ℕ → Gauges → ℕ → ℕ
seek_above a left seek n G left_hi = seek_hi a seek.on.unique (G (right_number n left)) (side_of (n + 1) G left_hi)

-- the upper bound of the tree's root, which is node n
abbrev pub hi_by : Arithmetic → Tree → ℕ → Gauges → ℕ
hi_by a (Scan table label) n G = (G n).size
hi_by a (Over op child) n G = hi_over a op (G n) (side_of (n + 1) G (hi_by a child (n + 1) G))
hi_by a (Join method on left right) n G =
    hi_joined a method on.unique (G n)
    (side_of (n + 1) G (hi_by a left (n + 1) G)) (side_of (right_number n left) G (hi_by a right (right_number n left) G))
hi_by a (Index left seek cond) n G =
    index_hi a (G n) (side_of (right_number n left) G (seek_above a left seek n G (hi_by a left (n + 1) G)))

abbrev pub hi : Tree → ℕ → Gauges → ℕ
hi = hi_by exact

abbrev pub hi_of_seek : Tree → Seek → ℕ → Gauges → ℕ
hi_of_seek left seek n G = seek_above exact left seek n G (hi left (n + 1) G)

abbrev pub bound_of : Tree → ℕ → Gauges → Bound
bound_of tree n G = record { lo = lo tree n G; hi = hi tree n G }

abbrev pub bound_of_seek : Tree → Seek → ℕ → Gauges → Bound
bound_of_seek left seek n G = record { lo = lo_of_seek left seek n G; hi = hi_of_seek left seek n G }

-- the work done, and the bounds of the whole work: sums over all nodes
abbrev pub work_done : Tree → Gauges → ℕ
work_done tree G = sum_at (λ t n. (G n).handed) (λ left seek n. (G (right_number n left)).handed) tree 1

abbrev pub lo_whole : Tree → Gauges → ℕ
lo_whole tree G = sum_at (λ t n. lo t n G) (λ left seek n. lo_of_seek left seek n G) tree 1

abbrev pub hi_whole : Tree → Gauges → ℕ
hi_whole tree G = sum_at (λ t n. hi t n G) (λ left seek n. hi_of_seek left seek n G) tree 1

abbrev pub whole_bound : Tree → Gauges → Bound
whole_bound tree G = record { lo = lo_whole tree G; hi = hi_whole tree G }

abbrev pub whole_of : Tree → Gauges → Whole
whole_of tree G = record { work = work_done tree G; lo = lo_whole tree G; hi = hi_whole tree G }

-- after the first t events of a tree over a database
abbrev pub whole_at : Db → Tree → ℕ → Whole
whole_at db tree t = whole_of tree (gauge_in (gauges_at db tree t))

-- the bounds of the tree's nodes in preorder, its root being number n
abbrev pub bounds_of : Tree → ℕ → Gauges → List Bound
bounds_of tree n G = list_at (λ t m. bound_of t m G) (λ left seek m. bound_of_seek left seek m G) tree n
