-- describes steps of bodies: the bound of one node, from its gauge and from the counts and bounds of the nodes that it reads
use Rattle.std.specs.Prelude.{◌≡◌, ℕ, ◌+◌, ◌-◌, ◌<◌, ◌≤◌, List, get_or, sum_by, ◌⊎◌}
use Rattle.pm_plan.specs.declared.gauge.Gauge.{Gauge}
use Rattle.pm_plan.specs.declared.gauge.Bound.{Bound}
use Rattle.pm_plan.specs.declared.gauge.Whole.{Whole}
use Rattle.pm_plan.specs.declared.root.Root.{Root}
use Rattle.pm_plan.specs.declared.root.Root.TheVariants as root
use Rattle.pm_plan.specs.declared.plan.Node.{Node}
use Rattle.pm_plan.specs.Tree.{Tree, size}
use Rattle.pm_plan.specs.Preorder.{IsTreeAt}
use Rattle.pm_plan.specs.Roots.{unary_of, method_of}
use Rattle.pm_work.specs.Formulas.{Arithmetic, up_to, Side, hi_over, hi_joined, seek_hi, index_hi}
use Rattle.pm_work.specs.First.{greatest}
use Rattle.pm_work.specs.Moments.{Gauges}
use Rattle.pm_bounds.specs.declared.upper.Side.{Side as SideRead}
use Rattle.pm_bounds.specs.Bounds.{lo_over, lo_joined, lo_matched, side_of}
use Rattle.pm_bounds.specs.Moment.{Bounds}

-- sums and products as they are computed
abbrev pub computed : Arithmetic
computed = up_to greatest

-- a side as it is read, as the formulas see it
abbrev pub side_read : SideRead → Side
side_read side = record { count = side.count; hi = side.hi }

-- a fact of each node that this one reads
abbrev pub EachOf : (ℕ → Type 0) → Root → Type 0
EachOf P (root.Scan table label) = Unit {0}
EachOf P (root.Over op child) = P child
EachOf P (root.Join method left right pairs unique) = P left × P right
EachOf P (root.Index left seek cond) = P seek
EachOf P (root.Seek left table label pairs unique) = P left

-- a number from 1 up to this one
pub record IsNumberUpTo (most n : ℕ) : Type 0 where
  pub first : 1 ≤ n
  pub last : n ≤ most

-- node n's lower bound
abbrev pub root_lo : Root → ℕ → Gauges → Bounds → ℕ
root_lo (root.Scan table label) n G B = (G n).size
root_lo (root.Over op child) n G B = lo_over (unary_of op) (G n) (B child).lo
root_lo (root.Join method left right pairs unique) n G B = lo_joined (method_of method) unique (G n) (G left).handed (B left).lo
root_lo (root.Index left seek cond) n G B = (G n).settled
root_lo (root.Seek left table label pairs unique) n G B = lo_matched unique (G n).settled (B left).lo

-- node n's upper bound, as it is computed
abbrev pub root_hi : Root → ℕ → Gauges → Bounds → ℕ
root_hi (root.Scan table label) n G B = (G n).size
root_hi (root.Over op child) n G B = hi_over computed (unary_of op) (G n) (side_of child G (B child).hi)
root_hi (root.Join method left right pairs unique) n G B =
    hi_joined computed (method_of method) unique (G n) (side_of left G (B left).hi) (side_of right G (B right).hi)
root_hi (root.Index left seek cond) n G B = index_hi computed (G n) (side_of seek G (B seek).hi)
root_hi (root.Seek left table label pairs unique) n G B = seek_hi computed unique (G n) (side_of left G (B left).hi)

abbrev pub root_bound : Root → ℕ → Gauges → Bounds → Bound
root_bound r n G B = record { lo = root_lo r n G B; hi = root_hi r n G B }

-- a tree stands at number n
abbrev pub Stands : List Node → ℕ → Type 0
Stands nodes n = (t : Tree) × IsTreeAt nodes t n

-- the entries of the tree's nodes, its root being number n, are those of the other list
abbrev pub AgreeIn : Tree → ℕ → List Bound → List Bound → Type 0
AgreeIn t n a b = (i : ℕ) → n - 1 ≤ i → i < n - 1 + size t → get_or a i (record { lo = 0; hi = 0 }) ≡ get_or b i (record { lo = 0; hi = 0 })

-- the others are
abbrev pub AgreeElsewhere : Tree → ℕ → List Bound → List Bound → Type 0
AgreeElsewhere t n a b = (i : ℕ) → (i < n - 1) ⊎ (n - 1 + size t ≤ i) → get_or a i (record { lo = 0; hi = 0 }) ≡ get_or b i (record { lo = 0; hi = 0 })

-- node n as a side, as it is read
pub record IsSideIn (G : Gauges) (B : Bounds) (n : ℕ) (side : SideRead) : Type 0 where
  pub sees : side_read side ≡ side_of n G (B n).hi
  pub lo : side.lo ≡ (B n).lo

-- the sums of lists of gauges and bounds
abbrev pub sums_of : List Gauge → List Bound → Whole
sums_of gauges bounds = record { work = sum_by (λ g. g.handed) gauges; lo = sum_by (λ b. b.lo) bounds; hi = sum_by (λ b. b.hi) bounds }
