-- the moments at which bounds are computed, and the lists that they are written into
use Rattle.std.specs.Prelude.{◌≡◌, ℕ, ◌-◌, List, length, get_or, All, Option, None, Some}
use Rattle.pm_values.specs.Table.{IsRelation}
use Rattle.pm_plan.specs.declared.gauge.Gauge.{Gauge}
use Rattle.pm_plan.specs.declared.gauge.Bound.{Bound}
use Rattle.pm_plan.specs.declared.plan.Node.{Node}
use Rattle.pm_plan.specs.declared.plan.Node.TheVariants as node
use Rattle.pm_plan.specs.declared.plan.Plan.{Plan}
use Rattle.pm_plan.specs.Rows.{Db}
use Rattle.pm_plan.specs.Tree.{Tree, EachAt, right_number}
use Rattle.pm_plan.specs.Preorder.{tree_of, node_at}
use Rattle.pm_plan.specs.Outputs.{output, sought}
use Rattle.pm_work.specs.Moments.{Counts, Gauges, HasGauges, gauge_in}
use Rattle.pm_work.specs.Orderly.{Orderly}
use Rattle.pm_work.specs.Fits.{Fits}
use Rattle.pm_bounds.specs.Bounds.{bounds_of}
use Rattle.pm_bounds.specs.Enclosure.{Encloses}

-- these are the gauges, one for each node, of orderly counts of the plan over the database, which it fits
pub record AreGaugesOf (db : Db) (K : Counts) (plan : Plan) (gauges : List Gauge) : Type 0 where
  pub tables : All IsRelation db
  pub fits : Fits plan db
  pub orderly : Orderly db (tree_of plan.nodes) 1 K
  pub has_gauges : HasGauges db (tree_of plan.nodes) 1 K (gauge_in gauges)
  pub each_node : length gauges ≡ length plan.nodes

-- over some database, at some counts
pub record AreGauges (plan : Plan) (gauges : List Gauge) : Type 0 where
  pub db : Db
  pub counts : Counts
  pub are : AreGaugesOf db counts plan gauges

-- a bound for each node
abbrev pub Bounds : Type 0
Bounds = ℕ → Bound

-- the bound of node n in a list in preorder, counted from 1, and zeros past its end
abbrev pub bound_in : List Bound → Bounds
bound_in bounds n = get_or bounds (n - 1) (record { lo = 0; hi = 0 })

-- the bounds of the plan's nodes in preorder
abbrev pub plan_bounds : Plan → List Gauge → List Bound
plan_bounds plan gauges = bounds_of (tree_of plan.nodes) 1 (gauge_in gauges)

-- the bounds enclose the rows of each node
abbrev pub AllEnclosedBy : Db → Tree → Gauges → Bounds → Type 0
AllEnclosedBy db tree G B =
    EachAt (λ t n. Encloses (G n).handed (B n) (length (output db t)))
    (λ left seek n. Encloses (G (right_number n left)).handed (B (right_number n left)) (length (sought db seek (output db left))))
    tree 1

-- a fact of each node whose bound this one's own is made from: of its children, and of a Seek its left side
abbrev pub EachRead : (ℕ → Type 0) → Node → Type 0
EachRead P (node.Scan table label) = Unit {0}
EachRead P (node.Filter child cond) = P child
EachRead P (node.Project child columns) = P child
EachRead P (node.Sort child keys) = P child
EachRead P (node.Group child keys items) = P child
EachRead P (node.Hash left right pairs unique pad) = P left × P right
EachRead P (node.Merge left right pairs unique) = P left × P right
EachRead P (node.Seek left table pairs label unique) = P left
EachRead P (node.Index left seek cond) = P seek

-- of node n of the plan
abbrev pub EachReadBy : (ℕ → Type 0) → Option Node → Type 0
EachReadBy P None = Unit {0}
EachReadBy P (Some x) = EachRead P x

-- the bounds that node n's own is made from stand in the list
abbrev pub ReadAreBounds : Plan → ℕ → List Gauge → List Bound → Type 0
ReadAreBounds plan n gauges bounds =
    EachReadBy (λ m. bound_in bounds m ≡ bound_in (plan_bounds plan gauges) m) (node_at plan.nodes n)
