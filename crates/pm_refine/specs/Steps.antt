-- describes steps of bodies: what is known where a part of a plan is brought up to date
use Rattle.std.specs.Prelude.{◌≡◌, ℕ, ◌+◌, ◌-◌, ◌<◌, ◌≤◌, ◌^◌, List, length, get_or, sum_by, ◌⊎◌}
use Rattle.pm_plan.specs.declared.gauge.Gauge.{Gauge}
use Rattle.pm_plan.specs.declared.gauge.Bound.{Bound}
use Rattle.pm_plan.specs.declared.gauge.Whole.{Whole}
use Rattle.pm_plan.specs.declared.plan.Plan.{Plan}
use Rattle.pm_plan.specs.Tree.{Tree, EachAt, size, right_number}
use Rattle.pm_plan.specs.Preorder.{IsTreeAt}
use Rattle.pm_work.specs.Moments.{Gauges, HasGauges, gauge_in}
use Rattle.pm_bounds.specs.Bounds.{bound_of, bound_of_seek}
use Rattle.pm_bounds.specs.Moment.{Bounds, bound_in, plan_bounds}
use Rattle.pm_refine.specs.Refining.{IsOneEvent}

-- the bound at a position of a list
abbrev pub bound_at : List Bound → ℕ → Bound
bound_at bounds i = get_or bounds i (record { lo = 0; hi = 0 })

abbrev pub sum_lo : List Bound → ℕ
sum_lo bounds = sum_by (λ b. b.lo) bounds

abbrev pub sum_hi : List Bound → ℕ
sum_hi bounds = sum_by (λ b. b.hi) bounds

-- the sums are those of the list
pub record AreSums (bounds : List Bound) (whole : Whole) : Type 0 where
  pub lower : whole.lo ≡ sum_lo bounds
  pub upper : whole.hi ≡ sum_hi bounds

pub record SumsFit (bounds : List Bound) : Type 0 where
  pub lower : sum_lo bounds < 2 ^ 128
  pub upper : sum_hi bounds < 2 ^ 128

-- some of these bounds are those before an event, and the others those after it: none is wider than before
pub record AreBetween (bounds before after : List Bound) : Type 0 where
  pub lower : (i : ℕ) → (bound_at bounds i).lo ≤ (bound_at after i).lo
  pub upper : (i : ℕ) → (bound_at bounds i).hi ≤ (bound_at before i).hi
  pub falls : (i : ℕ) → (bound_at after i).hi ≤ (bound_at before i).hi

-- these are the bounds of the tree's nodes
abbrev pub HasBounds : Tree → ℕ → Gauges → Bounds → Type 0
HasBounds tree n G B = EachAt (λ t m. B m ≡ bound_of t m G) (λ left seek m. B (right_number m left) ≡ bound_of_seek left seek m G) tree n

-- the entries from one position up to another are those of the list, and the others are as before
pub record AreRefreshed (from upto : ℕ) (before after bounds : List Bound) : Type 0 where
  pub inside : (i : ℕ) → from ≤ i → i < upto → bound_at after i ≡ bound_at bounds i
  pub outside : (i : ℕ) → (i < from) ⊎ (upto ≤ i) → bound_at after i ≡ bound_at before i

-- a tree stands at number n, with its last node before the number upto; its bounds are those before an event of the node
pub record IsStale (plan : Plan) (n upto node : ℕ) (gauges : List Gauge) (bounds : List Bound) : Type 0 where
  pub earlier : List Gauge
  pub event : IsOneEvent plan node earlier gauges
  pub tree : Tree
  pub first : 1 ≤ n
  pub stands : IsTreeAt plan.nodes tree n
  pub ends : upto ≡ n + size tree
  pub gauges_before : HasGauges event.db tree n event.counts (gauge_in earlier)
  pub gauges_after : HasGauges event.db tree n event.later (gauge_in gauges)
  pub bounds_before : HasBounds tree n (gauge_in earlier) (bound_in (plan_bounds plan earlier))
  pub bounds_after : HasBounds tree n (gauge_in gauges) (bound_in (plan_bounds plan gauges))
  pub entries : (i : ℕ) → n - 1 ≤ i → i < upto - 1 → bound_at bounds i ≡ bound_at (plan_bounds plan earlier) i
  pub between : AreBetween bounds (plan_bounds plan earlier) (plan_bounds plan gauges)
  pub room : length bounds ≡ length plan.nodes
