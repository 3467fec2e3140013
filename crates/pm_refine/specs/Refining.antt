-- the gauges that a refiner stands for, and the events that it is brought up to date after
use Rattle.std.specs.Prelude.{◌≡◌, ℕ, List}
use Rattle.pm_plan.specs.declared.gauge.Gauge.{Gauge}
use Rattle.pm_plan.specs.declared.gauge.Bound.{Bound}
use Rattle.pm_plan.specs.declared.gauge.Whole.{Whole}
use Rattle.pm_plan.specs.declared.plan.Plan.{Plan}
use Rattle.pm_plan.specs.Rows.{Db}
use Rattle.pm_plan.specs.Preorder.{tree_of}
use Rattle.pm_work.specs.Moments.{Counts, gauge_in}
use Rattle.pm_bounds.specs.Bounds.{bounds_of, whole_of}
use Rattle.pm_bounds.specs.Enclosure.{IsNext}
use Rattle.pm_bounds.specs.Moment.{AreGaugesOf, AreGauges}
use Rattle.pm_refine.specs.Refined.{Refined}
use Rattle.pm_refine.specs.declared.refiner.Refiner.TheInside.{Inside}

abbrev pub refined_of : Inside → Refined
refined_of a = record { plan = a.plan.now; bounds = a.bounds.items; whole = a.whole }

-- the bounds and the sums are those of the plan at these gauges, which are those of a moment
pub record StandsFor (r : Refined) (gauges : List Gauge) : Type 0 where
  pub moment : AreGauges r.plan gauges
  pub bounds_are : r.bounds ≡ bounds_of (tree_of r.plan.nodes) 1 (gauge_in gauges)
  pub whole_is : r.whole ≡ whole_of (tree_of r.plan.nodes) (gauge_in gauges)

-- the gauges before and after one event of the node, over some database
pub record IsOneEvent (plan : Plan) (node : ℕ) (before after : List Gauge) : Type 0 where
  pub db : Db
  pub counts : Counts
  pub later : Counts
  pub earlier_gauges : AreGaugesOf db counts plan before
  pub later_gauges : AreGaugesOf db later plan after
  pub next : IsNext node counts later

-- it stands for gauges that one event of the node makes these ones
pub record IsBefore (r : Refined) (node : ℕ) (gauges : List Gauge) : Type 0 where
  pub before : List Gauge
  pub stands : StandsFor r before
  pub event : IsOneEvent r.plan node before gauges

abbrev pub bound_of_whole : Whole → Bound
bound_of_whole whole = record { lo = whole.lo; hi = whole.hi }
