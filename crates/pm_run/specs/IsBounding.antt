-- the bounds that a run keeps
use Rattle.std.specs.Prelude.{◌≡◌, ℕ, List, length}
use Rattle.pm_plan.specs.declared.gauge.Gauge.{Gauge}
use Rattle.pm_plan.specs.declared.gauge.Bound.{Bound}
use Rattle.pm_plan.specs.declared.plan.Plan.{Plan}
use Rattle.pm_refine.specs.Refining.{StandsFor, IsOneEvent}
use Rattle.pm_run.specs.declared.bounding.Bounding.{Bounding}
use Rattle.pm_run.specs.declared.bounding.Bounding.TheVariants as bounding

-- they can be told at these gauges of the plan: refined bounds are those of the gauges, and a list has room for a bound of each node
abbrev pub IsBounding : Plan → List Gauge → Bounding → Type 0
IsBounding plan gauges (bounding.Refined refiner) = (refiner.plan ≡ plan) × StandsFor refiner gauges
IsBounding plan gauges (bounding.Computed bounds) = length bounds.items ≡ length plan.nodes

-- they could be told at the gauges that one event of the node made these ones
pub record IsBoundingBefore (plan : Plan) (node : ℕ) (gauges : List Gauge) (bounds : Bounding) : Type 0 where
  pub before : List Gauge
  pub bounding : IsBounding plan before bounds
  pub event : IsOneEvent plan node before gauges

-- the bounds that stand there
abbrev pub bounds_in : Bounding → List Bound
bounds_in (bounding.Refined refiner) = refiner.bounds
bounds_in (bounding.Computed bounds) = bounds.items
