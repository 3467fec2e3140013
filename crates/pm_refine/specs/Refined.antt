-- a refiner as contracts see it: its plan, a bound for each node in preorder, and the sums of these with the work done
use Rattle.std.specs.Prelude.{List}
use Rattle.pm_plan.specs.declared.gauge.Bound.{Bound}
use Rattle.pm_plan.specs.declared.gauge.Whole.{Whole}
use Rattle.pm_plan.specs.declared.plan.Plan.{Plan}

pub record Refined : Type 0 where
  pub plan : Plan
  pub bounds : List Bound
  pub whole : Whole
