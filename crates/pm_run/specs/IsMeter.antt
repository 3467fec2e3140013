-- what a run's meter knows after so many events
use Rattle.std.specs.Prelude.{◌≡◌, ◌≤◌, ◌^◌, ℕ, IfSome}
use Rattle.pm_plan.specs.declared.plan.Plan.{Plan}
use Rattle.pm_plan.specs.declared.gauge.Shown.{Shown}
use Rattle.pm_plan.specs.Rows.{Db}
use Rattle.pm_plan.specs.Preorder.{tree_of}
use Rattle.pm_work.specs.Moments.{gauges_at}
use Rattle.pm_work.specs.Work.{whole_work}
use Rattle.pm_estim.specs.Lists.{pipes_in}
use Rattle.pm_run.specs.IsBounding.{IsBounding}
use Rattle.pm_run.specs.Pace.{IsQuiet}
use Rattle.pm_run.specs.declared.meter.Meter.{Meter}

-- its pipelines and its bounds are the plan's, and no line is due from one event on before the one that it waits for
pub record IsMeter (plan : Plan) (db : Db) (taken from : ℕ) (meter : Meter) : Type 0 where
  pub pipes : meter.pipes ≡ pipes_in (tree_of plan.nodes)
  pub bounding : IsBounding plan (gauges_at db (tree_of plan.nodes) taken) meter.bounding
  pub every : IfSome meter.every (λ n. 1 ≤ n)
  pub quiet : IsQuiet meter.every (whole_work db (tree_of plan.nodes)) from meter.next

-- what is shown of the moment after so many events: at the last of them the upper bound is the whole work
pub record IsMoment (whole taken : ℕ) (shown : Shown) : Type 0 where
  pub work : shown.work ≡ taken
  pub counted : shown.work ≤ shown.lo
  pub below : shown.lo ≤ whole
  pub above : whole ≤ shown.hi
  pub last : taken ≡ whole → shown.hi ≡ whole
  pub limited : shown.hi ≤ 10 ^ 34
