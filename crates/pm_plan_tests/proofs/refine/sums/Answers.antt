use Rattle.pm_refine.proofs.Example.{are_gauges}
use Rattle.pm_plan_tests.proofs.refine.sums.Goals as goal

pub new-requires : goal.new-requires
new-requires c = rw (c.gauge.ensures, c.gauge-2.ensures, c.gauge-3.ensures) (are_gauges c.in_ok-plan.plan c.in_ok-plan.ensures 0)
