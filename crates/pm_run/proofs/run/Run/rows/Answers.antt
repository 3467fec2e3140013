use Rattle.std.proofs.Common.{length, ap, arith}
use Rattle.pm_plan.specs.Preorder.{tree_of}
use Rattle.pm_run.proofs.Turns.{root-handed, some-gauge}
use Rattle.pm_run.proofs.run.Run.rows.Goals as goal

pub bounds-gauges-0 : goal.bounds-gauges-0
bounds-gauges-0 c =
    let e = c.self.inside.exec in
    omega (arith, ap length c.gauges.ensures.gauges, some-gauge e.db (tree_of e.plan.nodes) e.taken)

pub returns : goal.returns
returns c =
    let e = c.self.inside.exec in
    rw (← c.self.view_is) (root-handed e.db (tree_of e.plan.nodes) e.taken c.gauges.result.now _ c.gauges.ensures.gauges)
