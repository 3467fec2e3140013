use Rattle.std.proofs.Common.{arith}
use Rattle.pm_build.proofs.Grouped.{positions_more}
use Rattle.pm_build.proofs.groups.positions.Goals as goal

pub loop-i-preserved : goal.loop-i-preserved
loop-i-preserved c = positions_more c.args.outputs.now c.loop-i.made _ c.loop-i.i (omega arith) c.loop-i.invariant c.in_ok-push.ensures.ok
