use Rattle.std.proofs.Common.{◌+◌, ◌-◌, length}
use Rattle.pm_refine.proofs.refresh.+refresh.Given as goal

abbrev pub decreases-refresh : goal.decreases-refresh
decreases-refresh l = length l.plan.now.nodes + 1 - l.n
