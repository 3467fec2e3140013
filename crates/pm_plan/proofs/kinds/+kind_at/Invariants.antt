use Rattle.std.proofs.Common.{◌+◌, ◌-◌, length}
use Rattle.pm_plan.proofs.kinds.+kind_at.Given as goal

abbrev pub decreases-kind_at : goal.decreases-kind_at
decreases-kind_at l = length l.nodes.now + 1 - l.n
