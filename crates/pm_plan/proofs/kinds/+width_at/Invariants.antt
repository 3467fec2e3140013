use Rattle.std.proofs.Common.{◌+◌, ◌-◌, length}
use Rattle.pm_plan.proofs.kinds.+width_at.Given as goal

abbrev pub decreases-width_at : goal.decreases-width_at
decreases-width_at l = length l.nodes.now + 1 - l.n
