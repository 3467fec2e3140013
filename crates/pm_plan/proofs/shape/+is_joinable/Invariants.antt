use Rattle.std.proofs.Common.{◌+◌, ◌-◌, length}
use Rattle.pm_plan.proofs.shape.+is_joinable.Given as goal

abbrev pub decreases-is_joinable : goal.decreases-is_joinable
decreases-is_joinable l = length l.nodes.now + 1 - l.n
