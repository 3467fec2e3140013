use Rattle.std.proofs.Common.{◌+◌, ◌-◌, length}
use Rattle.pm_plan.proofs.uniqueness.+is_unique_at.Given as goal

abbrev pub decreases-is_unique_at : goal.decreases-is_unique_at
decreases-is_unique_at l = length l.nodes.now + 1 - l.n
