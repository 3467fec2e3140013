use Rattle.std.proofs.Common.{◌+◌, ◌-◌, ◌*◌, length}
use Rattle.pm_plan.proofs.valid.+are_valid.Given as goal

abbrev pub decreases-are_valid : goal.decreases-are_valid
decreases-are_valid l = 2 * (length l.nodes.now + 1 - l.n) + 1

abbrev pub decreases-are_valid_below : goal.decreases-are_valid_below
decreases-are_valid_below l = 2 * (length l.nodes.now + 1 - l.n)
