use Rattle.std.proofs.Common.{◌+◌, ◌-◌, length}
use Rattle.pm_plan.proofs.shape.+leftmost_table.Given as goal

abbrev pub decreases-leftmost_table : goal.decreases-leftmost_table
decreases-leftmost_table l = length l.nodes.now + 1 - l.n
