use Rattle.std.proofs.Common.{◌+◌, ◌-◌, length}
use Rattle.pm_bounds.proofs.first_bounds.+first_of.Given as goal

abbrev pub decreases-first_of : goal.decreases-first_of
decreases-first_of l = length l.nodes.now + 1 - l.n
