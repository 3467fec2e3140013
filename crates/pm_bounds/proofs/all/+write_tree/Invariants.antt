use Rattle.std.proofs.Common.{◌+◌, ◌-◌, length}
use Rattle.pm_bounds.proofs.all.+write_tree.Given as goal

abbrev pub decreases-write_tree : goal.decreases-write_tree
decreases-write_tree l = length l.plan.now.nodes + 1 - l.n
