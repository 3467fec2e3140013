use Rattle.std.proofs.Common.{◌+◌, ◌-◌, length}
use Rattle.pm_plan.proofs.numbering.+subtree_end.Given as goal

abbrev pub decreases-subtree_end : goal.decreases-subtree_end
decreases-subtree_end l = length l.nodes.now + 1 - l.n
