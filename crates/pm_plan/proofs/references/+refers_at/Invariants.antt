use Rattle.std.proofs.Common.{◌+◌, ◌-◌, length}
use Rattle.pm_plan.proofs.references.+refers_at.Given as goal

abbrev pub decreases-refers_at : goal.decreases-refers_at
decreases-refers_at l = length l.nodes.now + 1 - l.n
