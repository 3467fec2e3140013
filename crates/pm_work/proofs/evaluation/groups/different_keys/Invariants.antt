use Rattle.std.proofs.Common.{◌≡◌, ◌≤◌, drop, length}
use Rattle.pm_plan.specs.Grouping.{group_keys}
use Rattle.pm_work.proofs.evaluation.groups.different_keys.Given as goal

abbrev pub invariant-loop-left : goal.invariant-loop-left
invariant-loop-left l = (l.found.items ≡ group_keys l.keys (drop l.left l.rows)) × (l.left ≤ length l.rows)

abbrev pub decreases-loop-left : goal.decreases-loop-left
decreases-loop-left l = l.left
