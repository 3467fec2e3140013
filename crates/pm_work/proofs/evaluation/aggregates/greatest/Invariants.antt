use Rattle.std.proofs.Common.{◌≡◌, ◌≤◌, drop, length}
use Rattle.pm_plan.specs.Grouping.{column_values, folded, greater}
use Rattle.pm_work.proofs.evaluation.aggregates.greatest.Given as goal

abbrev pub invariant-loop-left : goal.invariant-loop-left
invariant-loop-left l = (l.found ≡ folded greater (column_values l.column (drop l.left l.rows))) × (l.left ≤ length l.rows)

abbrev pub decreases-loop-left : goal.decreases-loop-left
decreases-loop-left l = l.left
