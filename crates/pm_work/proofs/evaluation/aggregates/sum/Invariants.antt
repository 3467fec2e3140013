use Rattle.std.proofs.Common.{◌≡◌, ◌≤◌, ◌-◌, drop, length}
use Rattle.pm_values.specs.declared.value.Value.TheVariants as value
use Rattle.pm_plan.specs.Grouping.{column_values, folded, plus}
use Rattle.pm_work.proofs.Adding.{SumWithin}
use Rattle.pm_work.proofs.evaluation.aggregates.sum.Given as goal

abbrev pub invariant-loop-left : goal.invariant-loop-left
invariant-loop-left l =
    (l.found ≡ folded plus (column_values l.column (drop l.left l.rows)))
    × (l.left ≤ length l.rows)
    × (l.null ≡ value.Null)
    × SumWithin (length l.rows - l.left) l.found

abbrev pub decreases-loop-left : goal.decreases-loop-left
decreases-loop-left l = l.left
