use Rattle.std.proofs.Common.{◌≡◌, ◌≤◌, take, length, not}
use Rattle.std.specs.List.{filter}
use Rattle.pm_values.specs.declared.value.Value.TheVariants as value
use Rattle.pm_values.specs.Equality.{is_null}
use Rattle.pm_plan.specs.Grouping.{column_values}
use Rattle.pm_work.proofs.evaluation.aggregates.count_values.Given as goal

abbrev pub invariant-loop-row : goal.invariant-loop-row
invariant-loop-row l =
    (l.count ≡ length (filter (λ v. not (is_null v)) (column_values l.column (take l.row-index l.rows))))
    × (l.count ≤ l.row-index)
    × (l.null ≡ value.Null)
