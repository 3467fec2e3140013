use Rattle.std.proofs.Common.{◌≡◌, take}
use Rattle.pm_values.specs.declared.value.Value.TheVariants as value
use Rattle.pm_values.specs.Row.{pick}
use Rattle.pm_work.proofs.evaluation.rows.picked.Given as goal

abbrev pub invariant-loop-column : goal.invariant-loop-column
invariant-loop-column l = (l.values ≡ pick (take l.column-index l.columns) l.row) × (l.null ≡ value.Null)
