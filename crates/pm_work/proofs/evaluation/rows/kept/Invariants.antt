use Rattle.std.proofs.Common.{◌≡◌, take}
use Rattle.std.specs.List.{filter}
use Rattle.pm_values.specs.Condition.{keeps}
use Rattle.pm_work.proofs.evaluation.rows.kept.Given as goal

abbrev pub invariant-loop-row : goal.invariant-loop-row
invariant-loop-row l = l.kept.items ≡ filter (keeps l.cond) (take l.row-index l.rows)
