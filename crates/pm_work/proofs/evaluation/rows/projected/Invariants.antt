use Rattle.std.proofs.Common.{◌≡◌, take, map}
use Rattle.pm_values.specs.Row.{pick}
use Rattle.pm_work.proofs.evaluation.rows.projected.Given as goal

abbrev pub invariant-loop-row : goal.invariant-loop-row
invariant-loop-row l = l.chosen.items ≡ map (pick l.columns) (take l.row-index l.rows)
