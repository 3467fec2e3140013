use Rattle.std.proofs.Common.{◌≡◌, take}
use Rattle.std.specs.List.{filter}
use Rattle.pm_values.specs.Row.{pick}
use Rattle.pm_values.specs.Equality.{same_values}
use Rattle.pm_work.proofs.evaluation.groups.members.Given as goal

abbrev pub invariant-loop-row : goal.invariant-loop-row
invariant-loop-row l = l.own.items ≡ filter (λ row. same_values l.key (pick l.keys row)) (take l.row-index l.rows)
