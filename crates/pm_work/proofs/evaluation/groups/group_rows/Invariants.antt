use Rattle.std.proofs.Common.{◌≡◌, take, map}
use Rattle.pm_plan.specs.Grouping.{group_row}
use Rattle.pm_work.proofs.evaluation.groups.group_rows.Given as goal

abbrev pub invariant-loop-key : goal.invariant-loop-key
invariant-loop-key l = l.groups.items ≡ map (group_row l.keys l.items l.rows) (take l.key-index l.found)
