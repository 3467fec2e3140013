use Rattle.std.proofs.Common.{◌≡◌, map, take}
use Rattle.pm_plan.specs.Kinds.{kind_at}
use Rattle.pm_build.proofs.kinds.kinds_of_columns.Given as goal

abbrev pub invariant-loop-column : goal.invariant-loop-column
invariant-loop-column l = l.chosen ≡ map (kind_at l.kinds) (take l.column-index l.columns)
