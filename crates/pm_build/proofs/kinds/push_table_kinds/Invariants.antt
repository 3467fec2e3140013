use Rattle.std.proofs.Common.{◌≡◌, ◌++◌, map, take}
use Rattle.pm_build.proofs.kinds.push_table_kinds.Given as goal

abbrev pub invariant-loop-column : goal.invariant-loop-column
invariant-loop-column l = l.kinds ≡ l.fn.kinds ++ map (λ column. column.kind) (take l.column-index l.column-items)
