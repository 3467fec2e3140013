use Rattle.std.proofs.Common.{◌≡◌, map, take}
use Rattle.pm_binder.proofs.selection.column_heads.Given as goal

abbrev pub invariant-loop-column : goal.invariant-loop-column
invariant-loop-column l = l.heads ≡ map (λ column. column.name) (take l.column-index l.known)
