use Rattle.std.proofs.Common.{◌≡◌, ◌++◌, take}
use Rattle.pm_keys.proofs.own.append_copies.Given as goal

abbrev pub invariant-loop-at : goal.invariant-loop-at
invariant-loop-at g l = l.values.items ≡ l.initial.values.items ++ take l.at (g.C.Cells.cells l.key)
