use Rattle.std.proofs.Common.{◌≡◌, drop}
use Rattle.pm_values.specs.Equality.{same_key}
use Rattle.pm_values.proofs.key.same_key.Given as goal

abbrev pub invariant-loop-at : goal.invariant-loop-at
invariant-loop-at g l = same_key (drop l.at (g.A.Cells.cells l.a)) (drop l.at (g.B.Cells.cells l.b)) ≡ same_key (g.A.Cells.cells l.a) (g.B.Cells.cells l.b)
