use Rattle.std.proofs.Common.{◌≡◌, drop}
use Rattle.pm_values.specs.Equality.{same_values}
use Rattle.pm_keys.proofs.keys.same_values.Given as goal

abbrev pub invariant-loop-at : goal.invariant-loop-at
invariant-loop-at g l = same_values (drop l.at (g.A.Cells.cells l.a)) (drop l.at (g.B.Cells.cells l.b)) ≡ same_values (g.A.Cells.cells l.a) (g.B.Cells.cells l.b)
