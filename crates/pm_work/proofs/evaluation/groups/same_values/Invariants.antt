use Rattle.std.proofs.Common.{◌≡◌, length, drop}
use Rattle.pm_values.specs.Equality.{same_values}
use Rattle.pm_work.proofs.evaluation.groups.same_values.Given as goal

abbrev pub invariant-loop-x : goal.invariant-loop-x
invariant-loop-x l = same_values (drop (length l.yielded) l.a) (drop (length l.yielded) l.b) ≡ same_values l.a l.b
