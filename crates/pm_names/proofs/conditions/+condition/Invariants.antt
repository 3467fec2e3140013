use Rattle.std.proofs.Common.{◌≡◌, map, take}
use Rattle.pm_names.specs.Conditions.{cond_of}
use Rattle.pm_names.proofs.conditions.+condition.Given as goal

abbrev pub invariant-conditions-tests : goal.invariant-conditions-tests
invariant-conditions-tests l = l.conds ≡ map (cond_of l.known l.shape) (take l.test-index l.tests)
