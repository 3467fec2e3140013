use Rattle.std.proofs.Common.{◌≡◌, ◌++◌, take}
use Rattle.std.specs.List.{flat_map}
use Rattle.pm_binder.specs.Conjuncts.{test_conjuncts}
use Rattle.pm_binder.proofs.conjuncts.+push_test.Given as goal

abbrev pub invariant-push_members-members : goal.invariant-push_members-members
invariant-push_members-members l = l.conjuncts ≡ l.initial.conjuncts ++ flat_map (test_conjuncts l.known l.on) (take l.member-index l.members)
