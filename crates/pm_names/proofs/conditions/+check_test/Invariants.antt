use Rattle.std.proofs.Common.{◌≡◌, [], take}
use Rattle.std.specs.List.{flat_map}
use Rattle.pm_names.specs.Kinds.{test_breaches}
use Rattle.pm_names.proofs.conditions.+check_test.Given as goal

abbrev pub invariant-check_members-members : goal.invariant-check_members-members
invariant-check_members-members l = flat_map (test_breaches l.known) (take l.member-index l.members) ≡ []
