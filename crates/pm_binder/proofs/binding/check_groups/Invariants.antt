use Rattle.std.proofs.Common.{◌≡◌, [], take}
use Rattle.std.specs.List.{flat_map}
use Rattle.pm_names.specs.Names.{name_breaches}
use Rattle.pm_binder.proofs.binding.check_groups.Given as goal

abbrev pub invariant-loop-name : goal.invariant-loop-name
invariant-loop-name l = flat_map (name_breaches l.known) (take l.name-index l.groups) ≡ []
