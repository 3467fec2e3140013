use Rattle.std.proofs.Common.{◌≡◌, [], take}
use Rattle.std.specs.List.{flat_map}
use Rattle.pm_binder.specs.Grouping.{ungrouped}
use Rattle.pm_binder.proofs.grouping.check_terms.Given as goal

abbrev pub invariant-loop-placed : goal.invariant-loop-placed
invariant-loop-placed l = flat_map (ungrouped l.keys) (take l.placed-index l.terms) ≡ []
