use Rattle.std.proofs.Common.{◌≡◌, [], take}
use Rattle.pm_names.specs.Breaches.{each_from}
use Rattle.pm_binder.specs.Conjuncts.{later_breaches}
use Rattle.pm_binder.proofs.joins.check_joins.Given as goal

abbrev pub invariant-sources : goal.invariant-sources
invariant-sources l = each_from (later_breaches l.schema l.sources l.conjuncts) 0 (take l.i l.sources) ≡ []
