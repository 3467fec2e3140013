use Rattle.std.proofs.Common.{◌≡◌, [], take}
use Rattle.pm_names.specs.Breaches.{each_from}
use Rattle.pm_binder.specs.Bound.{on_breaches}
use Rattle.pm_binder.proofs.binding.check_ons.Given as goal

abbrev pub invariant-sources : goal.invariant-sources
invariant-sources l = each_from (on_breaches l.schema l.sources) 0 (take l.i l.sources) ≡ []
