use Rattle.std.proofs.Common.{◌≡◌, take}
use Rattle.pm_names.specs.Breaches.{each_from}
use Rattle.pm_binder.specs.Conjuncts.{on_conjuncts}
use Rattle.pm_binder.proofs.conjuncts.conjuncts.Given as goal

abbrev pub invariant-sources : goal.invariant-sources
invariant-sources l = l.conjuncts ≡ each_from (on_conjuncts l.schema l.sources) 0 (take l.i l.sources)
