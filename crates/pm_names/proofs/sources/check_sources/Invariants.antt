use Rattle.std.proofs.Common.{◌≡◌, [], take}
use Rattle.pm_names.specs.Breaches.{each_from}
use Rattle.pm_names.specs.Sources.{source_breaches}
use Rattle.pm_names.proofs.sources.check_sources.Given as goal

abbrev pub invariant-sources : goal.invariant-sources
invariant-sources l = each_from (source_breaches l.schema l.sources) 0 (take l.i l.sources) ≡ []
