use Rattle.std.proofs.Common.{◌≡◌, nat_eq, map, take}
use Rattle.pm_values.specs.Keys.{once}
use Rattle.pm_names.specs.Sources.{place_in}
use Rattle.pm_names.proofs.sources.places.Given as goal

abbrev pub invariant-loop-source : goal.invariant-loop-source
invariant-loop-source l = l.places ≡ once nat_eq (map (place_in l.schema) (take l.source-index l.sources))
