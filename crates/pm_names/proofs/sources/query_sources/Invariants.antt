use Rattle.std.proofs.Common.{◌≡◌, map, take}
use Rattle.pm_names.specs.Sources.{query_source}
use Rattle.pm_names.proofs.sources.query_sources.Given as goal

abbrev pub invariant-loop-source : goal.invariant-loop-source
invariant-loop-source l = l.made ≡ map (query_source l.schema l.places) (take l.source-index l.sources)
