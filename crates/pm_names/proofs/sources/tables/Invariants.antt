use Rattle.std.proofs.Common.{◌≡◌, take}
use Rattle.pm_names.specs.Sources.{tables_at}
use Rattle.pm_names.proofs.sources.tables.Given as goal

abbrev pub invariant-loop-place : goal.invariant-loop-place
invariant-loop-place l = l.tables ≡ tables_at l.schema (take l.place-index l.places)
