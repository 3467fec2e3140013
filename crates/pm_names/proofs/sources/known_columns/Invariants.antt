use Rattle.std.proofs.Common.{◌≡◌, ◌≤◌, ◌*◌, length, take}
use Rattle.pm_names.specs.Sources.{known_columns}
use Rattle.pm_names.proofs.sources.known_columns.Given as goal

abbrev pub invariant-loop-source : goal.invariant-loop-source
invariant-loop-source l = record { value : l.known ≡ known_columns l.schema (take l.source-index l.sources); narrow : length l.known ≤ 64 * l.source-index }
