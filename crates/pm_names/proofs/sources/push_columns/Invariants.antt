use Rattle.std.proofs.Common.{◌≡◌, ◌++◌, map, take}
use Rattle.pm_names.specs.Sources.{known_column}
use Rattle.pm_names.proofs.sources.push_columns.Given as goal

abbrev pub invariant-loop-column : goal.invariant-loop-column
invariant-loop-column l = l.known ≡ l.initial.known ++ map (known_column l.alias.text) (take l.column-index l.columns)
