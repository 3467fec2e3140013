use Rattle.std.proofs.Common.{◌≡◌, take}
use Rattle.csv.specs.Records.{fields_of}
use Rattle.pm_tables.specs.Reading.{names_of}
use Rattle.pm_tables.proofs.reading.first_difference.Given as goal

abbrev pub invariant-loop-position : goal.invariant-loop-position
invariant-loop-position l = take l.position (fields_of l.header) ≡ take l.position (names_of l.columns)
