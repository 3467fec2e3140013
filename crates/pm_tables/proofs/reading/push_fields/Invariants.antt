use Rattle.std.proofs.Common.{◌≡◌, ◌++◌, take}
use Rattle.csv.specs.Records.{fields_of}
use Rattle.pm_tables.proofs.reading.push_fields.Given as goal

abbrev pub invariant-loop-position : goal.invariant-loop-position
invariant-loop-position l = fields_of l.fields ≡ fields_of l.fn.fields ++ take l.position (fields_of l.added)
