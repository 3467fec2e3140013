use Rattle.std.proofs.Common.{slice_range, take}
use Rattle.csv.specs.Records.{fields_of}
use Rattle.pm_tables.specs.Typing.{WritesRow}
use Rattle.pm_tables.proofs.typing.type_row.Given as goal

abbrev pub invariant-loop-position : goal.invariant-loop-position
invariant-loop-position l = WritesRow (take l.position l.columns) (take l.position (slice_range (fields_of l.fields) l.start l.end)) l.values.items
