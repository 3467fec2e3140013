use Rattle.std.proofs.Common.{sym}
use Rattle.csv.specs.Records.{fields_of}
use Rattle.csv.proofs.RecordFacts.{field-get}
use Rattle.pm_tables.proofs.Cuts.{field_there}
use Rattle.pm_tables.proofs.typing.field_at.Goals as goal

pub unreachable-requires : goal.unreachable-requires
unreachable-requires c =
    let there = field_there (fields_of c.args.fields.now) c.args.at c.requires in
    let none = c.in-None.ensures.value in
    cc

pub returns : goal.returns
returns c = sym (field-get (fields_of c.args.fields.now) c.args.at c.in-Some.field.now (sym c.in-Some.ensures.value))
