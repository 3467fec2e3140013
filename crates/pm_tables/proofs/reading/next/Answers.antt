use Rattle.csv.specs.Records.{fields_of}
use Rattle.pm_tables.proofs.HasRead.{read_on, text_on}
use Rattle.pm_tables.proofs.TextRecords.{failed_read}
use Rattle.pm_tables.proofs.reading.next.Goals as goal

pub returns-in-Ok-clause-found : goal.returns-in-Ok-clause-found
returns-in-Ok-clause-found c = λ text rows h.
    read_on text rows c.args.reader.now c.read_record.new.self c.in-Ok.found (fields_of c.read_record.new.row) h
    c.in-Ok.ensures.reads c.in-Ok.ensures.ready c.in-Ok.ensures.flexible

pub returns-in-Ok-clause-text : goal.returns-in-Ok-clause-text
returns-in-Ok-clause-text c =
    let t = c.requires in
    text_on t.0 t.1 c.read_record.new.self c.in-Ok.found (fields_of c.read_record.new.row) t.2
    (read_on t.0 t.1 c.args.reader.now c.read_record.new.self c.in-Ok.found (fields_of c.read_record.new.row) t.3
    c.in-Ok.ensures.reads c.in-Ok.ensures.ready c.in-Ok.ensures.flexible)

pub failed-requires : goal.failed-requires
failed-requires c = failed_read c.args.reader.now c.read_record.new.self c.in-Err.error c.requires c.in-Err.ensures.why
