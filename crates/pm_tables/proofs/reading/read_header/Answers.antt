use Rattle.std.proofs.Common.{◌∷◌, [], refl}
use Rattle.csv.specs.Reading.{strip_bom}
use Rattle.csv.specs.Records.{fields_of}
use Rattle.pm_tables.specs.HasRead.{HasRead}
use Rattle.pm_tables.proofs.AllRecords.{all_start}
use Rattle.pm_tables.proofs.TextRecords.{strip_text}
use Rattle.pm_tables.proofs.reading.read_header.Goals as goal

pub next-requires : goal.next-requires
next-requires c = (strip_bom c.args.bytes.now, [], strip_text c.args.bytes.now c.in_default.ensures.cases.1, c.requires.start)

pub returns-then-not-branch-clause-refused : goal.returns-then-not-branch-clause-refused
returns-then-not-branch-clause-refused c = λ most.
    (c.in_default.ensures.cases.1, rw c.if-not-branch.true at (c.in_ok-next.ensures.found (strip_bom c.args.bytes.now) [] c.requires.start))

pub returns-in-Some-clause-refused : goal.returns-in-Some-clause-refused
returns-in-Some-clause-refused c = λ most.
    let text = strip_bom c.args.bytes.now in
    let header = fields_of c.next.new.current in
    let go : HasRead text (header ∷ []) c.next.new.reader = rw c.if-not-branch.false at (c.in_ok-next.ensures.found text [] c.requires.start) in
    let all = all_start text (header ∷ []) c.next.new.reader.state go.rest go.reached in
    (c.in_default.ensures.cases.1, header, all.0, all.1, c.in-Some.position, refl, c.in-Some.ensures.1)
