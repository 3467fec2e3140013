use Rattle.std.proofs.Common.{◌∷◌, [], refl, rules}
use Rattle.csv.specs.Reading.{strip_bom}
use Rattle.pm_tables.specs.HasRead.{HasRead}
use Rattle.pm_tables.specs.Reading.{FaultsFile, names_of}
use Rattle.pm_tables.proofs.Files.{listed_of, refused_of}
use Rattle.pm_tables.proofs.reading.records.Goals as goal

pub returns-in_err-read_header-clause-refused : goal.returns-in_err-read_header-clause-refused
returns-in_err-read_header-clause-refused c =
    let fault : FaultsFile c.args.decl.now.columns c.args.bytes.now c.args.most c.in_err-read_header.field-0.0
    = rw (c.as_slice.ensures, c.columns.ensures.value) at (c.in_err-read_header.ensures.refused c.args.most) in
    search (rules, fault)

pub returns-clause-listed : goal.returns-clause-listed
returns-clause-listed c =
    let text = strip_bom c.args.bytes.now in
    let columns = c.args.decl.now.columns in
    let go : HasRead text (names_of columns ∷ []) c.read_header.new.reader = rw (c.as_slice.ensures, c.columns.ensures.value) at c.in_ok-read_header.ensures.read in
    listed_of columns c.args.bytes.now c.args.most (names_of columns) c.collect_records.result (c.collect_records.ensures.listed text (names_of columns) go) c.in_ok-read_header.ensures.text refl

pub returns-clause-refused : goal.returns-clause-refused
returns-clause-refused c =
    let text = strip_bom c.args.bytes.now in
    let columns = c.args.decl.now.columns in
    let go : HasRead text (names_of columns ∷ []) c.read_header.new.reader = rw (c.as_slice.ensures, c.columns.ensures.value) at c.in_ok-read_header.ensures.read in
    refused_of columns c.args.bytes.now c.args.most (names_of columns) c.collect_records.result (c.collect_records.ensures.refused text (names_of columns) go) c.in_ok-read_header.ensures.text refl
