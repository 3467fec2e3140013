use Rattle.std.proofs.Common.{◌∷◌, [], rules}
use Rattle.csv.specs.Reading.{strip_bom}
use Rattle.pm_tables.specs.HasRead.{HasRead}
use Rattle.pm_tables.specs.Reading.{FaultsFile, names_of}
use Rattle.pm_tables.proofs.Streamed.{table_few, table_fits, table_refused, table_written}
use Rattle.pm_tables.proofs.loading.typed.Goals as goal

pub returns-in_err-read_header-clause-refused : goal.returns-in_err-read_header-clause-refused
returns-in_err-read_header-clause-refused c =
    let fault : FaultsFile c.args.decl.now.columns c.args.bytes.now c.args.most c.in_err-read_header.field-0.0
    = rw (c.as_slice-columns.ensures, c.columns.ensures.value) at (c.in_err-read_header.ensures.refused c.args.most) in
    search (rules, fault)

pub returns-clause-typed : goal.returns-clause-typed
returns-clause-typed c =
    let go : HasRead (strip_bom c.args.bytes.now) (names_of c.args.decl.now.columns ∷ []) c.read_header.new.reader
    = rw (c.as_slice-columns.ensures, c.columns.ensures.value) at c.in_ok-read_header.ensures.read in
    table_written c.args.decl.now c.args.bytes.now c.args.most c.type_all.result c.in_ok-read_header.ensures.text
    (rw (c.as_slice-columns.ensures, c.columns.ensures.value) at (c.type_all.ensures.typed (strip_bom c.args.bytes.now) (names_of c.args.decl.now.columns) go))

pub returns-clause-refused : goal.returns-clause-refused
returns-clause-refused c =
    let go : HasRead (strip_bom c.args.bytes.now) (names_of c.args.decl.now.columns ∷ []) c.read_header.new.reader
    = rw (c.as_slice-columns.ensures, c.columns.ensures.value) at c.in_ok-read_header.ensures.read in
    table_refused c.args.decl.now c.args.bytes.now c.args.most c.type_all.result c.in_ok-read_header.ensures.text
    (rw (c.as_slice-columns.ensures, c.columns.ensures.value) at (c.type_all.ensures.refused (strip_bom c.args.bytes.now) (names_of c.args.decl.now.columns) go))

pub returns-clause-fit : goal.returns-clause-fit
returns-clause-fit c = table_fits c.args.decl.now c.args.bytes.now c.args.most c.type_all.result (returns-clause-typed c)

pub returns-clause-few : goal.returns-clause-few
returns-clause-few c = table_few c.args.decl.now c.args.bytes.now c.args.most c.type_all.result (returns-clause-typed c)
