use Rattle.pm_tables.specs.declared.fault.DataBad.TheVariants as bad
use Rattle.pm_requests.specs.declared.refusal.Refusal.TheVariants as refusal
use Rattle.pm_requests.specs.declared.refusal.Role.TheVariants as role
use Rattle.pm_requests.specs.Files.{TableGives, table_limit}
use Rattle.pm_requests.proofs.Stages.{told_read_so}
use Rattle.pm_requests.proofs.tables.load_table.Goals as goal

pub returns-in-Some-clause-called : goal.returns-in-Some-clause-called
returns-in-Some-clause-called g c =
    let table = c.args.table.now in
    told_read_so (g.F.Files.held c.args.files.now) (role.Table table.place) table.decl.file table_limit (refusal.Table table.place table.decl.name bad.TooLong) (TableGives table) c.in-Some.bytes.items c.table_of.result
    (rw (c.file.ensures, c.in-Some.is) at c.in_ok-bytes.ensures.read) (rw c.as_slice.ensures.value at c.table_of.ensures.called)
