use Rattle.std.proofs.Common.{◌<◌, ◌∙◌, length, arith}
use Rattle.pm_requests.specs.declared.refusal.Role.TheVariants as role
use Rattle.pm_requests.specs.Stops.{IsFileOf, IsTableFile}
use Rattle.pm_requests.proofs.Loaded.{loaded_more, turn_of, turn_refused, table_file, declared_more}
use Rattle.pm_requests.proofs.Stages.{stop_moved}
use Rattle.pm_requests.proofs.tables.load_tables.Goals as goal

pub returns-in-Err-clause-called : goal.returns-in-Err-clause-called
returns-in-Err-clause-called g c =
    let told = g.F.Files.held c.args.files.now in
    let turn = turn_of told c.args.tables.now c.loop-table.table-index c.table-item.result c.loop-table.db (omega arith) c.table-item.is c.loop-table.invariant.loaded in
    turn_refused told c.args.tables.now c.table-item.result c.in-Err.refusal turn (rw c.loop-table.invariant.held at c.in-Err.ensures.called)

pub returns-in-Err-clause-stops : goal.returns-in-Err-clause-stops
returns-in-Err-clause-stops g c =
    let told = g.F.Files.held c.args.files.now in
    let table = c.table-item.result in
    let turn = turn_of told c.args.tables.now c.loop-table.table-index table c.loop-table.db (omega arith) c.table-item.is c.loop-table.invariant.loaded in
    stop_moved (IsFileOf (role.Table table.place) table.decl.file) (IsTableFile told c.args.tables.now) _ _ _ _ _ _ _ _
    c.loop-table.invariant.absences c.loop-table.invariant.faults (table_file told c.args.tables.now table turn) c.in-Err.refusal c.in-Err.ensures.stops

pub loop-table-preserved : goal.loop-table-preserved
loop-table-preserved g c =
    let told = g.F.Files.held c.args.files.now in
    let tables = c.args.tables.now in
    let i = c.loop-table.table-index in
    let within : i < length tables = omega arith in
    record {
      held = c.load_table.ensures.held ∙ c.loop-table.invariant.held;
      faults = omega arith;
      absences = omega arith;
      declared = rw c.in_ok-push-in-Ok.ensures.ok (declared_more tables i c.table-item.result c.loop-table.db c.in-Ok.loaded within c.table-item.is c.loop-table.invariant.declared c.in-Ok.ensures.declared);
      loaded = rw c.in_ok-push-in-Ok.ensures.ok (loaded_more told tables i c.table-item.result c.loop-table.db c.in-Ok.loaded within c.table-item.is c.loop-table.invariant.loaded (rw c.loop-table.invariant.held at c.in-Ok.ensures.called));
    }
