use Rattle.std.proofs.Common.{◌∙◌, map, ap, Ok, Err, subst}
use Rattle.std.specs.Prelude.{IfSome}
use Rattle.pm_io.specs.Counts.{Rose}
use Rattle.pm_query.specs.declared.query.QueryTable.{QueryTable}
use Rattle.pm_requests.specs.Texts.{Then}
use Rattle.pm_requests.specs.Tables.{TablesGive}
use Rattle.pm_requests.specs.References.{Completes}
use Rattle.pm_requests.specs.Calls.{Asks, IfAnswered}
use Rattle.pm_requests.specs.Stops.{Reaches}
use Rattle.pm_requests.proofs.Stages.{told_first, told_next, told_any, data_stops_if}
use Rattle.pm_requests.proofs.loading.load_all.Goals as goal

pub completed-requires-clause-declared : goal.completed-requires-clause-declared
completed-requires-clause-declared g c = c.in-Ok.ensures.declared ∙ ap (map (λ (t : QueryTable). t.decl)) c.as_slice.ensures

pub returns-in-Ok-clause-called : goal.returns-in-Ok-clause-called
returns-in-Ok-clause-called g c =
    let told = g.F.Files.held c.args.files.now in
    let query = c.in_ok-query.query in
    told_next told (λ held. Asks held c.args.schema.now c.args.query.now) (λ held query. Then (TablesGive held query.tables) (Completes query)) query c.completed.result c.in_ok-query.ensures.called
    (told_next told (λ held. TablesGive held query.tables) (λ held. Completes query) c.in-Ok.db c.completed.result
    (rw c.as_slice.ensures at (subst (λ told. IfSome told (λ held. TablesGive held c.as_slice.result.now (Ok c.in-Ok.db))) c.in_ok-query.ensures.held c.in-Ok.ensures.called))
    (told_any told (IfAnswered (Completes query c.in-Ok.db) c.completed.result) c.completed.ensures.called))

pub returns-in-Ok-clause-stops : goal.returns-in-Ok-clause-stops
returns-in-Ok-clause-stops g c =
    let files = c.load_tables.new.files in
    data_stops_if (Reaches (g.F.Files.held c.args.files.now) c.args.schema.now c.args.query.now) (g.F.Files.last files) (g.F.Files.stand files)
    (Rose (g.F.Files.absences c.args.files.now) (g.F.Files.absences files)) (Rose (g.F.Files.faults c.args.files.now) (g.F.Files.faults files)) c.completed.result c.completed.ensures.own

pub returns-in-Err-clause-called : goal.returns-in-Err-clause-called
returns-in-Err-clause-called g c =
    let told = g.F.Files.held c.args.files.now in
    let query = c.in_ok-query.query in
    told_next told (λ held. Asks held c.args.schema.now c.args.query.now) (λ held query. Then (TablesGive held query.tables) (Completes query)) query (Err c.in-Err.refusal) c.in_ok-query.ensures.called
    (told_first told (λ held. TablesGive held query.tables) (λ held. Completes query) c.in-Err.refusal
    (rw c.as_slice.ensures at (subst (λ told. IfSome told (λ held. IfAnswered (TablesGive held c.as_slice.result.now) (Err c.in-Err.refusal))) c.in_ok-query.ensures.held c.in-Err.ensures.called)))
