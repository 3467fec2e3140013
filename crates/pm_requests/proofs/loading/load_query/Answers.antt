use Rattle.std.proofs.Common.{Ok, subst}
use Rattle.std.specs.Prelude.{IfSome}
use Rattle.pm_io.specs.Counts.{Rose}
use Rattle.pm_requests.specs.Texts.{Then}
use Rattle.pm_requests.specs.Files.{SchemaFile, QueryFile, Binds}
use Rattle.pm_requests.specs.Calls.{IfAnswered}
use Rattle.pm_requests.specs.Stops.{Reaches}
use Rattle.pm_requests.proofs.Bound.{asked_if}
use Rattle.pm_requests.proofs.Stages.{told_next, told_any, data_stops_if}
use Rattle.pm_requests.proofs.loading.load_query.Goals as goal

pub returns-clause-asked : goal.returns-clause-asked
returns-clause-asked g c =
    asked_if c.in_ok-decls.decls c.in_ok-select.select c.bind_select.result c.in_ok-decls.ensures.declared c.in_ok-select.ensures.read c.bind_select.ensures.called

pub returns-clause-called : goal.returns-clause-called
returns-clause-called g c =
    let told = g.F.Files.held c.args.files.now in
    let decls = c.in_ok-decls.decls in
    let select = c.in_ok-select.select in
    told_next told (λ held. SchemaFile held c.args.schema.now) (λ held decls. Then (QueryFile held c.args.query.now) (Binds decls)) decls c.bind_select.result c.in_ok-decls.ensures.called
    (told_next told (λ held. QueryFile held c.args.query.now) (λ held. Binds decls) select c.bind_select.result
    (subst (λ told. IfSome told (λ held. QueryFile held c.args.query.now (Ok select))) c.in_ok-decls.ensures.held c.in_ok-select.ensures.called)
    (told_any told (IfAnswered (Binds decls select) c.bind_select.result) c.bind_select.ensures.called))

pub returns-clause-stops : goal.returns-clause-stops
returns-clause-stops g c =
    let files = c.load_select.new.files in
    data_stops_if (Reaches (g.F.Files.held c.args.files.now) c.args.schema.now c.args.query.now) (g.F.Files.last files) (g.F.Files.stand files)
    (Rose (g.F.Files.absences c.args.files.now) (g.F.Files.absences files)) (Rose (g.F.Files.faults c.args.files.now) (g.F.Files.faults files)) c.bind_select.result c.bind_select.ensures.own
