use Rattle.std.proofs.Common.{Some, subst}
use Rattle.std.specs.Prelude.{IfErr}
use Rattle.pm_io.specs.MemState.{MemState, held_of}
use Rattle.pm_requests.specs.Stops.{IfFile, Reaches}
use Rattle.pm_commands.specs.Calls.{Asks}
use Rattle.pm_commands.specs.Stops.{IfCalled, IfRequest}
use Rattle.pm_commands.proofs.preparing.prepare_demo.Goals as goal

pub returns-in-Ok-clause-called : goal.returns-in-Ok-clause-called
returns-in-Ok-clause-called g c =
    subst (λ (files : MemState). IfCalled (Asks c.args.command.now (held_of files.files)) c.prepare_from.result) c.in-Ok.ensures c.prepare_from.ensures.called

pub returns-in-Ok-clause-reached : goal.returns-in-Ok-clause-reached
returns-in-Ok-clause-reached g c =
    subst (λ (files : MemState). IfErr c.prepare_from.result (IfRequest (IfFile (Reaches (Some (held_of files.files)) c.args.command.now.schema c.args.command.now.query)))) c.in-Ok.ensures
    c.prepare_from.ensures.reached
