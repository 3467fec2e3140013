use Rattle.std.proofs.Common.{◌∙◌, sym, Ok, Err}
use Rattle.pm_answers.proofs.BuiltRows.{relations-wide}
use Rattle.pm_build.specs.declared.building.BuildBad.TheVariants as bad
use Rattle.pm_commands.proofs.Stages.{planned-so}
use Rattle.pm_commands.proofs.preparing.plan_request.Goals as goal

pub returns-in-Ok-build-clause-planned : goal.returns-in-Ok-build-clause-planned
returns-in-Ok-build-clause-planned c =
    planned-so c.args.output c.args.request c.args.join c.as_slice.result.now (Ok c.in-Ok-build.plan) (c.as_slice.ensures.value ∙ c.in-Ok.ensures) c.in-Ok-build.ensures.plan

pub returns-in-Ok-build-clause-ready : goal.returns-in-Ok-build-clause-ready
returns-in-Ok-build-clause-ready c =
    let request = c.args.request in
    let meets = c.requires.sound.meets in
    record {
      fits = c.in-Ok-build.ensures.fits request.db meets (sym (c.as_slice.ensures.value ∙ c.in-Ok.ensures));
      tables = meets.tables;
      rows = c.in-Ok-build.ensures.rows request.db (relations-wide request.query request.db meets.declared meets.tables);
      output = c.requires.output;
    }

pub returns-in-Err-TooWide-clause-planned : goal.returns-in-Err-TooWide-clause-planned
returns-in-Err-TooWide-clause-planned c =
    rw c.in-Err-TooWide.bound-is (planned-so c.args.output c.args.request c.args.join c.as_slice.result.now (Err (bad.TooWide c.in-Err-TooWide.bound)) (c.as_slice.ensures.value ∙ c.in-Ok.ensures)
    (rw c.in-Err-TooWide.field-0-is at c.in-Err-TooWide.ensures.plan))
