use Rattle.std.proofs.Common.{◌≡◌, ◌⊎◌, ◌∙◌, Err, subst, sym, ap}
use Rattle.std.specs.Prelude.{Result}
use Rattle.pm_io.specs.Sink.{GainsPart}
use Rattle.pm_commands.specs.declared.preparing.Prepared.{Prepared}
use Rattle.pm_commands.specs.declared.stop.Stop.{Stop}
use Rattle.pm_commands.specs.Commands.{command_in, told}
use Rattle.pm_commands.proofs.Certain.{certified}
use Rattle.pm_cli.specs.declared.status.Status.TheVariants as status
use Rattle.pm_cli.specs.Lines.{line_of}
use Rattle.pm_cli.specs.Status.{called_status}
use Rattle.pm_cli.specs.Endings.{Answers, HasFault, IfRole, IsUnfinished, OnAbsent, OnBroken, called_text}
use Rattle.pm_cli.proofs.Endings.{where-told, of-run, run-answers, run-ends, run-unrefused, run-known, on-own, on-demo, own-so, demo-so, unfinished-is-memory, part-of-nothing, stop-not-done, stop-written, stop-usage, usage-status, no-usage, stop-answers, stop-ends, files-read, stop-file, stop-stands, stop-sure, stop-role, stop-fault}
use Rattle.pm_cli.proofs.top.monitor_main.Goals as goal

-- ---- what is prepared is run

pub returns-in-Ok-clause-done : goal.returns-in-Ok-clause-done
returns-in-Ok-clause-done g c = λ done.
    (c.in-Ok.prepared, record { called = c.in-Ok.ensures.called; certified = certified c.in-Ok.prepared c.in-Ok.ensures.ready }, c.run.ensures.text done)

pub returns-in-Ok-clause-part : goal.returns-in-Ok-clause-part
returns-in-Ok-clause-part g c = λ cut.
    where-told (told (command_in c.args.words.now) (g.F.Files.held c.args.files.now))
    (λ held only called calls.
    subst (λ (x : Result Prepared Stop). GainsPart (g.S.Sink.written c.args.out.now) (g.S.Sink.written c.run.new.out) (called_text x)) (only called calls) c.run.ensures.part)
    c.in-Ok.ensures.only

pub returns-in-Ok-clause-refused : goal.returns-in-Ok-clause-refused
returns-in-Ok-clause-refused g c = λ is. absurd (run-unrefused c.run.result c.run.ensures.kind is)

pub returns-in-Ok-clause-refusal_finished : goal.returns-in-Ok-clause-refusal_finished
returns-in-Ok-clause-refusal_finished g c = λ is. absurd (run-unrefused c.run.result c.run.ensures.kind is)

pub returns-in-Ok-clause-answers : goal.returns-in-Ok-clause-answers
returns-in-Ok-clause-answers g c =
    where-told (told (command_in c.args.words.now) (g.F.Files.held c.args.files.now))
    (λ held only called calls. run-answers c.in-Ok.prepared called c.run.result (only called calls) c.run.ensures.kind)
    c.in-Ok.ensures.only

pub returns-in-Ok-clause-complete : goal.returns-in-Ok-clause-complete
returns-in-Ok-clause-complete g c =
    where-told (told (command_in c.args.words.now) (g.F.Files.held c.args.files.now))
    (λ held only called calls sound quiet. run-ends c.in-Ok.prepared called c.run.result _ (only called calls) c.run.ensures.kind c.run.ensures.unwritten quiet)
    c.in-Ok.ensures.only

pub returns-in-Ok-clause-usage : goal.returns-in-Ok-clause-usage
returns-in-Ok-clause-usage g c = λ none. no-usage c.in-Ok.prepared (c.in-Ok.ensures.usage none)

pub returns-in-Ok-clause-only_usage : goal.returns-in-Ok-clause-only_usage
returns-in-Ok-clause-only_usage g c = λ is. absurd (run-known c.run.result c.run.ensures.kind is)

pub returns-in-Ok-clause-at_fault : goal.returns-in-Ok-clause-at_fault
returns-in-Ok-clause-at_fault g c = of-run HasFault tt tt tt c.run.result c.run.ensures.kind

pub returns-in-Ok-clause-reached : goal.returns-in-Ok-clause-reached
returns-in-Ok-clause-reached g c = of-run (IfRole _) tt tt tt c.run.result c.run.ensures.kind

pub returns-in-Ok-clause-absent : goal.returns-in-Ok-clause-absent
returns-in-Ok-clause-absent g c = on-own (command_in c.args.words.now) (of-run (OnAbsent _) tt tt tt c.run.result c.run.ensures.kind)

pub returns-in-Ok-clause-absent_stands : goal.returns-in-Ok-clause-absent_stands
returns-in-Ok-clause-absent_stands g c = on-own (command_in c.args.words.now) (of-run (OnAbsent _) tt tt tt c.run.result c.run.ensures.kind)

pub returns-in-Ok-clause-broken : goal.returns-in-Ok-clause-broken
returns-in-Ok-clause-broken g c = on-own (command_in c.args.words.now) (of-run (OnBroken _) tt tt tt c.run.result c.run.ensures.kind)

pub returns-in-Ok-clause-broken_stands : goal.returns-in-Ok-clause-broken_stands
returns-in-Ok-clause-broken_stands g c = on-own (command_in c.args.words.now) (of-run (OnBroken _) tt tt tt c.run.result c.run.ensures.kind)

pub returns-in-Ok-clause-read : goal.returns-in-Ok-clause-read
returns-in-Ok-clause-read g c = on-demo (command_in c.args.words.now) (of-run (OnBroken ⊥) tt tt tt c.run.result c.run.ensures.kind)

-- ---- what stops the command is told

pub returns-in-Err-clause-done : goal.returns-in-Err-clause-done
returns-in-Err-clause-done g c = λ done. absurd (stop-not-done c.in-Err.stop (sym c.refuse.ensures.status ∙ done))

pub returns-in-Err-clause-finished : goal.returns-in-Err-clause-finished
returns-in-Err-clause-finished g c = λ done. absurd (stop-not-done c.in-Err.stop (sym c.refuse.ensures.status ∙ done))

pub returns-in-Err-clause-part : goal.returns-in-Err-clause-part
returns-in-Err-clause-part g c = λ cut.
    let nothing = subst (λ s. GainsPart (g.S.Sink.written c.args.out.now) (g.S.Sink.written c.refuse.new.out) (line_of s))
    (unfinished-is-memory c.in-Err.stop (subst IsUnfinished c.refuse.ensures.status cut)) c.refuse.ensures.part in
    where-told (told (command_in c.args.words.now) (g.F.Files.held c.args.files.now))
    (λ held only called calls. part-of-nothing (g.S.Sink.written c.args.out.now) (g.S.Sink.written c.refuse.new.out) (called_text called) nothing)
    c.in-Err.ensures.only

pub returns-in-Err-clause-refused : goal.returns-in-Err-clause-refused
returns-in-Err-clause-refused g c = λ is. (
  c.in-Err.stop,
  record {
    status = c.refuse.ensures.status;
    called = c.in-Err.ensures.called;
    file = own-so (command_in c.args.words.now) (stop-file _ _ _ _ c.in-Err.stop) c.in-Err.ensures.stops;
  },
  c.refuse.ensures.line,
  c.refuse.ensures.part,
)

pub returns-in-Err-clause-answers : goal.returns-in-Err-clause-answers
returns-in-Err-clause-answers g c =
    where-told (told (command_in c.args.words.now) (g.F.Files.held c.args.files.now))
    (λ held only called calls. subst (Answers called) (sym c.refuse.ensures.status) (stop-answers c.in-Err.stop called (only called calls)))
    c.in-Err.ensures.only

pub returns-in-Err-clause-complete : goal.returns-in-Err-clause-complete
returns-in-Err-clause-complete g c =
    where-told (told (command_in c.args.words.now) (g.F.Files.held c.args.files.now))
    (λ held only called calls sound quiet.
    subst (λ s. (s ≡ called_status called) ⊎ (s ≡ status.NoMemory)) (sym c.refuse.ensures.status)
    (stop-ends c.in-Err.stop called (only called calls) (files-read (command_in c.args.words.now) _ _ _ _ c.in-Err.stop c.in-Err.ensures.stops c.in-Err.ensures.read sound)))
    c.in-Err.ensures.only

pub returns-in-Err-clause-usage : goal.returns-in-Err-clause-usage
returns-in-Err-clause-usage g c = λ none.
    subst (λ s. (s ≡ status.Usage) ⊎ (s ≡ status.NoMemory)) (sym c.refuse.ensures.status) (usage-status c.in-Err.stop (c.in-Err.ensures.usage none))

pub returns-in-Err-clause-only_usage : goal.returns-in-Err-clause-only_usage
returns-in-Err-clause-only_usage g c = λ is.
    c.in-Err.ensures.only_usage (ap Err (stop-usage c.in-Err.stop (sym c.refuse.ensures.status ∙ is)))

pub returns-in-Err-clause-at_fault : goal.returns-in-Err-clause-at_fault
returns-in-Err-clause-at_fault g c = subst HasFault (sym c.refuse.ensures.status) (stop-fault c.in-Err.stop c.in-Err.ensures.at_fault)

pub returns-in-Err-clause-reached : goal.returns-in-Err-clause-reached
returns-in-Err-clause-reached g c = subst (IfRole _) (sym c.refuse.ensures.status) (stop-role _ c.in-Err.stop c.in-Err.ensures.reached)

pub returns-in-Err-clause-absent : goal.returns-in-Err-clause-absent
returns-in-Err-clause-absent g c =
    own-so (command_in c.args.words.now) (λ h. subst (OnAbsent _) (sym c.refuse.ensures.status) (stop-stands _ _ _ _ c.in-Err.stop h).0) c.in-Err.ensures.stops

pub returns-in-Err-clause-absent_stands : goal.returns-in-Err-clause-absent_stands
returns-in-Err-clause-absent_stands g c =
    own-so (command_in c.args.words.now) (λ h. subst (OnAbsent _) (sym c.refuse.ensures.status) (stop-stands _ _ _ _ c.in-Err.stop h).1) c.in-Err.ensures.stops

pub returns-in-Err-clause-broken : goal.returns-in-Err-clause-broken
returns-in-Err-clause-broken g c =
    own-so (command_in c.args.words.now) (λ h. subst (OnBroken _) (sym c.refuse.ensures.status) (stop-stands _ _ _ _ c.in-Err.stop h).2) c.in-Err.ensures.stops

pub returns-in-Err-clause-broken_stands : goal.returns-in-Err-clause-broken_stands
returns-in-Err-clause-broken_stands g c =
    own-so (command_in c.args.words.now) (λ h. subst (OnBroken _) (sym c.refuse.ensures.status) (stop-stands _ _ _ _ c.in-Err.stop h).3) c.in-Err.ensures.stops

pub returns-in-Err-clause-read : goal.returns-in-Err-clause-read
returns-in-Err-clause-read g c =
    demo-so (command_in c.args.words.now) (λ h. subst (OnBroken ⊥) (sym c.refuse.ensures.status) (stop-sure c.in-Err.stop h)) c.in-Err.ensures.read

pub returns-in-Err-clause-unwritten : goal.returns-in-Err-clause-unwritten
returns-in-Err-clause-unwritten g c = λ is. absurd (stop-written c.in-Err.stop (sym c.refuse.ensures.status ∙ is))
