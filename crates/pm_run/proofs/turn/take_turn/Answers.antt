use Rattle.std.proofs.Common.{◌≡◌, ◌++◌, get_or, subst, sym, ap, ◌∙◌}
use Rattle.pm_io.specs.Sink.{gained, GainsPart}
use Rattle.pm_io.proofs.Outside.{gained-gained}
use Rattle.pm_io.proofs.Parts.{on_err, part_first, part_later}
use Rattle.pm_plan.specs.declared.gauge.Gauge.{Gauge}
use Rattle.pm_lines.specs.Progress.{end_line}
use Rattle.pm_exec.specs.declared.tick.Tick.{Tick}
use Rattle.pm_exec.specs.Ran.{Ran, run_events, last_event, taken_after, whole_work_of}
use Rattle.pm_run.specs.Text.{row_part, progress_part, end_text}
use Rattle.pm_run.specs.RunState.{text_after}
use Rattle.pm_run.proofs.Turns.{after-goes, after-ends, IsAfter, parts, room, ends}
use Rattle.pm_run.proofs.turn.take_turn.Goals as goal

-- a run after the answer of a step
abbrev ran_after : Ran → Tick → Ran
ran_after ran tick = record ran { taken = taken_after tick ran.taken }

abbrev no_gauge : Gauge
no_gauge = record { handed = 0; settled = 0; worst = 0; size = 0 }

pub returns-in_err-put_end-in-End-clause-part : goal.returns-in_err-put_end-in-End-clause-part
returns-in_err-put_end-in-End-clause-part g c =
    let written = g.S.Sink.written in
    let old = written c.args.sink.now in
    let new = written c.put_end.new.sink in
    let b = c.args.exec.now in
    let e = c.step.new.self in
    let is : e ≡ b = c.in_ok-step.ensures.taken ∙ ap (ran_after b) c.in-End.is in
    let over : b.taken ≡ whole_work_of b = c.in_ok-step.ensures.end.0 c.in-End.is in
    let text : end_line (get_or c.gauges.result.now 0 no_gauge).handed c.taken.result ≡ text_after b c.args.meter.now.every =
    ends e c.gauges.result.now no_gauge c.taken.result (subst (λ (x : Ran). x.taken ≡ whole_work_of x) (sym is) over) c.gauges.ensures.gauges c.taken.ensures
    ∙ ap (λ (x : Ran). end_text x.plan x.db) is
    ∙ sym (after-ends b c.args.meter.now.every over) in
    on_err c.from_residual-in_err-put_end-in-End.result (subst (GainsPart old new) text c.in_err-put_end-in-End.ensures.part)

pub returns-in_ok-put_end-in-End-clause-ended : goal.returns-in_ok-put_end-in-End-clause-ended
returns-in_ok-put_end-in-End-clause-ended g c = λ _.
    let written = g.S.Sink.written in
    let old = written c.args.sink.now in
    let b = c.args.exec.now in
    let e = c.step.new.self in
    let is : e ≡ b = c.in_ok-step.ensures.taken ∙ ap (ran_after b) c.in-End.is in
    let over : b.taken ≡ whole_work_of b = c.in_ok-step.ensures.end.0 c.in-End.is in
    let text : end_line (get_or c.gauges.result.now 0 no_gauge).handed c.taken.result ≡ end_text b.plan b.db =
    ends e c.gauges.result.now no_gauge c.taken.result (subst (λ (x : Ran). x.taken ≡ whole_work_of x) (sym is) over) c.gauges.ensures.gauges c.taken.ensures
    ∙ ap (λ (x : Ran). end_text x.plan x.db) is in
    subst (λ t. written c.put_end.new.sink ≡ gained old t) text c.in_ok-put_end-in-End.ensures.whole

pub returns-in_err-write_event-in-Row-clause-part : goal.returns-in_err-write_event-in-Row-clause-part
returns-in_err-write_event-in-Row-clause-part g c =
    let written = g.S.Sink.written in
    let old = written c.args.sink.now in
    let new = written c.write_event.new.sink in
    let b = c.args.exec.now in
    let e = c.step.new.self in
    let every = c.args.meter.now.every in
    let is : IsAfter b e = c.in_ok-step.ensures.taken ∙ ap (ran_after b) c.in-Row.is in
    let row = row_part c.args.plan.now.kinds (last_event (run_events e) e.taken) in
    let progress = progress_part e.plan e.db every e.taken in
    let text : row ++ progress ≡ text_after b every =
    parts b e c.args.plan.now every is c.requires.plan ∙ sym (after-goes b every (room b e is c.in_ok-step.ensures.within)) in
    on_err c.from_residual-in_err-write_event-in-Row.result
    (subst (GainsPart old new) text (part_first old new row progress c.in_err-write_event-in-Row.ensures.part))

pub returns-in_err-write_line-in-Row-clause-part : goal.returns-in_err-write_line-in-Row-clause-part
returns-in_err-write_line-in-Row-clause-part g c =
    let written = g.S.Sink.written in
    let old = written c.args.sink.now in
    let mid = written c.write_event.new.sink in
    let new = written c.write_line.new.sink in
    let b = c.args.exec.now in
    let e = c.step.new.self in
    let every = c.args.meter.now.every in
    let is : IsAfter b e = c.in_ok-step.ensures.taken ∙ ap (ran_after b) c.in-Row.is in
    let row = row_part c.args.plan.now.kinds (last_event (run_events e) e.taken) in
    let progress = progress_part e.plan e.db every e.taken in
    let text : row ++ progress ≡ text_after b every =
    parts b e c.args.plan.now every is c.requires.plan ∙ sym (after-goes b every (room b e is c.in_ok-step.ensures.within)) in
    on_err c.from_residual-in_err-write_line-in-Row.result
    (subst (GainsPart old new) text
    (part_later old mid new row progress c.in_ok-write_event-in-Row.ensures.whole
    (subst (λ o. GainsPart mid new (progress_part e.plan e.db o e.taken)) c.note.ensures.every c.in_err-write_line-in-Row.ensures.part)))

pub returns-in_ok-write_line-in-Row-clause-went : goal.returns-in_ok-write_line-in-Row-clause-went
returns-in_ok-write_line-in-Row-clause-went g c = λ _.
    let written = g.S.Sink.written in
    let old = written c.args.sink.now in
    let b = c.args.exec.now in
    let e = c.step.new.self in
    let every = c.args.meter.now.every in
    let is : IsAfter b e = c.in_ok-step.ensures.taken ∙ ap (ran_after b) c.in-Row.is in
    let row = row_part c.args.plan.now.kinds (last_event (run_events e) e.taken) in
    let progress = progress_part e.plan e.db every e.taken in
    c.in_ok-write_line-in-Row.ensures.whole
    ∙ ap (λ o. gained (written c.write_event.new.sink) (progress_part e.plan e.db o e.taken)) c.note.ensures.every
    ∙ ap (λ m. gained m progress) c.in_ok-write_event-in-Row.ensures.whole
    ∙ gained-gained old row progress
    ∙ ap (gained old) (parts b e c.args.plan.now every is c.requires.plan)
