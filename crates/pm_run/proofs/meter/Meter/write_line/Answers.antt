use Rattle.std.proofs.Common.{◌≡◌, true, false, sym, ap, subst, ◌∙◌, arith}
use Rattle.std.proofs.lemmas.Result.{on_err_weaker}
use Rattle.pm_io.specs.Sink.{GainsPart}
use Rattle.pm_lines.specs.Progress.{progress_line}
use Rattle.pm_exec.specs.Ran.{whole_work_of}
use Rattle.pm_run.specs.Text.{is_due}
use Rattle.pm_run.proofs.Meters.{after-line}
use Rattle.pm_run.proofs.Paces.{due-same, nothing-due, line-due}
use Rattle.pm_run.proofs.meter.Meter.write_line.Goals as goal

pub returns-then-taken-self-clause-whole : goal.returns-then-taken-self-clause-whole
returns-then-taken-self-clause-whole g c =
    let e = c.args.exec.now in
    nothing-due e.plan e.db c.args.self.now.every e.taken (g.S.Sink.written c.args.sink.now)
    (c.requires.before.quiet e.taken (omega arith) (omega (arith, c.taken.ensures, c.if-taken-self.true)))

pub returns-else-is_due-clause-whole : goal.returns-else-is_due-clause-whole
returns-else-is_due-clause-whole g c =
    let e = c.args.exec.now in
    let none : is_due c.args.self.now.every (whole_work_of e) e.taken ≡ false =
    ap (λ o. is_due o (whole_work_of e) e.taken) c.in-Some.is
    ∙ sym (due-same c.in-Some.every (whole_work_of e) e.taken c.shown-shown.result c.shown-shown.ensures.moment)
    ∙ sym c.is_due.ensures ∙ c.if-is_due.false in
    nothing-due e.plan e.db c.args.self.now.every e.taken (g.S.Sink.written c.args.sink.now) none

pub returns-then-is_due-clause-part : goal.returns-then-is_due-clause-part
returns-then-is_due-clause-part g c =
    let e = c.args.exec.now in
    let written = g.S.Sink.written in
    let old = written c.args.sink.now in
    let new = written c.put_progress.new.sink in
    let due : is_due c.args.self.now.every (whole_work_of e) e.taken ≡ true =
    ap (λ o. is_due o (whole_work_of e) e.taken) c.in-Some.is
    ∙ sym (due-same c.in-Some.every (whole_work_of e) e.taken c.shown-shown.result c.shown-shown.ensures.moment)
    ∙ sym c.is_due.ensures ∙ c.if-is_due.true in
    on_err_weaker c.put_progress.result
    (λ (p : GainsPart old new (progress_line c.shown-shown.result)). subst (GainsPart old new) (line-due e.plan e.db c.args.self.now.every e.taken c.shown-shown.result due c.shown-shown.ensures.value) p)
    c.put_progress.ensures.part

pub returns-then-is_due-clause-after : goal.returns-then-is_due-clause-after
returns-then-is_due-clause-after g c =
    let e = c.args.exec.now in
    let m = c.shown-shown.ensures in
    after-line e.plan e.db e.taken c.args.self.now c.shown-shown.new.self m.same m.bounding c.in-Some.every c.next_look-self.result c.shown-shown.result c.requires.before c.in-Some.is m.moment
    c.next_look-self.ensures

pub returns-else-is_due-clause-after : goal.returns-else-is_due-clause-after
returns-else-is_due-clause-after g c =
    let e = c.args.exec.now in
    let m = c.shown-shown.ensures in
    after-line e.plan e.db e.taken c.args.self.now c.shown-shown.new.self m.same m.bounding c.in-Some.every c.next_look-self.result c.shown-shown.result c.requires.before c.in-Some.is m.moment
    c.next_look-self.ensures
