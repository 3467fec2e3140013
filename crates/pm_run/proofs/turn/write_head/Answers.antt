use Rattle.std.proofs.Common.{subst}
use Rattle.std.proofs.lemmas.Result.{on_err_weaker}
use Rattle.pm_io.specs.Sink.{GainsPart}
use Rattle.pm_io.proofs.Parts.{on_err, part_first, part_later}
use Rattle.pm_plan.specs.PlanLines.{plan_lines}
use Rattle.pm_lines.specs.Rows.{head_line}
use Rattle.pm_run.proofs.turn.write_head.Goals as goal

pub returns-in_err-put_plan-clause-part : goal.returns-in_err-put_plan-clause-part
returns-in_err-put_plan-clause-part g c =
    let written = g.S.Sink.written in
    let plan = c.args.plan.now in
    on_err c.from_residual.result
    (part_first (written c.args.sink.now) (written c.put_plan.new.sink) (plan_lines 1 plan.nodes) (head_line plan.heads) c.in_err-put_plan.ensures.part)

pub returns-clause-part : goal.returns-clause-part
returns-clause-part g c =
    let written = g.S.Sink.written in
    let plan = c.args.plan.now in
    let old = written c.args.sink.now in
    let mid = written c.put_plan.new.sink in
    let new = written c.put_head.new.sink in
    on_err_weaker c.put_head.result
    (λ (p : GainsPart mid new (head_line c.as_slice.result.now)).
    part_later old mid new (plan_lines 1 plan.nodes) (head_line plan.heads) c.in_ok-put_plan.ensures.whole
    (subst (λ names. GainsPart mid new (head_line names)) c.as_slice.ensures p))
    c.put_head.ensures.part
