use Rattle.std.proofs.Common.{◌≡◌, ◌+◌, ◌<◌, ◌++◌, length, take, get_or, subst, ap, ◌∙◌, arith}
use Rattle.pm_io.specs.Sink.{gained, GainsPart}
use Rattle.pm_io.proofs.Outside.{gained-gained}
use Rattle.pm_io.proofs.Parts.{on_err, part_whole, part_first, part_later}
use Rattle.pm_plan.specs.PlanLines.{plan_lines, node_line}
use Rattle.pm_plan.proofs.PlanLines.{lines_from, lines-more, lines-cut, lines-next}
use Rattle.pm_lines.proofs.plan.put_plan.Goals as goal

pub returns-in_err-line-clause-part : goal.returns-in_err-line-clause-part
returns-in_err-line-clause-part g c =
    let written = g.S.Sink.written in
    let nodes = c.args.plan.now.nodes in
    let i = c.loop-place.place in
    let old = written c.args.sink.now in
    let new = written c.loop-place.sink in
    on_err c.from_residual.result
    (subst (GainsPart old new) (lines-cut nodes i) (part_whole old new (plan_lines 1 (take i nodes)) (lines_from i nodes) c.loop-place.invariant.lines))

pub returns-in_err-write_whole-clause-part : goal.returns-in_err-write_whole-clause-part
returns-in_err-write_whole-clause-part g c =
    let written = g.S.Sink.written in
    let nodes = c.args.plan.now.nodes in
    let i = c.loop-place.place in
    let x = c.node-item.result in
    let old = written c.args.sink.now in
    let mid = written c.loop-place.sink in
    let new = written c.write_whole.new.sink in
    let line : c.bytes.result.now ≡ node_line (i + 1) x = c.bytes.ensures.value ∙ c.in_ok-line.ensures in
    let there : x ≡ get_or nodes i x = subst (λ xs. x ≡ get_or xs i x) c.as_slice-node-items.ensures c.node-item.is in
    let within : i < length nodes = subst (λ xs. i < length xs) c.as_slice-node-items.ensures c.loop-place-test.true in
    let part : GainsPart mid new (node_line (i + 1) x) = subst (GainsPart mid new) line c.in_err-write_whole.ensures.part in
    on_err c.from_residual-in_err-write_whole.result
    (subst (GainsPart old new) (lines-next nodes i x within there)
    (part_later old mid new (plan_lines 1 (take i nodes)) (node_line (i + 1) x ++ lines_from (i + 1) nodes) c.loop-place.invariant.lines
    (part_first mid new (node_line (i + 1) x) (lines_from (i + 1) nodes) part)))

pub loop-place-preserved : goal.loop-place-preserved
loop-place-preserved g c =
    let written = g.S.Sink.written in
    let nodes = c.args.plan.now.nodes in
    let i = c.loop-place.place in
    let x = c.node-item.result in
    let old = written c.args.sink.now in
    let line : c.bytes.result.now ≡ node_line (i + 1) x = c.bytes.ensures.value ∙ c.in_ok-line.ensures in
    let there : x ≡ get_or nodes i x = subst (λ xs. x ≡ get_or xs i x) c.as_slice-node-items.ensures c.node-item.is in
    let within : i < length nodes = subst (λ xs. i < length xs) c.as_slice-node-items.ensures c.loop-place-test.true in
    record {
      lines =
          c.in_ok-write_whole.ensures.whole
          ∙ ap (gained (written c.loop-place.sink)) line
          ∙ ap (λ m. gained m (node_line (i + 1) x)) c.loop-place.invariant.lines
          ∙ gained-gained old (plan_lines 1 (take i nodes)) (node_line (i + 1) x)
          ∙ ap (gained old) (lines-more nodes i x within there);
      faults = omega (arith, c.in_ok-write_whole.ensures.faults, c.loop-place.invariant.faults);
    }
