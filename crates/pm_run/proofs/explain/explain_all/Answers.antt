use Rattle.std.proofs.Common.{◌≡◌, List, ◌++◌, length, subst, sym, ap, ◌∙◌}
use Rattle.std.specs.List.{zip}
use Rattle.pm_io.specs.Sink.{gained, GainsPart}
use Rattle.pm_io.proofs.Outside.{gained-gained}
use Rattle.pm_io.proofs.Parts.{on_err, part_first, part_later}
use Rattle.pm_plan.specs.declared.gauge.Bound.{Bound}
use Rattle.pm_plan.specs.Preorder.{tree_of}
use Rattle.pm_plan.specs.PlanLines.{plan_lines}
use Rattle.pm_work.specs.Moments.{gauge_in, gauges_at}
use Rattle.pm_bounds.specs.Bounds.{bounds_of, whole_of, whole_at}
use Rattle.pm_estim.specs.declared.pipes.Pipe.{Pipe}
use Rattle.pm_estim.specs.Lists.{pipes_in}
use Rattle.pm_lines.specs.Explained.{first_line}
use Rattle.pm_run.specs.ExplainText.{bound_lines}
use Rattle.pm_run.proofs.Moments.{are_gauges}
use Rattle.pm_run.proofs.BoundLines.{as-many}
use Rattle.pm_run.proofs.explain.explain_all.Goals as goal

pub bounds_of-requires : goal.bounds_of-requires
bounds_of-requires g c =
    are_gauges c.args.plan.now c.args.db.now c.requires c.tables_are_declared.ensures 0 c.as_slice.result.now (c.as_slice.ensures.value ∙ c.in_ok-gauges.ensures)

pub whole-work-requires-clause-moment : goal.whole-work-requires-clause-moment
whole-work-requires-clause-moment g c =
    are_gauges c.args.plan.now c.args.db.now c.requires c.tables_are_declared.ensures 0 c.as_slice-2.result.now (c.as_slice-2.ensures.value ∙ c.in_ok-gauges.ensures)

pub returns-in_err-put_plan-clause-part : goal.returns-in_err-put_plan-clause-part
returns-in_err-put_plan-clause-part g c =
    let db = c.args.db.now in
    let tree = tree_of c.args.plan.now.nodes in
    let old = g.S.Sink.written c.args.sink.now in
    let new = g.S.Sink.written c.put_plan.new.sink in
    let nodes = plan_lines 1 c.args.plan.now.nodes in
    let bounds = bound_lines 1 (zip (bounds_of tree 1 (gauge_in (gauges_at db tree 0))) (pipes_in tree)) in
    on_err c.from_residual-in_err-put_plan.result
    (part_first old new (nodes ++ bounds) (first_line (whole_at db tree 0)) (part_first old new nodes bounds c.in_err-put_plan.ensures.part))

pub put_bounds-requires : goal.put_bounds-requires
put_bounds-requires g c =
    let tree = tree_of c.args.plan.now.nodes in
    let gauges = c.as_slice.ensures.value ∙ c.in_ok-gauges.ensures in
    let bounds : c.as_slice-4.result.now ≡ bounds_of tree 1 (gauge_in (gauges_at c.args.db.now tree 0)) =
    c.as_slice-4.ensures.value ∙ c.in_ok-bounds.ensures ∙ ap (λ gs. bounds_of tree 1 (gauge_in gs)) gauges in
    let pipes : c.as_slice-5.result.now ≡ pipes_in tree = c.as_slice-5.ensures ∙ c.in_ok-pipes.ensures in
    ap length pipes ∙ as-many tree (gauge_in (gauges_at c.args.db.now tree 0)) ∙ sym (ap length bounds)

pub returns-in_err-put_bounds-clause-part : goal.returns-in_err-put_bounds-clause-part
returns-in_err-put_bounds-clause-part g c =
    let db = c.args.db.now in
    let tree = tree_of c.args.plan.now.nodes in
    let old = g.S.Sink.written c.args.sink.now in
    let mid = g.S.Sink.written c.put_plan.new.sink in
    let new = g.S.Sink.written c.put_bounds.new.sink in
    let nodes = plan_lines 1 c.args.plan.now.nodes in
    let lines = bound_lines 1 (zip (bounds_of tree 1 (gauge_in (gauges_at db tree 0))) (pipes_in tree)) in
    let bounds : c.as_slice-4.result.now ≡ bounds_of tree 1 (gauge_in (gauges_at db tree 0)) =
    c.as_slice-4.ensures.value ∙ c.in_ok-bounds.ensures ∙ ap (λ gs. bounds_of tree 1 (gauge_in gs)) (c.as_slice.ensures.value ∙ c.in_ok-gauges.ensures) in
    let pipes : c.as_slice-5.result.now ≡ pipes_in tree = c.as_slice-5.ensures ∙ c.in_ok-pipes.ensures in
    let part : GainsPart mid new lines =
    subst (λ (bs : List Bound). GainsPart mid new (bound_lines 1 (zip bs (pipes_in tree)))) bounds
    (subst (λ (ps : List Pipe). GainsPart mid new (bound_lines 1 (zip c.as_slice-4.result.now ps))) pipes c.in_err-put_bounds.ensures.part) in
    on_err c.from_residual-in_err-put_bounds.result
    (part_first old new (nodes ++ lines) (first_line (whole_at db tree 0)) (part_later old mid new nodes lines c.in_ok-put_plan.ensures.whole part))

pub returns-in_err-put_first-clause-part : goal.returns-in_err-put_first-clause-part
returns-in_err-put_first-clause-part g c =
    let db = c.args.db.now in
    let tree = tree_of c.args.plan.now.nodes in
    let old = g.S.Sink.written c.args.sink.now in
    let first = g.S.Sink.written c.put_plan.new.sink in
    let mid = g.S.Sink.written c.put_bounds.new.sink in
    let new = g.S.Sink.written c.put_first.new.sink in
    let nodes = plan_lines 1 c.args.plan.now.nodes in
    let lines = bound_lines 1 (zip (bounds_of tree 1 (gauge_in (gauges_at db tree 0))) (pipes_in tree)) in
    let bounds : c.as_slice-4.result.now ≡ bounds_of tree 1 (gauge_in (gauges_at db tree 0)) =
    c.as_slice-4.ensures.value ∙ c.in_ok-bounds.ensures ∙ ap (λ gs. bounds_of tree 1 (gauge_in gs)) (c.as_slice.ensures.value ∙ c.in_ok-gauges.ensures) in
    let pipes : c.as_slice-5.result.now ≡ pipes_in tree = c.as_slice-5.ensures ∙ c.in_ok-pipes.ensures in
    let work : c.whole-work.result ≡ whole_at db tree 0 = c.whole-work.ensures.exact ∙ ap (λ gs. whole_of tree (gauge_in gs)) (c.as_slice-2.ensures.value ∙ c.in_ok-gauges.ensures) in
    let so_far : mid ≡ gained old (nodes ++ lines) =
    c.in_ok-put_bounds.ensures.whole
    ∙ ap (λ ps. gained first (bound_lines 1 (zip c.as_slice-4.result.now ps))) pipes
    ∙ ap (λ bs. gained first (bound_lines 1 (zip bs (pipes_in tree)))) bounds
    ∙ ap (λ m. gained m lines) c.in_ok-put_plan.ensures.whole
    ∙ gained-gained old nodes lines in
    on_err c.from_residual-in_err-put_first.result
    (part_later old mid new (nodes ++ lines) (first_line (whole_at db tree 0)) so_far
    (subst (λ w. GainsPart mid new (first_line w)) work c.in_err-put_first.ensures.part))
