use Rattle.std.proofs.Common.{sym, subst}
use Rattle.pm_plan.specs.Preorder.{tree_of}
use Rattle.pm_work.specs.Moments.{gauges_at}
use Rattle.pm_bounds.specs.Moment.{AreGauges}
use Rattle.pm_run.specs.IsBounding.{IsBounding}
use Rattle.pm_run.proofs.Moments.{are_gauges}
use Rattle.pm_run.proofs.meter.Meter.whole.Goals as goal

pub whole-requires-clause-moment : goal.whole-requires-clause-moment
whole-requires-clause-moment c =
    let e = c.args.exec.now in
    subst (λ p. AreGauges p c.gauges.result.now) (sym c.requires.plan)
    (are_gauges e.plan e.db c.gauges.ensures.fits c.gauges.ensures.tables e.taken c.gauges.result.now c.gauges.ensures.gauges)

pub whole-requires-clause-bounding : goal.whole-requires-clause-bounding
whole-requires-clause-bounding c =
    let e = c.args.exec.now in
    subst (λ p. IsBounding p c.gauges.result.now c.args.self.now.bounding) (sym c.requires.plan)
    (subst (λ gs. IsBounding e.plan gs c.args.self.now.bounding) (sym c.gauges.ensures.gauges) c.requires.bounding)

pub returns-clause-bounding : goal.returns-clause-bounding
returns-clause-bounding c =
    let e = c.args.exec.now in
    let bounding = c.whole.new.self in
    subst (λ p. IsBounding p (gauges_at e.db (tree_of e.plan.nodes) e.taken) bounding) c.requires.plan
    (subst (λ gs. IsBounding c.args.plan.now gs bounding) c.gauges.ensures.gauges c.whole.ensures.bounding)
