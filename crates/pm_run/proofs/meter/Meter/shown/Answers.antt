use Rattle.std.proofs.Common.{◌≡◌, sym, ap, subst, ◌∙◌}
use Rattle.pm_plan.specs.Preorder.{tree_of}
use Rattle.pm_work.specs.Moments.{gauge_in}
use Rattle.pm_estim.specs.Estimates.{shown_of, shown_at}
use Rattle.pm_estim.specs.Lists.{pipes_in}
use Rattle.pm_exec.specs.Ran.{whole_work_of}
use Rattle.pm_run.specs.declared.meter.Meter.{Meter}
use Rattle.pm_run.specs.IsMeter.{IsMoment}
use Rattle.pm_run.proofs.Moments.{are_of, drivers_fit, shown_moment}
use Rattle.pm_run.proofs.meter.Meter.shown.Goals as goal

pub estimate-requires-clause-handed : goal.estimate-requires-clause-handed
estimate-requires-clause-handed c =
    let e = c.args.exec.now in
    let f = c.runs_fit.ensures in
    let own = ap (λ (m : Meter). m.pipes) c.whole-whole.ensures.same ∙ c.requires.pipes ∙ ap (λ p. pipes_in (tree_of p.nodes)) c.requires.plan in
    let are = are_of e.plan e.db f.fits f.tables e.taken _ _ _ _ own c.gauges.ensures.gauges (c.bounds.ensures ∙ c.whole-whole.ensures.each) c.whole-whole.ensures.value in
    (drivers_fit e.plan e.db f.fits f.tables e.taken _ _ _ _ c.requires.begun f.within c.gauges.ensures.gauges are).handed

pub estimate-requires-clause-within : goal.estimate-requires-clause-within
estimate-requires-clause-within c =
    let e = c.args.exec.now in
    let f = c.runs_fit.ensures in
    let own = ap (λ (m : Meter). m.pipes) c.whole-whole.ensures.same ∙ c.requires.pipes ∙ ap (λ p. pipes_in (tree_of p.nodes)) c.requires.plan in
    let are = are_of e.plan e.db f.fits f.tables e.taken _ _ _ _ own c.gauges.ensures.gauges (c.bounds.ensures ∙ c.whole-whole.ensures.each) c.whole-whole.ensures.value in
    (drivers_fit e.plan e.db f.fits f.tables e.taken _ _ _ _ c.requires.begun f.within c.gauges.ensures.gauges are).within

pub returns-clause-value : goal.returns-clause-value
returns-clause-value c =
    let e = c.args.exec.now in
    let f = c.runs_fit.ensures in
    let own = ap (λ (m : Meter). m.pipes) c.whole-whole.ensures.same ∙ c.requires.pipes ∙ ap (λ p. pipes_in (tree_of p.nodes)) c.requires.plan in
    let are = are_of e.plan e.db f.fits f.tables e.taken _ _ _ _ own c.gauges.ensures.gauges (c.bounds.ensures ∙ c.whole-whole.ensures.each) c.whole-whole.ensures.value in
    c.estimate.ensures.shown (tree_of e.plan.nodes) are ∙ ap (λ gs. shown_of (tree_of e.plan.nodes) (gauge_in gs)) c.gauges.ensures.gauges

pub returns-clause-moment : goal.returns-clause-moment
returns-clause-moment c =
    let e = c.args.exec.now in
    let f = c.runs_fit.ensures in
    let own = ap (λ (m : Meter). m.pipes) c.whole-whole.ensures.same ∙ c.requires.pipes ∙ ap (λ p. pipes_in (tree_of p.nodes)) c.requires.plan in
    let are = are_of e.plan e.db f.fits f.tables e.taken _ _ _ _ own c.gauges.ensures.gauges (c.bounds.ensures ∙ c.whole-whole.ensures.each) c.whole-whole.ensures.value in
    let value : c.estimate.result ≡ shown_at e.db (tree_of e.plan.nodes) e.taken =
    c.estimate.ensures.shown (tree_of e.plan.nodes) are ∙ ap (λ gs. shown_of (tree_of e.plan.nodes) (gauge_in gs)) c.gauges.ensures.gauges in
    subst (IsMoment (whole_work_of e) e.taken) (sym value) (shown_moment e.plan e.db f.fits f.tables e.taken c.requires.begun f.within)
