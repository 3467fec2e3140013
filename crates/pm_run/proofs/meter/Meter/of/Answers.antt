use Rattle.std.proofs.Common.{◌∙◌, sym, ap, subst, arith}
use Rattle.pm_plan.specs.Preorder.{tree_of, IsNumbered}
use Rattle.pm_work.specs.Moments.{gauges_at}
use Rattle.pm_estim.specs.Lists.{pipes_in}
use Rattle.pm_run.specs.IsBounding.{IsBounding}
use Rattle.pm_run.proofs.meter.Meter.of.Goals as goal

pub of-requires : goal.of-requires
of-requires c = subst (λ p. IsNumbered p.nodes) (sym c.requires.plan) c.runs_fit.ensures.fits.valid.numbered

pub returns-clause-meter : goal.returns-clause-meter
returns-clause-meter c =
    let e = c.args.exec.now in
    let bounding = c.in_ok-bounding.bounding in
    let gauges = c.gauges.ensures.gauges ∙ ap (λ k. gauges_at e.db (tree_of e.plan.nodes) k) c.requires.fresh in
    record {
      pipes = c.in_ok-pipes.ensures ∙ ap (λ p. pipes_in (tree_of p.nodes)) c.requires.plan;
      bounding =
          subst (λ p. IsBounding p (gauges_at e.db (tree_of e.plan.nodes) 0) bounding) c.requires.plan
          (subst (λ gs. IsBounding c.args.plan.now gs bounding) gauges c.in_ok-bounding.ensures);
      every = c.requires.every;
      quiet = λ t from until. absurd (omega (arith, from, until));
    }
