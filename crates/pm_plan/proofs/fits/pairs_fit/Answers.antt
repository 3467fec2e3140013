use Rattle.std.proofs.Common.{◌<◌, ◌^◌, sym, ◌∙◌, subst}
use Rattle.std.specs.Prelude.{All}
use Rattle.std.proofs.lemmas.List.{take_all}
use Rattle.std.proofs.lemmas.List.Elements.{All-more}
use Rattle.std.proofs.lemmas.Bool.{false≢true}
use Rattle.pm_plan.specs.Kinds.{pair_fits}
use Rattle.pm_plan.specs.Standing.{subplan_kinds}
use Rattle.pm_plan.proofs.Lists.{all_more, all_broken}
use Rattle.pm_plan.proofs.fits.pairs_fit.Goals as goal

pub returns-then-not-pair_fits-clause-fit : goal.returns-then-not-pair_fits-clause-fit
returns-then-not-pair_fits-clause-fit c =
    λ p q h g. let fits = pair_fits (subplan_kinds c.args.decls.now p) (subplan_kinds c.args.decls.now q) in
    let one = all_broken fits c.args.pairs.now c.loop-pair.pair-index _ c.loop-pair-test.true (sym (c.pair_fits.ensures.fit p q h g) ∙ c.if-not-pair_fits.true) in
    (λ no_test. absurd (false≢true no_test), λ all. absurd (false≢true (sym one ∙ all.fit)))

pub loop-pair-preserved : goal.loop-pair-preserved
loop-pair-preserved c = record {
  fit = λ p q h g. let fits = pair_fits (subplan_kinds c.args.decls.now p) (subplan_kinds c.args.decls.now q) in
      all_more fits c.args.pairs.now c.loop-pair.pair-index _ c.loop-pair-test.true (c.loop-pair.invariant.fit p q h g) (sym (c.pair_fits.ensures.fit p q h g) ∙ c.if-not-pair_fits.false);
  in_range = All-more (λ pair. pair.left < 2 ^ 32) c.args.pairs.now c.loop-pair.pair-index _ c.loop-pair-test.true c.loop-pair.invariant.in_range c.pair_fits.ensures.in_range;
}

pub returns-clause-in_range : goal.returns-clause-in_range
returns-clause-in_range c =
    λ yes. subst (All (λ pair. pair.left < 2 ^ 32)) (take_all c.loop-pair.pair-index c.args.pairs.now c.loop-pair-test.false) c.loop-pair.invariant.in_range
