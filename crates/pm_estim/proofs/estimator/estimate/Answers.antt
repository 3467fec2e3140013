use Rattle.std.proofs.Common.{◌∙◌, ap}
use Rattle.pm_estim.proofs.Shown.{shown_is}
use Rattle.pm_estim.specs.Lists.{estimated}
use Rattle.pm_estim.proofs.estimator.estimate.Goals as goal

pub returns-clause-shown : goal.returns-clause-shown
returns-clause-shown c = λ tree a.
    c.shown_from.ensures ∙ ap (λ ps. estimated ps c.args.gauges.now c.args.bounds.now c.args.whole.now) c.as_slice.ensures
    ∙ shown_is c.args.gauges.now tree c.args.pipes.now c.args.bounds.now c.args.whole.now a
