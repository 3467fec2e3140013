use Rattle.std.proofs.Common.{◌∙◌, ap, Err, arith}
use Rattle.std.proofs.lemmas.Result.{err_from_is_err_and}
use Rattle.pm_binder.specs.Grouping.{ungrouped}
use Rattle.pm_names.proofs.Along.{told_plain, none_plain}
use Rattle.pm_binder.proofs.grouping.check_terms.Goals as goal

pub returns-in_err-check_term : goal.returns-in_err-check_term
returns-in_err-check_term c =
    let p = err_from_is_err_and c.from_residual.result c.from_residual.ensures.1 in
    told_plain (ungrouped c.args.keys.now) c.args.terms.now c.loop-placed.placed-index _ _ _ (omega arith) c.loop-placed.invariant c.in_err-check_term.ensures (p.1 ∙ ap Err p.2)

pub loop-placed-preserved : goal.loop-placed-preserved
loop-placed-preserved c = none_plain (ungrouped c.args.keys.now) c.args.terms.now c.loop-placed.placed-index _ (omega arith) c.loop-placed.invariant c.in_ok-check_term.ensures
