use Rattle.std.proofs.Common.{◌∙◌, ap, Err, arith}
use Rattle.std.proofs.lemmas.Result.{err_from_is_err_and}
use Rattle.pm_names.specs.Names.{expr_breaches}
use Rattle.pm_names.proofs.Along.{told_at, none_more}
use Rattle.pm_binder.proofs.selection.check_items.Goals as goal

pub returns-in_err-check_expr : goal.returns-in_err-check_expr
returns-in_err-check_expr c =
    let p = err_from_is_err_and c.from_residual.result c.from_residual.ensures.1 in
    told_at (λ x. expr_breaches c.args.known.now x.expr) c.args.items.now c.loop-item.item-index _ _ _ (omega arith) c.item-item.is c.loop-item.invariant c.in_err-check_expr.ensures (p.1 ∙ ap Err p.2)

pub loop-item-preserved : goal.loop-item-preserved
loop-item-preserved c =
    none_more (λ x. expr_breaches c.args.known.now x.expr) c.args.items.now c.loop-item.item-index _ (omega arith) c.item-item.is c.loop-item.invariant c.in_ok-check_expr.ensures
