use Rattle.std.proofs.Common.{◌∙◌, ap, Err, arith}
use Rattle.std.proofs.lemmas.Result.{err_from_is_err_and}
use Rattle.pm_binder.specs.Grouping.{order_breaches}
use Rattle.pm_names.proofs.Along.{told_at, none_more}
use Rattle.pm_binder.proofs.selection.check_orders.Goals as goal

pub returns-in_err-check_order : goal.returns-in_err-check_order
returns-in_err-check_order c =
    let p = err_from_is_err_and c.from_residual.result c.from_residual.ensures.1 in
    told_at (order_breaches c.args.known.now c.args.items.now) c.args.keys.now c.loop-key.key-index _ _ _ (omega arith) c.key-item.is c.loop-key.invariant c.in_err-check_order.ensures (p.1 ∙ ap Err p.2)

pub loop-key-preserved : goal.loop-key-preserved
loop-key-preserved c =
    none_more (order_breaches c.args.known.now c.args.items.now) c.args.keys.now c.loop-key.key-index _ (omega arith) c.key-item.is c.loop-key.invariant c.in_ok-check_order.ensures
