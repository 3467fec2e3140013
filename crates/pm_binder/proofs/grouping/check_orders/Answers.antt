use Rattle.std.proofs.Common.{◌∙◌, ap, Err, arith}
use Rattle.std.proofs.lemmas.Result.{err_from_is_err_and}
use Rattle.pm_binder.specs.Grouping.{order_faults}
use Rattle.pm_names.proofs.Along.{told_plain, none_plain}
use Rattle.pm_binder.proofs.grouping.check_orders.Goals as goal

pub returns-in_err-check_order : goal.returns-in_err-check_order
returns-in_err-check_order c =
    let p = err_from_is_err_and c.from_residual.result c.from_residual.ensures.1 in
    told_plain (order_faults c.args.terms.now) c.args.orders.now c.loop-order.order-index _ _ _ (omega arith) c.loop-order.invariant c.in_err-check_order.ensures (p.1 ∙ ap Err p.2)

pub loop-order-preserved : goal.loop-order-preserved
loop-order-preserved c = none_plain (order_faults c.args.terms.now) c.args.orders.now c.loop-order.order-index _ (omega arith) c.loop-order.invariant c.in_ok-check_order.ensures
