use Rattle.std.proofs.Common.{◌≡◌, [], take}
use Rattle.std.specs.List.{flat_map}
use Rattle.pm_binder.specs.Grouping.{order_faults}
use Rattle.pm_binder.proofs.grouping.check_orders.Given as goal

abbrev pub invariant-loop-order : goal.invariant-loop-order
invariant-loop-order l = flat_map (order_faults l.terms) (take l.order-index l.orders) ≡ []
