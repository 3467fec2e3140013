use Rattle.std.proofs.Common.{◌≡◌, [], take}
use Rattle.std.specs.List.{flat_map}
use Rattle.pm_binder.specs.Grouping.{order_breaches}
use Rattle.pm_binder.proofs.selection.check_orders.Given as goal

abbrev pub invariant-loop-key : goal.invariant-loop-key
invariant-loop-key l = flat_map (order_breaches l.known l.items) (take l.key-index l.keys) ≡ []
