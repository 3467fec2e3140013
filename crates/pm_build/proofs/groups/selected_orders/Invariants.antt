use Rattle.std.proofs.Common.{◌≡◌, map, take}
use Rattle.pm_build.proofs.Orders.{selected_key}
use Rattle.pm_build.proofs.groups.selected_orders.Given as goal

abbrev pub invariant-loop-key : goal.invariant-loop-key
invariant-loop-key l = l.orders ≡ map (selected_key l.query.outputs) (take l.key-index l.key-items)
