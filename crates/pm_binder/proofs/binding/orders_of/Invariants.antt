use Rattle.std.proofs.Common.{◌≡◌, take}
use Rattle.pm_binder.specs.Bound.{orders_of}
use Rattle.pm_binder.proofs.binding.orders_of.Given as goal

abbrev pub invariant-loop-order : goal.invariant-loop-order
invariant-loop-order l = l.orders ≡ orders_of l.shape (take l.order-index l.terms)
