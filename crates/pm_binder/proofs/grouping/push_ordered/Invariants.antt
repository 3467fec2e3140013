use Rattle.std.proofs.Common.{◌≡◌, take, fold}
use Rattle.pm_query.specs.Bound.{same_aggregate}
use Rattle.pm_names.specs.Breaches.{added}
use Rattle.pm_binder.specs.Grouping.{ordered_calls}
use Rattle.pm_binder.proofs.grouping.push_ordered.Given as goal

abbrev pub invariant-loop-order : goal.invariant-loop-order
invariant-loop-order l = l.calls ≡ fold (added same_aggregate) l.initial.calls (ordered_calls (take l.order-index l.orders))
