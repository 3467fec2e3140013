use Rattle.std.proofs.Common.{◌≡◌, take, fold}
use Rattle.pm_query.specs.Bound.{same_aggregate}
use Rattle.pm_names.specs.Breaches.{added}
use Rattle.pm_binder.specs.Grouping.{placed_calls}
use Rattle.pm_binder.proofs.grouping.push_placed.Given as goal

abbrev pub invariant-loop-placed : goal.invariant-loop-placed
invariant-loop-placed l = l.calls ≡ fold (added same_aggregate) l.initial.calls (placed_calls (take l.placed-index l.terms))
