use Rattle.std.proofs.Common.{◌≡◌, map, take}
use Rattle.pm_binder.specs.Grouping.{order_term}
use Rattle.pm_binder.proofs.selection.order_terms.Given as goal

abbrev pub invariant-loop-key : goal.invariant-loop-key
invariant-loop-key l = l.terms ≡ map (order_term l.known l.items) (take l.key-index l.keys)
