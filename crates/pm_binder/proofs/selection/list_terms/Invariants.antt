use Rattle.std.proofs.Common.{◌≡◌, take}
use Rattle.pm_binder.specs.Grouping.{list_terms}
use Rattle.pm_binder.proofs.selection.list_terms.Given as goal

abbrev pub invariant-loop-item : goal.invariant-loop-item
invariant-loop-item l = l.terms ≡ list_terms l.known (take l.item-index l.items)
