use Rattle.std.proofs.Common.{◌≡◌, [], take}
use Rattle.std.specs.List.{flat_map}
use Rattle.pm_names.specs.Names.{expr_breaches}
use Rattle.pm_binder.proofs.selection.check_items.Given as goal

abbrev pub invariant-loop-item : goal.invariant-loop-item
invariant-loop-item l = flat_map (λ x. expr_breaches l.known x.expr) (take l.item-index l.items) ≡ []
