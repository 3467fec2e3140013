use Rattle.std.proofs.Common.{◌≡◌, true, take}
use Rattle.std.specs.List.{list_all}
use Rattle.pm_plan.specs.Preorder.{Subplan}
use Rattle.pm_plan.specs.Kinds.{item_fits}
use Rattle.pm_plan.specs.Standing.{Stands, subplan_kinds}
use Rattle.pm_plan.proofs.valid.items_fit.Given as goal

abbrev pub invariant-loop-item : goal.invariant-loop-item
invariant-loop-item l = (p : Subplan) → Stands l.nodes p l.n → list_all (item_fits (subplan_kinds l.decls p)) (take l.item-index l.items) ≡ true
