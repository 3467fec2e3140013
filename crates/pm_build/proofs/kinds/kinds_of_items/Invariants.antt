use Rattle.std.proofs.Common.{◌≡◌, map, take}
use Rattle.pm_plan.specs.Kinds.{kind_of_item}
use Rattle.pm_build.proofs.kinds.kinds_of_items.Given as goal

abbrev pub invariant-loop-item : goal.invariant-loop-item
invariant-loop-item l = l.chosen ≡ map (kind_of_item l.kinds) (take l.item-index l.items)
