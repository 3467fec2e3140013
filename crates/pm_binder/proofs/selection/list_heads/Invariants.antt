use Rattle.std.proofs.Common.{◌≡◌, map, take}
use Rattle.pm_binder.specs.Grouping.{item_head}
use Rattle.pm_binder.proofs.selection.list_heads.Given as goal

abbrev pub invariant-loop-item : goal.invariant-loop-item
invariant-loop-item l = l.heads ≡ map item_head (take l.item-index l.items)
