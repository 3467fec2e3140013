use Rattle.std.proofs.Common.{◌≡◌, take}
use Rattle.pm_plan.specs.Tree.{Tree}
use Rattle.pm_plan.specs.Preorder.{IsTreeAt}
use Rattle.pm_plan.specs.Kinds.{kinds_of}
use Rattle.pm_plan.proofs.valid.kinds_agree.Given as goal

abbrev pub invariant-loop-i : goal.invariant-loop-i
invariant-loop-i l = (t : Tree) → IsTreeAt l.nodes t 1 → take l.i l.kinds ≡ take l.i (kinds_of l.decls t)
