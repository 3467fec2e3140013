-- the tree that a built one is, at each kind of node
use Rattle.std.proofs.Common.{◌≡◌, ℕ, Option, sym, ap, ◌∙◌}
use Rattle.pm_values.specs.declared.condition.Cond.{Cond}
use Rattle.pm_plan.specs.declared.root.Method.{Method}
use Rattle.pm_plan.specs.Tree.{Tree, Join, Index}
use Rattle.pm_plan.specs.Roots.{method_of}
use Rattle.pm_joining.specs.declared.tree.On.{On}
use Rattle.pm_joining.specs.declared.tree.Seek.{Seek}
use Rattle.pm_joining.specs.declared.tree.Tree.{Tree as TreeBuilt}
use Rattle.pm_joining.specs.declared.tree.Tree.TheVariants as built
use Rattle.pm_joining.specs.declared.tree.Tree.TheOpen as layer
use Rattle.pm_joining.specs.declared.tree.Tree.TheFolds.{fold-roll-Tree}
use Rattle.pm_joining.specs.Trees.{on_of, seek_of, tree_layer, tree_of}

pub join_is : (tree : TreeBuilt) (method : Method) (on : On) (left right : TreeBuilt) → tree ≡ built.Join method on left right
    → tree_of tree ≡ Join (method_of method) (on_of on) (tree_of left) (tree_of right)
join_is tree method on left right e = ap tree_of (e ∙ sym (built.rolls-Join method on left right)) ∙ fold-roll-Tree Tree tree_layer (layer.Join method on left right)

pub index_is : (tree left : TreeBuilt) (seek : Seek) (cond : Option Cond) → tree ≡ built.Index left seek cond → tree_of tree ≡ Index (tree_of left) (seek_of seek) cond
index_is tree left seek cond e = ap tree_of (e ∙ sym (built.rolls-Index left seek cond)) ∙ fold-roll-Tree Tree tree_layer (layer.Index left seek cond)
