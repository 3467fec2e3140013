-- the tree that the code builds, as a tree of operators
use Rattle.pm_plan.specs.Tree.{Unary, Filter, Project, Sort, Group, On, Seek, Tree, Scan, Over, Join, Index}
use Rattle.pm_plan.specs.Roots.{method_of}
use Rattle.pm_joining.specs.declared.tree.Unary.{Unary as UnaryBuilt}
use Rattle.pm_joining.specs.declared.tree.Unary.TheVariants as unary
use Rattle.pm_joining.specs.declared.tree.On.{On as OnBuilt}
use Rattle.pm_joining.specs.declared.tree.Seek.{Seek as SeekBuilt}
use Rattle.pm_joining.specs.declared.tree.Tree.{Tree as TreeBuilt, fold-Tree}
use Rattle.pm_joining.specs.declared.tree.Tree.TheOpen.{Tree-F}
use Rattle.pm_joining.specs.declared.tree.Tree.TheOpen as layer

abbrev pub unary_of : UnaryBuilt → Unary
unary_of (unary.Filter cond) = Filter cond
unary_of (unary.Project columns) = Project columns
unary_of (unary.Sort keys) = Sort keys
unary_of (unary.Group keys items) = Group keys items

abbrev pub on_of : OnBuilt → On
on_of on = record { pairs = on.pairs; unique = on.unique }

abbrev pub seek_of : SeekBuilt → Seek
seek_of seek = record { table = seek.table; label = seek.label; on = on_of seek.on }

abbrev pub tree_layer : Tree-F Tree → Tree
tree_layer (layer.Scan table label) = Scan table label
tree_layer (layer.Over op child) = Over (unary_of op) child
tree_layer (layer.Join method on left right) = Join (method_of method) (on_of on) left right
tree_layer (layer.Index left seek cond) = Index left (seek_of seek) cond

abbrev pub tree_of : TreeBuilt → Tree
tree_of = fold-Tree Tree tree_layer
