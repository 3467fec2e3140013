-- a node by the number of its children: which node, operator or method a reader is given
use Rattle.pm_plan.specs.declared.plan.Node.{Node}
use Rattle.pm_plan.specs.declared.plan.Node.TheVariants as node
use Rattle.pm_plan.specs.declared.root.Unary.{Unary as UnaryRead}
use Rattle.pm_plan.specs.declared.root.Unary.TheVariants as unary
use Rattle.pm_plan.specs.declared.root.Method.{Method as MethodRead}
use Rattle.pm_plan.specs.declared.root.Method.TheVariants as method
use Rattle.pm_plan.specs.declared.root.Root.{Root}
use Rattle.pm_plan.specs.declared.root.Root.TheVariants as root
use Rattle.pm_plan.specs.Tree.{Unary, Filter, Project, Sort, Group, Method, Hash, Merge}
use Rattle.pm_plan.specs.Preorder.{unary_node, join_node}

abbrev pub unary_of : UnaryRead → Unary
unary_of (unary.Filter cond) = Filter cond.now
unary_of (unary.Project columns) = Project columns.now
unary_of (unary.Sort keys) = Sort keys.now
unary_of (unary.Group keys items) = Group keys.now items.now

abbrev pub method_of : MethodRead → Method
method_of (method.Hash pad) = Hash pad
method_of method.Merge = Merge

-- the node that is read so
abbrev pub root_node : Root → Node
root_node (root.Scan table label) = node.Scan table label.now
root_node (root.Over op child) = unary_node (unary_of op) child
root_node (root.Join by left right pairs unique) = join_node (method_of by) (record { pairs = pairs.now; unique = unique }) left right
root_node (root.Index left seek cond) = node.Index left seek cond.now
root_node (root.Seek left table label pairs unique) = node.Seek left table pairs.now label.now unique
