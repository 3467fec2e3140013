-- a tree as the list of its nodes in preorder, and the tree that such a list stands for
use Rattle.std.specs.Prelude.{◌≡◌, ℕ, ◌+◌, ◌-◌, List, [], ◌∷◌, Option, Some, slice_get}
use Rattle.pm_values.specs.declared.condition.Cond.{Cond}
use Rattle.pm_plan.specs.declared.plan.Node.{Node}
use Rattle.pm_plan.specs.declared.plan.Node.TheVariants as node
use Rattle.pm_plan.specs.Tree.{Unary, Filter, Project, Sort, Group, Method, Hash, Merge, On, Seek, Tree, Scan, Over, Join, Index, right_number, EachAt, list_at}

-- the node of an operator over the child with this number
abbrev pub unary_node : Unary → ℕ → Node
unary_node (Filter cond) child = node.Filter child cond
unary_node (Project columns) child = node.Project child columns
unary_node (Sort keys) child = node.Sort child keys
unary_node (Group keys items) child = node.Group child keys items

-- the node of a join of the sides with these numbers
abbrev pub join_node : Method → On → ℕ → ℕ → Node
join_node (Hash pad) on left right = node.Hash left right on.pairs on.unique pad
join_node Merge on left right = node.Merge left right on.pairs on.unique

-- the node of the tree's root, which has number n
abbrev pub node_of : Tree → ℕ → Node
node_of (Scan table label) n = node.Scan table label
node_of (Over op child) n = unary_node op (n + 1)
node_of (Join method on left right) n = join_node method on (n + 1) (right_number n left)
node_of (Index left seek cond) n = node.Index (n + 1) (right_number n left) cond

-- of a Seek whose left side has this number
abbrev pub seek_node : Seek → ℕ → Node
seek_node seek left = node.Seek left seek.table seek.on.pairs seek.label seek.on.unique

-- the tree's nodes, its root being number n
abbrev pub nodes_of : Tree → ℕ → List Node
nodes_of = list_at node_of (λ left seek n. seek_node seek (n + 1))

-- a part of a plan that stands in a row of nodes: a tree, or the Seek of an Index whose left side stands before it
pub data Subplan : Type 0 where
  Rooted : (tree : Tree) → Subplan
  Sought : (seek : Seek) → Subplan

-- the first tree under an operator
abbrev pub over_one : Unary → List Subplan → List Subplan
over_one op [] = []
over_one op (Rooted t ∷ parts) = Rooted (Over op t) ∷ parts
over_one op (Sought s ∷ parts) = []

-- the first two trees joined
abbrev pub over_two : Method → On → List Subplan → List Subplan
over_two method on [] = []
over_two method on (Sought s ∷ parts) = []
over_two method on (Rooted t ∷ []) = []
over_two method on (Rooted t ∷ Sought s ∷ parts) = []
over_two method on (Rooted t ∷ Rooted u ∷ parts) = Rooted (Join method on t u) ∷ parts

-- the first tree with the Seek after it
abbrev pub over_seek : Option Cond → List Subplan → List Subplan
over_seek cond [] = []
over_seek cond (Sought s ∷ parts) = []
over_seek cond (Rooted t ∷ []) = []
over_seek cond (Rooted t ∷ Rooted u ∷ parts) = []
over_seek cond (Rooted t ∷ Sought s ∷ parts) = Rooted (Index t s cond) ∷ parts

-- the trees and Seeks that stand one after another in a list of nodes
abbrev pub forest_of : List Node → List Subplan
forest_of [] = []
forest_of (node.Scan table label ∷ nodes) = Rooted (Scan table label) ∷ forest_of nodes
forest_of (node.Filter child cond ∷ nodes) = over_one (Filter cond) (forest_of nodes)
forest_of (node.Project child columns ∷ nodes) = over_one (Project columns) (forest_of nodes)
forest_of (node.Sort child keys ∷ nodes) = over_one (Sort keys) (forest_of nodes)
forest_of (node.Group child keys items ∷ nodes) = over_one (Group keys items) (forest_of nodes)
forest_of (node.Hash left right pairs unique pad ∷ nodes) = over_two (Hash pad) (record { pairs = pairs; unique = unique }) (forest_of nodes)
forest_of (node.Merge left right pairs unique ∷ nodes) = over_two Merge (record { pairs = pairs; unique = unique }) (forest_of nodes)
forest_of (node.Seek left table pairs label unique ∷ nodes) =
    Sought (record { table = table; label = label; on = record { pairs = pairs; unique = unique } }) ∷ forest_of nodes
forest_of (node.Index left seek cond ∷ nodes) = over_seek cond (forest_of nodes)

-- the first tree, and a scan where there is none
abbrev pub first_tree : List Subplan → Tree
first_tree [] = Scan 0 (record { table = []; alias = [] })
first_tree (Rooted t ∷ parts) = t
first_tree (Sought s ∷ parts) = Scan 0 (record { table = []; alias = [] })

-- the tree that a list of nodes in preorder stands for
abbrev pub tree_of : List Node → Tree
tree_of nodes = first_tree (forest_of nodes)

-- numbered in preorder from 1, each node but the first the child of one earlier node, each Seek the child of its Index and of the same left side
abbrev pub IsNumbered : List Node → Type 0
IsNumbered nodes = nodes ≡ nodes_of (tree_of nodes) 1

-- node n of the list, counted from 1
abbrev pub node_at : List Node → ℕ → Option Node
node_at nodes n = slice_get nodes (n - 1)

-- the tree stands in the list, its root being number n
abbrev pub IsTreeAt : List Node → Tree → ℕ → Type 0
IsTreeAt nodes tree n =
    EachAt (λ t m. node_at nodes m ≡ Some (node_of t m)) (λ left seek m. node_at nodes (right_number m left) ≡ Some (seek_node seek (m + 1))) tree n
