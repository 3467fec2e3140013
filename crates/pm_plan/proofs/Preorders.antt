-- the list of a tree's nodes is read as the tree again, and each node of the tree stands at its number
use Rattle.std.proofs.Common.{◌≡◌, ℕ, ◌+◌, List, [], ◌∷◌, ◌++◌, length, refl, ap, sym, subst, ◌∙◌, append_assoc}
use Rattle.std.proofs.lemmas.List.{append-nil}
use Rattle.pm_plan.specs.declared.plan.Node.{Node}
use Rattle.pm_plan.specs.Tree.{Tree, Scan, Unary, Filter, Project, Sort, Group, Method, Hash, Merge, On, Over, Join, Index, size, right_number}
use Rattle.pm_plan.specs.Preorder.{unary_node, join_node, node_of, seek_node, nodes_of, Rooted, Sought, over_one, over_two, over_seek, forest_of, first_tree, tree_of, IsNumbered, IsTreeAt}
use Rattle.pm_plan.proofs.Walks.{length-list_at, AreItems-list_at}

forest-unary : (op : Unary) (child : ℕ) (nodes : List Node) → forest_of (unary_node op child ∷ nodes) ≡ over_one op (forest_of nodes)
forest-unary (Filter cond) child nodes = refl
forest-unary (Project columns) child nodes = refl
forest-unary (Sort keys) child nodes = refl
forest-unary (Group keys items) child nodes = refl

forest-join : (method : Method) (on : On) (left right : ℕ) (nodes : List Node)
    → forest_of (join_node method on left right ∷ nodes) ≡ over_two method on (forest_of nodes)
forest-join (Hash pad) on left right nodes = refl
forest-join Merge on left right nodes = refl

pub forest_of-nodes_of : (t : Tree) (n : ℕ) (rest : List Node) → forest_of (nodes_of t n ++ rest) ≡ Rooted t ∷ forest_of rest
forest_of-nodes_of (Scan table label) n rest = refl
forest_of-nodes_of (Over op child) n rest =
    forest-unary op (n + 1) (nodes_of child (n + 1) ++ rest) ∙ ap (over_one op) (forest_of-nodes_of child (n + 1) rest)
forest_of-nodes_of (Join method on left right) n rest =
    let ls : List Node = nodes_of left (n + 1) in
    let rs : List Node = nodes_of right (right_number n left) in
    forest-join method on (n + 1) (right_number n left) ((ls ++ rs) ++ rest)
    ∙ ap (over_two method on)
    (ap forest_of (append_assoc ls rs rest)
    ∙ forest_of-nodes_of left (n + 1) (rs ++ rest)
    ∙ ap (λ parts. Rooted left ∷ parts) (forest_of-nodes_of right (right_number n left) rest))
forest_of-nodes_of (Index left seek cond) n rest =
    let ls : List Node = nodes_of left (n + 1) in
    let s : Node = seek_node seek (n + 1) in
    let both : forest_of ((ls ++ s ∷ []) ++ rest) ≡ Rooted left ∷ Sought seek ∷ forest_of rest =
    ap forest_of (append_assoc ls (s ∷ []) rest) ∙ forest_of-nodes_of left (n + 1) (s ∷ rest) in
    ap (over_seek cond) both

pub tree_of-nodes_of : (t : Tree) → tree_of (nodes_of t 1) ≡ t
tree_of-nodes_of t = ap (λ s. first_tree (forest_of s)) (sym (append-nil (nodes_of t 1))) ∙ ap first_tree (forest_of-nodes_of t 1 [])

pub length-nodes_of : (t : Tree) (n : ℕ) → length (nodes_of t n) ≡ size t
length-nodes_of t n = length-list_at node_of (λ left seek m. seek_node seek (m + 1)) t n

-- the tree of a numbered list stands in it
pub IsTreeAt-tree_of : (nodes : List Node) → IsNumbered nodes → IsTreeAt nodes (tree_of nodes) 1
IsTreeAt-tree_of nodes e =
    subst (λ s. IsTreeAt s (tree_of nodes) 1) (append-nil (nodes_of (tree_of nodes) 1) ∙ sym e)
    (AreItems-list_at node_of (λ left seek m. seek_node seek (m + 1)) (tree_of nodes) 1 [] [] refl)
