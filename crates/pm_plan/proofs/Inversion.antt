-- what stands in a list of nodes, by the node at its root
use Rattle.std.proofs.Common.{◌≡◌, ℕ, ◌+◌, List, max, refl, sym, ap, subst, ◌∙◌, arith}
use Rattle.std.specs.Prelude.{Option, None, Some}
use Rattle.pm_values.specs.declared.condition.Cond.{Cond}
use Rattle.pm_plan.specs.declared.plan.Label.{Label}
use Rattle.pm_plan.specs.declared.plan.Node.{Node}
use Rattle.pm_plan.specs.declared.plan.Node.TheVariants as node
use Rattle.pm_plan.specs.declared.root.Root.{Root}
use Rattle.pm_plan.specs.declared.root.Root.TheVariants as root
use Rattle.pm_plan.specs.Tree.{Unary, Filter, Project, Sort, Group, Method, Hash, Merge, On, Seek, Tree, Scan, Over, Join, Index, right_number}
use Rattle.pm_plan.specs.Preorder.{Subplan, Rooted, Sought, unary_node, join_node, seek_node, node_of, node_at, IsTreeAt}
use Rattle.pm_plan.specs.Standing.{Stands}
use Rattle.pm_plan.specs.Roots.{unary_of, method_of, root_node}
use Rattle.pm_plan.proofs.Walks.{EachAt-root}

-- a node by the number of its children
pub data Seen : Type 0 where
  OfScan : (table : ℕ) (label : Label) → Seen
  OfOver : (op : Unary) (child : ℕ) → Seen
  OfJoin : (method : Method) (on : On) (left right : ℕ) → Seen
  OfIndex : (left seek : ℕ) (cond : Option Cond) → Seen
  OfSeek : (seek : Seek) (left : ℕ) → Seen

abbrev seen : Node → Seen
seen (node.Scan table label) = OfScan table label
seen (node.Filter child cond) = OfOver (Filter cond) child
seen (node.Project child columns) = OfOver (Project columns) child
seen (node.Sort child keys) = OfOver (Sort keys) child
seen (node.Group child keys items) = OfOver (Group keys items) child
seen (node.Hash left right pairs unique pad) = OfJoin (Hash pad) (record { pairs = pairs; unique = unique }) left right
seen (node.Merge left right pairs unique) = OfJoin Merge (record { pairs = pairs; unique = unique }) left right
seen (node.Seek left table pairs label unique) = OfSeek (record { table = table; label = label; on = record { pairs = pairs; unique = unique } }) left
seen (node.Index left seek cond) = OfIndex left seek cond

seen-unary : (op : Unary) (child : ℕ) → seen (unary_node op child) ≡ OfOver op child
seen-unary (Filter cond) child = refl
seen-unary (Project columns) child = refl
seen-unary (Sort keys) child = refl
seen-unary (Group keys items) child = refl

seen-join : (method : Method) (on : On) (left right : ℕ) → seen (join_node method on left right) ≡ OfJoin method on left right
seen-join (Hash pad) on left right = refl
seen-join Merge on left right = refl

abbrev pub root_seen : Root → Seen
root_seen (root.Scan table label) = OfScan table label.now
root_seen (root.Over op child) = OfOver (unary_of op) child
root_seen (root.Join method left right pairs unique) = OfJoin (method_of method) (record { pairs = pairs.now; unique = unique }) left right
root_seen (root.Index left seek cond) = OfIndex left seek cond.now
root_seen (root.Seek left table label pairs unique) = OfSeek (record { table = table; label = label.now; on = record { pairs = pairs.now; unique = unique } }) left

seen-root : (r : Root) → seen (root_node r) ≡ root_seen r
seen-root (root.Scan table label) = refl
seen-root (root.Over op child) = seen-unary (unary_of op) child
seen-root (root.Join method left right pairs unique) = seen-join (method_of method) (record { pairs = pairs.now; unique = unique }) left right
seen-root (root.Index left seek cond) = refl
seen-root (root.Seek left table label pairs unique) = refl

-- a tree over another one, whose root is the next node
pub record OverOne (nodes : List Node) (p : Subplan) (n : ℕ) (op : Unary) (child : ℕ) : Type 0 where
  pub tree : Tree
  pub is : p ≡ Rooted (Over op tree)
  pub child_is : child ≡ n + 1
  pub stands : IsTreeAt nodes tree (n + 1)

-- a tree over two, of which the left one comes first
pub record OverTwo (nodes : List Node) (p : Subplan) (n : ℕ) (method : Method) (on : On) (left right : ℕ) : Type 0 where
  pub left_tree : Tree
  pub right_tree : Tree
  pub is : p ≡ Rooted (Join method on left_tree right_tree)
  pub left_is : left ≡ n + 1
  pub right_is : right ≡ right_number n left_tree
  pub left_stands : IsTreeAt nodes left_tree (n + 1)
  pub right_stands : IsTreeAt nodes right_tree right

-- a tree over another one and the Seek after it
pub record OverSeek (nodes : List Node) (p : Subplan) (n : ℕ) (cond : Option Cond) (left seek : ℕ) : Type 0 where
  pub left_tree : Tree
  pub sought : Seek
  pub is : p ≡ Rooted (Index left_tree sought cond)
  pub left_is : left ≡ n + 1
  pub seek_is : seek ≡ right_number n left_tree
  pub left_stands : IsTreeAt nodes left_tree (n + 1)
  pub seek_stands : node_at nodes seek ≡ Some (seek_node sought (n + 1))

abbrev pub Begins : List Node → Subplan → ℕ → Seen → Type 0
Begins nodes p n (OfScan table label) = p ≡ Rooted (Scan table label)
Begins nodes p n (OfOver op child) = OverOne nodes p n op child
Begins nodes p n (OfJoin method on left right) = OverTwo nodes p n method on left right
Begins nodes p n (OfIndex left seek cond) = OverSeek nodes p n cond left seek
Begins nodes p n (OfSeek seek left) = p ≡ Sought seek

-- the node at the root of what stands there
pub root_is : (nodes : List Node) (t : Tree) (n : ℕ) → IsTreeAt nodes t n → node_at nodes n ≡ Some (node_of t n)
root_is nodes t n h =
    EachAt-root (λ u m. node_at nodes m ≡ Some (node_of u m)) (λ left seek m. node_at nodes (right_number m left) ≡ Some (seek_node seek (m + 1))) t n h

some_same : {A : Type 0} {a b : A} {o : Option A} → o ≡ Some a → o ≡ Some b → a ≡ b
some_same p q = cc

begins_at : (nodes : List Node) (p : Subplan) (n : ℕ) (x : Node) → node_at nodes n ≡ Some x → Stands nodes p n → Begins nodes p n (seen x)
begins_at nodes (Rooted (Scan table label)) n x e h = subst (λ y. Begins nodes (Rooted (Scan table label)) n (seen y)) (some_same h e) refl
begins_at nodes (Rooted (Over op child)) n x e h =
    subst (Begins nodes (Rooted (Over op child)) n) (sym (seen-unary op (n + 1)) ∙ ap seen (some_same h.0 e))
    (record { tree = child; is = refl; child_is = refl; stands = h.1 })
begins_at nodes (Rooted (Join method on left right)) n x e h =
    subst (Begins nodes (Rooted (Join method on left right)) n) (sym (seen-join method on (n + 1) (right_number n left)) ∙ ap seen (some_same h.0 e))
    (record { left_tree = left; right_tree = right; is = refl; left_is = refl; right_is = refl; left_stands = h.1; right_stands = h.2 })
begins_at nodes (Rooted (Index left seek cond)) n x e h =
    subst (λ y. Begins nodes (Rooted (Index left seek cond)) n (seen y)) (some_same h.0 e)
    (record { left_tree = left; sought = seek; is = refl; left_is = refl; seek_is = refl; left_stands = h.2; seek_stands = h.1 })
begins_at nodes (Sought seek) n x e h = subst (λ y. Begins nodes (Sought seek) n (seen y)) (some_same h.1 e) refl

-- what stands there, by the node that is read there
pub begins : (nodes : List Node) (p : Subplan) (n : ℕ) (r s : Root) → r ≡ s → Some (root_node r) ≡ node_at nodes n → Stands nodes p n → Begins nodes p n (root_seen s)
begins nodes p n r s is e h = subst (Begins nodes p n) (seen-root r ∙ ap root_seen is) (begins_at nodes p n (root_node r) (sym e) h)

-- something begins where it stands
pub none_stands : (nodes : List Node) (p : Subplan) (n : ℕ) → None ≡ node_at nodes n → Stands nodes p n → ⊥
none_stands nodes (Rooted t) n e h = let k : None ≡ Some (node_of t n) = e ∙ root_is nodes t n h in absurd cc
none_stands nodes (Sought s) n e h = let k : None ≡ Some (seek_node s h.0) = e ∙ h.1 in absurd cc

pub rooted_same : {t u : Tree} → Rooted t ≡ Rooted u → t ≡ u
rooted_same e = cc

-- the right side stands where it is looked for, since it comes after n
pub right_at : (nodes : List Node) (p : Subplan) (n : ℕ) (method : Method) (on : On) (left right m : ℕ) (i : OverTwo nodes p n method on left right)
    → m ≡ max (n + 1) right → IsTreeAt nodes i.right_tree m
right_at nodes p n method on left right m i e = subst (IsTreeAt nodes i.right_tree) (omega (arith, e, i.right_is)) i.right_stands

pub seek_at : (nodes : List Node) (p : Subplan) (n : ℕ) (cond : Option Cond) (left seek m : ℕ) (i : OverSeek nodes p n cond left seek)
    → m ≡ max (n + 1) seek → node_at nodes m ≡ Some (seek_node i.sought (n + 1))
seek_at nodes p n cond left seek m i e = subst (λ k. node_at nodes k ≡ Some (seek_node i.sought (n + 1))) (omega (arith, e, i.seek_is)) i.seek_stands

pub no_seek : (t : Tree) (s : Seek) → Rooted t ≡ Sought s → ⊥
no_seek t s e = absurd cc

-- the same by the nodes that operators over a child, joins and Indexes are written as
pub over_at : (nodes : List Node) (p : Subplan) (n : ℕ) (op : Unary) (child : ℕ) → node_at nodes n ≡ Some (unary_node op child) → Stands nodes p n → OverOne nodes p n op child
over_at nodes p n op child e h = subst (Begins nodes p n) (seen-unary op child) (begins_at nodes p n (unary_node op child) e h)

pub join_at : (nodes : List Node) (p : Subplan) (n : ℕ) (method : Method) (on : On) (left right : ℕ)
    → node_at nodes n ≡ Some (join_node method on left right) → Stands nodes p n → OverTwo nodes p n method on left right
join_at nodes p n method on left right e h = subst (Begins nodes p n) (seen-join method on left right) (begins_at nodes p n (join_node method on left right) e h)

pub index_at : (nodes : List Node) (p : Subplan) (n left seek : ℕ) (cond : Option Cond)
    → node_at nodes n ≡ Some (node.Index left seek cond) → Stands nodes p n → OverSeek nodes p n cond left seek
index_at nodes p n left seek cond e h = begins_at nodes p n (node.Index left seek cond) e h

pub scan_at : (nodes : List Node) (p : Subplan) (n table : ℕ) (label : Label) → node_at nodes n ≡ Some (node.Scan table label) → Stands nodes p n → p ≡ Rooted (Scan table label)
scan_at nodes p n table label e h = begins_at nodes p n (node.Scan table label) e h

-- what a look-up found, as its variant
pub found_is : {o : Option Node} {r s : Root} → Some (root_node r) ≡ o → r ≡ s → o ≡ Some (root_node s)
found_is p q = sym p ∙ ap (λ r. Some (root_node r)) q

pub sought_same : {s t : Seek} → Sought s ≡ Sought t → s ≡ t
sought_same e = cc
