-- where a tree ends in a list of nodes, by the node at its root
use Rattle.std.proofs.Common.{◌≡◌, ◌↔◌, ℕ, ◌+◌, List, ◌++◌, length, Option, Some, None, refl, sym, ap, ◌∙◌, subst, arith}
use Rattle.std.proofs.lemmas.List.{append-nil, drop_all}
use Rattle.std.specs.Prelude.{IfSome}
use Rattle.pm_values.specs.declared.condition.Cond.{Cond}
use Rattle.pm_plan.specs.declared.plan.Node.{Node}
use Rattle.pm_plan.specs.declared.plan.Node.TheVariants as node
use Rattle.pm_plan.specs.declared.plan.Label.{Label}
use Rattle.pm_plan.specs.Tree.{Unary, Method, On, Tree, Scan, Over, Join, Index, size}
use Rattle.pm_plan.specs.Preorder.{Rooted, unary_node, join_node, seek_node, node_of, nodes_of, node_at, tree_of, IsNumbered, IsTreeAt}
use Rattle.pm_plan.specs.Standing.{IsSeekAt, IsEnd}
use Rattle.pm_plan.proofs.Walks.{drop-list_at}
use Rattle.pm_plan.proofs.Preorders.{tree_of-nodes_of, length-nodes_of, IsTreeAt-tree_of}
use Rattle.pm_plan.proofs.Inversion.{over_at, join_at, index_at, scan_at, rooted_same}

pub no_tree : (nodes : List Node) (n : ℕ) → ((t : Tree) → IsTreeAt nodes t n → ⊥) → IsEnd nodes n None
no_tree nodes n none = record { found = λ t h. absurd (none t h); stands = tt }

pub scan_end : (nodes : List Node) (n table : ℕ) (label : Label) → node_at nodes n ≡ Some (node.Scan table label) → IsEnd nodes n (Some (n + 1))
scan_end nodes n table label e =
    record {
      found = λ t h. ap (λ u. Some (n + size u)) (sym (rooted_same (scan_at nodes (Rooted t) n table label e h)));
      stands = (Scan table label, e, refl);
    }

pub over_end : (nodes : List Node) (n : ℕ) (op : Unary) (child : ℕ) (end : Option ℕ) → node_at nodes n ≡ Some (unary_node op child) → child ≡ n + 1
    → IsEnd nodes (n + 1) end → IsEnd nodes n end
over_end nodes n op child end e at deep =
    record {
      found = λ t h. let i = over_at nodes (Rooted t) n op child e h in
          deep.found i.tree i.stands ∙ ap (λ m. Some m) (omega (arith, ap size (rooted_same i.is)));
      stands = built end deep.stands;
    }
  where
    built : (r : Option ℕ) → IfSome r (λ m. (t : Tree) × IsTreeAt nodes t (n + 1) × (m ≡ n + 1 + size t)) → IfSome r (λ m. (t : Tree) × IsTreeAt nodes t n × (m ≡ n + size t))
    built None d = tt
    built (Some m) d = (Over op d.0, (e ∙ ap (λ k. Some (unary_node op k)) at, d.1), omega (arith, d.2))

pub join_end : (nodes : List Node) (n : ℕ) (method : Method) (on : On) (left right middle : ℕ) (end : Option ℕ)
    → node_at nodes n ≡ Some (join_node method on left right) → left ≡ n + 1 → right ≡ middle
    → IsEnd nodes (n + 1) (Some middle) → IsEnd nodes middle end → IsEnd nodes n end
join_end nodes n method on left right middle end e at last one two =
    record {
      found = λ t h. let i = join_at nodes (Rooted t) n method on left right e h in
          two.found i.right_tree (subst (IsTreeAt nodes i.right_tree) last i.right_stands)
          ∙ ap (λ m. Some m) (omega (arith, last, i.right_is, ap size (rooted_same i.is)));
      stands = built one.stands end two.stands;
    }
  where
    built : (t : Tree) × IsTreeAt nodes t (n + 1) × (middle ≡ n + 1 + size t) → (r : Option ℕ)
        → IfSome r (λ m. (t : Tree) × IsTreeAt nodes t middle × (m ≡ middle + size t)) → IfSome r (λ m. (t : Tree) × IsTreeAt nodes t n × (m ≡ n + size t))
    built l None d = tt
    built l (Some m) d = (
      Join method on l.0 d.0,
      (e ∙ ap (λ k. Some (join_node method on k right)) at ∙ ap (λ k. Some (join_node method on (n + 1) k)) (last ∙ l.2), l.1, subst (IsTreeAt nodes d.0) l.2 d.1),
      omega (arith, d.2, l.2),
    )

pub index_end : (nodes : List Node) (n left seek middle : ℕ) (cond : Option Cond) → node_at nodes n ≡ Some (node.Index left seek cond) → left ≡ n + 1 → seek ≡ middle
    → IsEnd nodes (n + 1) (Some middle) → IsSeekAt nodes middle left → IsEnd nodes n (Some (middle + 1))
index_end nodes n left seek middle cond e at last deep s =
    let l = deep.stands in
    record {
      found = λ t h. let i = index_at nodes (Rooted t) n left seek cond e h in
          ap (λ m. Some m) (omega (arith, last, i.seek_is, ap size (rooted_same i.is)));
      stands = (
        Index l.0 s.0 cond,
        (
          e ∙ ap (λ k. Some (node.Index k seek cond)) at ∙ ap (λ k. Some (node.Index (n + 1) k cond)) (last ∙ l.2),
          subst (λ m. node_at nodes m ≡ Some (seek_node s.0 (n + 1))) l.2 (s.1 ∙ ap (λ k. Some (seek_node s.0 k)) at),
          l.1,
        ),
        omega (arith, l.2),
      );
    }

-- where the left side does not end at the right one, no tree stands
pub no_join : (nodes : List Node) (n : ℕ) (method : Method) (on : On) (left right : ℕ) (middle : Option ℕ)
    → node_at nodes n ≡ Some (join_node method on left right) → IsEnd nodes (n + 1) middle → (middle ≡ Some right → ⊥) → IsEnd nodes n None
no_join nodes n method on left right middle e deep wrong =
    no_tree nodes n (λ t h. let i = join_at nodes (Rooted t) n method on left right e h in
    wrong (deep.found i.left_tree i.left_stands ∙ ap (λ m. Some m) (sym i.right_is)))

pub no_index : (nodes : List Node) (n left seek : ℕ) (cond : Option Cond) (middle : Option ℕ)
    → node_at nodes n ≡ Some (node.Index left seek cond) → IsEnd nodes (n + 1) middle → (middle ≡ Some seek → IsSeekAt nodes seek left → ⊥) → IsEnd nodes n None
no_index nodes n left seek cond middle e deep wrong =
    no_tree nodes n (λ t h. let i = index_at nodes (Rooted t) n left seek cond e h in
    wrong (deep.found i.left_tree i.left_stands ∙ ap (λ m. Some m) (sym i.seek_is))
    (i.sought, i.seek_stands ∙ ap (λ k. Some (seek_node i.sought k)) (sym i.left_is)))

numbered : (nodes : List Node) (t : Tree) → IsTreeAt nodes t 1 → size t ≡ length nodes → IsNumbered nodes
numbered nodes t h e =
    let whole = drop-list_at node_of (λ left seek n. seek_node seek (n + 1)) nodes t 1 0 refl h in
    let same : nodes ≡ nodes_of t 1 =
    whole ∙ ap (λ s. nodes_of t 1 ++ s) (drop_all (0 + size t) nodes (omega (arith, e))) ∙ append-nil (nodes_of t 1) in
    same ∙ ap (λ u. nodes_of u 1) (sym (ap tree_of same ∙ tree_of-nodes_of t))

pub end_is : (nodes : List Node) (r : Option ℕ) → IsEnd nodes 1 r → (r ≡ Some (length nodes + 1)) ↔ IsNumbered nodes
end_is nodes r end = (
  λ e. let d : (t : Tree) × IsTreeAt nodes t 1 × (length nodes + 1 ≡ 1 + size t) =
      subst (λ o. IfSome o (λ m. (t : Tree) × IsTreeAt nodes t 1 × (m ≡ 1 + size t))) e end.stands in
      numbered nodes d.0 d.1 (omega (arith, d.2)),
  λ is. let few : length nodes ≡ size (tree_of nodes) = ap length is ∙ length-nodes_of (tree_of nodes) 1 in
      end.found (tree_of nodes) (IsTreeAt-tree_of nodes is) ∙ ap (λ m. Some m) (omega (arith, few)),
)
