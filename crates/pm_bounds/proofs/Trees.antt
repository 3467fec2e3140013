-- the bounds of a tree are written after those of the trees below it
use Rattle.std.proofs.Common.{◌≡◌, ℕ, ◌+◌, ◌-◌, ◌<◌, ◌≤◌, List, length, sym, ap, subst, ◌∙◌, inl, arith}
use Rattle.std.specs.Prelude.{Some, Option}
use Rattle.std.proofs.Math.ListN.{set}
use Rattle.std.proofs.lemmas.Option.{slice_get_within}
use Rattle.pm_values.specs.declared.condition.Cond.{Cond}
use Rattle.pm_plan.specs.declared.gauge.Gauge.{Gauge}
use Rattle.pm_plan.specs.declared.gauge.Bound.{Bound}
use Rattle.pm_plan.specs.declared.plan.Node.{Node}
use Rattle.pm_plan.specs.declared.plan.Plan.{Plan}
use Rattle.pm_plan.specs.declared.root.Root.{Root}
use Rattle.pm_plan.specs.Tree.{Unary, Method, On, Seek, Tree, Over, Join, Index, size, right_number}
use Rattle.pm_plan.specs.Preorder.{node_at, seek_node}
use Rattle.pm_plan.specs.Roots.{root_node}
use Rattle.pm_bounds.specs.Moment.{ReadAreBounds, bound_in, plan_bounds}
use Rattle.pm_bounds.specs.Steps.{EachOf, IsNumberUpTo, AgreeIn, AgreeElsewhere}
use Rattle.pm_bounds.proofs.Written.{Written, one_written, tree_written, both_written, first_written_last, entry, read_by}

abbrev nothing : Bound
nothing = record { lo = 0; hi = 0 }

-- what a root is, where it was looked up
pub found : {o : Option Node} {r s : Root} → Some (root_node r) ≡ o → r ≡ s → Some (root_node s) ≡ o
found at is = ap (λ r. Some (root_node r)) (sym is) ∙ at

module _ (plan : Plan) (gauges : List Gauge) where
  abbrev D : List Bound
  D = plan_bounds plan gauges

  pub no_reads : (r : Root) (n : ℕ) (l : List Bound) → Some (root_node r) ≡ node_at plan.nodes n → EachOf (λ m. bound_in l m ≡ bound_in D m) r → ReadAreBounds plan n gauges l
  no_reads r n l at h = read_by (λ m. bound_in l m ≡ bound_in D m) r (node_at plan.nodes n) at h

  -- a tree that was written, and what another one after it left of it
  pub child_entry : (u : Tree) (m child : ℕ) (l : List Bound) → child ≡ m → AgreeIn u m l D → bound_in l child ≡ bound_in D child
  child_entry u m child l e h = subst (λ k. bound_in l k ≡ bound_in D k) (sym e) (entry u m l D h)

  pub entry_left : (u v : Tree) (m k child : ℕ) (l l2 : List Bound) → child ≡ m → m - 1 < k - 1 → AgreeIn u m l D → AgreeElsewhere v k l2 l → bound_in l2 child ≡ bound_in D child
  entry_left u v m k child l l2 e before h left =
      subst (λ j. bound_in l2 j ≡ bound_in D j) (sym e) (left (m - 1) (inl before) ∙ entry u m l D h)

  -- the entry of a Seek, where it was just written
  pub seek_entry : (k m : ℕ) (l l2 : List Bound) → l2 ≡ set l (m - 1) (bound_in D m) → m - 1 < length l → k ≡ m → bound_in l2 k ≡ bound_in D k
  seek_entry k m l l2 is less e =
      subst (λ j. bound_in l2 j ≡ bound_in D j) (sym e) ((one_written (m - 1) l l2 D is less).inside (m - 1) (omega arith) (omega arith))

  module _ (n : ℕ) (some : 1 ≤ n) where
    pub written_of : (t : Tree) (upto : ℕ) (before after : List Bound) → upto ≡ n - 1 + size t → Written (n - 1) upto before after D
        → AgreeIn t n after D × AgreeElsewhere t n after before
    written_of t upto before after e w =
        let v : Written (n - 1) (n - 1 + size t) before after D = subst (λ j. Written (n - 1) j before after D) e w in
        (v.inside, v.outside)

    pub own_written : (l l2 : List Bound) → l2 ≡ set l (n - 1) (bound_in D n) → n - 1 < length l → Written (n - 1) n l l2 D
    own_written l l2 is less =
        let e : n - 1 + 1 ≡ n = omega (arith, some) in
        subst (λ j. Written (n - 1) j l l2 D) e (one_written (n - 1) l l2 D is less)

    below_written : (u : Tree) (l0 l1 : List Bound) → AgreeIn u (n + 1) l1 D → AgreeElsewhere u (n + 1) l1 l0 → Written n (n + size u) l0 l1 D
    below_written u l0 l1 p q =
        let e : n + 1 - 1 ≡ n = omega arith in
        subst (λ j. Written j (j + size u) l0 l1 D) e (tree_written u (n + 1) l0 l1 D p q)

    pub over_written : (t u : Tree) (op : Unary) (l0 l1 l2 : List Bound) → t ≡ Over op u → AgreeIn u (n + 1) l1 D → AgreeElsewhere u (n + 1) l1 l0
        → l2 ≡ set l1 (n - 1) (bound_in D n) → n - 1 < length l1 → AgreeIn t n l2 D × AgreeElsewhere t n l2 l0
    over_written t u op l0 l1 l2 e p q is less =
        written_of t (n + size u) l0 l2 (omega (arith, some, ap size e))
        (first_written_last (n - 1) n (n + size u) l0 l1 l2 D (omega arith) (omega arith) (below_written u l0 l1 p q) (own_written l1 l2 is less))

    pub join_written : (t l r : Tree) (method : Method) (on : On) (k : ℕ) (l0 l1 l2 l3 : List Bound) → t ≡ Join method on l r → k ≡ right_number n l
        → AgreeIn l (n + 1) l1 D → AgreeElsewhere l (n + 1) l1 l0 → AgreeIn r k l2 D → AgreeElsewhere r k l2 l1
        → l3 ≡ set l2 (n - 1) (bound_in D n) → n - 1 < length l2 → AgreeIn t n l3 D × AgreeElsewhere t n l3 l0
    join_written t l r method on k l0 l1 l2 l3 e at p q x y is less =
        let first : k - 1 ≡ n + size l = omega (arith, at) in
        let right : Written (n + size l) (n + size l + size r) l1 l2 D = subst (λ j. Written j (j + size r) l1 l2 D) first (tree_written r k l1 l2 D x y) in
        written_of t (n + size l + size r) l0 l3 (omega (arith, some, ap size e))
        (first_written_last (n - 1) n (n + size l + size r) l0 l2 l3 D (omega arith) (omega arith)
        (both_written n (n + size l) (n + size l + size r) l0 l1 l2 D (omega arith) (omega arith) (below_written l l0 l1 p q) right) (own_written l2 l3 is less))

    pub index_written : (t l : Tree) (s : Seek) (cond : Option Cond) (k : ℕ) (l0 l1 l2 l3 : List Bound) → t ≡ Index l s cond → k ≡ right_number n l
        → AgreeIn l (n + 1) l1 D → AgreeElsewhere l (n + 1) l1 l0 → l2 ≡ set l1 (k - 1) (bound_in D k) → k - 1 < length l1
        → l3 ≡ set l2 (n - 1) (bound_in D n) → n - 1 < length l2 → AgreeIn t n l3 D × AgreeElsewhere t n l3 l0
    index_written t l s cond k l0 l1 l2 l3 e at p q written there is less =
        let first : k - 1 ≡ n + size l = omega (arith, at) in
        let sought : Written (n + size l) (n + size l + 1) l1 l2 D = subst (λ j. Written j (j + 1) l1 l2 D) first (one_written (k - 1) l1 l2 D written there) in
        written_of t (n + size l + 1) l0 l3 (omega (arith, some, ap size e))
        (first_written_last (n - 1) n (n + size l + 1) l0 l2 l3 D (omega arith) (omega arith)
        (both_written n (n + size l) (n + size l + 1) l0 l1 l2 D (omega arith) (omega arith) (below_written l l0 l1 p q) sought) (own_written l2 l3 is less))

-- a Seek stands in the plan
pub seek_within : (nodes : List Node) (k m : ℕ) (s : Seek) → 1 ≤ k → node_at nodes k ≡ Some (seek_node s m) → IsNumberUpTo (length nodes) k
seek_within nodes k m s some at = record { first = some; last = omega (arith, some, slice_get_within nodes (k - 1) (seek_node s m) at) }
