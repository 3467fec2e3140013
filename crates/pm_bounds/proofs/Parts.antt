-- what stands at each number of a plan, and its bound from those of the nodes that it reads
use Rattle.std.proofs.Common.{◌≡◌, ℕ, ◌+◌, ◌-◌, ◌<◌, ◌≤◌, List, length, refl, sym, ap, subst, ◌∙◌, ◌⊎◌, inl, inr, arith}
use Rattle.std.specs.Prelude.{Some, Option}
use Rattle.std.proofs.lemmas.Bool.{cases_lt}
use Rattle.std.proofs.lemmas.Option.{slice_get_within}
use Rattle.pm_values.specs.declared.condition.Cond.{Cond}
use Rattle.pm_plan.specs.declared.gauge.Bound.{Bound}
use Rattle.pm_plan.specs.declared.plan.Label.{Label}
use Rattle.pm_plan.specs.declared.plan.Node.{Node}
use Rattle.pm_plan.specs.declared.plan.Node.TheVariants as node
use Rattle.pm_plan.specs.declared.plan.Pair.{Pair}
use Rattle.pm_plan.specs.declared.plan.Unique.{Unique}
use Rattle.pm_plan.specs.declared.root.Root.{Root}
use Rattle.pm_plan.specs.declared.root.Root.TheVariants as root
use Rattle.pm_plan.specs.Tree.{Unary, Method, On, Tree, Scan, Over, Join, Index, Seek, size, right_number, EachAt}
use Rattle.pm_plan.specs.Preorder.{Rooted, Sought, node_of, seek_node, node_at, IsTreeAt}
use Rattle.pm_plan.specs.Roots.{unary_of, method_of, root_node}
use Rattle.pm_plan.proofs.Inversion.{OverOne, OverTwo, OverSeek, begins, root_is, rooted_same, no_seek}
use Rattle.pm_plan.proofs.Walks.{EachAt-root}
use Rattle.pm_work.specs.Formulas.{hi_over, hi_joined, seek_hi, index_hi}
use Rattle.pm_work.specs.First.{greatest}
use Rattle.pm_work.specs.Moments.{Gauges}
use Rattle.pm_bounds.specs.Bounds.{lo, hi, hi_of_seek, lo_over, lo_joined, lo_matched, side_of, bound_of, bound_of_seek}
use Rattle.pm_bounds.specs.Moment.{Bounds}
use Rattle.pm_bounds.specs.Steps.{computed, EachOf, IsNumberUpTo, root_lo, root_hi}
use Rattle.pm_bounds.proofs.Caps.{over_capped, joined_capped, seek_capped, within}

-- both bounds are numbers of 128 bits
pub record IsWithin (b : Bound) : Type 0 where
  pub lower : b.lo ≤ greatest
  pub upper : b.hi ≤ greatest

one : 1 ≤ greatest
one = omega arith

not_rooted : {s : Seek} {t : Tree} → Sought s ≡ Rooted t → ⊥
not_rooted e = absurd cc

seek_parts : {left left' table table' : ℕ} {pairs pairs' : List Pair} {label label' : Label} {unique unique' : Unique}
    → Some (node.Seek left table pairs label unique) ≡ Some (node.Seek left' table' pairs' label' unique') → (left ≡ left') × (unique ≡ unique')
seek_parts e = (cc, cc)

module _ (nodes : List Node) (G : Gauges) (D : Bounds) where
  abbrev pub HasBounds : Tree → ℕ → Type 0
  HasBounds t n = EachAt (λ u m. D m ≡ bound_of u m G) (λ left seek m. D (right_number m left) ≡ bound_of_seek left seek m G) t n

  abbrev pub AllWithin : Tree → ℕ → Type 0
  AllWithin t n = EachAt (λ u m. IsWithin (bound_of u m G)) (λ left seek m. IsWithin (bound_of_seek left seek m G)) t n

  -- a tree of the plan, or the Seek of an Index
  pub record TreePart (n : ℕ) : Type 0 where
    pub tree : Tree
    pub stands : IsTreeAt nodes tree n
    pub bounds : HasBounds tree n
    pub fits : AllWithin tree n

  pub record SeekPart (n : ℕ) : Type 0 where
    pub left : Tree
    pub seek : Seek
    pub index : ℕ
    pub is : n ≡ right_number index left
    pub stands : node_at nodes n ≡ Some (seek_node seek (index + 1))
    pub bound : D n ≡ bound_of_seek left seek index G
    pub left_bound : D (index + 1) ≡ bound_of left (index + 1) G
    pub fits : IsWithin (bound_of_seek left seek index G)

  abbrev pub Part : ℕ → Type 0
  Part n = TreePart n ⊎ SeekPart n

  root_bounds : (t : Tree) (n : ℕ) → HasBounds t n → D n ≡ bound_of t n G
  root_bounds t n h = EachAt-root (λ u m. D m ≡ bound_of u m G) (λ left seek m. D (right_number m left) ≡ bound_of_seek left seek m G) t n h

  root_within : (t : Tree) (n : ℕ) → AllWithin t n → IsWithin (bound_of t n G)
  root_within t n h = EachAt-root (λ u m. IsWithin (bound_of u m G)) (λ left seek m. IsWithin (bound_of_seek left seek m G)) t n h

  whole_part : (t : Tree) (m n : ℕ) → n ≡ m → IsTreeAt nodes t m → HasBounds t m → AllWithin t m → Part n
  whole_part t m n e s b w =
      inl (record { tree = t; stands = subst (IsTreeAt nodes t) (sym e) s; bounds = subst (HasBounds t) (sym e) b; fits = subst (AllWithin t) (sym e) w })

  -- what stands at a number from m on
  pub part : (t : Tree) (m n : ℕ) → m ≤ n → n < m + size t → IsTreeAt nodes t m → HasBounds t m → AllWithin t m → Part n
  part (Scan table label) m n a b s h w = whole_part (Scan table label) m n (omega (arith, a, b)) s h w
  part (Over op child) m n a b s h w =
      elim (cases_lt m n) [
        | inl p ↦ part child (m + 1) n (omega (arith, p)) (omega (arith, b)) s.1 h.1 w.1
        | inr p ↦ whole_part (Over op child) m n (omega (arith, a, p)) s h w
      ]
  part (Join method on left right) m n a b s h w =
      elim (cases_lt m n) [
        | inl p ↦ elim (cases_lt n (right_number m left)) [
          | inl q ↦ part left (m + 1) n (omega (arith, p)) (omega (arith, q)) s.1 h.1 w.1
          | inr q ↦ part right (right_number m left) n q (omega (arith, b)) s.2 h.2 w.2
        ]
        | inr p ↦ whole_part (Join method on left right) m n (omega (arith, a, p)) s h w
      ]
  part (Index left seek cond) m n a b s h w =
      elim (cases_lt m n) [
        | inl p ↦ elim (cases_lt n (right_number m left)) [
          | inl q ↦ part left (m + 1) n (omega (arith, p)) (omega (arith, q)) s.2 h.2 w.2
          | inr q ↦
              let e : n ≡ right_number m left = omega (arith, q, b) in
              inr (record {
                left = left;
                seek = seek;
                index = m;
                is = e;
                stands = ap (node_at nodes) e ∙ s.1;
                bound = ap D e ∙ h.1;
                left_bound = root_bounds left (m + 1) h.2;
                fits = w.1;
              })
        ]
        | inr p ↦ whole_part (Index left seek cond) m n (omega (arith, a, p)) s h w
      ]

  -- a child's bound, where the list agrees
  module _ (B : Bounds) where
    abbrev pub Agrees : ℕ → Type 0
    Agrees k = B k ≡ D k

    read_bound : (t : Tree) (child n : ℕ) → child ≡ n → Agrees child → HasBounds t n → B child ≡ bound_of t n G
    read_bound t child n e agree h = agree ∙ ap D e ∙ root_bounds t n h

    -- the numbers that the node reads stand in the plan, and its bound is what they give
    pub record IsComputed (r : Root) (n : ℕ) : Type 0 where
      pub lower : root_lo r n G B ≡ (D n).lo
      pub upper : root_hi r n G B ≡ (D n).hi
      pub small : (D n).lo ≤ greatest

    module _ (n : ℕ) where
      over_computed : (t u : Tree) (op : Unary) (child : ℕ) → t ≡ Over op u → child ≡ n + 1 → HasBounds t n → AllWithin t n → Agrees child
          → (lo_over op (G n) (B child).lo ≡ (D n).lo) × (hi_over computed op (G n) (side_of child G (B child).hi) ≡ (D n).hi)
      over_computed t u op child e k h w agree =
          let hs : HasBounds (Over op u) n = subst (λ x. HasBounds x n) e h in
          let ws : AllWithin (Over op u) n = subst (λ x. AllWithin x n) e w in
          let below : B child ≡ bound_of u (n + 1) G = read_bound u child (n + 1) k agree hs.1 in (
            ap (λ b. lo_over op (G n) b.lo) below ∙ sym (ap (λ b. b.lo) hs.0),
            ap (λ b. hi_over computed op (G n) (side_of child G b.hi)) below
                ∙ ap (λ c. hi_over computed op (G n) (side_of c G (hi u (n + 1) G))) k
                ∙ within greatest _ _ (over_capped greatest one op (G n) (side_of (n + 1) G (hi u (n + 1) G)) (root_within u (n + 1) ws.1).upper) ws.0.upper
                ∙ sym (ap (λ b. b.hi) hs.0),
          )

      join_computed : (t l r : Tree) (method : Method) (on : On) (left right : ℕ) → t ≡ Join method on l r → left ≡ n + 1 → right ≡ right_number n l
          → HasBounds t n → AllWithin t n → Agrees left → Agrees right
          → (lo_joined method on.unique (G n) (G left).handed (B left).lo ≡ (D n).lo)
          × (hi_joined computed method on.unique (G n) (side_of left G (B left).hi) (side_of right G (B right).hi) ≡ (D n).hi)
      join_computed t l r method on left right e j k h w agree agree_right =
          let hs : HasBounds (Join method on l r) n = subst (λ x. HasBounds x n) e h in
          let ws : AllWithin (Join method on l r) n = subst (λ x. AllWithin x n) e w in
          let ls : B left ≡ bound_of l (n + 1) G = read_bound l left (n + 1) j agree hs.1 in
          let rs : B right ≡ bound_of r (right_number n l) G = read_bound r right (right_number n l) k agree_right hs.2 in (
            ap (λ b. lo_joined method on.unique (G n) (G left).handed b.lo) ls
                ∙ ap (λ m. lo_joined method on.unique (G n) (G m).handed (lo l (n + 1) G)) j
                ∙ sym (ap (λ b. b.lo) hs.0),
            ap (λ b. hi_joined computed method on.unique (G n) (side_of left G b.hi) (side_of right G (B right).hi)) ls
                ∙ ap (λ b. hi_joined computed method on.unique (G n) (side_of left G (hi l (n + 1) G)) (side_of right G b.hi)) rs
                ∙ ap (λ m. hi_joined computed method on.unique (G n) (side_of m G (hi l (n + 1) G)) (side_of right G (hi r (right_number n l) G))) j
                ∙ ap (λ m. hi_joined computed method on.unique (G n) (side_of (n + 1) G (hi l (n + 1) G)) (side_of m G (hi r (right_number n l) G))) k
                ∙ within greatest _ _
                (joined_capped greatest one method on.unique (G n) (side_of (n + 1) G (hi l (n + 1) G)) (side_of (right_number n l) G (hi r (right_number n l) G))
                (root_within l (n + 1) ws.1).upper (root_within r (right_number n l) ws.2).upper) ws.0.upper
                ∙ sym (ap (λ b. b.hi) hs.0),
          )

      index_computed : (t l : Tree) (s : Seek) (cond : Option Cond) (seek : ℕ) → t ≡ Index l s cond → seek ≡ right_number n l
          → HasBounds t n → AllWithin t n → Agrees seek
          → ((G n).settled ≡ (D n).lo) × (index_hi computed (G n) (side_of seek G (B seek).hi) ≡ (D n).hi)
      index_computed t l s cond seek e k h w agree =
          let hs : HasBounds (Index l s cond) n = subst (λ x. HasBounds x n) e h in
          let ws : AllWithin (Index l s cond) n = subst (λ x. AllWithin x n) e w in
          let below : B seek ≡ bound_of_seek l s n G = agree ∙ ap D k ∙ hs.1 in (
            sym (ap (λ b. b.lo) hs.0),
            ap (λ b. index_hi computed (G n) (side_of seek G b.hi)) below
                ∙ ap (λ m. index_hi computed (G n) (side_of m G (hi_of_seek l s n G))) k
                ∙ within greatest _ _ refl ws.0.upper
                ∙ sym (ap (λ b. b.hi) hs.0),
          )

      tree_small : (p : TreePart n) → (D n).lo ≤ greatest
      tree_small p = omega (arith, ap (λ b. b.lo) (root_bounds p.tree n p.bounds), (root_within p.tree n p.fits).lower)

      tree_computed : (r : Root) → Some (root_node r) ≡ node_at nodes n → EachOf Agrees r → TreePart n → IsComputed r n
      tree_computed (root.Scan table label) at agree p =
          let same : p.tree ≡ Scan table label.now = rooted_same (begins nodes (Rooted p.tree) n (root.Scan table label) (root.Scan table label) refl at p.stands) in
          let hs : HasBounds (Scan table label.now) n = subst (λ x. HasBounds x n) same p.bounds in
          record { lower = sym (ap (λ b. b.lo) hs); upper = sym (ap (λ b. b.hi) hs); small = tree_small p }
      tree_computed (root.Over op child) at agree p =
          let i : OverOne nodes (Rooted p.tree) n (unary_of op) child = begins nodes (Rooted p.tree) n (root.Over op child) (root.Over op child) refl at p.stands in
          let c = over_computed p.tree i.tree (unary_of op) child (rooted_same i.is) i.child_is p.bounds p.fits agree in
          record { lower = c.0; upper = c.1; small = tree_small p }
      tree_computed (root.Join method left right pairs unique) at agree p =
          let on : On = record { pairs = pairs.now; unique = unique } in
          let i : OverTwo nodes (Rooted p.tree) n (method_of method) on left right =
          begins nodes (Rooted p.tree) n (root.Join method left right pairs unique) (root.Join method left right pairs unique) refl at p.stands in
          let c = join_computed p.tree i.left_tree i.right_tree (method_of method) on left right (rooted_same i.is) i.left_is i.right_is p.bounds p.fits agree.0 agree.1 in
          record { lower = c.0; upper = c.1; small = tree_small p }
      tree_computed (root.Index left seek cond) at agree p =
          let i : OverSeek nodes (Rooted p.tree) n cond.now left seek =
          begins nodes (Rooted p.tree) n (root.Index left seek cond) (root.Index left seek cond) refl at p.stands in
          let c = index_computed p.tree i.left_tree i.sought cond.now seek (rooted_same i.is) i.seek_is p.bounds p.fits agree in
          record { lower = c.0; upper = c.1; small = tree_small p }
      tree_computed (root.Seek left table label pairs unique) at agree p =
          absurd (no_seek p.tree _ (begins nodes (Rooted p.tree) n (root.Seek left table label pairs unique) (root.Seek left table label pairs unique) refl at p.stands))

      sought_computed : (r : Root) → Some (root_node r) ≡ node_at nodes n → EachOf Agrees r → SeekPart n → IsComputed r n
      sought_computed (root.Scan table label) at agree p = absurd (not_rooted (begins nodes (Sought p.seek) n (root.Scan table label) (root.Scan table label) refl at (p.index + 1, p.stands)))
      sought_computed (root.Over op child) at agree p =
          let i : OverOne nodes (Sought p.seek) n (unary_of op) child = begins nodes (Sought p.seek) n (root.Over op child) (root.Over op child) refl at (p.index + 1, p.stands) in
          absurd (not_rooted i.is)
      sought_computed (root.Join method left right pairs unique) at agree p =
          let i : OverTwo nodes (Sought p.seek) n (method_of method) (record { pairs = pairs.now; unique = unique }) left right =
          begins nodes (Sought p.seek) n (root.Join method left right pairs unique) (root.Join method left right pairs unique) refl at (p.index + 1, p.stands) in
          absurd (not_rooted i.is)
      sought_computed (root.Index left seek cond) at agree p =
          let i : OverSeek nodes (Sought p.seek) n cond.now left seek =
          begins nodes (Sought p.seek) n (root.Index left seek cond) (root.Index left seek cond) refl at (p.index + 1, p.stands) in
          absurd (not_rooted i.is)
      sought_computed (root.Seek left table label pairs unique) at agree p =
          let s = seek_parts (at ∙ p.stands) in
          let u : Unique = p.seek.on.unique in
          let below : B left ≡ bound_of p.left (p.index + 1) G = agree ∙ ap D s.0 ∙ p.left_bound in
          record {
            lower =
                ap (λ b. lo_matched unique (G n).settled b.lo) below
                ∙ ap (λ v. lo_matched v (G n).settled (lo p.left (p.index + 1) G)) s.1
                ∙ ap (λ m. lo_matched u (G m).settled (lo p.left (p.index + 1) G)) p.is
                ∙ sym (ap (λ b. b.lo) p.bound);
            upper =
                ap (λ b. seek_hi computed unique (G n) (side_of left G b.hi)) below
                ∙ ap (λ v. seek_hi computed v (G n) (side_of left G (hi p.left (p.index + 1) G))) s.1
                ∙ ap (λ m. seek_hi computed u (G n) (side_of m G (hi p.left (p.index + 1) G))) s.0
                ∙ ap (λ m. seek_hi computed u (G m) (side_of (p.index + 1) G (hi p.left (p.index + 1) G))) p.is
                ∙ within greatest _ _ (seek_capped greatest one u (G (right_number p.index p.left)) (side_of (p.index + 1) G (hi p.left (p.index + 1) G))) p.fits.upper
                ∙ sym (ap (λ b. b.hi) p.bound);
            small = omega (arith, ap (λ b. b.lo) p.bound, p.fits.lower);
          }

      pub part_computed : (r : Root) → Some (root_node r) ≡ node_at nodes n → EachOf Agrees r → Part n → IsComputed r n
      part_computed r at agree (inl p) = tree_computed r at agree p
      part_computed r at agree (inr p) = sought_computed r at agree p

  -- the numbers that a node reads are those of nodes
  number_of : (x : Node) (k m : ℕ) → m ≡ k → 1 ≤ k → node_at nodes k ≡ Some x → IsNumberUpTo (length nodes) m
  number_of x k m e some at = record { first = omega (arith, e, some); last = omega (arith, e, some, slice_get_within nodes (k - 1) x at) }

  tree_number : (t : Tree) (k m : ℕ) → m ≡ k → 1 ≤ k → IsTreeAt nodes t k → IsNumberUpTo (length nodes) m
  tree_number t k m e some s = number_of (node_of t k) k m e some (root_is nodes t k s)

  pub part_reads : (r : Root) (n : ℕ) → Some (root_node r) ≡ node_at nodes n → Part n → EachOf (IsNumberUpTo (length nodes)) r
  part_reads (root.Scan table label) n at p = tt
  part_reads (root.Over op child) n at (inl p) =
      let i : OverOne nodes (Rooted p.tree) n (unary_of op) child = begins nodes (Rooted p.tree) n (root.Over op child) (root.Over op child) refl at p.stands in
      tree_number i.tree (n + 1) child i.child_is (omega arith) i.stands
  part_reads (root.Over op child) n at (inr p) =
      let i : OverOne nodes (Sought p.seek) n (unary_of op) child = begins nodes (Sought p.seek) n (root.Over op child) (root.Over op child) refl at (p.index + 1, p.stands) in
      absurd (not_rooted i.is)
  part_reads (root.Join method left right pairs unique) n at (inl p) =
      let i : OverTwo nodes (Rooted p.tree) n (method_of method) (record { pairs = pairs.now; unique = unique }) left right =
      begins nodes (Rooted p.tree) n (root.Join method left right pairs unique) (root.Join method left right pairs unique) refl at p.stands in
      (tree_number i.left_tree (n + 1) left i.left_is (omega arith) i.left_stands, tree_number i.right_tree right right refl (omega (arith, i.right_is)) i.right_stands)
  part_reads (root.Join method left right pairs unique) n at (inr p) =
      let i : OverTwo nodes (Sought p.seek) n (method_of method) (record { pairs = pairs.now; unique = unique }) left right =
      begins nodes (Sought p.seek) n (root.Join method left right pairs unique) (root.Join method left right pairs unique) refl at (p.index + 1, p.stands) in
      absurd (not_rooted i.is)
  part_reads (root.Index left seek cond) n at (inl p) =
      let i : OverSeek nodes (Rooted p.tree) n cond.now left seek = begins nodes (Rooted p.tree) n (root.Index left seek cond) (root.Index left seek cond) refl at p.stands in
      number_of (seek_node i.sought (n + 1)) seek seek refl (omega (arith, i.seek_is)) i.seek_stands
  part_reads (root.Index left seek cond) n at (inr p) =
      let i : OverSeek nodes (Sought p.seek) n cond.now left seek = begins nodes (Sought p.seek) n (root.Index left seek cond) (root.Index left seek cond) refl at (p.index + 1, p.stands) in
      absurd (not_rooted i.is)
  part_reads (root.Seek left table label pairs unique) n at (inl p) =
      absurd (no_seek p.tree _ (begins nodes (Rooted p.tree) n (root.Seek left table label pairs unique) (root.Seek left table label pairs unique) refl at p.stands))
  part_reads (root.Seek left table label pairs unique) n at (inr p) =
      let s = seek_parts (at ∙ p.stands) in
      record { first = omega (arith, s.0); last = omega (arith, s.0, p.is, slice_get_within nodes (n - 1) (seek_node p.seek (p.index + 1)) p.stands) }
