-- the bounds of a plan at a moment: what stands at each number, and lists that are written node by node
use Rattle.std.proofs.Common.{◌≡◌, ℕ, ◌+◌, ◌-◌, ◌<◌, ◌≤◌, ◌^◌, ◌≢◌, true, List, [], ◌∷◌, ◌++◌, length, get_or, refl, sym, ap, subst, ◌∙◌, ◌⊎◌, inl, inr, arith}
use Rattle.std.specs.Prelude.{if◌then◌else◌, nat_lt, slice_get, sum_by, Option, None, Some}
use Rattle.std.proofs.lemmas.Bool.{cases_Bool, cases_lt, ltb-false}
use Rattle.std.proofs.lemmas.List.{append-nil, drop_all, ext_get_or, get_or-set_same, get_or-set_other}
use Rattle.std.proofs.lemmas.List.Sums.{sum_by-cons, sum_by-append}
use Rattle.std.proofs.lemmas.Option.{get_or_from_slice_get, slice_get-get_or, slice_get_within}
use Rattle.std.proofs.Math.ListN.{set}
use Rattle.pm_plan.specs.declared.gauge.Gauge.{Gauge}
use Rattle.pm_plan.specs.declared.gauge.Bound.{Bound}
use Rattle.pm_plan.specs.declared.gauge.Whole.{Whole}
use Rattle.pm_plan.specs.declared.plan.Node.{Node}
use Rattle.pm_plan.specs.declared.plan.Plan.{Plan}
use Rattle.pm_plan.specs.declared.root.Root.{Root}
use Rattle.pm_plan.specs.declared.root.Root.TheVariants as root
use Rattle.pm_plan.specs.declared.root.Unary.{Unary as UnaryRead}
use Rattle.pm_plan.specs.declared.root.Unary.TheVariants as unary
use Rattle.pm_plan.specs.declared.root.Method.{Method as MethodRead}
use Rattle.pm_plan.specs.declared.root.Method.TheVariants as method
use Rattle.pm_plan.specs.Rows.{Db}
use Rattle.pm_plan.specs.Tree.{On, Tree, Scan, Over, Join, Index, Seek, right_number, size, list_at, sum_at}
use Rattle.pm_plan.specs.Outputs.{output, sought}
use Rattle.pm_plan.specs.Preorder.{tree_of, node_at, node_of, seek_node, unary_node, join_node, IsTreeAt}
use Rattle.pm_plan.specs.Roots.{unary_of, method_of, root_node}
use Rattle.pm_plan.proofs.Preorders.{IsTreeAt-tree_of, length-nodes_of}
use Rattle.pm_plan.proofs.Walks.{EachAt-map, EachAt-both, drop-list_at}
use Rattle.pm_work.specs.First.{first_bound, most_work, greatest}
use Rattle.pm_work.specs.Fits.{IsSound, sizes_of}
use Rattle.pm_work.specs.Moments.{Counts, Gauges, gauge_in}
use Rattle.pm_work.specs.Work.{whole_work}
use Rattle.pm_work.proofs.Flags.{flags}
use Rattle.pm_bounds.specs.Bounds.{hi, hi_of_seek, work_done, lo_whole, hi_whole, whole_bound, whole_of, bound_of, bound_of_seek, bounds_of}
use Rattle.pm_bounds.specs.Enclosure.{Encloses, AllEnclosed}
use Rattle.pm_bounds.specs.Moment.{Bounds, AreGaugesOf, AreGauges, AllEnclosedBy, EachRead, EachReadBy, ReadAreBounds, bound_in, plan_bounds}
use Rattle.pm_bounds.specs.Steps.{EachOf, IsNumberUpTo, root_lo, root_bound, AgreeIn, AgreeElsewhere, sums_of}
use Rattle.pm_bounds.proofs.BoundLists.{length-bounds_of, are_bounds}
use Rattle.pm_bounds.proofs.CapsHold.{each_up_to, whole_bounded, below_greatest}
use Rattle.pm_bounds.proofs.Enclosed.{all_enclosed}
use Rattle.pm_bounds.proofs.First.{all_within_first}
use Rattle.pm_bounds.proofs.Narrow.{size_pos}
use Rattle.pm_bounds.proofs.Wholes.{whole_enclosed}
use Rattle.pm_bounds.proofs.Parts.{IsWithin, HasBounds, AllWithin, Part, part, IsComputed, part_computed, part_reads}

abbrev nothing : Bound
nothing = record { lo = 0; hi = 0 }

-- a plan that fits has a first bound within the most work
narrow_of : (b : ℕ) (rest : Option ℕ) → (if nat_lt most_work b then Some b else rest) ≡ None → b ≤ most_work
narrow_of b rest e = elim (cases_Bool (nat_lt most_work b)) [
  | inl t ↦ absurd (past t)
  | inr f ↦ omega (arith, ltb-false most_work b f)
]
  where
    past : nat_lt most_work b ≡ true → ⊥
    past t = let k : Some b ≡ None = rw t at e in absurd cc

module _ (plan : Plan) (gauges : List Gauge) where
  abbrev tree : Tree
  tree = tree_of plan.nodes

  abbrev G : Gauges
  G = gauge_in gauges

  module _ (db : Db) (K : Counts) (a : AreGaugesOf db K plan gauges) where
    pub sound_of : IsSound db tree
    sound_of = record { tables = a.tables; operators = a.fits.valid.operators; references = a.fits.references }

    pub narrow : first_bound (sizes_of db) tree ≤ most_work
    narrow = narrow_of (first_bound (sizes_of db) tree) _ a.fits.narrow

    pub enclosed : AllEnclosed db tree 1 G
    enclosed = all_enclosed db K G tree 1 (flags db tree sound_of) a.orderly a.has_gauges

    pub hi_limited : hi_whole tree G ≤ most_work
    hi_limited = whole_bounded db tree narrow G (all_within_first db K G tree 1 (flags db tree sound_of) a.orderly a.has_gauges)

    all_within : AllWithin plan.nodes G (bound_in (plan_bounds plan gauges)) tree 1
    all_within =
        EachAt-map (λ t m. (hi t m G ≤ greatest) × Encloses (G m).handed (bound_of t m G) (length (output db t))) (λ t m. IsWithin (bound_of t m G))
        (λ left seek m. (hi_of_seek left seek m G ≤ greatest) × Encloses (G (right_number m left)).handed (bound_of_seek left seek m G) (length (sought db seek (output db left))))
        (λ left seek m. IsWithin (bound_of_seek left seek m G))
        (λ t m x. record { lower = omega (arith, x.0, x.1.below, x.1.above); upper = x.0 })
        (λ left seek m x. record { lower = omega (arith, x.0, x.1.below, x.1.above); upper = x.0 }) tree 1
        (EachAt-both (λ t m. hi t m G ≤ greatest) (λ t m. Encloses (G m).handed (bound_of t m G) (length (output db t)))
        (λ left seek m. hi_of_seek left seek m G ≤ greatest)
        (λ left seek m. Encloses (G (right_number m left)).handed (bound_of_seek left seek m G) (length (sought db seek (output db left)))) tree 1
        (each_up_to (λ t m. hi t m G) (λ left seek m. hi_of_seek left seek m G) greatest tree 1 (omega (arith, hi_limited, below_greatest))) enclosed)

  module _ (a : AreGauges plan gauges) where
    pub stands : IsTreeAt plan.nodes tree 1
    stands = IsTreeAt-tree_of plan.nodes a.are.fits.valid.numbered

    pub plan_size : length plan.nodes ≡ size tree
    plan_size = ap length a.are.fits.valid.numbered ∙ length-nodes_of tree 1

    pub plan_long : length (plan_bounds plan gauges) ≡ length plan.nodes
    plan_long = length-bounds_of G tree 1 ∙ sym plan_size

    pub has_bounds : HasBounds plan.nodes G (bound_in (plan_bounds plan gauges)) tree 1
    has_bounds =
        EachAt-map (λ u m. slice_get (plan_bounds plan gauges) (m - 1) ≡ Some (bound_of u m G)) (λ u m. bound_in (plan_bounds plan gauges) m ≡ bound_of u m G)
        (λ left seek m. slice_get (plan_bounds plan gauges) (right_number m left - 1) ≡ Some (bound_of_seek left seek m G))
        (λ left seek m. bound_in (plan_bounds plan gauges) (right_number m left) ≡ bound_of_seek left seek m G)
        (λ u m e. get_or_from_slice_get (plan_bounds plan gauges) (m - 1) (bound_of u m G) nothing e)
        (λ left seek m e. get_or_from_slice_get (plan_bounds plan gauges) (right_number m left - 1) (bound_of_seek left seek m G) nothing e) tree 1 (are_bounds G tree)

    pub part_of : (n : ℕ) → 1 ≤ n → n ≤ length plan.nodes → Part plan.nodes G (bound_in (plan_bounds plan gauges)) n
    part_of n some within =
        part plan.nodes G (bound_in (plan_bounds plan gauges)) tree 1 n some (omega (arith, within, plan_size)) stands has_bounds (all_within a.db a.counts a.are)

-- the nodes that are read, by the node or by its root
module _ (P : ℕ → Type 0) where
  of_over : (op : UnaryRead) (child : ℕ) → EachRead P (unary_node (unary_of op) child) → P child
  of_over (unary.Filter cond) child h = h
  of_over (unary.Project columns) child h = h
  of_over (unary.Sort keys) child h = h
  of_over (unary.Group keys items) child h = h

  to_over : (op : UnaryRead) (child : ℕ) → P child → EachRead P (unary_node (unary_of op) child)
  to_over (unary.Filter cond) child h = h
  to_over (unary.Project columns) child h = h
  to_over (unary.Sort keys) child h = h
  to_over (unary.Group keys items) child h = h

  of_join : (by : MethodRead) (on : On) (left right : ℕ) → EachRead P (join_node (method_of by) on left right) → P left × P right
  of_join (method.Hash pad) on left right h = h
  of_join method.Merge on left right h = h

  to_join : (by : MethodRead) (on : On) (left right : ℕ) → P left × P right → EachRead P (join_node (method_of by) on left right)
  to_join (method.Hash pad) on left right h = h
  to_join method.Merge on left right h = h

  of_root : (r : Root) → EachRead P (root_node r) → EachOf P r
  of_root (root.Scan table label) h = tt
  of_root (root.Over op child) h = of_over op child h
  of_root (root.Join by left right pairs unique) h = of_join by (record { pairs = pairs.now; unique = unique }) left right h
  of_root (root.Index left seek cond) h = h
  of_root (root.Seek left table label pairs unique) h = h

  to_root : (r : Root) → EachOf P r → EachRead P (root_node r)
  to_root (root.Scan table label) h = tt
  to_root (root.Over op child) h = to_over op child h
  to_root (root.Join by left right pairs unique) h = to_join by (record { pairs = pairs.now; unique = unique }) left right h
  to_root (root.Index left seek cond) h = h
  to_root (root.Seek left table label pairs unique) h = h

  pub read_by : (r : Root) (o : Option Node) → Some (root_node r) ≡ o → EachOf P r → EachReadBy P o
  read_by r o at h = subst (EachReadBy P) at (to_root r h)

same_bound : (l h : ℕ) (d : Bound) → l ≡ d.lo → h ≡ d.hi → record { lo = l; hi = h } ≡ d
same_bound l h d p q = ap (λ x. record { lo = x; hi = h }) p ∙ ap (λ y. record { lo = d.lo; hi = y }) q

-- what is known of the node of number n where those that it reads are written
pub record OneNode (plan : Plan) (gauges : List Gauge) (into : List Bound) (r : Root) (n : ℕ) : Type 0 where
  pub reads : EachOf (IsNumberUpTo (length gauges)) r
  pub fits : root_lo r n (gauge_in gauges) (bound_in into) < 2 ^ 128
  pub bound : root_bound r n (gauge_in gauges) (bound_in into) ≡ bound_in (plan_bounds plan gauges) n

pub one_node : (plan : Plan) (gauges : List Gauge) (a : AreGauges plan gauges) (into : List Bound) (r : Root) (n : ℕ)
    → Some (root_node r) ≡ node_at plan.nodes n → 1 ≤ n → n ≤ length plan.nodes → ReadAreBounds plan n gauges into → OneNode plan gauges into r n
one_node plan gauges a into r n at some within read =
    let D : Bounds = bound_in (plan_bounds plan gauges) in
    let p : Part plan.nodes (gauge_in gauges) D n = part_of plan gauges a n some within in
    let agree : EachOf (λ m. bound_in into m ≡ D m) r =
    of_root (λ m. bound_in into m ≡ D m) r (subst (EachReadBy (λ m. bound_in into m ≡ D m)) (sym at) read) in
    let done : IsComputed plan.nodes (gauge_in gauges) D (bound_in into) r n = part_computed plan.nodes (gauge_in gauges) D (bound_in into) n r at agree p in
    record {
      reads = subst (λ k. EachOf (IsNumberUpTo k) r) (sym a.are.each_node) (part_reads plan.nodes (gauge_in gauges) D r n at p);
      fits = omega (arith, done.lower, done.small);
      bound = same_bound _ _ (D n) done.lower done.upper;
    }

-- ---- lists that are written node by node

-- the entries from one position up to another are written, and the others are as before
pub record Written (from upto : ℕ) (before after D : List Bound) : Type 0 where
  pub inside : (i : ℕ) → from ≤ i → i < upto → get_or after i nothing ≡ get_or D i nothing
  pub outside : (i : ℕ) → (i < from) ⊎ (upto ≤ i) → get_or after i nothing ≡ get_or before i nothing

pub one_written : (k : ℕ) (before after D : List Bound) → after ≡ set before k (get_or D k nothing) → k < length before → Written k (k + 1) before after D
one_written k before after D is less =
    record {
      inside = λ i p q.
          let e : i ≡ k = omega arith in
          ap (λ l. get_or l i nothing) is ∙ ap (λ j. get_or (set before k (get_or D k nothing)) j nothing) e ∙ get_or-set_same before k (get_or D k nothing) nothing less ∙ sym (ap (λ j. get_or D j nothing) e);
      outside = λ i p.
          let ne : i ≢ k = λ e. absurd (elim p [ inl x ↦ omega (arith, e, x) | inr y ↦ omega (arith, e, y) ]) in
          ap (λ l. get_or l i nothing) is ∙ get_or-set_other before k i (get_or D k nothing) nothing ne;
    }

pub tree_written : (t : Tree) (n : ℕ) (before after D : List Bound) → AgreeIn t n after D → AgreeElsewhere t n after before → Written (n - 1) (n - 1 + size t) before after D
tree_written t n before after D p q = record { inside = p; outside = q }

-- two parts side by side, whichever is written first
pub both_written : (a b c : ℕ) (l0 l1 l2 D : List Bound) → a ≤ b → b ≤ c → Written a b l0 l1 D → Written b c l1 l2 D → Written a c l0 l2 D
both_written a b c l0 l1 l2 D p q v w =
    record {
      inside = λ i x y. elim (cases_lt i b) [
        | inl less ↦ w.outside i (inl less) ∙ v.inside i x less
        | inr more ↦ w.inside i more y
      ];
      outside = λ i x. elim x [
        | inl less ↦ w.outside i (inl (omega (arith, less, p))) ∙ v.outside i (inl less)
        | inr more ↦ w.outside i (inr more) ∙ v.outside i (inr (omega (arith, more, q)))
      ];
    }

pub first_written_last : (a b c : ℕ) (l0 l1 l2 D : List Bound) → a ≤ b → b ≤ c → Written b c l0 l1 D → Written a b l1 l2 D → Written a c l0 l2 D
first_written_last a b c l0 l1 l2 D p q v w =
    record {
      inside = λ i x y. elim (cases_lt i b) [
        | inl less ↦ w.inside i x less
        | inr more ↦ w.outside i (inr more) ∙ v.inside i more y
      ];
      outside = λ i x. elim x [
        | inl less ↦ w.outside i (inl less) ∙ v.outside i (inl (omega (arith, less, p)))
        | inr more ↦ w.outside i (inr (omega (arith, more, q))) ∙ v.outside i (inr more)
      ];
    }

pub entry : (t : Tree) (m : ℕ) (l D : List Bound) → AgreeIn t m l D → bound_in l m ≡ bound_in D m
entry t m l D h = h (m - 1) (omega arith) (omega (arith, size_pos t))

-- a list of all entries is the list
pub all_written : (t : Tree) (a b : List Bound) → length a ≡ size t → length b ≡ size t → AgreeIn t 1 a b → a ≡ b
all_written t a b long as_long same = ext_get_or nothing a b (long ∙ sym as_long) (λ i less. same i (omega arith) (omega (arith, long, less)))

-- ---- the whole list, and its sums

abbrev whole_record : ℕ → ℕ → ℕ → Whole
whole_record work lo hi = record { work = work; lo = lo; hi = hi }

-- a sum of a number of each item in preorder
sum_by-list_at : {A : Type 0} (value : A → ℕ) (f : Tree → ℕ → A) (s : Tree → Seek → ℕ → A) (t : Tree) (n : ℕ)
    → sum_by value (list_at f s t n) ≡ sum_at (λ u m. value (f u m)) (λ left seek m. value (s left seek m)) t n
sum_by-list_at value f s (Scan table label) n = omega (arith, sum_by-cons value (f (Scan table label) n) [])
sum_by-list_at value f s (Over op child) n = sum_by-cons value (f (Over op child) n) (list_at f s child (n + 1)) ∙ ap (λ x. value (f (Over op child) n) + x) (sum_by-list_at value f s child (n + 1))
sum_by-list_at value f s (Join method on left right) n =
    omega (
      arith,
      sum_by-cons value (f (Join method on left right) n) (list_at f s left (n + 1) ++ list_at f s right (right_number n left)),
      sum_by-append value (list_at f s left (n + 1)) (list_at f s right (right_number n left)),
      sum_by-list_at value f s left (n + 1),
      sum_by-list_at value f s right (right_number n left),
    )
sum_by-list_at value f s (Index left seek cond) n =
    omega (
      arith,
      sum_by-cons value (f (Index left seek cond) n) (list_at f s left (n + 1) ++ s left seek n ∷ []),
      sum_by-append value (list_at f s left (n + 1)) (s left seek n ∷ []),
      sum_by-list_at value f s left (n + 1),
      sum_by-cons value (s left seek n) [],
    )

module _ (plan : Plan) (gauges : List Gauge) (a : AreGauges plan gauges) where
  abbrev plan_tree : Tree
  plan_tree = tree_of plan.nodes

  abbrev seen : Gauges
  seen = gauge_in gauges

  pub enclosed_by : (db : Db) (K : Counts) → AreGaugesOf db K plan gauges → AllEnclosedBy db plan_tree seen (bound_in (plan_bounds plan gauges))
  enclosed_by db K b =
      EachAt-map (λ t m. Encloses (seen m).handed (bound_of t m seen) (length (output db t)) × (bound_in (plan_bounds plan gauges) m ≡ bound_of t m seen))
      (λ t m. Encloses (seen m).handed (bound_in (plan_bounds plan gauges) m) (length (output db t)))
      (λ left seek m. Encloses (seen (right_number m left)).handed (bound_of_seek left seek m seen) (length (sought db seek (output db left)))
      × (bound_in (plan_bounds plan gauges) (right_number m left) ≡ bound_of_seek left seek m seen))
      (λ left seek m. Encloses (seen (right_number m left)).handed (bound_in (plan_bounds plan gauges) (right_number m left)) (length (sought db seek (output db left))))
      (λ t m x. subst (λ y. Encloses (seen m).handed y (length (output db t))) (sym x.1) x.0)
      (λ left seek m x. subst (λ y. Encloses (seen (right_number m left)).handed y (length (sought db seek (output db left)))) (sym x.1) x.0) plan_tree 1
      (EachAt-both (λ t m. Encloses (seen m).handed (bound_of t m seen) (length (output db t))) (λ t m. bound_in (plan_bounds plan gauges) m ≡ bound_of t m seen)
      (λ left seek m. Encloses (seen (right_number m left)).handed (bound_of_seek left seek m seen) (length (sought db seek (output db left))))
      (λ left seek m. bound_in (plan_bounds plan gauges) (right_number m left) ≡ bound_of_seek left seek m seen) plan_tree 1 (enclosed plan gauges db K b) (has_bounds plan gauges a))

  -- the gauges in preorder
  are_listed : gauges ≡ list_at (λ t m. seen m) (λ left seek m. seen (right_number m left)) plan_tree 1
  are_listed =
      drop-list_at (λ t m. seen m) (λ left seek m. seen (right_number m left)) gauges plan_tree 1 0 refl
      (EachAt-map (λ t m. node_at plan.nodes m ≡ Some (node_of t m)) (λ t m. slice_get gauges (m - 1) ≡ Some (seen m))
      (λ left seek m. node_at plan.nodes (right_number m left) ≡ Some (seek_node seek (m + 1))) (λ left seek m. slice_get gauges (right_number m left - 1) ≡ Some (seen (right_number m left)))
      (λ t m e. slice_get-get_or gauges (m - 1) _ (omega (arith, slice_get_within plan.nodes (m - 1) (node_of t m) e, a.are.each_node)))
      (λ left seek m e. slice_get-get_or gauges (right_number m left - 1) _ (omega (arith, slice_get_within plan.nodes (right_number m left - 1) (seek_node seek (m + 1)) e, a.are.each_node))) plan_tree 1 (stands plan gauges a))
      ∙ ap (λ rest. list_at (λ t m. seen m) (λ left seek m. seen (right_number m left)) plan_tree 1 ++ rest) (drop_all (0 + size plan_tree) gauges (omega (arith, a.are.each_node, plan_size plan gauges a)))
      ∙ append-nil (list_at (λ t m. seen m) (λ left seek m. seen (right_number m left)) plan_tree 1)

  pub sums_are : (bounds : List Bound) → bounds ≡ bounds_of plan_tree 1 seen → sums_of gauges bounds ≡ whole_of plan_tree seen
  sums_are bounds e =
      three _ _ _ _ _ _ (ap (sum_by (λ g. g.handed)) are_listed ∙ sum_by-list_at (λ g. g.handed) (λ t m. seen m) (λ left seek m. seen (right_number m left)) plan_tree 1)
      (ap (sum_by (λ b. b.lo)) e ∙ sum_by-list_at (λ b. b.lo) (λ t m. bound_of t m seen) (λ left seek m. bound_of_seek left seek m seen) plan_tree 1)
      (ap (sum_by (λ b. b.hi)) e ∙ sum_by-list_at (λ b. b.hi) (λ t m. bound_of t m seen) (λ left seek m. bound_of_seek left seek m seen) plan_tree 1)
    where
      three : (w w2 l l2 h h2 : ℕ) → w ≡ w2 → l ≡ l2 → h ≡ h2 → whole_record w l h ≡ whole_record w2 l2 h2
      three w w2 l l2 h h2 p q r = cc

  pub whole_encloses : (db : Db) (K : Counts) → AreGaugesOf db K plan gauges → Encloses (work_done plan_tree seen) (whole_bound plan_tree seen) (whole_work db plan_tree)
  whole_encloses db K b = whole_enclosed db plan_tree seen (enclosed plan gauges db K b)

  -- all sums are seen most the most work
  pub record SumsSmall : Type 0 where
    pub work : work_done plan_tree seen ≤ most_work
    pub lo : lo_whole plan_tree seen ≤ most_work
    pub hi : hi_whole plan_tree seen ≤ most_work

  pub sums_small : SumsSmall
  sums_small =
      let e = whole_encloses a.db a.counts a.are in
      let top : hi_whole plan_tree seen ≤ most_work = hi_limited plan gauges a.db a.counts a.are in
      record { work = omega (arith, e.counted, e.below, e.above, top); lo = omega (arith, e.below, e.above, top); hi = top }
