-- the parts of a tree that is brought up to date, and what is then written
use Rattle.std.proofs.Common.{◌≡◌, ℕ, ◌+◌, ◌-◌, ◌<◌, ◌≤◌, ◌^◌, List, length, refl, sym, ap, subst, ◌∙◌, ◌⊎◌, inl, inr, arith}
use Rattle.std.specs.Prelude.{Option}
use Rattle.std.proofs.Math.ListN.{set}
use Rattle.std.proofs.lemmas.Bool.{cases_lt}
use Rattle.std.proofs.lemmas.List.{get_or_past}
use Rattle.std.proofs.lemmas.Option.{slice_get_within}
use Rattle.pm_values.specs.declared.condition.Cond.{Cond}
use Rattle.pm_plan.specs.declared.gauge.Gauge.{Gauge}
use Rattle.pm_plan.specs.declared.gauge.Bound.{Bound}
use Rattle.pm_plan.specs.declared.gauge.Whole.{Whole}
use Rattle.pm_plan.specs.declared.plan.Node.{Node}
use Rattle.pm_plan.specs.declared.plan.Plan.{Plan}
use Rattle.pm_plan.specs.Tree.{Unary, Method, On, Tree, Scan, Over, Join, Index, size, right_number}
use Rattle.pm_plan.specs.Preorder.{Rooted, node_of, seek_node, tree_of, IsTreeAt}
use Rattle.pm_plan.proofs.Inversion.{OverOne, OverTwo, OverSeek, rooted_same, root_is}
use Rattle.pm_work.specs.Moments.{HasGauges, gauge_in}
use Rattle.pm_work.proofs.Flags.{flags}
use Rattle.pm_bounds.specs.Bounds.{bounds_of, work_done, whole_bound}
use Rattle.pm_bounds.specs.Enclosure.{Narrows, AllNarrow}
use Rattle.pm_bounds.specs.Moment.{AreGauges, bound_in, plan_bounds}
use Rattle.pm_bounds.proofs.Narrow.{all_narrowed}
use Rattle.pm_bounds.proofs.Wholes.{whole_narrow, work_is}
use Rattle.pm_bounds.proofs.Written.{Written, one_written, both_written, first_written_last, stands, plan_size, plan_long, has_bounds, sound_of, sums_are, sums_small}
use Rattle.pm_refine.specs.Refined.{Refined}
use Rattle.pm_refine.specs.Refining.{StandsFor, IsBefore, bound_of_whole}
use Rattle.pm_refine.specs.Steps.{bound_at, AreSums, SumsFit, AreBetween, HasBounds, AreRefreshed, IsStale}
use Rattle.pm_refine.proofs.Entries.{refreshed_between, set_between, set_fit, all_refreshed}
use Rattle.pm_refine.proofs.Unchanged.{AllEntries, at_positions, same_bounds, same_entries, IsOut, same_gauges, counted_in}

abbrev nothing : Bound
nothing = record { lo = 0; hi = 0 }

abbrev whole_record : ℕ → ℕ → ℕ → Whole
whole_record work lo hi = record { work = work; lo = lo; hi = hi }

to_written : (a b : ℕ) (l0 l1 D : List Bound) → AreRefreshed a b l0 l1 D → Written a b l0 l1 D
to_written a b l0 l1 D r = record { inside = r.inside; outside = r.outside }

of_written : (a b : ℕ) (l0 l1 D : List Bound) → Written a b l0 l1 D → AreRefreshed a b l0 l1 D
of_written a b l0 l1 D w = record { inside = w.inside; outside = w.outside }

module _ (plan : Plan) (node : ℕ) (gauges : List Gauge) where
  abbrev D : List Bound
  D = plan_bounds plan gauges

  module _ (n upto : ℕ) (l : List Bound) (s : IsStale plan n upto node gauges l) where
    pub earlier_moment : AreGauges plan s.earlier
    earlier_moment = record { db = s.event.db; counts = s.event.counts; are = s.event.earlier_gauges }

    pub later_moment : AreGauges plan gauges
    later_moment = record { db = s.event.db; counts = s.event.later; are = s.event.later_gauges }

    -- one entry more has a place in the sums
    pub fits_at : (m : ℕ) (l2 : List Bound) → m - 1 < length l2 → length l2 ≡ length plan.nodes → AreBetween l2 (plan_bounds plan s.earlier) (plan_bounds plan gauges)
        → SumsFit (set l2 (m - 1) (bound_in (plan_bounds plan gauges) m))
    fits_at m l2 less long between = set_fit plan s.earlier gauges l2 m earlier_moment later_moment long less between

    -- entries that were brought up to date, or are one more
    pub still_between : (a b : ℕ) (l0 l1 : List Bound) → AreRefreshed a b l0 l1 (plan_bounds plan gauges) → AreBetween l0 (plan_bounds plan s.earlier) (plan_bounds plan gauges)
        → AreBetween l1 (plan_bounds plan s.earlier) (plan_bounds plan gauges)
    still_between a b l0 l1 r between = refreshed_between a b l0 l1 (plan_bounds plan s.earlier) (plan_bounds plan gauges) r between

    pub set_still_between : (m : ℕ) (l0 l1 : List Bound) → l1 ≡ set l0 (m - 1) (bound_in (plan_bounds plan gauges) m) → m - 1 < length l0
        → AreBetween l0 (plan_bounds plan s.earlier) (plan_bounds plan gauges) → AreBetween l1 (plan_bounds plan s.earlier) (plan_bounds plan gauges)
    set_still_between m l0 l1 is less between =
        subst (λ x. AreBetween x (plan_bounds plan s.earlier) (plan_bounds plan gauges)) (sym is)
        (set_between l0 (plan_bounds plan s.earlier) (plan_bounds plan gauges) (m - 1) less between)

    -- the node stands elsewhere
    pub unchanged : (node < n) ⊎ (upto ≤ node) → AreRefreshed (n - 1) (upto - 1) l l (plan_bounds plan gauges)
    unchanged out =
        let apart : IsOut node n (n + size s.tree) = subst (λ k. IsOut node n k) s.ends out in
        let same : AllEntries (λ x y. x ≡ y) (plan_bounds plan s.earlier) (plan_bounds plan gauges) s.tree n =
        same_entries (gauge_in s.earlier) (gauge_in gauges) (plan_bounds plan s.earlier) (plan_bounds plan gauges) s.tree n s.bounds_before
        (same_bounds (gauge_in s.earlier) (gauge_in gauges) s.tree n
        (same_gauges s.event.db node s.event.counts s.event.later s.event.next (gauge_in s.earlier) (gauge_in gauges) s.tree n apart s.gauges_before s.gauges_after))
        s.bounds_after in
        record {
          inside = λ i a b.
              s.entries i a b
              ∙ at_positions (λ x y. x ≡ y) (plan_bounds plan s.earlier) (plan_bounds plan gauges) s.tree n s.first same i a (omega (arith, b, s.ends, s.first));
          outside = λ i a. refl;
        }

    -- a part of the tree
    part : (u : Tree) (m to : ℕ) (l2 : List Bound) → 1 ≤ m → IsTreeAt plan.nodes u m → to ≡ m + size u
        → HasGauges s.event.db u m s.event.counts (gauge_in s.earlier) → HasGauges s.event.db u m s.event.later (gauge_in gauges)
        → HasBounds u m (gauge_in s.earlier) (bound_in (plan_bounds plan s.earlier)) → HasBounds u m (gauge_in gauges) (bound_in (plan_bounds plan gauges))
        → ((i : ℕ) → m - 1 ≤ i → i < to - 1 → bound_at l2 i ≡ bound_at (plan_bounds plan s.earlier) i)
        → AreBetween l2 (plan_bounds plan s.earlier) (plan_bounds plan gauges) → length l2 ≡ length plan.nodes → IsStale plan m to node gauges l2
    part u m to l2 first at ends g h b d entries between room =
        record {
          earlier = s.earlier;
          event = s.event;
          tree = u;
          first = first;
          stands = at;
          ends = ends;
          gauges_before = g;
          gauges_after = h;
          bounds_before = b;
          bounds_after = d;
          entries = entries;
          between = between;
          room = room;
        }

    abbrev Before : Tree → ℕ → Type 0
    Before t m = HasGauges s.event.db t m s.event.counts (gauge_in s.earlier)

    abbrev After : Tree → ℕ → Type 0
    After t m = HasGauges s.event.db t m s.event.later (gauge_in gauges)

    abbrev BoundsBefore : Tree → ℕ → Type 0
    BoundsBefore t m = HasBounds t m (gauge_in s.earlier) (bound_in (plan_bounds plan s.earlier))

    abbrev BoundsAfter : Tree → ℕ → Type 0
    BoundsAfter t m = HasBounds t m (gauge_in gauges) (bound_in (plan_bounds plan gauges))

    pub over_stale : (op : Unary) (child : ℕ) → OverOne plan.nodes (Rooted s.tree) n op child → IsStale plan child upto node gauges l
    over_stale op child i =
        let e : s.tree ≡ Over op i.tree = rooted_same i.is in
        let g : Before (Over op i.tree) n = subst (λ t. Before t n) e s.gauges_before in
        let h : After (Over op i.tree) n = subst (λ t. After t n) e s.gauges_after in
        let b : BoundsBefore (Over op i.tree) n = subst (λ t. BoundsBefore t n) e s.bounds_before in
        let d : BoundsAfter (Over op i.tree) n = subst (λ t. BoundsAfter t n) e s.bounds_after in
        subst (λ m. IsStale plan m upto node gauges l) (sym i.child_is)
        (part i.tree (n + 1) upto l (omega arith) i.stands (omega (arith, s.ends, ap size e)) g.1 h.1 b.1 d.1 (λ j a c. s.entries j (omega (arith, a)) c) s.between s.room)

    module _ (method : Method) (on : On) (left right : ℕ) (i : OverTwo plan.nodes (Rooted s.tree) n method on left right) where
      join_tree : s.tree ≡ Join method on i.left_tree i.right_tree
      join_tree = rooted_same i.is

      pub left_stale : IsStale plan left right node gauges l
      left_stale =
          let g : Before (Join method on i.left_tree i.right_tree) n = subst (λ t. Before t n) join_tree s.gauges_before in
          let h : After (Join method on i.left_tree i.right_tree) n = subst (λ t. After t n) join_tree s.gauges_after in
          let b : BoundsBefore (Join method on i.left_tree i.right_tree) n = subst (λ t. BoundsBefore t n) join_tree s.bounds_before in
          let d : BoundsAfter (Join method on i.left_tree i.right_tree) n = subst (λ t. BoundsAfter t n) join_tree s.bounds_after in
          subst (λ m. IsStale plan m right node gauges l) (sym i.left_is)
          (part i.left_tree (n + 1) right l (omega arith) i.left_stands i.right_is g.1 h.1 b.1 d.1
          (λ j a c. s.entries j (omega (arith, a)) (omega (arith, c, i.right_is, s.ends, ap size join_tree))) s.between s.room)

      pub right_stale : (l2 : List Bound) → AreRefreshed (left - 1) (right - 1) l l2 (plan_bounds plan gauges) → length l2 ≡ length plan.nodes → IsStale plan right upto node gauges l2
      right_stale l2 r long =
          let g : Before (Join method on i.left_tree i.right_tree) n = subst (λ t. Before t n) join_tree s.gauges_before in
          let h : After (Join method on i.left_tree i.right_tree) n = subst (λ t. After t n) join_tree s.gauges_after in
          let b : BoundsBefore (Join method on i.left_tree i.right_tree) n = subst (λ t. BoundsBefore t n) join_tree s.bounds_before in
          let d : BoundsAfter (Join method on i.left_tree i.right_tree) n = subst (λ t. BoundsAfter t n) join_tree s.bounds_after in
          let at : IsTreeAt plan.nodes i.right_tree (right_number n i.left_tree) = subst (IsTreeAt plan.nodes i.right_tree) i.right_is i.right_stands in
          subst (λ m. IsStale plan m upto node gauges l2) (sym i.right_is)
          (part i.right_tree (right_number n i.left_tree) upto l2 (omega arith) at (omega (arith, s.ends, ap size join_tree)) g.2 h.2 b.2 d.2
          (λ j a c. r.outside j (inr (omega (arith, a, i.right_is))) ∙ s.entries j (omega (arith, a)) c) (still_between (left - 1) (right - 1) l l2 r s.between) long)

      pub join_refreshed : (l1 l2 l3 : List Bound) → AreRefreshed (left - 1) (right - 1) l l1 (plan_bounds plan gauges) → AreRefreshed (right - 1) (upto - 1) l1 l2 (plan_bounds plan gauges)
          → l3 ≡ set l2 (n - 1) (bound_in (plan_bounds plan gauges) n) → n - 1 < length l2 → AreRefreshed (n - 1) (upto - 1) l l3 (plan_bounds plan gauges)
      join_refreshed l1 l2 l3 r q is less =
          let first : left - 1 ≡ n - 1 + 1 = omega (arith, i.left_is, s.first) in
          let both : Written (left - 1) (upto - 1) l l2 (plan_bounds plan gauges) =
          both_written (left - 1) (right - 1) (upto - 1) l l1 l2 (plan_bounds plan gauges) (omega (arith, i.left_is, i.right_is)) (omega (arith, i.right_is, s.ends, ap size join_tree))
          (to_written (left - 1) (right - 1) l l1 (plan_bounds plan gauges) r) (to_written (right - 1) (upto - 1) l1 l2 (plan_bounds plan gauges) q) in
          of_written (n - 1) (upto - 1) l l3 (plan_bounds plan gauges)
          (first_written_last (n - 1) (n - 1 + 1) (upto - 1) l l2 l3 (plan_bounds plan gauges) (omega arith) (omega (arith, s.first, s.ends, ap size join_tree))
          (subst (λ k. Written k (upto - 1) l l2 (plan_bounds plan gauges)) first both) (one_written (n - 1) l2 l3 (plan_bounds plan gauges) is less))

    pub over_refreshed : (op : Unary) (child : ℕ) → OverOne plan.nodes (Rooted s.tree) n op child → (l1 l2 : List Bound)
        → AreRefreshed (child - 1) (upto - 1) l l1 (plan_bounds plan gauges) → l2 ≡ set l1 (n - 1) (bound_in (plan_bounds plan gauges) n) → n - 1 < length l1
        → AreRefreshed (n - 1) (upto - 1) l l2 (plan_bounds plan gauges)
    over_refreshed op child i l1 l2 r is less =
        let e : s.tree ≡ Over op i.tree = rooted_same i.is in
        let first : child - 1 ≡ n - 1 + 1 = omega (arith, i.child_is, s.first) in
        of_written (n - 1) (upto - 1) l l2 (plan_bounds plan gauges)
        (first_written_last (n - 1) (n - 1 + 1) (upto - 1) l l1 l2 (plan_bounds plan gauges) (omega arith) (omega (arith, s.first, s.ends, ap size e))
        (subst (λ k. Written k (upto - 1) l l1 (plan_bounds plan gauges)) first (to_written (child - 1) (upto - 1) l l1 (plan_bounds plan gauges) r))
        (one_written (n - 1) l1 l2 (plan_bounds plan gauges) is less))

    pub scan_refreshed : (l1 : List Bound) → size s.tree ≡ 1 → l1 ≡ set l (n - 1) (bound_in (plan_bounds plan gauges) n) → n - 1 < length l
        → AreRefreshed (n - 1) (upto - 1) l l1 (plan_bounds plan gauges)
    scan_refreshed l1 single is less =
        let last : n - 1 + 1 ≡ upto - 1 = omega (arith, s.ends, single, s.first) in
        of_written (n - 1) (upto - 1) l l1 (plan_bounds plan gauges)
        (subst (λ k. Written (n - 1) k l l1 (plan_bounds plan gauges)) last (one_written (n - 1) l l1 (plan_bounds plan gauges) is less))

    module _ (cond : Option Cond) (left seek : ℕ) (i : OverSeek plan.nodes (Rooted s.tree) n cond left seek) where
      index_tree : s.tree ≡ Index i.left_tree i.sought cond
      index_tree = rooted_same i.is

      pub index_left_stale : IsStale plan left seek node gauges l
      index_left_stale =
          let g : Before (Index i.left_tree i.sought cond) n = subst (λ t. Before t n) index_tree s.gauges_before in
          let h : After (Index i.left_tree i.sought cond) n = subst (λ t. After t n) index_tree s.gauges_after in
          let b : BoundsBefore (Index i.left_tree i.sought cond) n = subst (λ t. BoundsBefore t n) index_tree s.bounds_before in
          let d : BoundsAfter (Index i.left_tree i.sought cond) n = subst (λ t. BoundsAfter t n) index_tree s.bounds_after in
          subst (λ m. IsStale plan m seek node gauges l) (sym i.left_is)
          (part i.left_tree (n + 1) seek l (omega arith) i.left_stands i.seek_is g.2 h.2 b.2 d.2
          (λ j a c. s.entries j (omega (arith, a)) (omega (arith, c, i.seek_is, s.ends, ap size index_tree))) s.between s.room)

      pub seek_there : (1 ≤ seek) × (seek ≤ length plan.nodes)
      seek_there =
          (omega (arith, i.seek_is), omega (arith, i.seek_is, slice_get_within plan.nodes (seek - 1) (seek_node i.sought (n + 1)) i.seek_stands))

      pub index_refreshed : (l1 l2 l3 : List Bound) → AreRefreshed (left - 1) (seek - 1) l l1 (plan_bounds plan gauges)
          → l2 ≡ set l1 (seek - 1) (bound_in (plan_bounds plan gauges) seek) → seek - 1 < length l1
          → l3 ≡ set l2 (n - 1) (bound_in (plan_bounds plan gauges) n) → n - 1 < length l2 → AreRefreshed (n - 1) (upto - 1) l l3 (plan_bounds plan gauges)
      index_refreshed l1 l2 l3 r sought there is less =
          let first : left - 1 ≡ n - 1 + 1 = omega (arith, i.left_is, s.first) in
          let last : seek - 1 + 1 ≡ upto - 1 = omega (arith, i.seek_is, s.ends, ap size index_tree) in
          let both : Written (left - 1) (seek - 1 + 1) l l2 (plan_bounds plan gauges) =
          both_written (left - 1) (seek - 1) (seek - 1 + 1) l l1 l2 (plan_bounds plan gauges) (omega (arith, i.left_is, i.seek_is)) (omega arith)
          (to_written (left - 1) (seek - 1) l l1 (plan_bounds plan gauges) r) (one_written (seek - 1) l1 l2 (plan_bounds plan gauges) sought there) in
          of_written (n - 1) (upto - 1) l l3 (plan_bounds plan gauges)
          (first_written_last (n - 1) (n - 1 + 1) (upto - 1) l l2 l3 (plan_bounds plan gauges) (omega arith) (omega (arith, s.first, s.ends, ap size index_tree))
          (subst (λ k. Written k (upto - 1) l l2 (plan_bounds plan gauges)) first (subst (λ k. Written (left - 1) k l l2 (plan_bounds plan gauges)) last both))
          (one_written (n - 1) l2 l3 (plan_bounds plan gauges) is less))

-- a node's tree begins within the list
pub tree_there : (nodes : List Node) (t : Tree) (n : ℕ) → 1 ≤ n → IsTreeAt nodes t n → n ≤ length nodes
tree_there nodes t n some h = omega (arith, some, slice_get_within nodes (n - 1) (node_of t n) (root_is nodes t n h))

-- ---- the whole plan

module _ (r : Refined) (node : ℕ) (gauges : List Gauge) (b : IsBefore r node gauges) where
  abbrev tree : Tree
  tree = tree_of r.plan.nodes

  earlier_whole : AreGauges r.plan b.before
  earlier_whole = record { db = b.event.db; counts = b.event.counts; are = b.event.earlier_gauges }

  pub later_whole : AreGauges r.plan gauges
  later_whole = record { db = b.event.db; counts = b.event.later; are = b.event.later_gauges }

  narrowed : AllNarrow tree 1 (gauge_in b.before) (gauge_in gauges)
  narrowed =
      let sound = sound_of r.plan gauges b.event.db b.event.later b.event.later_gauges in
      all_narrowed b.event.db node b.event.counts b.event.later (gauge_in b.before) (gauge_in gauges) b.event.next tree 1 (flags b.event.db tree sound)
      b.event.earlier_gauges.orderly b.event.later_gauges.orderly b.event.earlier_gauges.has_gauges b.event.later_gauges.has_gauges

  -- no entry is wider than before
  entries_narrow : (i : ℕ) → Narrows (bound_at (plan_bounds r.plan b.before) i) (bound_at (plan_bounds r.plan gauges) i)
  entries_narrow i =
      elim (cases_lt i (size tree)) [
        | inl within ↦
            at_positions Narrows (plan_bounds r.plan b.before) (plan_bounds r.plan gauges) tree 1 (omega arith)
            (listed tree 1 narrowed (has_bounds r.plan b.before earlier_whole) (has_bounds r.plan gauges later_whole)) i (omega arith) (omega (arith, within))
        | inr past ↦
            let x : bound_at (plan_bounds r.plan b.before) i ≡ nothing = get_or_past (plan_bounds r.plan b.before) i nothing (omega (arith, past, plan_long r.plan b.before earlier_whole, plan_size r.plan b.before earlier_whole)) in
            let y : bound_at (plan_bounds r.plan gauges) i ≡ nothing = get_or_past (plan_bounds r.plan gauges) i nothing (omega (arith, past, plan_long r.plan gauges later_whole, plan_size r.plan gauges later_whole)) in
            record { lo_rises = omega (arith, ap (λ z. z.lo) x); hi_falls = omega (arith, ap (λ z. z.hi) y) }
      ]
    where
      moved : (x y u v : Bound) → Narrows x y → u ≡ x → v ≡ y → Narrows u v
      moved x y u v h p q = record {
        lo_rises = omega (arith, h.lo_rises, ap (λ z. z.lo) p, ap (λ z. z.lo) q);
        hi_falls = omega (arith, h.hi_falls, ap (λ z. z.hi) p, ap (λ z. z.hi) q);
      }

      listed : (t : Tree) (n : ℕ) → AllNarrow t n (gauge_in b.before) (gauge_in gauges) → HasBounds t n (gauge_in b.before) (bound_in (plan_bounds r.plan b.before))
          → HasBounds t n (gauge_in gauges) (bound_in (plan_bounds r.plan gauges)) → AllEntries Narrows (plan_bounds r.plan b.before) (plan_bounds r.plan gauges) t n
      listed (Scan table label) n h p q = moved _ _ _ _ h p q
      listed (Over op child) n h p q = (moved _ _ _ _ h.0 p.0 q.0, listed child (n + 1) h.1 p.1 q.1)
      listed (Join method on left right) n h p q = (moved _ _ _ _ h.0 p.0 q.0, listed left (n + 1) h.1 p.1 q.1, listed right (right_number n left) h.2 p.2 q.2)
      listed (Index left seek cond) n h p q = (moved _ _ _ _ h.0 p.0 q.0, moved _ _ _ _ h.1 p.1 q.1, listed left (n + 1) h.2 p.2 q.2)

  pub whole_stale : IsStale r.plan 1 (length r.plan.nodes + 1) node gauges r.bounds
  whole_stale =
      record {
        earlier = b.before;
        event = b.event;
        tree = tree;
        first = omega arith;
        stands = stands r.plan gauges later_whole;
        ends = omega (arith, plan_size r.plan gauges later_whole);
        gauges_before = b.event.earlier_gauges.has_gauges;
        gauges_after = b.event.later_gauges.has_gauges;
        bounds_before = has_bounds r.plan b.before earlier_whole;
        bounds_after = has_bounds r.plan gauges later_whole;
        entries = λ i x y. ap (λ z. bound_at z i) b.stands.bounds_are;
        between = record {
          lower = λ i. let n : Narrows (bound_at (plan_bounds r.plan b.before) i) (bound_at (plan_bounds r.plan gauges) i) = entries_narrow i in omega (arith, ap (λ z. (bound_at z i).lo) b.stands.bounds_are, n.lo_rises);
          upper = λ i. omega (arith, ap (λ z. (bound_at z i).hi) b.stands.bounds_are);
          falls = λ i. (entries_narrow i).hi_falls;
        };
        room = ap length b.stands.bounds_are ∙ plan_long r.plan b.before earlier_whole;
      }

  pub whole_sums : AreSums r.bounds r.whole
  whole_sums =
      let e = sums_are r.plan b.before earlier_whole r.bounds b.stands.bounds_are in
      record { lower = ap (λ w. w.lo) (b.stands.whole_is ∙ sym e); upper = ap (λ w. w.hi) (b.stands.whole_is ∙ sym e) }

  -- one event more is done
  pub one_more : 1 ≤ node → node ≤ length r.plan.nodes → work_done tree (gauge_in gauges) ≡ r.whole.work + 1
  one_more first last =
      omega (
        arith,
        ap (λ w. w.work) b.stands.whole_is,
        work_is b.event.db tree b.event.counts (gauge_in b.before) b.event.earlier_gauges.has_gauges,
        work_is b.event.db tree b.event.later (gauge_in gauges) b.event.later_gauges.has_gauges,
        counted_in b.event.db node b.event.counts b.event.later b.event.next tree 1 first (omega (arith, last, plan_size r.plan gauges later_whole)),
      )

  pub work_small : 1 ≤ node → node ≤ length r.plan.nodes → r.whole.work + 1 < 2 ^ 128
  work_small first last = omega (arith, one_more first last, (sums_small r.plan gauges later_whole).work)

  module _ (l : List Bound) (w : Whole) (fresh : AreRefreshed 0 (length r.plan.nodes) r.bounds l (plan_bounds r.plan gauges)) (sums : AreSums l w) (long : length l ≡ length r.plan.nodes)
      (work : w.work ≡ r.whole.work) (first : 1 ≤ node) (last : node ≤ length r.plan.nodes) where
    list_is : l ≡ bounds_of tree 1 (gauge_in gauges)
    list_is = all_refreshed (length r.plan.nodes) r.bounds l (plan_bounds r.plan gauges) long (plan_long r.plan gauges later_whole) fresh

    pub whole_stands : StandsFor (record { plan = r.plan; bounds = l; whole = record w { work = w.work + 1 } }) gauges
    whole_stands =
        let e = sums_are r.plan gauges later_whole l list_is in
        record {
          moment = later_whole;
          bounds_are = list_is;
          whole_is = three _ _ _ _ _ _ (omega (arith, work, one_more first last)) (sums.lower ∙ ap (λ x. x.lo) e) (sums.upper ∙ ap (λ x. x.hi) e);
        }
      where
        three : (a a2 b b2 c c2 : ℕ) → a ≡ a2 → b ≡ b2 → c ≡ c2 → whole_record a b c ≡ whole_record a2 b2 c2
        three a a2 b b2 c c2 p q s = cc

    pub whole_narrows : Narrows (bound_of_whole r.whole) (bound_of_whole w)
    whole_narrows =
        let e = sums_are r.plan gauges later_whole l list_is in
        let n : Narrows (whole_bound tree (gauge_in b.before)) (whole_bound tree (gauge_in gauges)) = whole_narrow tree (gauge_in b.before) (gauge_in gauges) narrowed in
        record {
          lo_rises = omega (arith, n.lo_rises, ap (λ x. x.lo) b.stands.whole_is, sums.lower, ap (λ x. x.lo) e);
          hi_falls = omega (arith, n.hi_falls, ap (λ x. x.hi) b.stands.whole_is, sums.upper, ap (λ x. x.hi) e);
        }
