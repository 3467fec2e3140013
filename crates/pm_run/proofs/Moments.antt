-- the moments of a run over a plan that fits: their gauges are orderly, and what is shown of them is certified
use Rattle.std.proofs.Common.{◌≡◌, ℕ, zero, suc, ◌+◌, ◌-◌, ◌<◌, ◌≤◌, ◌^◌, List, [], ◌∷◌, length, map, get_or, sym, ap, subst, ◌∙◌, arith}
use Rattle.std.specs.Prelude.{All, min, slice_get}
use Rattle.pm_values.specs.Table.{IsRelation}
use Rattle.pm_plan.specs.declared.gauge.Gauge.{Gauge}
use Rattle.pm_plan.specs.declared.gauge.Bound.{Bound}
use Rattle.pm_plan.specs.declared.gauge.Whole.{Whole}
use Rattle.pm_plan.specs.declared.plan.Plan.{Plan}
use Rattle.pm_plan.specs.Rows.{Db}
use Rattle.pm_plan.specs.Tree.{Tree, size}
use Rattle.pm_plan.specs.Preorder.{tree_of}
use Rattle.pm_plan.proofs.Preorders.{length-nodes_of}
use Rattle.pm_work.specs.Events.{Event, events}
use Rattle.pm_work.specs.Fits.{Fits, IsSound, sizes_of}
use Rattle.pm_work.specs.First.{first_sum, greatest, most_work}
use Rattle.pm_work.specs.Moments.{counts_at, gauge_in, gauges_at}
use Rattle.pm_work.specs.Work.{whole_work, scanned_rows}
use Rattle.pm_work.proofs.Counting.{length-events}
use Rattle.pm_work.proofs.EventLists.{Within}
use Rattle.pm_work.proofs.EventLaws.{Within-events}
use Rattle.pm_work.proofs.Gauges.{length-gauges_of}
use Rattle.pm_work.proofs.Narrow.{narrow}
use Rattle.pm_bounds.specs.Bounds.{bounds_of, whole_of}
use Rattle.pm_bounds.specs.Enclosure.{IsNext}
use Rattle.pm_bounds.specs.Moment.{AreGaugesOf, AreGauges}
use Rattle.pm_bounds.proofs.Moments.{moment_gauges, moment_orderly, next_moment}
use Rattle.pm_refine.specs.Refining.{IsOneEvent}
use Rattle.pm_estim.specs.Certified.{AreCertified, IsCertified}
use Rattle.pm_estim.specs.Estimates.{shown_at, shown_of}
use Rattle.pm_estim.specs.Lists.{pipes_in, driven_sum, AreOf}
use Rattle.pm_estim.specs.declared.pipes.Pipe.{Pipe}
use Rattle.pm_estim.proofs.Certain.{certified}
use Rattle.pm_estim.proofs.Shown.{handed_is, hi_is}
use Rattle.pm_exec.specs.Ran.{IsOf, last_event}
use Rattle.pm_run.specs.IsMeter.{IsMoment}

under : (top n most : ℕ) → n ≤ most → min top n ≤ most
under top n most h = omega arith

-- the node of an event in a list of events
traced : (es : List Event) (t node : ℕ) → IsOf node (slice_get es t) → get_or (map (λ e. e.node) es) t 0 ≡ node
traced [] t node at = absurd at
traced (e ∷ es) zero node at = at
traced (e ∷ es) (suc t) node at = traced es t node at

inside : (es : List Event) (t node : ℕ) → IsOf node (slice_get es t) → t < length es
inside [] t node at = absurd at
inside (e ∷ es) zero node at = omega arith
inside (e ∷ es) (suc t) node at = omega (arith, inside es t node at)

among_events : (a b : ℕ) (es : List Event) (t node : ℕ) → Within a b es → IsOf node (slice_get es t) → (a ≤ node) × (node < b)
among_events a b [] t node all at = absurd at
among_events a b (e ∷ es) zero node all at = (omega (arith, all.0, at), omega (arith, all.1, at))
among_events a b (e ∷ es) (suc t) node all at = among_events a b es t node all.2 at

pub record IsAmongNodes (many node : ℕ) : Type 0 where
  pub first : 1 ≤ node
  pub last : node ≤ many

module _ (plan : Plan) (db : Db) (fits : Fits plan db) (tables : All IsRelation db) where
  abbrev tree : Tree
  tree = tree_of plan.nodes

  pub is_sound : IsSound db tree
  is_sound = record { tables = tables; operators = fits.valid.operators; references = fits.references }

  pub certain : AreCertified db tree
  certain = certified db tree is_sound (under greatest (first_sum (sizes_of db) tree) most_work (narrow (sizes_of db) tree fits.narrow).sum)

  pub nodes_are : length plan.nodes ≡ size tree
  nodes_are = ap length fits.valid.numbered ∙ length-nodes_of tree 1

  pub gauges_long : (t : ℕ) → length (gauges_at db tree t) ≡ size tree
  gauges_long t = length-gauges_of db (counts_at db tree t) tree 1

  gauges_are : (t : ℕ) → AreGaugesOf db (counts_at db tree t) plan (gauges_at db tree t)
  gauges_are t =
      record {
        tables = tables;
        fits = fits;
        orderly = moment_orderly db tree is_sound t;
        has_gauges = moment_gauges db tree t;
        each_node = gauges_long t ∙ sym nodes_are;
      }

  -- the gauges of a moment, as the bounds are computed from them
  pub are_gauges : (t : ℕ) (gauges : List Gauge) → gauges ≡ gauges_at db tree t → AreGauges plan gauges
  are_gauges t gauges is =
      subst (AreGauges plan) (sym is) (record { db = db; counts = counts_at db tree t; are = gauges_are t })

  -- the event that makes the gauges of a moment those of the next one
  next_event : (t node : ℕ) → t < whole_work db tree → IsOf node (slice_get (events db tree 1) t)
      → IsOneEvent plan node (gauges_at db tree t) (gauges_at db tree (suc t))
  next_event t node left at =
      record {
        db = db;
        counts = counts_at db tree t;
        later = counts_at db tree (suc t);
        earlier_gauges = gauges_are t;
        later_gauges = gauges_are (suc t);
        next = subst (λ (n : ℕ). IsNext n (counts_at db tree t) (counts_at db tree (suc t))) (traced (events db tree 1) t node at) (next_moment db tree t left);
      }

  pub last_event_is : (t node : ℕ) → IsOf node (last_event (events db tree 1) t) → IsOneEvent plan node (gauges_at db tree (t - 1)) (gauges_at db tree t)
  last_event_is zero node at = absurd at
  last_event_is (suc t) node at =
      let before : suc t - 1 ≡ t = omega arith in
      let left : t < whole_work db tree = omega (arith, inside (events db tree 1) t node at, length-events db tree 1) in
      subst (λ (k : ℕ). IsOneEvent plan node (gauges_at db tree k) (gauges_at db tree (suc t))) (sym before) (next_event t node left at)

  -- its node is one of the plan's
  pub last_node_is : (t node : ℕ) → IsOf node (last_event (events db tree 1) t) → IsAmongNodes (length plan.nodes) node
  last_node_is zero node at = absurd at
  last_node_is (suc t) node at =
      let among = among_events 1 (1 + size tree) (events db tree 1) t node (Within-events db tree 1) at in
      record { first = among.0; last = omega (arith, among.1, nodes_are) }

  -- the sums over the driver nodes are small
  pub record DriversFit (pipes : List Pipe) (gauges : List Gauge) (bounds : List Bound) : Type 0 where
    pub handed : driven_sum (λ g. g.handed) pipes gauges < 2 ^ 128
    pub within : driven_sum (λ b. b.hi) pipes bounds < 2 ^ 128

  pub drivers_fit : (t : ℕ) (pipes : List Pipe) (gauges : List Gauge) (bounds : List Bound) (whole : Whole) → 1 ≤ t → t ≤ whole_work db tree
      → gauges ≡ gauges_at db tree t → AreOf tree pipes gauges bounds whole → DriversFit pipes gauges bounds
  drivers_fit t pipes gauges bounds whole begun within is are =
      let c : IsCertified (whole_work db tree) (scanned_rows db tree) (shown_at db tree t) = certain.each t begun within in
      let handed = handed_is gauges tree pipes bounds whole are ∙ ap (λ gs. (shown_of tree (gauge_in gs)).dne_num) is in
      let hi = hi_is gauges tree pipes bounds whole are ∙ ap (λ gs. (shown_of tree (gauge_in gs)).dne_den) is in
      record {
        handed = omega (arith, handed, c.driven, c.drivers_within, c.limited);
        within = omega (arith, hi, c.drivers_within, c.limited);
      }

  -- the lists of a moment
  pub are_of : (t : ℕ) (pipes : List Pipe) (gauges : List Gauge) (bounds : List Bound) (whole : Whole) → pipes ≡ pipes_in tree → gauges ≡ gauges_at db tree t
      → bounds ≡ bounds_of tree 1 (gauge_in (gauges_at db tree t)) → whole ≡ whole_of tree (gauge_in (gauges_at db tree t)) → AreOf tree pipes gauges bounds whole
  are_of t pipes gauges bounds whole own is below sums =
      record {
        pipes_are = own;
        each_node = ap length is ∙ gauges_long t;
        bounds_are = below ∙ ap (λ gs. bounds_of tree 1 (gauge_in gs)) (sym is);
        whole_is = sums ∙ ap (λ gs. whole_of tree (gauge_in gs)) (sym is);
      }

  -- what is shown of a moment
  pub shown_moment : (t : ℕ) → 1 ≤ t → t ≤ whole_work db tree → IsMoment (whole_work db tree) t (shown_at db tree t)
  shown_moment t begun within =
      let c : IsCertified (whole_work db tree) (scanned_rows db tree) (shown_at db tree t) = certain.each t begun within in
      record {
        work = certain.work t within;
        counted = c.enclosed.counted;
        below = c.enclosed.below;
        above = c.enclosed.above;
        last = λ over. subst (λ k. (shown_at db tree k).hi ≡ whole_work db tree) (sym over) certain.ends.above;
        limited = c.limited;
      }
