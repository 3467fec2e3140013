-- the moments of a run: their counts, their order, and the bounds from one to a later one
use Rattle.std.proofs.Common.{◌≡◌, ℕ, suc, zero, ◌+◌, ◌-◌, ◌<◌, ◌≤◌, true, false, cond, eqb, List, [], ◌∷◌, length, map, get_or, take, drop, refl, sym, subst, ap, ◌∙◌, arith}
use Rattle.std.specs.List.{filter}
use Rattle.std.proofs.Math.Nat.{le_refl}
use Rattle.std.proofs.lemmas.Bool.{eq-eqb, ne_eqb}
use Rattle.std.proofs.lemmas.List.{append-nil, take-append-drop, take_all}
use Rattle.pm_plan.specs.Rows.{Db}
use Rattle.pm_plan.specs.Tree.{Tree, right_number}
use Rattle.pm_plan.specs.Outputs.{output, sought}
use Rattle.pm_plan.proofs.Walks.{EachAt-map, EachAt-both}
use Rattle.pm_work.specs.Events.{Event, events, rows_at, trace, counts}
use Rattle.pm_work.specs.Moments.{Gauges, HasGauges, gauge_in, counts_at, gauges_at}
use Rattle.pm_work.specs.Orderly.{Orderly}
use Rattle.pm_work.specs.Work.{whole_work}
use Rattle.pm_work.specs.Fits.{IsSound}
use Rattle.pm_work.proofs.Counting.{length-events, events_each}
use Rattle.pm_work.proofs.Flags.{flags, merges_ascend}
use Rattle.pm_work.proofs.Gauges.{has_gauges}
use Rattle.pm_work.proofs.Orders.{Orderly-events}
use Rattle.pm_bounds.specs.Enclosure.{IsNext, AllEnclosed, AllNarrow}
use Rattle.pm_bounds.proofs.Enclosed.{IsEnclosed, IsSeekEnclosed, all_enclosed}
use Rattle.pm_bounds.proofs.Narrow.{IsNarrowed, IsSeekNarrowed, all_narrowed}
use Rattle.pm_bounds.proofs.Exact.{AtEnd}

-- one event more
counts_cons : (e : Event) (es : List Event) (m : ℕ) → counts (e ∷ es) m ≡ cond (eqb e.node m) 1 0 + counts es m
counts_cons e es m =
    elim (eqb e.node m) as (λ b. length (map (λ x. x.row) (cond b (e ∷ filter (λ x. eqb x.node m) es) (filter (λ x. eqb x.node m) es))) ≡ cond b 1 0 + counts es m)
    [ true ↦ omega arith | false ↦ omega arith ]

next_of : (es : List Event) (t : ℕ) → t < length es → IsNext (get_or (map (λ e. e.node) es) t 0) (counts (take t es)) (counts (take (suc t) es))
next_of [] t p = absurd (omega (arith, p))
next_of (e ∷ es) zero p =
    record {
      more = counts_cons e [] e.node ∙ ap (λ b. cond b 1 0 + 0) (eq-eqb e.node e.node refl);
      others = λ k other. counts_cons e [] k ∙ ap (λ b. cond b 1 0 + 0) (ne_eqb e.node k (λ z. other (sym z)));
    }
next_of (e ∷ es) (suc t) p =
    let deep : IsNext (get_or (map (λ x. x.node) es) t 0) (counts (take t es)) (counts (take (suc t) es)) = next_of es t (omega (arith, p)) in
    record {
      more = omega (arith, counts_cons e (take (suc t) es) (get_or (map (λ x. x.node) es) t 0), counts_cons e (take t es) (get_or (map (λ x. x.node) es) t 0), deep.more);
      others = λ k other. omega (arith, counts_cons e (take (suc t) es) k, counts_cons e (take t es) k, deep.others k other);
    }

-- the counts of the next moment have one row more at the node of the event between them
pub next_moment : (db : Db) (tree : Tree) (t : ℕ) → t < whole_work db tree
    → IsNext (get_or (trace db tree) t 0) (counts_at db tree t) (counts_at db tree (suc t))
next_moment db tree t before = next_of (events db tree 1) t (omega (arith, before, length-events db tree 1))

-- after all events
pub last_counts : (db : Db) (tree : Tree) → counts_at db tree (whole_work db tree) ≡ counts (events db tree 1)
last_counts db tree = ap counts (take_all (whole_work db tree) (events db tree 1) (omega (arith, length-events db tree 1)))

pub at_end : (db : Db) (tree : Tree) → AtEnd db tree 1 (counts (events db tree 1))
at_end db tree =
    EachAt-map (λ t m. rows_at m (events db tree 1) ≡ output db t) (λ t m. counts (events db tree 1) m ≡ length (output db t))
    (λ left seek m. rows_at (right_number m left) (events db tree 1) ≡ sought db seek (output db left))
    (λ left seek m. counts (events db tree 1) (right_number m left) ≡ length (sought db seek (output db left)))
    (λ t m x. ap length x) (λ left seek m x. ap length x) tree 1 (events_each db tree 1)

pub orderly_end : (db : Db) (tree : Tree) → IsSound db tree → Orderly db tree 1 (counts (events db tree 1))
orderly_end db tree sound =
    Orderly-events db (events db tree 1) [] tree 1 (merges_ascend db sound.tables tree sound.operators) (append-nil (events db tree 1))

-- no bound is wider than itself, nor than one that is wider than another that it is not wider than
no_wider : (db : Db) (tree : Tree) (G : Gauges) → AllEnclosed db tree 1 G → AllNarrow tree 1 G G
no_wider db tree G e =
    EachAt-map (λ t m. IsEnclosed db t m G) (λ t m. IsNarrowed t m G G) (λ left seek m. IsSeekEnclosed db left seek m G) (λ left seek m. IsSeekNarrowed left seek m G G)
    (λ t m x. record { lo_rises = le_refl _; hi_falls = le_refl _ }) (λ left seek m x. record { lo_rises = le_refl _; hi_falls = le_refl _ }) tree 1 e

module _ (G H I : Gauges) where
  narrow_trans : (tree : Tree) (n : ℕ) → AllNarrow tree n G H → AllNarrow tree n H I → AllNarrow tree n G I
  narrow_trans tree n a b =
      EachAt-map (λ t m. IsNarrowed t m G H × IsNarrowed t m H I) (λ t m. IsNarrowed t m G I)
      (λ left seek m. IsSeekNarrowed left seek m G H × IsSeekNarrowed left seek m H I) (λ left seek m. IsSeekNarrowed left seek m G I)
      (λ t m x. record { lo_rises = omega (arith, x.0.lo_rises, x.1.lo_rises); hi_falls = omega (arith, x.0.hi_falls, x.1.hi_falls) })
      (λ left seek m x. record { lo_rises = omega (arith, x.0.lo_rises, x.1.lo_rises); hi_falls = omega (arith, x.0.hi_falls, x.1.hi_falls) }) tree n
      (EachAt-both (λ t m. IsNarrowed t m G H) (λ t m. IsNarrowed t m H I) (λ left seek m. IsSeekNarrowed left seek m G H) (λ left seek m. IsSeekNarrowed left seek m H I) tree n a b)

module _ (db : Db) (tree : Tree) where
  -- the gauges of a moment
  abbrev pub moment : ℕ → Gauges
  moment t = gauge_in (gauges_at db tree t)

  pub moment_gauges : (t : ℕ) → HasGauges db tree 1 (counts_at db tree t) (moment t)
  moment_gauges t = has_gauges db (counts_at db tree t) tree

  module _ (sound : IsSound db tree) where
    pub moment_orderly : (t : ℕ) → Orderly db tree 1 (counts_at db tree t)
    moment_orderly t =
        Orderly-events db (take t (events db tree 1)) (drop t (events db tree 1)) tree 1 (merges_ascend db sound.tables tree sound.operators)
        (take-append-drop t (events db tree 1))

    pub moment_enclosed : (t : ℕ) → AllEnclosed db tree 1 (moment t)
    moment_enclosed t = all_enclosed db (counts_at db tree t) (moment t) tree 1 (flags db tree sound) (moment_orderly t) (moment_gauges t)

    one_later : (t : ℕ) → t < whole_work db tree → AllNarrow tree 1 (moment t) (moment (suc t))
    one_later t before =
        all_narrowed db (get_or (trace db tree) t 0) (counts_at db tree t) (counts_at db tree (suc t)) (moment t) (moment (suc t)) (next_moment db tree t before)
        tree 1 (flags db tree sound) (moment_orderly t) (moment_orderly (suc t)) (moment_gauges t) (moment_gauges (suc t))

    later_by : (t k u : ℕ) → k + t ≡ u → u ≤ whole_work db tree → AllNarrow tree 1 (moment t) (moment u)
    later_by t zero u e within =
        let same : t ≡ u = omega (arith, e) in
        subst (λ v. AllNarrow tree 1 (moment t) (moment v)) same (no_wider db tree (moment t) (moment_enclosed t))
    later_by t (suc k) u e within =
        let next : suc (k + t) ≡ u = omega (arith, e) in
        subst (λ v. AllNarrow tree 1 (moment t) (moment v)) next
        (narrow_trans (moment t) (moment (k + t)) (moment (suc (k + t))) tree 1 (later_by t k (k + t) refl (omega (arith, e, within))) (one_later (k + t) (omega (arith, e, within))))

    -- no bound of a later moment is wider
    pub moment_narrow : (t u : ℕ) → t ≤ u → u ≤ whole_work db tree → AllNarrow tree 1 (moment t) (moment u)
    moment_narrow t u before within = later_by t (u - t) u (omega (arith, before)) within
