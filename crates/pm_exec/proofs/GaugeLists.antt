-- the gauges of a moment as a list, and what one event changes in them
use Rattle.std.proofs.Common.{◌≡◌, ℕ, ◌+◌, eqb, List, [], ◌∷◌, ◌++◌, length, refl, ap, ◌∙◌, arith}
use Rattle.std.specs.Prelude.{if◌then◌else◌}
use Rattle.pm_values.specs.Row.{Row}
use Rattle.pm_plan.specs.declared.gauge.Gauge.{Gauge}
use Rattle.pm_plan.specs.Rows.{Db}
use Rattle.pm_plan.specs.Tree.{Tree, Scan, Over, Join, Index, Seek, right_number, EachAt, list_at}
use Rattle.pm_plan.proofs.Walks.{length-list_at, EachAt-both, EachAt-map}
use Rattle.pm_work.specs.Events.{Event, counts, events}
use Rattle.pm_work.specs.Moments.{Counts, gauge_of, seek_gauge, gauges_of}
use Rattle.pm_work.specs.Changes.{gauge_after, seek_gauge_after}
use Rattle.pm_work.specs.Fits.{IsSound}
use Rattle.pm_work.proofs.Flags.{merges_ascend}
use Rattle.pm_work.proofs.Changes.{gauges_step}
use Rattle.pm_flows.specs.declared.taken.Taken.{Taken}
use Rattle.pm_exec.specs.Noted.{more_at, gauge_with, gauges_with}
use Rattle.pm_exec.proofs.Notes.{NodeNoted, SeekNoted, AllNoted}

-- ---- a list of gauges

gauges_with-append : (m : ℕ) (t : Taken) (xs ys : List Gauge) → gauges_with m t (xs ++ ys) ≡ gauges_with m t xs ++ gauges_with (m + length xs) t ys
gauges_with-append m t [] ys = ap (λ k. gauges_with k t ys) (omega arith)
gauges_with-append m t (x ∷ xs) ys =
    ap (λ s. gauge_with m t x ∷ s) (gauges_with-append (m + 1) t xs ys ∙ ap (λ k. gauges_with (m + 1) t xs ++ gauges_with k t ys) (omega arith))

module _ (t : Taken) (f g : Tree → ℕ → Gauge) (s r : Tree → Seek → ℕ → Gauge) where
  -- each gauge after the event, so all of them
  pub all_with : (u : Tree) (n : ℕ) → EachAt (λ v m. f v m ≡ gauge_with m t (g v m)) (λ left seek m. s left seek m ≡ gauge_with (right_number m left) t (r left seek m)) u n
      → list_at f s u n ≡ gauges_with n t (list_at g r u n)
  all_with (Scan table label) n h = ap (λ x. x ∷ []) h
  all_with (Over op child) n h = rw (h.0, all_with child (n + 1) h.1) refl
  all_with (Join method on left right) n h =
      let split : gauges_with (n + 1) t (list_at g r left (n + 1) ++ list_at g r right (right_number n left))
      ≡ gauges_with (n + 1) t (list_at g r left (n + 1)) ++ gauges_with (right_number n left) t (list_at g r right (right_number n left)) =
      gauges_with-append (n + 1) t (list_at g r left (n + 1)) (list_at g r right (right_number n left))
      ∙ ap (λ k. gauges_with (n + 1) t (list_at g r left (n + 1)) ++ gauges_with k t (list_at g r right (right_number n left))) (omega (arith, length-list_at g r left (n + 1))) in
      rw (h.0, all_with left (n + 1) h.1, all_with right (right_number n left) h.2, split) refl
  all_with (Index left seek c) n h =
      let split : gauges_with (n + 1) t (list_at g r left (n + 1) ++ r left seek n ∷ [])
      ≡ gauges_with (n + 1) t (list_at g r left (n + 1)) ++ gauges_with (right_number n left) t (r left seek n ∷ []) =
      gauges_with-append (n + 1) t (list_at g r left (n + 1)) (r left seek n ∷ [])
      ∙ ap (λ k. gauges_with (n + 1) t (list_at g r left (n + 1)) ++ gauges_with k t (r left seek n ∷ [])) (omega (arith, length-list_at g r left (n + 1))) in
      rw (h.0, h.1, all_with left (n + 1) h.2, split) refl

-- ---- the gauges after an event

module _ (db : Db) (done left : List Event) (t : Taken) (row : Row) where
  abbrev e : Event
  e = record { node = t.node; row = row }

  abbrev K : Counts
  K = counts done

  node_with : (u : Tree) (m : ℕ) → gauge_of db u m (counts (done ++ e ∷ [])) ≡ gauge_after db u m K e → NodeNoted db K t row u m
      → gauge_of db u m (counts (done ++ e ∷ [])) ≡ gauge_with m t (gauge_of db u m K)
  node_with u m after noted = after ∙ (rw (noted.settles, noted.worst) refl)

  seek_with : (u : Tree) (seek : Seek) (m : ℕ) → seek_gauge db u seek m (counts (done ++ e ∷ [])) ≡ seek_gauge_after db u seek m K e → SeekNoted db K t row u seek m
      → seek_gauge db u seek m (counts (done ++ e ∷ [])) ≡ gauge_with (right_number m u) t (seek_gauge db u seek m K)
  seek_with u seek m after noted =
      let g : Gauge = seek_gauge db u seek m K in
      let made : ℕ → Gauge = λ w. record { handed = g.handed + (if eqb t.node (right_number m u) then 1 else 0); settled = g.settled + more_at (right_number m u) t; worst = w; size = g.size } in
      after ∙ (rw noted.settles (ap made (noted.worst g.worst)))

  pub gauges_next : (tree : Tree) → IsSound db tree → done ++ e ∷ left ≡ events db tree 1 → AllNoted db K t row tree 1
      → gauges_of db tree 1 (counts (done ++ e ∷ [])) ≡ gauges_with 1 t (gauges_of db tree 1 K)
  gauges_next tree sound is noted =
      let L : Counts = counts (done ++ e ∷ []) in
      let P : Tree → ℕ → Type 0 = λ u m. gauge_of db u m L ≡ gauge_after db u m K e in
      let S : Tree → Seek → ℕ → Type 0 = λ u seek m. seek_gauge db u seek m L ≡ seek_gauge_after db u seek m K e in
      let Q : Tree → ℕ → Type 0 = λ u m. gauge_of db u m L ≡ gauge_with m t (gauge_of db u m K) in
      let R : Tree → Seek → ℕ → Type 0 = λ u seek m. seek_gauge db u seek m L ≡ gauge_with (right_number m u) t (seek_gauge db u seek m K) in
      let both : EachAt (λ u m. P u m × NodeNoted db K t row u m) (λ u seek m. S u seek m × SeekNoted db K t row u seek m) tree 1 =
      EachAt-both P (NodeNoted db K t row) S (SeekNoted db K t row) tree 1 (gauges_step db done e left tree 1 (merges_ascend db sound.tables tree sound.operators) is) noted in
      let each : EachAt Q R tree 1 =
      EachAt-map (λ u m. P u m × NodeNoted db K t row u m) Q (λ u seek m. S u seek m × SeekNoted db K t row u seek m) R (λ u m p. node_with u m p.0 p.1) (λ u seek m p. seek_with u seek m p.0 p.1) tree 1 both in
      all_with t (λ u m. gauge_of db u m L) (λ u m. gauge_of db u m K) (λ u seek m. seek_gauge db u seek m L) (λ u seek m. seek_gauge db u seek m K) tree 1 each
