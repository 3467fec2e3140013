-- the gauges of a tree's nodes are read by their numbers
use Rattle.std.proofs.Common.{◌≡◌, ℕ, ◌-◌, List, [], length, get_or, refl, sym, ap, subst, ◌∙◌}
use Rattle.std.specs.Prelude.{Some, slice_get, unwrap_or}
use Rattle.std.proofs.lemmas.List.{append-nil}
use Rattle.std.proofs.lemmas.Option.{unwrap_or-slice_get}
use Rattle.pm_plan.specs.declared.gauge.Gauge.{Gauge}
use Rattle.pm_plan.specs.Rows.{Db}
use Rattle.pm_plan.specs.Tree.{Tree, Seek, size, right_number}
use Rattle.pm_plan.proofs.Walks.{EachAt-map, length-list_at, AreItems, AreItems-list_at}
use Rattle.pm_work.specs.Moments.{Counts, gauge_of, seek_gauge, gauges_of, gauge_in, HasGauges}

module _ (db : Db) (K : Counts) where
  abbrev node_gauge : Tree → ℕ → Gauge
  node_gauge t m = gauge_of db t m K

  abbrev gauge_of_seek : Tree → Seek → ℕ → Gauge
  gauge_of_seek left seek m = seek_gauge db left seek m K

  pub length-gauges_of : (t : Tree) (n : ℕ) → length (gauges_of db t n K) ≡ size t
  length-gauges_of t n = length-list_at node_gauge gauge_of_seek t n

  pub has_gauges : (t : Tree) → HasGauges db t 1 K (gauge_in (gauges_of db t 1 K))
  has_gauges t =
      let gauges : List Gauge = gauges_of db t 1 K in
      let none : Gauge = record { handed = 0; settled = 0; worst = 0; size = 0 } in
      let found : (k : ℕ) (g : Gauge) → slice_get gauges (k - 1) ≡ Some g → get_or gauges (k - 1) none ≡ g =
      λ k g e. sym (unwrap_or-slice_get gauges (k - 1) none) ∙ ap (λ o. unwrap_or o none) e in
      EachAt-map (λ u m. slice_get gauges (m - 1) ≡ Some (node_gauge u m)) (λ u m. gauge_in gauges m ≡ node_gauge u m)
      (λ left seek m. slice_get gauges (right_number m left - 1) ≡ Some (gauge_of_seek left seek m)) (λ left seek m. gauge_in gauges (right_number m left) ≡ gauge_of_seek left seek m)
      (λ u m e. found m (node_gauge u m) e) (λ left seek m e. found (right_number m left) (gauge_of_seek left seek m) e) t 1
      (subst (λ items. AreItems node_gauge gauge_of_seek items t 1) (append-nil gauges) (AreItems-list_at node_gauge gauge_of_seek t 1 [] [] refl))
