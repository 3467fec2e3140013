-- what is shown from lists is what is shown of the tree
use Rattle.std.proofs.Common.{◌≡◌, ℕ, ◌+◌, ◌-◌, ◌<◌, ◌≤◌, List, ◌++◌, length, refl, ap, ◌∙◌, arith}
use Rattle.std.specs.Prelude.{Some, slice_get}
use Rattle.std.proofs.lemmas.List.{append-nil, drop_all}
use Rattle.std.proofs.lemmas.Option.{slice_get-get_or}
use Rattle.pm_plan.specs.declared.gauge.Gauge.{Gauge}
use Rattle.pm_plan.specs.declared.gauge.Bound.{Bound}
use Rattle.pm_plan.specs.declared.gauge.Whole.{Whole}
use Rattle.pm_plan.specs.declared.gauge.Shown.{Shown}
use Rattle.pm_plan.specs.Tree.{Tree, Scan, Over, Join, Index, size, right_number, list_at}
use Rattle.pm_plan.proofs.Walks.{AreItems, drop-list_at}
use Rattle.pm_work.specs.Moments.{Gauges, gauge_in}
use Rattle.pm_bounds.specs.Bounds.{bound_of, bound_of_seek, whole_of}
use Rattle.pm_estim.specs.declared.pipes.Pipe.{Pipe}
use Rattle.pm_estim.specs.Pipelines.{driven_handed, driven_hi}
use Rattle.pm_estim.specs.Estimates.{safe_root, shown_of}
use Rattle.pm_estim.specs.Lists.{pipes_in, driven_sum, estimated, AreOf}
use Rattle.pm_estim.proofs.PipeLists.{driven_is}

module _ (gauges : List Gauge) where
  abbrev G : Gauges
  G = gauge_in gauges

  there : (m : ℕ) (less : m - 1 < length gauges) → slice_get gauges (m - 1) ≡ Some (G m)
  there m less = slice_get-get_or gauges (m - 1) (record { handed = 0; settled = 0; worst = 0; size = 0 }) less

  -- each node's gauge stands in a list that is long enough
  all_there : (t : Tree) (n : ℕ) → n - 1 + size t ≤ length gauges → 1 ≤ n → AreItems (λ u m. G m) (λ left seek m. G (right_number m left)) gauges t n
  all_there (Scan table label) n a some = there n (omega (arith, a))
  all_there (Over op child) n a some = (there n (omega (arith, a)), all_there child (n + 1) (omega (arith, a, some)) (omega arith))
  all_there (Join method on left right) n a some =
      (there n (omega (arith, a)), all_there left (n + 1) (omega (arith, a, some)) (omega arith), all_there right (right_number n left) (omega (arith, a, some)) (omega arith))
  all_there (Index left seek cond) n a some =
      (there n (omega (arith, a)), there (right_number n left) (omega (arith, a, some)), all_there left (n + 1) (omega (arith, a, some)) (omega arith))

  listed : (t : Tree) → length gauges ≡ size t → gauges ≡ list_at (λ u m. G m) (λ left seek m. G (right_number m left)) t 1
  listed t long =
      drop-list_at (λ u m. G m) (λ left seek m. G (right_number m left)) gauges t 1 0 refl (all_there t 1 (omega (arith, long)) (omega arith))
      ∙ ap (λ rest. list_at (λ u m. G m) (λ left seek m. G (right_number m left)) t 1 ++ rest) (drop_all (0 + size t) gauges (omega (arith, long)))
      ∙ append-nil (list_at (λ u m. G m) (λ left seek m. G (right_number m left)) t 1)

  module _ (t : Tree) (pipes : List Pipe) (bounds : List Bound) (whole : Whole) (a : AreOf t pipes gauges bounds whole) where
    pub handed_is : driven_sum (λ g. g.handed) pipes gauges ≡ driven_handed t G
    handed_is =
        ap (λ ps. driven_sum (λ g. g.handed) ps gauges) a.pipes_are
        ∙ ap (driven_sum (λ g. g.handed) (pipes_in t)) (listed t a.each_node)
        ∙ driven_is (λ g. g.handed) (λ u m. G m) (λ left seek m. G (right_number m left)) t

    pub hi_is : driven_sum (λ b. b.hi) pipes bounds ≡ driven_hi t G
    hi_is =
        ap (λ ps. driven_sum (λ b. b.hi) ps bounds) a.pipes_are
        ∙ ap (driven_sum (λ b. b.hi) (pipes_in t)) a.bounds_are
        ∙ driven_is (λ b. b.hi) (λ u m. bound_of u m G) (λ left seek m. bound_of_seek left seek m G) t

    abbrev shown_record : (whole : Whole) (num den : ℕ) → Shown
    shown_record w num den = record { work = w.work; lo = w.lo; hi = w.hi; dne_num = num; dne_den = den; safe_den = safe_root w.lo w.hi }

    pub shown_is : estimated pipes gauges bounds whole ≡ shown_of t G
    shown_is = step whole (driven_sum (λ g. g.handed) pipes gauges) (driven_sum (λ b. b.hi) pipes bounds) (whole_of t G) (driven_handed t G) (driven_hi t G) a.whole_is handed_is hi_is
      where
        step : (w : Whole) (num den : ℕ) (v : Whole) (num2 den2 : ℕ) → w ≡ v → num ≡ num2 → den ≡ den2 → shown_record w num den ≡ shown_record v num2 den2
        step w num den v num2 den2 p q r = ap (λ x. shown_record x num den) p ∙ ap (λ x. shown_record v x den) q ∙ ap (shown_record v num2) r
