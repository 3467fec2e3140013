-- the driver nodes: their counts are within their upper bounds, which are not all 0 once an event was taken
use Rattle.std.proofs.Common.{◌≡◌, ℕ, zero, suc, ◌+◌, ◌≤◌, Bool, true, false, List, length, take, refl, ap, ◌⊎◌, inl, inr, arith, length-take}
use Rattle.std.specs.Prelude.{if◌then◌else◌}
use Rattle.std.proofs.lemmas.Bool.{cases_lt}
use Rattle.pm_values.specs.Row.{Row}
use Rattle.pm_values.specs.Condition.{keeps}
use Rattle.pm_values.proofs.KeyCounts.{length-filter_le}
use Rattle.pm_plan.specs.Rows.{Db, table_rows, decls_of}
use Rattle.pm_plan.specs.Joins.{join, joined_by}
use Rattle.pm_plan.specs.Kinds.{width}
use Rattle.pm_plan.specs.Outputs.{output, sought, keeps_if}
use Rattle.pm_plan.specs.Tree.{Filter, Project, Sort, Group, Tree, Scan, Over, Join, Index, right_number, sum_at}
use Rattle.pm_plan.proofs.Walks.{EachAt-map, sum_at-le}
use Rattle.pm_work.specs.Moments.{Counts, Gauges, HasGauges}
use Rattle.pm_work.specs.Orderly.{Orderly}
use Rattle.pm_work.specs.Facts.{AllFlagsHold}
use Rattle.pm_bounds.specs.Bounds.{hi, hi_of_seek, work_done, hi_whole}
use Rattle.pm_bounds.specs.Enclosure.{AllEnclosed}
use Rattle.pm_bounds.proofs.Enclosed.{IsEnclosed, IsSeekEnclosed, enclosed, orderly_root, handed_is}
use Rattle.pm_estim.specs.Pipelines.{is_driver, driven, driven_handed, driven_hi}

chosen_le : (b : Bool) (x y : ℕ) → x ≤ y → (if b then x else 0) ≤ (if b then y else 0)
chosen_le true x y h = h
chosen_le false x y h = omega arith

chosen_some : (b : Bool) (x : ℕ) → (if b then x else 0) ≤ x
chosen_some true x = omega arith
chosen_some false x = omega arith

pub drivers_handed : (db : Db) (tree : Tree) (G : Gauges) → AllEnclosed db tree 1 G → driven_handed tree G ≤ driven_hi tree G
drivers_handed db tree G e =
    sum_at-le (λ t m. if is_driver t then (G m).handed else 0) (λ t m. if is_driver t then hi t m G else 0) (λ left seek m. 0) (λ left seek m. 0) tree 1
    (EachAt-map (λ t m. IsEnclosed db t m G) (λ t m. (if is_driver t then (G m).handed else 0) ≤ (if is_driver t then hi t m G else 0))
    (λ left seek m. IsSeekEnclosed db left seek m G) (λ left seek m. 0 ≤ 0)
    (λ t m x. chosen_le (is_driver t) (G m).handed (hi t m G) (omega (arith, x.counted, x.below, x.above))) (λ left seek m x. omega arith) tree 1 e)

module _ (G : Gauges) where
  within_at : (tree : Tree) (n : ℕ) → driven (λ t m. hi t m G) tree n ≤ sum_at (λ t m. hi t m G) (λ left seek m. hi_of_seek left seek m G) tree n
  within_at (Scan table label) n = omega arith
  within_at (Over op child) n = omega (arith, chosen_some (is_driver (Over op child)) (hi (Over op child) n G), within_at child (n + 1))
  within_at (Join method on left right) n = omega (arith, within_at left (n + 1), within_at right (right_number n left))
  within_at (Index left seek cond) n = omega (arith, within_at left (n + 1))

  pub drivers_within : (tree : Tree) → driven_hi tree G ≤ hi_whole tree G
  drivers_within tree = within_at tree 1

-- no rows come of no rows
none_of : (k : ℕ) (rows : List Row) (f : List Row → ℕ) → f (take 0 rows) ≡ 0 → 1 ≤ f (take k rows) → 1 ≤ k
none_of zero rows f none some = absurd (omega (arith, none, some))
none_of (suc k) rows f none some = omega arith

module _ (db : Db) (K : Counts) (G : Gauges) where
  abbrev feeds : Tree → ℕ → ℕ
  feeds tree n = driven (λ t m. hi t m G) tree n

  -- a node that has handed out a row is fed by a driver node with an upper bound
  module _ (tree : Tree) (n : ℕ) where
    bounded : AllFlagsHold db tree → Orderly db tree n K → HasGauges db tree n K G → K n ≤ hi tree n G
    bounded f o g =
        let e : IsEnclosed db tree n G = enclosed db K G tree n f o g in
        omega (arith, (orderly_root db K tree n o).within, e.above)

  fed : (tree : Tree) (n : ℕ) → AllFlagsHold db tree → Orderly db tree n K → HasGauges db tree n K G → 1 ≤ K n → 1 ≤ feeds tree n
  fed (Scan table label) n f o g some = omega (arith, bounded (Scan table label) n f o g, some)
  fed (Over (Filter c) child) n f o g some =
      let below : 1 ≤ K (n + 1) = omega (arith, o.0.root, some, length-filter_le (keeps c) (take (K (n + 1)) (output db child)), length-take (K (n + 1)) (output db child)) in
      omega (arith, fed child (n + 1) f.1 o.1 g.1 below)
  fed (Over (Project columns) child) n f o g some = omega (arith, fed child (n + 1) f.1 o.1 g.1 (omega (arith, o.0.root, some)))
  fed (Over (Sort keys) child) n f o g some = omega (arith, bounded (Over (Sort keys) child) n f o g, some)
  fed (Over (Group keys items) child) n f o g some = omega (arith, bounded (Over (Group keys items) child) n f o g, some)
  fed (Join method on left right) n f o g some =
      let below : 1 ≤ K (n + 1) =
      none_of (K (n + 1)) (output db left) (λ ls. length (joined_by method on.pairs (width (decls_of db) right) ls (take (K (right_number n left)) (output db right))))
      refl (omega (arith, o.0.root.0, some)) in
      omega (arith, fed left (n + 1) f.1 o.1 g.1 below)
  fed (Index left seek c) n f o g some =
      let found : 1 ≤ K (right_number n left) =
      omega (arith, o.0.root, some, length-filter_le (keeps_if c) (take (K (right_number n left)) (join seek.on.pairs (output db left) (table_rows db seek.table))), length-take (K (right_number n left)) (join seek.on.pairs (output db left) (table_rows db seek.table))) in
      let below : 1 ≤ K (n + 1) = none_of (K (n + 1)) (output db left) (λ ls. length (sought db seek ls)) refl (omega (arith, o.1.settled, found)) in
      omega (arith, fed left (n + 1) f.2 o.2 g.2 below)

  -- one of some numbers that are not all 0
  one_of : (a b : ℕ) → 1 ≤ a + b → (1 ≤ a) ⊎ (1 ≤ b)
  one_of a b some = elim (cases_lt 0 a) [ inl p ↦ inl (omega (arith, p)) | inr p ↦ inr (omega (arith, p, some)) ]

  abbrev handed_in : Tree → ℕ → ℕ
  handed_in tree n = sum_at (λ t m. (G m).handed) (λ left seek m. (G (right_number m left)).handed) tree n

  some_fed : (tree : Tree) (n : ℕ) → AllFlagsHold db tree → Orderly db tree n K → HasGauges db tree n K G → 1 ≤ handed_in tree n → 1 ≤ feeds tree n
  some_fed (Scan table label) n f o g some = fed (Scan table label) n f o g (omega (arith, handed_is db K G (Scan table label) n g, some))
  some_fed (Over op child) n f o g some =
      elim (one_of (G n).handed (handed_in child (n + 1)) some) [
        | inl p ↦ fed (Over op child) n f o g (omega (arith, handed_is db K G (Over op child) n g, p))
        | inr p ↦ omega (arith, some_fed child (n + 1) f.1 o.1 g.1 p)
      ]
  some_fed (Join method on left right) n f o g some =
      elim (one_of (G n).handed (handed_in left (n + 1) + handed_in right (right_number n left)) some) [
        | inl p ↦ fed (Join method on left right) n f o g (omega (arith, handed_is db K G (Join method on left right) n g, p))
        | inr p ↦ elim (one_of (handed_in left (n + 1)) (handed_in right (right_number n left)) p) [
          | inl q ↦ omega (arith, some_fed left (n + 1) f.1 o.1 g.1 q)
          | inr q ↦ omega (arith, some_fed right (right_number n left) f.2 o.2 g.2 q)
        ]
      ]
  some_fed (Index left seek c) n f o g some =
      elim (one_of (G n).handed (handed_in left (n + 1) + (G (right_number n left)).handed) some) [
        | inl p ↦ fed (Index left seek c) n f o g (omega (arith, handed_is db K G (Index left seek c) n g, p))
        | inr p ↦ elim (one_of (handed_in left (n + 1)) (G (right_number n left)).handed p) [
          | inl q ↦ omega (arith, some_fed left (n + 1) f.2 o.2 g.2 q)
          | inr q ↦
              let h : (G (right_number n left)).handed ≡ K (right_number n left) = ap (λ x. x.handed) g.1 in
              let below : 1 ≤ K (n + 1) = none_of (K (n + 1)) (output db left) (λ ls. length (sought db seek ls)) refl (omega (arith, o.1.settled, h, q)) in
              omega (arith, fed left (n + 1) f.2 o.2 g.2 below)
        ]
      ]

  pub drivers_some : (tree : Tree) → AllFlagsHold db tree → Orderly db tree 1 K → HasGauges db tree 1 K G → 1 ≤ work_done tree G → 1 ≤ driven_hi tree G
  drivers_some tree f o g some = some_fed tree 1 f o g some
