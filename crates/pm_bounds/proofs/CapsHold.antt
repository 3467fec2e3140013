-- where the first bound of the whole work is small enough, the bounds as they are computed are the bounds
use Rattle.std.proofs.Common.{◌≡◌, ℕ, ◌+◌, ◌<◌, ◌≤◌, min, refl, arith}
use Rattle.std.proofs.Math.Nat.{le_trans}
use Rattle.pm_plan.specs.Rows.{Db}
use Rattle.pm_plan.specs.Tree.{Tree, Scan, Over, Join, Index, Seek, right_number, EachAt, sum_at}
use Rattle.pm_work.specs.Formulas.{up_to}
use Rattle.pm_work.specs.Moments.{Gauges}
use Rattle.pm_work.specs.First.{greatest, most_work, first_bound}
use Rattle.pm_work.specs.Fits.{sizes_of}
use Rattle.pm_bounds.specs.Bounds.{hi_by, hi, hi_of_seek, hi_whole, seek_above}
use Rattle.pm_bounds.specs.Enclosure.{AllWithinFirst}
use Rattle.pm_bounds.specs.Capped.{AllUpTo}
use Rattle.pm_bounds.proofs.Caps.{hi_capped_is, hi_of_seek_capped_is}
use Rattle.pm_bounds.proofs.Wholes.{whole_within_first}

-- no term of a sum is above the sum
module _ (f : Tree → ℕ → ℕ) (s : Tree → Seek → ℕ → ℕ) (top : ℕ) where
  pub each_up_to : (tree : Tree) (n : ℕ) → sum_at f s tree n ≤ top → EachAt (λ t m. f t m ≤ top) (λ left seek m. s left seek m ≤ top) tree n
  each_up_to (Scan table label) n a = a
  each_up_to (Over op child) n a = (omega (arith, a), each_up_to child (n + 1) (omega (arith, a)))
  each_up_to (Join method on left right) n a =
      (omega (arith, a), each_up_to left (n + 1) (omega (arith, a)), each_up_to right (right_number n left) (omega (arith, a)))
  each_up_to (Index left seek c) n a = (omega (arith, a), omega (arith, a), each_up_to left (n + 1) (omega (arith, a)))

module _ (top : ℕ) (one : 1 ≤ top) (G : Gauges) where
  capped_at_each : (tree : Tree) (n : ℕ) → AllUpTo top tree n G
      → EachAt (λ t m. hi_by (up_to top) t m G ≡ hi t m G)
      (λ left seek m. seek_above (up_to top) left seek m G (hi_by (up_to top) left (m + 1) G) ≡ hi_of_seek left seek m G) tree n
  capped_at_each (Scan table label) n a = refl
  capped_at_each (Over op child) n a = (hi_capped_is top one G (Over op child) n a, capped_at_each child (n + 1) a.1)
  capped_at_each (Join method on left right) n a =
      (hi_capped_is top one G (Join method on left right) n a, capped_at_each left (n + 1) a.1, capped_at_each right (right_number n left) a.2)
  capped_at_each (Index left seek c) n a =
      (hi_capped_is top one G (Index left seek c) n a, hi_of_seek_capped_is top one G left seek n a.2 a.1, capped_at_each left (n + 1) a.2)

-- the limit of the first bound is below the greatest number
pub below_greatest : most_work < greatest
below_greatest = omega arith

some : 1 ≤ greatest
some = omega arith

lesser : (a b x : ℕ) → b < a → min a x ≤ b → x ≤ b
lesser a b x p q = omega (arith, p, q)

module _ (db : Db) (tree : Tree) (bounded : first_bound (sizes_of db) tree ≤ most_work) (G : Gauges) (within : AllWithinFirst (sizes_of db) tree 1 G) where
  pub whole_bounded : hi_whole tree G ≤ most_work
  whole_bounded = le_trans (whole_within_first (sizes_of db) tree G within) (lesser greatest most_work _ below_greatest bounded)

  pub each_capped : EachAt (λ t m. hi_by (up_to greatest) t m G ≡ hi t m G)
      (λ left seek m. seek_above (up_to greatest) left seek m G (hi_by (up_to greatest) left (m + 1) G) ≡ hi_of_seek left seek m G) tree 1
  each_capped =
      capped_at_each greatest some G tree 1
      (each_up_to (λ t m. hi t m G) (λ left seek m. hi_of_seek left seek m G) greatest tree 1 (le_trans whole_bounded (omega (arith, below_greatest))))
