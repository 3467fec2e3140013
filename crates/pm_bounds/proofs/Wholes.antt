-- the bounds of the whole work, from those of each node
use Rattle.std.proofs.Common.{◌≡◌, ℕ, ◌+◌, ◌≤◌, length, ap, ◌∙◌, arith}
use Rattle.pm_plan.specs.Rows.{Db}
use Rattle.pm_plan.specs.Tree.{Tree, Scan, Over, Join, Index, Seek, right_number, sum_at}
use Rattle.pm_plan.specs.Outputs.{output, sought}
use Rattle.pm_plan.proofs.Walks.{EachAt-map, sum_at-le, sum_at-same, sum_at-sum_in}
use Rattle.pm_work.specs.Formulas.{exact}
use Rattle.pm_work.specs.Moments.{Counts, Gauges, gauge_of, seek_gauge, HasGauges}
use Rattle.pm_work.specs.Work.{whole_work, scanned_at, scanned_rows}
use Rattle.pm_work.specs.First.{Sizes, first_hi, first_seek, first_sum}
use Rattle.pm_bounds.specs.Bounds.{lo, hi, lo_of_seek, hi_of_seek, bound_of, bound_of_seek, work_done, lo_whole, hi_whole, whole_bound}
use Rattle.pm_bounds.specs.Enclosure.{Encloses, AllEnclosed, Narrows, AllNarrow, AllWithinFirst, IsExact, AllExact}

-- the rows of each node and Seek
module _ (db : Db) where
  abbrev rows : Tree → ℕ → ℕ
  rows t m = length (output db t)

  abbrev seek_rows : Tree → Seek → ℕ → ℕ
  seek_rows left seek m = length (sought db seek (output db left))

  -- summed with numbers and without
  rows_summed : (tree : Tree) (n : ℕ) → sum_at rows seek_rows tree n ≡ whole_work db tree
  rows_summed tree n = sum_at-sum_in (λ t. length (output db t)) (λ left seek. length (sought db seek (output db left))) tree n

module _ (G : Gauges) where
  abbrev handed_at : Tree → ℕ → ℕ
  handed_at t m = (G m).handed

  abbrev seek_handed : Tree → Seek → ℕ → ℕ
  seek_handed left seek m = (G (right_number m left)).handed

  abbrev lo_at : Tree → ℕ → ℕ
  lo_at t m = lo t m G

  abbrev seek_lo : Tree → Seek → ℕ → ℕ
  seek_lo left seek m = lo_of_seek left seek m G

  abbrev hi_at : Tree → ℕ → ℕ
  hi_at t m = hi t m G

  abbrev seek_hi_at : Tree → Seek → ℕ → ℕ
  seek_hi_at left seek m = hi_of_seek left seek m G

pub whole_enclosed : (db : Db) (tree : Tree) (G : Gauges) → AllEnclosed db tree 1 G → Encloses (work_done tree G) (whole_bound tree G) (whole_work db tree)
whole_enclosed db tree G e =
    record {
      counted =
          sum_at-le (handed_at G) (lo_at G) (seek_handed G) (seek_lo G) tree 1
          (EachAt-map (λ t m. Encloses (G m).handed (bound_of t m G) (length (output db t))) (λ t m. (G m).handed ≤ lo t m G) (λ left seek m. Encloses (G (right_number m left)).handed (bound_of_seek left seek m G) (length (sought db seek (output db left)))) (λ left seek m. (G (right_number m left)).handed ≤ lo_of_seek left seek m G) (λ t m x. x.counted) (λ left seek m x. x.counted) tree 1 e);
      below =
          omega (
            arith,
            rows_summed db tree 1,
            sum_at-le (lo_at G) (rows db) (seek_lo G) (seek_rows db) tree 1
                (EachAt-map (λ t m. Encloses (G m).handed (bound_of t m G) (length (output db t))) (λ t m. lo t m G ≤ length (output db t)) (λ left seek m. Encloses (G (right_number m left)).handed (bound_of_seek left seek m G) (length (sought db seek (output db left)))) (λ left seek m. lo_of_seek left seek m G ≤ length (sought db seek (output db left))) (λ t m x. x.below) (λ left seek m x. x.below) tree 1 e),
          );
      above =
          omega (
            arith,
            rows_summed db tree 1,
            sum_at-le (rows db) (hi_at G) (seek_rows db) (seek_hi_at G) tree 1
                (EachAt-map (λ t m. Encloses (G m).handed (bound_of t m G) (length (output db t))) (λ t m. length (output db t) ≤ hi t m G) (λ left seek m. Encloses (G (right_number m left)).handed (bound_of_seek left seek m G) (length (sought db seek (output db left)))) (λ left seek m. length (sought db seek (output db left)) ≤ hi_of_seek left seek m G) (λ t m x. x.above) (λ left seek m x. x.above) tree 1 e),
          );
    }

pub whole_narrow : (tree : Tree) (G H : Gauges) → AllNarrow tree 1 G H → Narrows (whole_bound tree G) (whole_bound tree H)
whole_narrow tree G H e =
    record {
      lo_rises =
          sum_at-le (lo_at G) (lo_at H) (seek_lo G) (seek_lo H) tree 1
          (EachAt-map (λ t m. Narrows (bound_of t m G) (bound_of t m H)) (λ t m. lo t m G ≤ lo t m H) (λ left seek m. Narrows (bound_of_seek left seek m G) (bound_of_seek left seek m H)) (λ left seek m. lo_of_seek left seek m G ≤ lo_of_seek left seek m H) (λ t m x. x.lo_rises) (λ left seek m x. x.lo_rises) tree 1 e);
      hi_falls =
          sum_at-le (hi_at H) (hi_at G) (seek_hi_at H) (seek_hi_at G) tree 1
          (EachAt-map (λ t m. Narrows (bound_of t m G) (bound_of t m H)) (λ t m. hi t m H ≤ hi t m G) (λ left seek m. Narrows (bound_of_seek left seek m G) (bound_of_seek left seek m H)) (λ left seek m. hi_of_seek left seek m H ≤ hi_of_seek left seek m G) (λ t m x. x.hi_falls) (λ left seek m x. x.hi_falls) tree 1 e);
    }

pub whole_within_first : (sizes : Sizes) (tree : Tree) (G : Gauges) → AllWithinFirst sizes tree 1 G → hi_whole tree G ≤ first_sum sizes tree
whole_within_first sizes tree G e =
    omega (
      arith,
      sum_at-sum_in (first_hi exact sizes) (λ left seek. first_seek exact sizes seek (first_hi exact sizes left)) tree 1,
      sum_at-le (hi_at G) (λ t m. first_hi exact sizes t) (seek_hi_at G) (λ left seek m. first_seek exact sizes seek (first_hi exact sizes left)) tree 1 e,
    )

pub whole_exact : (db : Db) (tree : Tree) (G : Gauges) → AllExact db tree 1 G → IsExact (whole_bound tree G) (whole_work db tree)
whole_exact db tree G e =
    record {
      below =
          sum_at-same (lo_at G) (rows db) (seek_lo G) (seek_rows db) tree 1
          (EachAt-map (λ t m. IsExact (bound_of t m G) (length (output db t))) (λ t m. lo t m G ≡ length (output db t)) (λ left seek m. IsExact (bound_of_seek left seek m G) (length (sought db seek (output db left)))) (λ left seek m. lo_of_seek left seek m G ≡ length (sought db seek (output db left))) (λ t m x. x.below) (λ left seek m x. x.below) tree 1 e)
          ∙ rows_summed db tree 1;
      above =
          sum_at-same (hi_at G) (rows db) (seek_hi_at G) (seek_rows db) tree 1
          (EachAt-map (λ t m. IsExact (bound_of t m G) (length (output db t))) (λ t m. hi t m G ≡ length (output db t)) (λ left seek m. IsExact (bound_of_seek left seek m G) (length (sought db seek (output db left)))) (λ left seek m. hi_of_seek left seek m G ≡ length (sought db seek (output db left))) (λ t m x. x.above) (λ left seek m x. x.above) tree 1 e)
          ∙ rows_summed db tree 1;
    }

-- the work done is the sum of the counts
pub work_is : (db : Db) (tree : Tree) (K : Counts) (G : Gauges) → HasGauges db tree 1 K G
    → work_done tree G ≡ sum_at (λ t m. K m) (λ left seek m. K (right_number m left)) tree 1
work_is db tree K G g =
    sum_at-same (handed_at G) (λ t m. K m) (seek_handed G) (λ left seek m. K (right_number m left)) tree 1
    (EachAt-map (λ t m. G m ≡ gauge_of db t m K) (λ t m. (G m).handed ≡ K m)
    (λ left seek m. G (right_number m left) ≡ seek_gauge db left seek m K) (λ left seek m. (G (right_number m left)).handed ≡ K (right_number m left))
    (λ t m x. ap (λ y. y.handed) x) (λ left seek m x. ap (λ y. y.handed) x) tree 1 g)

-- the scanned rows are within the lower bound of the whole
module _ (db : Db) (K : Counts) (G : Gauges) where
  scanned_below : (tree : Tree) (n : ℕ) → HasGauges db tree n K G
      → sum_at (λ t m. scanned_at db t) (λ left seek m. 0) tree n ≤ sum_at (lo_at G) (seek_lo G) tree n
  scanned_below (Scan table label) n g = omega (arith, ap (λ x. x.size) g)
  scanned_below (Over op child) n g = omega (arith, scanned_below child (n + 1) g.1)
  scanned_below (Join method on left right) n g = omega (arith, scanned_below left (n + 1) g.1, scanned_below right (right_number n left) g.2)
  scanned_below (Index left seek c) n g = omega (arith, scanned_below left (n + 1) g.2)

  pub scanned_within : (tree : Tree) → HasGauges db tree 1 K G → scanned_rows db tree ≤ lo_whole tree G
  scanned_within tree g = omega (arith, scanned_below tree 1 g, sum_at-sum_in (scanned_at db) (λ left seek. 0) tree 1)
