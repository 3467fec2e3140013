-- what is said of the bounds at each operator: they enclose its rows, narrow, stay within the first bounds, and end exact
use Rattle.std.specs.Prelude.{◌≡◌, ℕ, suc, ◌≤◌, ◌≢◌, length}
use Rattle.pm_plan.specs.declared.gauge.Bound.{Bound}
use Rattle.pm_plan.specs.Rows.{Db}
use Rattle.pm_plan.specs.Tree.{Tree, EachAt, right_number}
use Rattle.pm_plan.specs.Outputs.{output, sought}
use Rattle.pm_work.specs.Formulas.{exact}
use Rattle.pm_work.specs.Moments.{Counts, Gauges}
use Rattle.pm_work.specs.First.{Sizes, first_hi, first_seek}
use Rattle.pm_bounds.specs.Bounds.{bound_of, bound_of_seek, hi, hi_of_seek}

-- count, lower bound, rows and upper bound stand in this order
pub record Encloses (count : ℕ) (bound : Bound) (rows : ℕ) : Type 0 where
  pub counted : count ≤ bound.lo
  pub below : bound.lo ≤ rows
  pub above : rows ≤ bound.hi

abbrev pub AllEnclosed : Db → Tree → ℕ → Gauges → Type 0
AllEnclosed db tree n G =
    EachAt (λ t m. Encloses (G m).handed (bound_of t m G) (length (output db t)))
    (λ left seek m. Encloses (G (right_number m left)).handed (bound_of_seek left seek m G) (length (sought db seek (output db left))))
    tree n

-- the counts L are K with one row more at node m
pub record IsNext (m : ℕ) (K L : Counts) : Type 0 where
  pub more : L m ≡ suc (K m)
  pub others : (k : ℕ) → k ≢ m → L k ≡ K k

-- the lower bound has not fallen, and the upper bound has not risen
pub record Narrows (before later : Bound) : Type 0 where
  pub lo_rises : before.lo ≤ later.lo
  pub hi_falls : later.hi ≤ before.hi

abbrev pub AllNarrow : Tree → ℕ → Gauges → Gauges → Type 0
AllNarrow tree n G H =
    EachAt (λ t m. Narrows (bound_of t m G) (bound_of t m H)) (λ left seek m. Narrows (bound_of_seek left seek m G) (bound_of_seek left seek m H)) tree n

abbrev pub AllWithinFirst : Sizes → Tree → ℕ → Gauges → Type 0
AllWithinFirst sizes tree n G =
    EachAt (λ t m. hi t m G ≤ first_hi exact sizes t) (λ left seek m. hi_of_seek left seek m G ≤ first_seek exact sizes seek (first_hi exact sizes left)) tree n

-- both bounds are the number of rows
pub record IsExact (bound : Bound) (rows : ℕ) : Type 0 where
  pub below : bound.lo ≡ rows
  pub above : bound.hi ≡ rows

abbrev pub AllExact : Db → Tree → ℕ → Gauges → Type 0
AllExact db tree n G =
    EachAt (λ t m. IsExact (bound_of t m G) (length (output db t)))
    (λ left seek m. IsExact (bound_of_seek left seek m G) (length (sought db seek (output db left))))
    tree n
