-- what is promised of the numbers of a run: at every event, and so on every progress line
use Rattle.std.specs.Prelude.{◌≡◌, ℕ, ◌+◌, ◌*◌, ◌<◌, ◌≤◌, Some}
use Rattle.pm_plan.specs.declared.gauge.Bound.{Bound}
use Rattle.pm_plan.specs.declared.gauge.Shown.{Shown}
use Rattle.pm_plan.specs.Rows.{Db}
use Rattle.pm_plan.specs.Tree.{Tree}
use Rattle.pm_work.specs.First.{most_work}
use Rattle.pm_work.specs.Moments.{gauge_in, gauges_at}
use Rattle.pm_work.specs.Work.{whole_work, scanned_rows}
use Rattle.pm_bounds.specs.Enclosure.{Encloses, Narrows, AllEnclosed, AllNarrow, IsExact, AllExact}
use Rattle.pm_estim.specs.Estimates.{shown_at, PercentEncloses}

abbrev pub bound_shown : Shown → Bound
bound_shown s = record { lo = s.lo; hi = s.hi }

-- of what is shown of one event, for a whole work w of which so many rows are scanned
pub record IsCertified (w scanned : ℕ) (s : Shown) : Type 0 where
  -- the bounds enclose the whole work, and the lower one is at least the work done
  pub enclosed : Encloses s.work (bound_shown s) w
  pub limited : s.hi ≤ most_work
  -- pmax, work / lo, is at most the average work per scanned row times the true fraction
  pub scans : scanned ≤ s.lo
  -- dne is a share of the driver nodes' rows
  pub driven : s.dne_num ≤ s.dne_den
  pub drivers : 1 ≤ s.dne_den
  pub drivers_within : s.dne_den ≤ s.hi
  -- safe, work / g, is within the square root of hi / lo of the true fraction, up to the rounding of the root
  pub safe_below : (g : ℕ) → s.safe_den ≡ Some g → g * g * s.lo ≤ s.hi * w * w
  pub safe_above : (g : ℕ) → s.safe_den ≡ Some g → w * w * s.lo < s.hi * (g + 1) * (g + 1)
  -- the percentages enclose the true one
  pub percent : PercentEncloses s.work s.lo w s.hi

-- of a tree over a database, from each event on up to the last
pub record AreCertified (db : Db) (tree : Tree) : Type 0 where
  pub each : (t : ℕ) → 1 ≤ t → t ≤ whole_work db tree → IsCertified (whole_work db tree) (scanned_rows db tree) (shown_at db tree t)
  -- the work done is the number of events so far
  pub work : (t : ℕ) → t ≤ whole_work db tree → (shown_at db tree t).work ≡ t
  -- from one moment to a later one the lower bound never falls, and the upper one never rises
  pub narrows : (t u : ℕ) → t ≤ u → u ≤ whole_work db tree → Narrows (bound_shown (shown_at db tree t)) (bound_shown (shown_at db tree u))
  -- at the end both are the whole work
  pub ends : IsExact (bound_shown (shown_at db tree (whole_work db tree))) (whole_work db tree)
  -- the same at each operator and each Seek, of its rows
  pub each_encloses : (t : ℕ) → t ≤ whole_work db tree → AllEnclosed db tree 1 (gauge_in (gauges_at db tree t))
  pub each_narrows : (t u : ℕ) → t ≤ u → u ≤ whole_work db tree
      → AllNarrow tree 1 (gauge_in (gauges_at db tree t)) (gauge_in (gauges_at db tree u))
  pub each_ends : AllExact db tree 1 (gauge_in (gauges_at db tree (whole_work db tree)))
