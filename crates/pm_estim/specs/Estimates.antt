-- what a progress line shows, and what the estimators are certain of. The estimators dne, pmax and safe are those of Chaudhuri, Narasayya and
-- Ramamurthy (2004) and of Chaudhuri, Kaushik and Ramamurthy (2005), over sums of all pipelines
use Rattle.std.specs.Prelude.{ℕ, ◌+◌, ◌*◌, ◌^◌, ◌<◌, ◌≤◌, nat_lt, if◌then◌else◌, Option, None, Some}
use Rattle.pm_fraction.specs.Root.{root}
use Rattle.pm_fraction.specs.Hundredths.{hundredths_down, hundredths_up}
use Rattle.pm_plan.specs.declared.gauge.Shown.{Shown}
use Rattle.pm_plan.specs.Rows.{Db}
use Rattle.pm_plan.specs.Tree.{Tree}
use Rattle.pm_work.specs.Moments.{Gauges, gauge_in, gauges_at}
use Rattle.pm_bounds.specs.Bounds.{work_done, lo_whole, hi_whole}
use Rattle.pm_estim.specs.Pipelines.{driven_handed, driven_hi}

-- the root of lo * hi, rounded down, where the product fits 128 bits
abbrev pub safe_root : ℕ → ℕ → Option ℕ
safe_root lo hi = if nat_lt (lo * hi) (2 ^ 128) then Some (root (lo * hi)) else None

-- of a plan with these gauges: dne is the count of the driver nodes over their upper bounds
abbrev pub shown_of : Tree → Gauges → Shown
shown_of tree G =
    record {
      work = work_done tree G;
      lo = lo_whole tree G;
      hi = hi_whole tree G;
      dne_num = driven_handed tree G;
      dne_den = driven_hi tree G;
      safe_den = safe_root (lo_whole tree G) (hi_whole tree G);
    }

-- after the first t events
abbrev pub shown_at : Db → Tree → ℕ → Shown
shown_at db tree t = shown_of tree (gauge_in (gauges_at db tree t))

-- safe is work / g with g the root of below * above, rounded down: work / g is within the square root of above / below of work / whole,
-- up to the rounding of the root. The second side is strict, so it asks that above is not 0
pub record SafeIsNear (below whole above : ℕ) : Type 0 where
  pub least : root (below * above) * root (below * above) * below ≤ above * whole * whole
  pub most : 1 ≤ above → whole * whole * below < above * (root (below * above) + 1) * (root (below * above) + 1)

-- the two percentages of a progress line enclose the true one, in hundredths of a percent
pub record PercentEncloses (work below whole above : ℕ) : Type 0 where
  pub least : hundredths_down work above * whole ≤ 10000 * work
  pub most : 10000 * work ≤ hundredths_up work below * whole
  pub within : hundredths_up work below ≤ 10000
