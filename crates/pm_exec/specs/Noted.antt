-- how the gauges of the nodes change by an event that a step took
use Rattle.std.specs.Prelude.{ℕ, ◌+◌, ◌==◌, if◌then◌else◌, List, [], ◌∷◌, max}
use Rattle.pm_plan.specs.declared.gauge.Gauge.{Gauge}
use Rattle.pm_flows.specs.declared.taken.Taken.{Taken}

-- the rows that it settles at node m, and the greatest multiplicity there after it
abbrev pub more_at : ℕ → Taken → ℕ
more_at m t = if t.reader == m then t.settled else 0

abbrev pub worst_with_it : ℕ → Taken → ℕ → ℕ
worst_with_it m t worst = if t.reader == m then max worst t.worst else worst

-- the gauge of node m after it
abbrev pub gauge_with : ℕ → Taken → Gauge → Gauge
gauge_with m t g =
    record {
      handed = g.handed + (if t.node == m then 1 else 0);
      settled = g.settled + more_at m t;
      worst = worst_with_it m t g.worst;
      size = g.size;
    }

-- those of the nodes from m on
abbrev pub gauges_with : ℕ → Taken → List Gauge → List Gauge
gauges_with m t [] = []
gauges_with m t (g ∷ gauges) = gauge_with m t g ∷ gauges_with (m + 1) t gauges
