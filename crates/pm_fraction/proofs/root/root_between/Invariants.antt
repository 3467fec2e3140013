use Rattle.std.specs.Prelude.{◌-◌, ◌+◌, ◌*◌, ◌≤◌, ◌<◌}
use Rattle.pm_fraction.proofs.root.root_between.Given as goal

abbrev pub invariant-loop-low : goal.invariant-loop-low
invariant-loop-low l = (l.low * l.low ≤ l.p) × (l.p < (l.high + 1) * (l.high + 1)) × (l.high ≤ 18446744073709551615)

abbrev pub decreases-loop-low : goal.decreases-loop-low
decreases-loop-low l = l.high - l.low
