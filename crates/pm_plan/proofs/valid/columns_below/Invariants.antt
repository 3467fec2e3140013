use Rattle.std.proofs.Common.{◌≡◌, ℕ, true, min, take}
use Rattle.pm_plan.specs.Valid.{are_below}
use Rattle.pm_plan.proofs.valid.columns_below.Given as goal

abbrev pub invariant-loop-column : goal.invariant-loop-column
invariant-loop-column l = (w : ℕ) → l.wide ≡ min w 4294967296 → are_below w (take l.column-index l.columns) ≡ true
