use Rattle.std.proofs.Common.{◌≡◌, ℕ, true, min, take}
use Rattle.std.specs.Prelude.{nat_lt}
use Rattle.std.specs.List.{list_all}
use Rattle.pm_plan.proofs.valid.keys_below.Given as goal

abbrev pub invariant-loop-key : goal.invariant-loop-key
invariant-loop-key l = (w : ℕ) → l.wide ≡ min w 4294967296 → list_all (λ key. nat_lt key.column w) (take l.key-index l.keys) ≡ true
