use Rattle.std.proofs.Common.{◌<◌, arith, subst, sym}
use native.Mathlib.Nat.{one-le-pow}
use Rattle.pm_values.proofs.print.fixed_point.Goals as goal

pub nonzero_div-magnitude : goal.nonzero_div-magnitude
nonzero_div-magnitude c = subst (λ n. 0 < n) (sym c.pow.ensures) (omega (arith, one-le-pow c.from.result 10 (omega arith)))
