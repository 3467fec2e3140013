-- sums of numbers of 64 bits have a place in 128 bits
use Rattle.std.proofs.Common.{◌≡◌, ℕ, ◌+◌, ◌*◌, ◌-◌, ◌^◌, ◌<◌, ℤ, pos, neg_ℤ, ◌≤ℤ◌, arith}
use Rattle.std.specs.Prelude.{FitsSigned}
use Rattle.std.specs.Int.{w64}
use Rattle.std.proofs.lemmas.Int.{ints}
use Rattle.pm_values.specs.declared.value.Value.{Value}
use Rattle.pm_values.specs.declared.value.Value.TheVariants as value
use Rattle.pm_plan.specs.Grouping.{plus}
use Rattle.pm_work.specs.Evaluation.{IsSmall, PlusFits}

-- the sum of k numbers of 64 bits
abbrev pub SumWithin : ℕ → Value → Type 0
SumWithin k value.Null = Unit {0}
SumWithin k (value.Text t) = Unit {0}
SumWithin k (value.Int n) = (neg_ℤ (pos (2 ^ 63 * k)) ≤ℤ n) × (n ≤ℤ pos (2 ^ 63 * k))

small_bounds : (m : ℤ) → FitsSigned w64 m → (neg_ℤ (pos (2 ^ 63)) ≤ℤ m) × (m ≤ℤ pos (2 ^ 63))
small_bounds m fits = (omega (arith, ints, fits), omega (arith, ints, fits))

pub plus_fits : (k : ℕ) (a b : Value) → k < 2 ^ 64 - 1 → IsSmall a → SumWithin k b → PlusFits a b
plus_fits k value.Null b few small sum = tt
plus_fits k (value.Text a) b few small sum = tt
plus_fits k (value.Int m) value.Null few small sum = tt
plus_fits k (value.Int m) (value.Text b) few small sum = tt
plus_fits k (value.Int m) (value.Int n) few small sum =
    let b = small_bounds m small in omega (arith, ints, b.0, b.1, sum.0, sum.1, few)

pub plus_within : (k j : ℕ) (a b : Value) → j ≡ k + 1 → IsSmall a → SumWithin k b → SumWithin j (plus a b)
plus_within k j value.Null value.Null e small sum = tt
plus_within k j value.Null (value.Text t) e small sum = tt
plus_within k j value.Null (value.Int n) e small sum = (omega (arith, ints, sum.0, e), omega (arith, ints, sum.1, e))
plus_within k j (value.Text a) value.Null e small sum = tt
plus_within k j (value.Text a) (value.Text t) e small sum = tt
plus_within k j (value.Text a) (value.Int n) e small sum = (omega (arith, ints, sum.0, e), omega (arith, ints, sum.1, e))
plus_within k j (value.Int m) value.Null e small sum = let b = small_bounds m small in (omega (arith, ints, b.0, e), omega (arith, ints, b.1, e))
plus_within k j (value.Int m) (value.Text t) e small sum = let b = small_bounds m small in (omega (arith, ints, b.0, e), omega (arith, ints, b.1, e))
plus_within k j (value.Int m) (value.Int n) e small sum =
    let b = small_bounds m small in (omega (arith, ints, b.0, sum.0, e), omega (arith, ints, b.1, sum.1, e))
