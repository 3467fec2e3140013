-- inequalities of plain numbers between a work, its bounds, a root and a share
use Rattle.std.proofs.Common.{ℕ, ◌+◌, ◌*◌, ◌/◌, ◌<◌, ◌≤◌, inl, inr, arith}
use Rattle.std.specs.Prelude.{nat_le}
use Rattle.std.proofs.lemmas.Bool.{cases_Bool, leb-true, leb-false}
use Rattle.std.proofs.Math.Nat.{mul-le-mul, mul-le-mul_left, mul-le-mul_right, div-mul-le_self}
use Rattle.std.proofs.lemmas.Grind.{div_ceil_times}
use Rattle.pm_fraction.specs.Root.{root}
use Rattle.pm_fraction.specs.Hundredths.{hundredths_down, hundredths_up}
use Rattle.pm_fraction.proofs.Roots.{root-is}
use Rattle.pm_estim.specs.Estimates.{SafeIsNear, PercentEncloses}

safe_below : (l w h g : ℕ) → l ≤ w → w ≤ h → g * g ≤ l * h → g * g * l ≤ h * w * w
safe_below l w h g a b square =
    let first : g * g * l ≤ l * h * l = mul-le-mul_right l square in
    let second : l * l ≤ w * w = mul-le-mul a a in
    let third : h * (l * l) ≤ h * (w * w) = mul-le-mul_left h second in
    omega (arith, first, third)

safe_above : (l w h g : ℕ) → l ≤ w → w ≤ h → 1 ≤ h → l * h < (g + 1) * (g + 1) → w * w * l < h * (g + 1) * (g + 1)
safe_above l w h g a b some square =
    let first : w * w ≤ h * h = mul-le-mul b b in
    let second : w * w * l ≤ h * h * l = mul-le-mul_right l first in
    let more : l * h + 1 ≤ (g + 1) * (g + 1) = omega (arith, square) in
    let third : h * (l * h + 1) ≤ h * ((g + 1) * (g + 1)) = mul-le-mul_left h more in
    omega (arith, second, third, some)

pub safe_near : (below whole above : ℕ) → below ≤ whole → whole ≤ above → SafeIsNear below whole above
safe_near below whole above a b =
    record {
      least = safe_below below whole above (root (below * above)) a b (root-is (below * above)).square_within;
      most = λ some. safe_above below whole above (root (below * above)) a b some (root-is (below * above)).next_square_beyond;
    }

down_below : (c w h : ℕ) → w ≤ h → hundredths_down c h * w ≤ 10000 * c
down_below c w h b =
    let first : 10000 * c / h * w ≤ 10000 * c / h * h = mul-le-mul_left (10000 * c / h) b in
    omega (arith, first, div-mul-le_self (10000 * c) h)

up_above : (c l w : ℕ) → l ≤ w → 1 ≤ l → 10000 * c ≤ hundredths_up c l * w
up_above c l w a some =
    let times = div_ceil_times (10000 * c) l (omega arith) in
    let first : hundredths_up c l * l ≤ hundredths_up c l * w = mul-le-mul_left (hundredths_up c l) a in
    omega (arith, first, times.0)

at_most_whole : (x l : ℕ) → 1 ≤ l → x * l < 10000 * l + l → x ≤ 10000
at_most_whole x l some less =
    elim (cases_Bool (nat_le x 10000)) [
      | inl small ↦ leb-true x 10000 small
      | inr large ↦
          let more : 10001 ≤ x = omega (arith, leb-false x 10000 large) in
          absurd (omega (arith, mul-le-mul_right l more))
    ]

up_whole : (c l : ℕ) → c ≤ l → 1 ≤ l → hundredths_up c l ≤ 10000
up_whole c l a some =
    let times = div_ceil_times (10000 * c) l (omega arith) in
    at_most_whole (hundredths_up c l) l some (omega (arith, times.1))

pub percent_encloses : (work below whole above : ℕ) → 1 ≤ work → work ≤ below → below ≤ whole → whole ≤ above → PercentEncloses work below whole above
percent_encloses work below whole above begun a b c =
    let some : 1 ≤ below = omega arith in
    record { least = down_below work whole above c; most = up_above work below whole b some; within = up_whole work below a some }
