use Rattle.std.specs.Prelude.{ℕ, ◌*◌, ◌/◌}
use Rattle.std.specs.Int.{div_ceil}

-- n / d in hundredths of a percent, rounded down
abbrev pub hundredths_down : ℕ → ℕ → ℕ
hundredths_down n d = 10000 * n / d

-- n / d in hundredths of a percent, rounded up
abbrev pub hundredths_up : ℕ → ℕ → ℕ
hundredths_up n d = div_ceil (10000 * n) d
