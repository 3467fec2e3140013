use Rattle.std.specs.Prelude.{ℕ, ◌-◌, ◌^◌, min}

-- a number, or the greatest number of 128 bits where it is beyond that
abbrev pub capped : ℕ → ℕ
capped n = min n (2 ^ 128 - 1)
