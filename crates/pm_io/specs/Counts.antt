-- counts of 64 bits, which stay at their greatest value
use Rattle.std.specs.Prelude.{ℕ, ◌+◌, ◌-◌, ◌^◌, ◌≤◌, min}

-- the count after one more
abbrev pub counted : ℕ → ℕ
counted n = min (n + 1) (2 ^ 64 - 1)

-- the count rose: it is greater than before, or it stands at its greatest value
abbrev pub Rose : ℕ → ℕ → Type 0
Rose old new = counted old ≤ new
