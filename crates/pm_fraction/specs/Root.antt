use Rattle.std.specs.Prelude.{ℕ, zero, suc, ◌+◌, ◌*◌, ◌<◌, ◌≤◌, nat_le, if◌then◌else◌}

-- g is the square root of p, rounded down
pub record IsRoot (g p : ℕ) : Type 0 where
  pub square_within : g * g ≤ p
  pub next_square_beyond : p < (g + 1) * (g + 1)

-- the root of p, given that of the number before: one more where the next square is reached
abbrev pub next_root : ℕ → ℕ → ℕ
next_root p g = (if nat_le ((g + 1) * (g + 1)) p then g + 1 else g)

-- that root as a function
unfoldable pub root : ℕ → ℕ
root zero = 0
root (suc p) = next_root (suc p) (root p)
