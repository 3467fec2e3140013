-- changes that are put in one after the other
use Rattle.std.proofs.Common.{◌≡◌, ℕ, ◌+◌, ◌<◌, ◌≤◌, ◌⊎◌, length, get_or, unwrap_or, List, Option, None}
use Rattle.pm_values.specs.declared.value.Value.{Value}
use Rattle.pm_values.specs.Row.{cell}

-- the changes before a position have been put in, and no others
pub record IsApplied (old : List Value) (start : ℕ) (changes : List (Option Value)) (at : ℕ) (cells : List Value) (left : List (Option Value)) : Type 0 where
  pub cells_kept : length cells ≡ length old
  pub changes_kept : length left ≡ length changes
  pub changed : (k : ℕ) → k < at → cell cells (start + k) ≡ unwrap_or (get_or changes k None) (cell old (start + k))
  pub others : (i : ℕ) → (i < start) ⊎ (start + at ≤ i) → cell cells i ≡ cell old i
  pub left_kept : (k : ℕ) → at ≤ k → get_or left k None ≡ get_or changes k None
