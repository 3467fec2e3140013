use Rattle.std.proofs.Common.{◌≡◌, ℕ, ◌+◌, ◌<◌, length, get_or, unwrap_or, None}
use Rattle.pm_values.specs.Row.{cell}
use Rattle.pm_blocks.specs.Accumulators.{item_at, with_row}
use Rattle.pm_blocks.proofs.accumulators.find_changes.Given as goal

-- the changes so far
abbrev pub invariant-loop-at : goal.invariant-loop-at
invariant-loop-at g l = record {
  one_each : length l.changes.items ≡ l.at;
  each : (k : ℕ) → k < l.at → unwrap_or (get_or l.changes.items k None) (cell l.accumulators (l.start + k)) ≡ with_row (g.C.Cells.cells l.row) (item_at l.items k) (cell l.accumulators (l.start + k));
}
