use Rattle.std.proofs.Common.{◌≡◌, length, All}
use Rattle.pm_values.specs.Row.{cell}
use Rattle.pm_blocks.specs.Limits.{IsShort}
use Rattle.pm_operator_tests.proofs.blocks.rows.Given as goal

abbrev pub invariant-loop-number : goal.invariant-loop-number
invariant-loop-number l = record { count : length l.rows ≡ l.number-index; pairs : All (λ row. (length row ≡ 2) × IsShort (cell row 0)) l.rows }
