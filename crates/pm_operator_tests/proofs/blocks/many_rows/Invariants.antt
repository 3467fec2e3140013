use Rattle.std.proofs.Common.{◌≡◌, length, All}
use Rattle.pm_values.specs.Row.{cell}
use Rattle.pm_blocks.specs.Limits.{IsShort}
use Rattle.pm_operator_tests.proofs.blocks.many_rows.Given as goal

abbrev pub invariant-loop-i : goal.invariant-loop-i
invariant-loop-i l = record { count : length l.rows ≡ l.i; pairs : All (λ row. (length row ≡ 2) × IsShort (cell row 0)) l.rows }
