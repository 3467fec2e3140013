use Rattle.std.proofs.Common.{◌≡◌, take}
use Rattle.pm_exec.specs.Ran.{last_row}
use Rattle.pm_run.specs.Text.{row_texts}
use Rattle.pm_run.proofs.row.texts_of_row.Given as goal

-- the texts so far
abbrev pub invariant-loop-column : goal.invariant-loop-column
invariant-loop-column l = l.texts ≡ take l.column (row_texts l.kinds (last_row l.exec))
