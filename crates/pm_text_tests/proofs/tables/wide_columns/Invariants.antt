use Rattle.std.proofs.Common.{◌≡◌, length}
use Rattle.std.specs.Prelude.{All}
use Rattle.pm_values.specs.Table.{HasValidKind}
use Rattle.pm_text_tests.proofs.tables.wide_columns.Given as goal

abbrev pub invariant-loop-number : goal.invariant-loop-number
invariant-loop-number l = (length l.columns ≡ l.number) × All HasValidKind l.columns
