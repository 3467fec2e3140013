use Rattle.std.proofs.Common.{◌≡◌}
use Rattle.pm_operator_tests.proofs.keys.keys_keep_their_first_number.Given as goal

abbrev pub invariant-loop-n : goal.invariant-loop-n
invariant-loop-n g l = l.table.width ≡ 2
