use Rattle.std.proofs.Common.{◌≡◌, true, false, length}
use Rattle.pm_operator_tests.proofs.blocks.sorted.Given as goal

abbrev pub invariant-loop-row : goal.invariant-loop-row
invariant-loop-row l = record { open_still : l.core.closed ≡ false; keys_kept : l.core.keys ≡ l.keys }

abbrev pub invariant-loop-number : goal.invariant-loop-number
invariant-loop-number l = l.core.closed ≡ true

abbrev pub decreases-loop-number : goal.decreases-loop-number
decreases-loop-number l = length l.core.left
