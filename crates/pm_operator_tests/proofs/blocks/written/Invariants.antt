use Rattle.std.proofs.Common.{◌≡◌, ◌-◌, true, length}
use Rattle.pm_operator_tests.proofs.blocks.written.Given as goal

abbrev pub invariant-loop-group : goal.invariant-loop-group
invariant-loop-group l = record { closed_still : l.core.closed ≡ true; keys_kept : l.core.keys ≡ l.fn.core.keys; items_kept : l.core.items ≡ l.fn.core.items; groups_kept : l.core.groups ≡ l.fn.core.groups }

abbrev pub decreases-loop-group : goal.decreases-loop-group
decreases-loop-group l = length l.core.groups - l.core.handed
