use Rattle.std.proofs.Common.{◌≡◌, length}
use Rattle.pm_operator_tests.proofs.blocks.drawn.Given as goal

abbrev pub invariant-loop : goal.invariant-loop
invariant-loop l = length l.list.items ≡ l.counter
