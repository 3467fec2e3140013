use Rattle.std.proofs.Common.{◌<◌, All}
use Rattle.pm_operator_tests.proofs.blocks.keys.Given as goal

abbrev pub invariant-loop-second : goal.invariant-loop-second
invariant-loop-second l = All (λ key. key.column < 2) l.keys
