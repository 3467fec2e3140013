use Rattle.pm_run.specs.RunState.{CanTurn}
use Rattle.pm_run_tests.proofs.run.take_turns.Given as goal

abbrev pub invariant-turns : goal.invariant-turns
invariant-turns g l = CanTurn l.run.stage
