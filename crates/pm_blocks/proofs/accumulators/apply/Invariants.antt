use Rattle.pm_blocks.proofs.Applied.{IsApplied}
use Rattle.pm_blocks.proofs.accumulators.apply.Given as goal

abbrev pub invariant-loop-at : goal.invariant-loop-at
invariant-loop-at l = IsApplied l.fn.cells.items l.start l.fn.changes.items l.at l.cells.items l.changes.items
