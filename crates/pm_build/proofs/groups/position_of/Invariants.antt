use Rattle.std.proofs.Common.{◌≡◌, ◌+◌, drop}
use Rattle.pm_query.specs.Answer.{position_of}
use Rattle.pm_build.proofs.groups.position_of.Given as goal

abbrev pub invariant-loop-output : goal.invariant-loop-output
invariant-loop-output l =
    (l.position ≡ l.output-index) × (position_of l.column l.outputs ≡ l.position + position_of l.column (drop l.output-index l.outputs))
