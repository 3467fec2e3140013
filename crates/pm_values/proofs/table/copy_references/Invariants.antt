use Rattle.std.proofs.Common.{◌≡◌, take}
use Rattle.pm_values.proofs.table.copy_references.Given as goal

abbrev pub invariant-loop-reference : goal.invariant-loop-reference
invariant-loop-reference l = l.copy ≡ take l.reference-index l.references
