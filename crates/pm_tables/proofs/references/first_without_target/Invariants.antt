use Rattle.std.proofs.Common.{◌≡◌, ◌<◌, ℕ, true, [], get_or}
use Rattle.pm_values.specs.References.{has_target}
use Rattle.pm_tables.proofs.references.first_without_target.Given as goal

abbrev pub invariant-loop-number : goal.invariant-loop-number
invariant-loop-number l = (k : ℕ) → k < l.number → has_target l.reference l.targets (get_or l.rows k []) ≡ true
