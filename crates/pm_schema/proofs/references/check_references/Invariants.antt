use Rattle.std.proofs.Common.{◌≡◌, fold, length}
use Rattle.pm_schema.specs.Rules.{earlier}
use Rattle.pm_schema.specs.References.{all_reference_breaches}
use Rattle.pm_schema.proofs.references.check_references.Given as goal

abbrev pub invariant-references : goal.invariant-references
invariant-references l = fold earlier l.found (all_reference_breaches l.tables l.columns l.rest) ≡ fold earlier l.fn.so_far (all_reference_breaches l.tables l.columns l.initial.references)

abbrev pub decreases-references : goal.decreases-references
decreases-references l = length l.rest
