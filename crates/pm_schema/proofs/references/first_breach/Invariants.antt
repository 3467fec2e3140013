use Rattle.std.proofs.Common.{◌≡◌, fold, length}
use Rattle.pm_schema.specs.Rules.{earlier}
use Rattle.pm_schema.specs.References.{all_table_breaches, first_breach}
use Rattle.pm_schema.proofs.references.first_breach.Given as goal

abbrev pub invariant-tables : goal.invariant-tables
invariant-tables l = fold earlier l.found (all_table_breaches l.tables l.rest) ≡ first_breach l.tables

abbrev pub decreases-tables : goal.decreases-tables
decreases-tables l = length l.rest
