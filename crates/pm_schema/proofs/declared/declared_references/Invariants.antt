use Rattle.std.proofs.Common.{◌≡◌, ◌++◌, length, map}
use Rattle.std.specs.Prelude.{All}
use Rattle.pm_schema.specs.Meaning.{IsNamedReference, declared_reference}
use Rattle.pm_schema.proofs.declared.declared_references.Given as goal

abbrev pub invariant-references : goal.invariant-references
invariant-references l = record {
  walked : l.decls ++ map (declared_reference l.tables l.columns) l.rest ≡ map (declared_reference l.tables l.columns) l.references;
  named : All (IsNamedReference l.tables l.columns) l.rest;
}

abbrev pub decreases-references : goal.decreases-references
decreases-references l = length l.rest
