use Rattle.std.proofs.Common.{◌≡◌, ◌++◌, length, map}
use Rattle.std.specs.Prelude.{All}
use Rattle.pm_schema.specs.Meaning.{IsSound, declared_table}
use Rattle.pm_schema.proofs.declared.declared.Given as goal

abbrev pub invariant-tables : goal.invariant-tables
invariant-tables l = record {
  walked : l.decls ++ map (declared_table l.tables) l.rest ≡ map (declared_table l.tables) l.tables;
  sound : All (IsSound l.tables) l.rest;
}

abbrev pub decreases-tables : goal.decreases-tables
decreases-tables l = length l.rest
