use Rattle.std.proofs.Common.{◌≡◌, ◌++◌, length, map}
use Rattle.pm_schema.specs.Meaning.{AreNamed, number_in}
use Rattle.pm_schema.proofs.declared.column_numbers.Given as goal

abbrev pub invariant-names : goal.invariant-names
invariant-names l = record {
  walked : l.numbers ++ map (number_in l.columns) l.rest ≡ map (number_in l.columns) l.names;
  named : AreNamed l.columns l.rest;
}

abbrev pub decreases-names : goal.decreases-names
decreases-names l = length l.rest
