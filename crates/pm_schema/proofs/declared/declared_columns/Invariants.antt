use Rattle.std.proofs.Common.{◌≡◌, ◌++◌, length, map}
use Rattle.pm_schema.specs.Meaning.{declared_column}
use Rattle.pm_schema.proofs.declared.declared_columns.Given as goal

abbrev pub invariant-columns : goal.invariant-columns
invariant-columns l = l.decls ++ map declared_column l.rest ≡ map declared_column l.initial.columns

abbrev pub decreases-columns : goal.decreases-columns
decreases-columns l = length l.rest
