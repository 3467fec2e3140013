use Rattle.std.proofs.Common.{◌≤◌, drop}
use Rattle.pm_tables.specs.declared.field.TheConstants.{LARGEST}
use Rattle.pm_tables.proofs.Digits.{Reads}
use Rattle.pm_tables.proofs.field.number.Given as goal

abbrev pub invariant-loop-digit : goal.invariant-loop-digit
invariant-loop-digit l = record {
  reads : Reads l.start l.digits l.n (drop l.digit-index l.digits);
  small : l.n ≤ LARGEST;
}
