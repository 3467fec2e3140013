use Rattle.std.proofs.Common.{◌≡◌, ◌++◌, replicate, string_bytes}
use Rattle.pm_canonical.proofs.numerals.put_zeros.Given as goal

abbrev pub invariant-zeros : goal.invariant-zeros
invariant-zeros l = string_bytes l.out ≡ string_bytes l.initial.out ++ replicate l.counter 48
