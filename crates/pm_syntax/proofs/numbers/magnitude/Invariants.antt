use Rattle.std.proofs.Common.{◌≡◌, ◌<◌, ◌^◌, take}
use Rattle.pm_syntax.specs.Terminals.{magnitude_of}
use Rattle.pm_syntax.proofs.numbers.magnitude.Given as goal

abbrev pub invariant-loop-b : goal.invariant-loop-b
invariant-loop-b l = record {
  so_far : l.value ≡ magnitude_of (take l.b-index l.bytes);
  small : l.value < 10 ^ l.b-index;
}
