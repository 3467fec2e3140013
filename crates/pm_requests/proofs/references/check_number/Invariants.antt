use Rattle.std.proofs.Common.{◌<◌, ℕ}
use Rattle.pm_requests.specs.References.{HoldsBetween}
use Rattle.pm_requests.proofs.references.check_number.Given as goal

abbrev pub invariant-loop-j : goal.invariant-loop-j
invariant-loop-j l = (k : ℕ) → k < l.j → HoldsBetween l.db l.i l.number k
