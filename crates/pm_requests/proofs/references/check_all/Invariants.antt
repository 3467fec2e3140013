use Rattle.std.proofs.Common.{◌<◌, ℕ}
use Rattle.pm_requests.specs.References.{HoldsBetween}
use Rattle.pm_requests.proofs.references.check_all.Given as goal

abbrev pub invariant-loop-i : goal.invariant-loop-i
invariant-loop-i l = (h m k : ℕ) → h < l.i → HoldsBetween l.db h m k
