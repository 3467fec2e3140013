use Rattle.std.proofs.Common.{◌≤◌, ℕ}
use Rattle.pm_requests.specs.References.{HoldsBetween}
use Rattle.pm_requests.proofs.references.check_table.Given as goal

abbrev pub invariant-loop-earlier : goal.invariant-loop-earlier
invariant-loop-earlier l = (m k : ℕ) → m ≤ l.earlier → HoldsBetween l.db l.i m k
