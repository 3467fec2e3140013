use Rattle.std.proofs.Common.{◌≡◌, ◌-◌, ◌≤◌, length, drop}
use Rattle.std.specs.Io.KnownBytes.{Keeps, append_known}
use Rattle.pm_io.proofs.outlet.Outlet.pass_on.Given as goal

abbrev pub invariant-loop-self : goal.invariant-loop-self
invariant-loop-self g l =
    let now = l.self-inside in
    record {
      passed : now.passed ≤ length now.gathered.items;
      line : now.line ≡ l.fn.self.line;
      bytes : Keeps l.fn.self.taken (append_known (g.W.Write.contents now.writer) (drop now.passed now.gathered.items));
    }

abbrev pub decreases-loop-self : goal.decreases-loop-self
decreases-loop-self g l = length l.self-inside.gathered.items - l.self-inside.passed
