use Rattle.std.proofs.Common.{◌≡◌, take, map}
use Rattle.pm_exec.specs.Gauged.{first_gauge}
use Rattle.pm_exec.proofs.gauges.first_gauges.Given as goal

abbrev pub invariant-loop-k : goal.invariant-loop-k
invariant-loop-k l = l.gauges.items ≡ map (first_gauge l.db) (take l.k l.nodes)
