use Rattle.std.proofs.Common.{◌≡◌, count_by, take}
use Rattle.pm_plan.specs.Fitting.{reads_table}
use Rattle.pm_plan.proofs.valid.tables_in.Given as goal

abbrev pub invariant-loop-node : goal.invariant-loop-node
invariant-loop-node l = l.count ≡ count_by reads_table (take l.node-index l.nodes)
