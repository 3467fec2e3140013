use Rattle.std.proofs.Common.{◌≡◌, ◌≤◌, take}
use Rattle.pm_io.specs.Sink.{gained}
use Rattle.pm_plan.specs.PlanLines.{plan_lines}
use Rattle.pm_lines.proofs.plan.put_plan.Given as goal

-- the lines so far were written
abbrev pub invariant-loop-place : goal.invariant-loop-place
invariant-loop-place g l =
    let written = g.S.Sink.written in
    let faults = g.S.Sink.faults in
    record {
      lines : written l.sink ≡ gained (written l.fn.sink) (plan_lines 1 (take l.place l.plan.nodes));
      faults : faults l.fn.sink ≤ faults l.sink;
    }
