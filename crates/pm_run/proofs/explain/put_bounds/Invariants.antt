use Rattle.std.proofs.Common.{◌≡◌, ◌≤◌, take}
use Rattle.std.specs.List.{zip}
use Rattle.pm_io.specs.Sink.{gained}
use Rattle.pm_run.specs.ExplainText.{bound_lines}
use Rattle.pm_run.proofs.explain.put_bounds.Given as goal

-- the lines so far were written
abbrev pub invariant-loop-place : goal.invariant-loop-place
invariant-loop-place g l =
    let written = g.S.Sink.written in
    let faults = g.S.Sink.faults in
    record {
      lines : written l.sink ≡ gained (written l.fn.sink) (bound_lines 1 (take l.place (zip l.bounds l.pipes)));
      faults : faults l.fn.sink ≤ faults l.sink;
    }
