use Rattle.std.proofs.Common.{◌≡◌, ◌≤◌, ◌-◌, ◌<◌, false, IfSome, length, take}
use Rattle.pm_io.specs.Sink.{gained}
use Rattle.pm_io.proofs.write.write_whole.Given as goal

abbrev pub invariant-loop-at : goal.invariant-loop-at
invariant-loop-at g l = record {
  in_piece : l.at ≤ length l.piece;
  written : g.S.Sink.written l.sink ≡ gained (g.S.Sink.written l.initial.sink) (take l.at l.piece);
  unfinished : 0 < l.at → IfSome (g.S.Sink.finished l.sink) (λ done. done ≡ false);
  faults : g.S.Sink.faults l.initial.sink ≤ g.S.Sink.faults l.sink;
}

abbrev pub decreases-loop-at : goal.decreases-loop-at
decreases-loop-at g l = length l.piece - l.at
