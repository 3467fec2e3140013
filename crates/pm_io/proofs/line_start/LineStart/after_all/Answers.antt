use Rattle.pm_io.proofs.Lines.{known_next}
use Rattle.pm_io.proofs.line_start.LineStart.after_all.Goals as goal

pub loop-byte-preserved : goal.loop-byte-preserved
loop-byte-preserved c line fits =
    known_next line c.args.bytes.now c.loop-byte.byte-index _ c.loop-byte-test.true
    (c.after-line.ensures _ (c.loop-byte.invariant line fits))
