use Rattle.std.proofs.Common.{sym, ◌∙◌}
use Rattle.pm_io.proofs.Lines.{known_next, known_at}
use Rattle.pm_io.proofs.line_start.LineStart.after_part.Goals as goal

-- what is known no longer changes
pub returns-then-is_known : goal.returns-then-is_known
returns-then-is_known c line begun =
    known_at line c.args.part.now c.loop-byte.byte-index _ c.requires (c.loop-byte.invariant line begun)
    (sym c.is_known.ensures ∙ c.if-is_known.true)

pub loop-byte-preserved : goal.loop-byte-preserved
loop-byte-preserved c line begun =
    known_next line c.args.part.now c.loop-byte.byte-index _ c.loop-byte-test.true
    (c.after-line.ensures _ (c.loop-byte.invariant line begun))
