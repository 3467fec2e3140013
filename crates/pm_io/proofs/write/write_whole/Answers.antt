use Rattle.std.proofs.Common.{rules, arith, ◌∙◌}
use Rattle.pm_io.specs.Sink.{GainsPart}
use Rattle.pm_io.proofs.Outside.{gained-next, GainsPart-take}
use Rattle.pm_io.proofs.write.write_whole.Goals as goal

pub returns-in_err-at-clause-part : goal.returns-in_err-at-clause-part
returns-in_err-at-clause-part g c =
    let part : GainsPart (g.S.Sink.written c.args.sink.now) (g.S.Sink.written c.write.new.self) c.args.piece.now =
    GainsPart-take _ _ _ c.loop-at.at (c.in_err-at.ensures.kept ∙ c.loop-at.invariant.written)
    in search (rules, part)

pub loop-at-preserved : goal.loop-at-preserved
loop-at-preserved g c = record {
  in_piece = omega (arith, c.in_ok-at.ensures.amount, c.loop-at-test.true, c.loop-at.invariant.in_piece);
  written =
      gained-next _ _ _ c.args.piece.now c.loop-at.at c.in_ok-at.field-0 c.loop-at.invariant.written c.in_ok-at.ensures.written;
  unfinished = λ _. c.in_ok-at.ensures.unfinished;
  faults = omega arith;
}
