use Rattle.std.proofs.Common.{sym, ◌∙◌, arith}
use Rattle.pm_lexer.proofs.Quotation.{doubled, closed, closed_last, passed, not_closed}
use Rattle.pm_lexer.proofs.head.quotation.Goals as goal
use Rattle.pm_lexer.proofs.head.quotation.Goals.{then-at-text-via-then-at-text, then-at-text-via-else-at-text+then-text-at-2}

pub returns-then-at-text-clause-closed : goal.returns-then-at-text-clause-closed
returns-then-at-text-clause-closed c =
    elim c.then-at-text.branch [
      | then-at-text-via-then-at-text w ↦ sym (c.loop-at.invariant.found ∙ closed_last c.args.quote c.args.text.now c.loop-at.at w.if-at-text.true c.if-text-at.true)
      | then-at-text-via-else-at-text+then-text-at-2 w ↦ sym (c.loop-at.invariant.found ∙ closed c.args.quote c.args.text.now c.loop-at.at (omega arith) c.if-text-at.true w.if-text-at-2.true)
    ]

pub loop-at-preserved-then-text-at : goal.loop-at-preserved-then-text-at
loop-at-preserved-then-text-at c = record {
  within = omega arith;
  found = c.loop-at.invariant.found ∙ doubled c.args.quote c.args.text.now c.loop-at.at (omega arith) c.if-text-at.true c.if-text-at-2.false;
}

pub loop-at-preserved : goal.loop-at-preserved
loop-at-preserved c = record {
  within = omega arith;
  found = c.loop-at.invariant.found ∙ passed c.args.quote c.args.text.now c.loop-at.at (omega arith) c.if-text-at.false;
}

pub returns-clause-closed : goal.returns-clause-closed
returns-clause-closed c = sym (c.loop-at.invariant.found ∙ not_closed c.args.quote c.args.text.now c.loop-at.at (omega arith))
