use Rattle.pm_syntax.proofs.WholeReading.{parse_answers, parse_only}
use Rattle.pm_syntax.proofs.statement.parse.Goals as goal

pub returns-clause-answers : goal.returns-clause-answers
returns-clause-answers c = parse_answers c.args.tokens.now c.whole.result (rw c.as_slice.ensures at c.whole.ensures)

pub returns-clause-only : goal.returns-clause-only
returns-clause-only c = parse_only c.args.tokens.now c.whole.result (rw c.as_slice.ensures at c.whole.ensures)
