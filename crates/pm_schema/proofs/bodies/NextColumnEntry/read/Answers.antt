use Rattle.pm_lexer.specs.declared.symbol.Symbol.TheVariants as symbol
use Rattle.pm_lexer.specs.Symbol.{is}
use Rattle.pm_grammar.proofs.Decided.{follows}
use Rattle.pm_schema.specs.Reading.{column_at}
use Rattle.pm_schema.proofs.Kept.{column_keeps}
use Rattle.pm_schema.proofs.bodies.NextColumnEntry.read.Goals as goal

pub returns-clause-follows : goal.returns-clause-follows
returns-clause-follows c = follows c.column.result (λ x. (x.0, x.1.now)) (column_at (is symbol.Name)) c.args.tokens.now column_keeps c.column.ensures
