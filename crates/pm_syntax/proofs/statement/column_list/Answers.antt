use Rattle.pm_lexer.specs.declared.symbol.Symbol.TheVariants as symbol
use Rattle.pm_lexer.specs.Symbol.{is}
use Rattle.pm_grammar.specs.Reading.{token_at}
use Rattle.pm_grammar.proofs.Decided.{gives_list}
use Rattle.pm_syntax.specs.Reading.{column_at}
use Rattle.pm_syntax.proofs.Kept.{column_keeps}
use Rattle.pm_syntax.proofs.statement.column_list.Goals as goal

pub returns : goal.returns
returns c = gives_list c.list.result (λ x. (x.0, x.1.now)) (is symbol.Comma) (token_at (is symbol.Name)) column_at 64 c.args.tokens.now column_keeps c.list.ensures
