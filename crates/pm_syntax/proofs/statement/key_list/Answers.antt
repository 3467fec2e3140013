use Rattle.pm_lexer.specs.declared.symbol.Symbol.TheVariants as symbol
use Rattle.pm_lexer.specs.Symbol.{is}
use Rattle.pm_grammar.specs.Reading.{token_at}
use Rattle.pm_grammar.proofs.Decided.{gives_list}
use Rattle.pm_syntax.specs.Reading.{key_at}
use Rattle.pm_syntax.proofs.Kept.{key_keeps}
use Rattle.pm_syntax.proofs.statement.key_list.Goals as goal

pub returns : goal.returns
returns c = gives_list c.list.result (λ x. (x.0, x.1.now)) (is symbol.Comma) (token_at (is symbol.Name)) key_at 64 c.args.tokens.now key_keeps c.list.ensures
