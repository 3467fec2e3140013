use Rattle.pm_lexer.specs.declared.symbol.Symbol.TheVariants as symbol
use Rattle.pm_lexer.specs.Symbol.{is}
use Rattle.pm_grammar.specs.Reading.{token_at}
use Rattle.pm_grammar.proofs.Decided.{gives_list}
use Rattle.pm_syntax.specs.Terminals.{begins_literal}
use Rattle.pm_syntax.specs.Reading.{literal_at, literals_at}
use Rattle.pm_syntax.proofs.Kept.{literal_keeps}
use Rattle.pm_syntax.proofs.conditions.literals.Goals as goal

pub returns : goal.returns
unfolding literals_at
returns c = gives_list c.list.result (λ x. (x.0, x.1.now)) (is symbol.Comma) (token_at begins_literal) literal_at 256 c.args.tokens.now literal_keeps c.list.ensures
