use Rattle.pm_lexer.specs.declared.symbol.Symbol.TheVariants as symbol
use Rattle.pm_lexer.specs.Symbol.{is}
use Rattle.pm_values.specs.declared.limits.TheConstants.{MOST_KEY_COLUMNS}
use Rattle.pm_grammar.specs.Reading.{token_at, name_at}
use Rattle.pm_grammar.proofs.Decided.{gives_list}
use Rattle.pm_schema.specs.Terminals.{is_name}
use Rattle.pm_schema.proofs.Kept.{name_keeps}
use Rattle.pm_schema.proofs.bodies.name_list.Goals as goal

pub returns : goal.returns
returns c = gives_list c.list.result (λ x. (x.0, x.1.now)) (is symbol.Comma) (token_at is_name) (name_at is_name) MOST_KEY_COLUMNS c.args.tokens.now name_keeps c.list.ensures
