use Rattle.pm_lexer.specs.declared.symbol.Symbol.TheVariants as symbol
use Rattle.pm_lexer.specs.Symbol.{is}
use Rattle.pm_grammar.specs.Reading.{token_at}
use Rattle.pm_grammar.proofs.Decided.{gives_series}
use Rattle.pm_syntax.specs.Terminals.{begins_link}
use Rattle.pm_syntax.specs.Reading.{link_at, source_at}
use Rattle.pm_syntax.proofs.Kept.{source_shortens}
use Rattle.pm_syntax.proofs.statement.more_sources.Goals as goal

pub returns : goal.returns
returns c =
    gives_series c.further_series.result (λ x. (x.0, x.1.now)) begins_link link_at (token_at (is symbol.Name)) (source_at 32) 64 c.args.sources c.args.tokens.now source_shortens
    c.further_series.ensures
