use Rattle.pm_lexer.specs.declared.symbol.Symbol.TheVariants as symbol
use Rattle.pm_lexer.specs.Symbol.{is}
use Rattle.pm_values.specs.declared.limits.TheConstants.{MOST_REFERENCES}
use Rattle.pm_grammar.specs.Reading.{token_at}
use Rattle.pm_grammar.proofs.Decided.{gives_further}
use Rattle.pm_schema.specs.Terminals.{is_references}
use Rattle.pm_schema.specs.Reading.{reference_at}
use Rattle.pm_schema.proofs.Kept.{reference_keeps}
use Rattle.pm_schema.proofs.bodies.more_references.Goals as goal

pub returns : goal.returns
returns c =
    gives_further c.further.result (λ x. (x.0, x.1.now)) (is symbol.Comma) (token_at is_references) (reference_at is_references) MOST_REFERENCES c.args.references c.args.rest.now reference_keeps
    c.further.ensures
