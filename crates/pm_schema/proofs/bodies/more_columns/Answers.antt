use Rattle.pm_lexer.specs.declared.symbol.Symbol.TheVariants as symbol
use Rattle.pm_lexer.specs.Symbol.{is}
use Rattle.pm_values.specs.declared.limits.TheConstants.{MOST_COLUMNS}
use Rattle.pm_grammar.proofs.Decided.{gives_while}
use Rattle.pm_schema.specs.Reading.{column_at}
use Rattle.pm_schema.proofs.Kept.{column_keeps}
use Rattle.pm_schema.proofs.bodies.more_columns.Goals as goal

pub returns : goal.returns
returns c =
    gives_while c.further_while.result (λ x. (x.0, x.1.now)) (is symbol.Comma) (is symbol.Name) (column_at (is symbol.Name)) MOST_COLUMNS c.args.columns c.args.rest.now column_keeps
    c.further_while.ensures
