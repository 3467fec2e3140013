use Rattle.pm_grammar.specs.Reading.{token_at}
use Rattle.pm_grammar.proofs.Decided.{gives_series}
use Rattle.pm_schema.specs.declared.terminals.Word.TheVariants as word
use Rattle.pm_schema.specs.declared.tables.TheConstants.{MOST_TABLES}
use Rattle.pm_schema.specs.Terminals.{is_word}
use Rattle.pm_schema.specs.Reading.{nothing_at, table_at}
use Rattle.pm_schema.proofs.Kept.{table_shortens}
use Rattle.pm_schema.proofs.tables.more_tables.Goals as goal

pub returns : goal.returns
returns c =
    gives_series c.further_series.result (λ x. (x.0, x.1.now)) (is_word word.Table) nothing_at (token_at (is_word word.Table)) (λ _. table_at) MOST_TABLES c.args.tables c.args.tokens.now table_shortens
    c.further_series.ensures
