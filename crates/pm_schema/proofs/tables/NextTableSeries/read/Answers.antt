use Rattle.pm_grammar.proofs.Decided.{follows_less}
use Rattle.pm_schema.specs.Reading.{table_at}
use Rattle.pm_schema.proofs.Kept.{table_shorter}
use Rattle.pm_schema.proofs.tables.NextTableSeries.read.Goals as goal

pub returns-clause-follows : goal.returns-clause-follows
returns-clause-follows c = follows_less c.table.result (λ x. (x.0, x.1.now)) table_at c.args.tokens.now table_shorter c.table.ensures
