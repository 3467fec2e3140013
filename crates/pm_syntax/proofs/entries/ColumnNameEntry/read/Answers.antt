use Rattle.pm_grammar.proofs.Decided.{follows}
use Rattle.pm_syntax.specs.Reading.{column_at}
use Rattle.pm_syntax.proofs.Kept.{column_keeps}
use Rattle.pm_syntax.proofs.entries.ColumnNameEntry.read.Goals as goal

pub returns-clause-follows : goal.returns-clause-follows
returns-clause-follows c = follows c.column.result (λ x. (x.0, x.1.now)) column_at c.args.tokens.now column_keeps c.column.ensures
