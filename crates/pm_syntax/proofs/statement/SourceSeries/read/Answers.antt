use Rattle.pm_grammar.proofs.Decided.{follows_less}
use Rattle.pm_syntax.specs.Reading.{source_at}
use Rattle.pm_syntax.proofs.Kept.{source_shorter}
use Rattle.pm_syntax.proofs.statement.SourceSeries.read.Goals as goal

pub returns-clause-follows : goal.returns-clause-follows
returns-clause-follows c = follows_less c.source.result (λ x. (x.0, x.1.now)) (source_at 32 c.args.link) c.args.tokens.now (source_shorter c.args.link) c.source.ensures
