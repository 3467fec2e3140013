use Rattle.pm_grammar.proofs.Decided.{follows}
use Rattle.pm_syntax.specs.Reading.{link_at}
use Rattle.pm_syntax.proofs.Kept.{link_keeps}
use Rattle.pm_syntax.proofs.statement.SourceSeries.separate.Goals as goal

pub returns-clause-follows : goal.returns-clause-follows
returns-clause-follows c = follows c.link.result (λ x. (x.0, x.1.now)) link_at c.args.tokens.now link_keeps c.link.ensures
