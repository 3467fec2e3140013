use Rattle.pm_grammar.proofs.Decided.{follows}
use Rattle.pm_syntax.specs.Reading.{literal_at}
use Rattle.pm_syntax.proofs.Kept.{literal_keeps}
use Rattle.pm_syntax.proofs.entries.LiteralEntry.read.Goals as goal

pub returns-clause-follows : goal.returns-clause-follows
returns-clause-follows c = follows c.literal.result (λ x. (x.0, x.1.now)) literal_at c.args.tokens.now literal_keeps c.literal.ensures
