use Rattle.pm_grammar.proofs.Decided.{follows}
use Rattle.pm_syntax.specs.Reading.{key_at}
use Rattle.pm_syntax.proofs.Kept.{key_keeps}
use Rattle.pm_syntax.proofs.entries.OrderItemEntry.read.Goals as goal

pub returns-clause-follows : goal.returns-clause-follows
returns-clause-follows c = follows c.key.result (λ x. (x.0, x.1.now)) key_at c.args.tokens.now key_keeps c.key.ensures
