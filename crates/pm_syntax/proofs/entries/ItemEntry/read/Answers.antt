use Rattle.pm_grammar.proofs.Decided.{follows}
use Rattle.pm_syntax.specs.Reading.{item_at}
use Rattle.pm_syntax.proofs.Kept.{item_keeps}
use Rattle.pm_syntax.proofs.entries.ItemEntry.read.Goals as goal

pub returns-clause-follows : goal.returns-clause-follows
returns-clause-follows c = follows c.item.result (λ x. (x.0, x.1.now)) item_at c.args.tokens.now item_keeps c.item.ensures
