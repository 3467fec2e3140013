use Rattle.pm_grammar.specs.Reading.{name_at}
use Rattle.pm_grammar.proofs.Decided.{follows}
use Rattle.pm_schema.specs.Terminals.{is_name}
use Rattle.pm_schema.proofs.Kept.{name_keeps}
use Rattle.pm_schema.proofs.bodies.ListedNameEntry.read.Goals as goal

pub returns-clause-follows : goal.returns-clause-follows
returns-clause-follows c = follows c.name.result (λ x. (x.0, x.1.now)) (name_at is_name) c.args.tokens.now name_keeps c.name.ensures
