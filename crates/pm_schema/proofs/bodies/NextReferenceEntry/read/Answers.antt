use Rattle.pm_grammar.proofs.Decided.{follows}
use Rattle.pm_schema.specs.Terminals.{is_references}
use Rattle.pm_schema.specs.Reading.{reference_at}
use Rattle.pm_schema.proofs.Kept.{reference_keeps}
use Rattle.pm_schema.proofs.bodies.NextReferenceEntry.read.Goals as goal

pub returns-clause-follows : goal.returns-clause-follows
returns-clause-follows c = follows c.reference.result (λ x. (x.0, x.1.now)) (reference_at is_references) c.args.tokens.now reference_keeps c.reference.ensures
