use Rattle.std.proofs.Common.{◌∙◌}
use Rattle.clap.specs.Simple.{app_of}
use Rattle.pm_words.proofs.Adding.{among_some, simple_of}
use Rattle.pm_words.proofs.command.matches_by.Goals as goal

pub returns-in-Ok-clause-values : goal.returns-in-Ok-clause-values
returns-in-Ok-clause-values c = (c.in-Ok.ensures.matches (simple_of (app_of c.args.command) c.requires)).0

pub returns : goal.returns
returns c = record {
  values = tt;
  taken = tt;
  refused = λ _. among_some _ _ (c.in-Err.ensures.kinds c.requires) (λ e. c.in_default.not-OutOfMemory (c.kind.ensures ∙ e));
}
