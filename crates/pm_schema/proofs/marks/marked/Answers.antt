use Rattle.std.proofs.Common.{◌∙◌}
use Rattle.pm_schema.proofs.Maps.{marked_step, marked_ends}
use Rattle.pm_schema.proofs.marks.marked.Goals as goal

pub tokens-preserved : goal.tokens-preserved
tokens-preserved c = rw (c.in_ok-push.ensures.ok, c.in_ok-next.ensures) (marked_step c.tokens.seen _ c.tokens.rest.now _ c.in-Some.ensures ∙ c.tokens.invariant)

pub returns : goal.returns
returns c = marked_ends c.tokens.seen c.tokens.rest.now c.in_default.ensures ∙ c.tokens.invariant
