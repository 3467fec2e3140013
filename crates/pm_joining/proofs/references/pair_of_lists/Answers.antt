use Rattle.std.proofs.Common.{◌∙◌}
use Rattle.pm_plan.proofs.Referring.{paired-some, paired-none_left, paired-none_right}
use Rattle.pm_joining.proofs.references.pair_of_lists.Goals as goal

pub returns-in_err-left : goal.returns-in_err-left
returns-in_err-left c = c.from_residual.ensures ∙ paired-none_left c.args.lefts.now c.args.rights.now _ c.in_err-left.ensures

pub returns-in_err-right : goal.returns-in_err-right
returns-in_err-right c = c.from_residual-in_err-right.ensures ∙ paired-none_right c.args.lefts.now c.args.rights.now _ c.in_err-right.ensures

pub returns : goal.returns
returns c = paired-some c.args.lefts.now c.args.rights.now _ _ _ c.in_ok-left.ensures c.in_ok-right.ensures
