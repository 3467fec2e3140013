use Rattle.std.proofs.Common.{◌∙◌, sym}
use Rattle.pm_binder.proofs.Ranges.{all_more}
use Rattle.pm_binder.proofs.selection.all_terms.Goals as goal

pub loop-column-preserved : goal.loop-column-preserved
loop-column-preserved c = let more = all_more c.loop-column.column c.args.at in c.in_ok-push.ensures.ok ∙ rw c.loop-column.invariant (sym more)
