use Rattle.pm_values.proofs.Folds.{fold_compare}
use Rattle.pm_query.proofs.worked.flags_worked.Goals as goal

pub returns : goal.returns
returns c = simp fold_compare
