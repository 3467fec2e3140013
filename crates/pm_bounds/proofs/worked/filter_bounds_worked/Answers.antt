use Rattle.pm_values.proofs.Folds.{fold_compare}
use Rattle.pm_bounds.proofs.worked.filter_bounds_worked.Goals as goal

pub returns : goal.returns
returns c = simp fold_compare
