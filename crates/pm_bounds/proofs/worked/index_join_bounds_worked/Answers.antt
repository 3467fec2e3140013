use Rattle.pm_values.proofs.Folds.{fold_compare}
use Rattle.pm_bounds.proofs.worked.index_join_bounds_worked.Goals as goal

pub returns-clause-right_unique : goal.returns-clause-right_unique
returns-clause-right_unique c = simp fold_compare
