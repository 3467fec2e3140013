use Rattle.pm_values.proofs.Folds.{fold_compare}
use Rattle.pm_bounds.proofs.worked.keyed_join_bounds_worked.Goals as goal

pub returns-clause-first_half : goal.returns-clause-first_half
returns-clause-first_half c = simp fold_compare

pub returns-clause-second_half : goal.returns-clause-second_half
returns-clause-second_half c = simp fold_compare
