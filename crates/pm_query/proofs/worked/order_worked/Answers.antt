use Rattle.pm_values.proofs.Folds.{fold_compare}
use Rattle.pm_query.proofs.worked.order_worked.Goals as goal

pub returns-clause-none : goal.returns-clause-none
returns-clause-none c = simp fold_compare
