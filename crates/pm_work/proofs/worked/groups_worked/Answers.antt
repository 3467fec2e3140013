use Rattle.pm_values.proofs.Folds.{fold_compare}
use Rattle.pm_work.proofs.worked.groups_worked.Goals as goal

pub returns-clause-having : goal.returns-clause-having
returns-clause-having c = simp fold_compare
