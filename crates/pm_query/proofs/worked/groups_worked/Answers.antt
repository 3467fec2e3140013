use Rattle.pm_values.proofs.Folds.{fold_compare}
use Rattle.pm_query.proofs.worked.groups_worked.Goals as goal

pub returns-clause-having_rows : goal.returns-clause-having_rows
returns-clause-having_rows c = simp fold_compare
