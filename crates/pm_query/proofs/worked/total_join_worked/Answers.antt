use Rattle.pm_values.proofs.Folds.{fold_compare}
use Rattle.pm_query.proofs.worked.total_join_worked.Goals as goal

pub returns-clause-total : goal.returns-clause-total
returns-clause-total c = simp fold_compare

pub returns-clause-filtered : goal.returns-clause-filtered
returns-clause-filtered c = simp fold_compare
