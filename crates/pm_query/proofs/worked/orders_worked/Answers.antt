use Rattle.pm_values.proofs.Folds.{fold_compare}
use Rattle.pm_query.proofs.worked.orders_worked.Goals as goal

pub returns-clause-both : goal.returns-clause-both
returns-clause-both c = simp fold_compare

pub returns-clause-first : goal.returns-clause-first
returns-clause-first c = simp fold_compare

pub returns-clause-second_alone : goal.returns-clause-second_alone
returns-clause-second_alone c = simp fold_compare
