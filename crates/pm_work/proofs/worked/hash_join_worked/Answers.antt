use Rattle.pm_values.proofs.Folds.{fold_compare}
use Rattle.pm_work.proofs.worked.hash_join_worked.Goals as goal

pub returns-clause-trace : goal.returns-clause-trace
returns-clause-trace c = simp fold_compare

pub returns-clause-work : goal.returns-clause-work
returns-clause-work c = simp fold_compare

pub returns-clause-rows : goal.returns-clause-rows
returns-clause-rows c = simp fold_compare
