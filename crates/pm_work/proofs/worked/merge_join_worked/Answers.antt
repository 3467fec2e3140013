use Rattle.pm_values.proofs.Folds.{fold_compare}
use Rattle.pm_work.proofs.worked.merge_join_worked.Goals as goal

pub returns-clause-trace : goal.returns-clause-trace
returns-clause-trace c = simp fold_compare

pub returns-clause-work : goal.returns-clause-work
returns-clause-work c = simp fold_compare

pub returns-clause-same_rows : goal.returns-clause-same_rows
returns-clause-same_rows c = simp fold_compare

pub returns-clause-read_on : goal.returns-clause-read_on
returns-clause-read_on c = simp fold_compare

pub returns-clause-read_on_work : goal.returns-clause-read_on_work
returns-clause-read_on_work c = simp fold_compare
