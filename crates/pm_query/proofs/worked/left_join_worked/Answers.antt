use Rattle.pm_values.proofs.Folds.{fold_compare, fold_null}
use Rattle.pm_query.proofs.worked.left_join_worked.Goals as goal

pub returns-clause-rows : goal.returns-clause-rows
returns-clause-rows c = simp fold_compare

pub returns-clause-tree : goal.returns-clause-tree
returns-clause-tree c = simp fold_compare

pub returns-clause-unmatched : goal.returns-clause-unmatched
returns-clause-unmatched c = simp (fold_compare, fold_null)

pub returns-clause-above : goal.returns-clause-above
returns-clause-above c = simp (fold_compare, fold_null)

pub returns-clause-own : goal.returns-clause-own
returns-clause-own c = simp fold_compare
