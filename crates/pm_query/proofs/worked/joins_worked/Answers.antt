use Rattle.pm_values.proofs.Folds.{fold_compare}
use Rattle.pm_query.proofs.worked.joins_worked.Goals as goal

pub returns-clause-rows : goal.returns-clause-rows
returns-clause-rows c = simp fold_compare

pub returns-clause-hash : goal.returns-clause-hash
returns-clause-hash c = simp fold_compare

pub returns-clause-index : goal.returns-clause-index
returns-clause-index c = simp fold_compare

pub returns-clause-index_of_all : goal.returns-clause-index_of_all
returns-clause-index_of_all c = simp fold_compare

pub returns-clause-merge : goal.returns-clause-merge
returns-clause-merge c = simp fold_compare

pub returns-clause-merge_few : goal.returns-clause-merge_few
returns-clause-merge_few c = simp fold_compare

pub returns-clause-by_hash_all_the_same : goal.returns-clause-by_hash_all_the_same
returns-clause-by_hash_all_the_same c = simp fold_compare
