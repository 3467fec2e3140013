use Rattle.pm_values.proofs.Folds.{fold_compare}
use Rattle.pm_query.proofs.worked.ways_worked.Goals as goal

pub returns-clause-merge_first : goal.returns-clause-merge_first
returns-clause-merge_first c = simp fold_compare

pub returns-clause-index_without_key : goal.returns-clause-index_without_key
returns-clause-index_without_key c = simp fold_compare

pub returns-clause-two_pairs_one_order : goal.returns-clause-two_pairs_one_order
returns-clause-two_pairs_one_order c = simp fold_compare

pub returns-clause-small : goal.returns-clause-small
returns-clause-small c = simp fold_compare

pub returns-clause-large : goal.returns-clause-large
returns-clause-large c = simp fold_compare

pub returns-clause-outer_unique : goal.returns-clause-outer_unique
returns-clause-outer_unique c = simp fold_compare
