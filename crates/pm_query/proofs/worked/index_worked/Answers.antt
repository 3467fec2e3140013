use Rattle.pm_values.proofs.Folds.{fold_compare}
use Rattle.pm_query.proofs.worked.index_worked.Goals as goal

pub returns-clause-small : goal.returns-clause-small
returns-clause-small c = simp fold_compare

pub returns-clause-large : goal.returns-clause-large
returns-clause-large c = simp fold_compare
