use Rattle.pm_values.proofs.Folds.{fold_compare}
use Rattle.pm_query.proofs.worked.three_sources_worked.Goals as goal

pub returns-clause-hash : goal.returns-clause-hash
returns-clause-hash c = simp fold_compare

pub returns-clause-index : goal.returns-clause-index
returns-clause-index c = simp fold_compare
