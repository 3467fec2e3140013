use Rattle.pm_values.proofs.Folds.{fold_compare}
use Rattle.pm_build.proofs.worked.widths_worked.Goals as goal

pub returns-clause-most_work : goal.returns-clause-most_work
returns-clause-most_work c = simp fold_compare

pub returns-clause-more_work : goal.returns-clause-more_work
returns-clause-more_work c = simp fold_compare

pub returns-clause-most_summed : goal.returns-clause-most_summed
returns-clause-most_summed c = simp fold_compare

pub returns-clause-more_summed : goal.returns-clause-more_summed
returns-clause-more_summed c = simp fold_compare
