use Rattle.pm_values.proofs.Folds.{fold_compare}
use Rattle.pm_build.proofs.worked.places_worked.Goals as goal

pub returns-clause-reads_both : goal.returns-clause-reads_both
returns-clause-reads_both c = simp fold_compare

pub returns-clause-both_ways : goal.returns-clause-both_ways
returns-clause-both_ways c = simp fold_compare
