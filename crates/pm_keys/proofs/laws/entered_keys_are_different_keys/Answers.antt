use Rattle.pm_keys.proofs.Entered.{all_entered-different, number_of-different}
use Rattle.pm_keys.proofs.laws.entered_keys_are_different_keys.Goals as goal

pub returns-clause-keys : goal.returns-clause-keys
returns-clause-keys c = all_entered-different

pub returns-clause-numbers : goal.returns-clause-numbers
returns-clause-numbers c = number_of-different
