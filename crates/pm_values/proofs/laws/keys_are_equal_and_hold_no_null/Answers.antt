use Rattle.pm_values.proofs.Keys.{same_key_equal}
use Rattle.pm_values.proofs.laws.keys_are_equal_and_hold_no_null.Goals as goal

pub returns : goal.returns
returns c = same_key_equal
