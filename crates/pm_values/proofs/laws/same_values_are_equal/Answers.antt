use Rattle.pm_values.proofs.ValueOrder.{same_values_equal}
use Rattle.pm_values.proofs.laws.same_values_are_equal.Goals as goal

pub returns : goal.returns
returns c = same_values_equal
