use Rattle.pm_values.proofs.ValueOrder.{values_cmp_equal, values_cmp_reversed, values_cmp_chains}
use Rattle.pm_values.proofs.laws.values_are_ordered.Goals as goal

pub returns-clause-equal : goal.returns-clause-equal
returns-clause-equal c = values_cmp_equal

pub returns-clause-reversed : goal.returns-clause-reversed
returns-clause-reversed c = values_cmp_reversed

pub returns-clause-transitive : goal.returns-clause-transitive
returns-clause-transitive c = values_cmp_chains
