use Rattle.std.proofs.Common.{ap}
use Rattle.std.specs.Prelude.{pos, negsuc}
use Rattle.pm_values.specs.declared.value.Value.TheVariants as value
use Rattle.pm_values.specs.declared.condition.Comparison.TheVariants as comparison
use Rattle.pm_values.specs.declared.condition.Operand.TheVariants as operand
use Rattle.pm_values.specs.Condition.{is_yes}
use Rattle.pm_values.specs.Worked.{number_row}
use Rattle.pm_values.proofs.Truths.{truth_compare}
use Rattle.pm_values.proofs.worked.scales_worked.Goals as goal

pub returns-clause-six : goal.returns-clause-six
returns-clause-six c = ap is_yes (truth_compare (number_row (pos 6)) comparison.Greater (operand.Column 0 0) (operand.Literal (value.Int (pos 55)) 1))

pub returns-clause-five : goal.returns-clause-five
returns-clause-five c = ap is_yes (truth_compare (number_row (pos 5)) comparison.Greater (operand.Column 0 0) (operand.Literal (value.Int (pos 55)) 1))

pub returns-clause-below_zero : goal.returns-clause-below_zero
returns-clause-below_zero c = ap is_yes (truth_compare (number_row (negsuc 4)) comparison.Less (operand.Column 0 2) (operand.Literal (value.Int (pos 0)) 0))

pub returns-clause-below : goal.returns-clause-below
returns-clause-below c = ap is_yes (truth_compare (number_row (negsuc 4)) comparison.Less (operand.Column 0 1) (operand.Literal (value.Int (negsuc 44)) 2))

pub returns-clause-equal : goal.returns-clause-equal
returns-clause-equal c = ap is_yes (truth_compare (number_row (negsuc 49)) comparison.Equal (operand.Column 0 2) (operand.Literal (value.Int (negsuc 4)) 1))
