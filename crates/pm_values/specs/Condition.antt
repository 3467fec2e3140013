-- what a condition is on a row: true, false or unknown, by Kleene's tables
use Rattle.std.specs.Prelude.{ℕ, Bool, true, false, not, ◌^◌, ◌*ℤ◌, pos, List, [], ◌∷◌}
use Rattle.std.specs.declared.cmp.Ordering.{Ordering}
use Rattle.std.specs.declared.cmp.Ordering.TheVariants as ordering
use Rattle.std.specs.Ordering.{int_cmp}
use Rattle.pm_values.specs.declared.value.Value.{Value}
use Rattle.pm_values.specs.declared.value.Value.TheVariants as value
use Rattle.pm_values.specs.declared.condition.Truth.{Truth}
use Rattle.pm_values.specs.declared.condition.Truth.TheVariants.{Yes, No, Unknown}
use Rattle.pm_values.specs.declared.condition.Comparison.{Comparison}
use Rattle.pm_values.specs.declared.condition.Comparison.TheVariants as comparison
use Rattle.pm_values.specs.declared.condition.Operand.{Operand}
use Rattle.pm_values.specs.declared.condition.Operand.TheVariants as operand
use Rattle.pm_values.specs.declared.condition.Cond.{Cond, fold-Cond}
use Rattle.pm_values.specs.declared.condition.Cond.TheOpen.{Cond-F}
use Rattle.pm_values.specs.declared.condition.Cond.TheOpen as layer
use Rattle.pm_values.specs.Order.{value_cmp}
use Rattle.pm_values.specs.Equality.{is_equal, is_null}
use Rattle.pm_values.specs.Row.{Row, cell}

abbrev pub truth_of : Bool → Truth
truth_of true = Yes
truth_of false = No

abbrev pub negated : Truth → Truth
negated Yes = No
negated No = Yes
negated Unknown = Unknown

-- AND: No where one is No, Yes where both are Yes
abbrev pub both : Truth → Truth → Truth
both No b = No
both Yes b = b
both Unknown No = No
both Unknown Yes = Unknown
both Unknown Unknown = Unknown

-- OR: Yes where one is Yes, No where both are No
abbrev pub either : Truth → Truth → Truth
either Yes b = Yes
either No b = b
either Unknown Yes = Yes
either Unknown No = Unknown
either Unknown Unknown = Unknown

abbrev pub all_of : List Truth → Truth
all_of [] = Yes
all_of (t ∷ ts) = both t (all_of ts)

abbrev pub any_of : List Truth → Truth
any_of [] = No
any_of (t ∷ ts) = either t (any_of ts)

abbrev pub is_yes : Truth → Bool
is_yes Yes = true
is_yes No = false
is_yes Unknown = false

-- whether values in this order compare so
abbrev pub compares : Comparison → Ordering → Bool
compares comparison.Equal o = is_equal o
compares comparison.Unequal o = not (is_equal o)
compares comparison.Less ordering.Less = true
compares comparison.Less _ = false
compares comparison.AtMost ordering.Greater = false
compares comparison.AtMost _ = true
compares comparison.Greater ordering.Greater = true
compares comparison.Greater _ = false
compares comparison.AtLeast ordering.Less = false
compares comparison.AtLeast _ = true

-- m times 10^-s against n times 10^-t; texts by their bytes
abbrev pub scaled_cmp : ℕ → ℕ → Value → Value → Ordering
scaled_cmp s t (value.Int m) (value.Int n) = int_cmp (m *ℤ pos (10 ^ t)) (n *ℤ pos (10 ^ s))
scaled_cmp s t value.Null b = value_cmp value.Null b
scaled_cmp s t (value.Text a) b = value_cmp (value.Text a) b
scaled_cmp s t (value.Int m) value.Null = value_cmp (value.Int m) value.Null
scaled_cmp s t (value.Int m) (value.Text b) = value_cmp (value.Int m) (value.Text b)

-- a comparison with NULL is unknown
abbrev pub compared : Comparison → ℕ → ℕ → Value → Value → Truth
compared how s t value.Null b = Unknown
compared how s t (value.Int m) value.Null = Unknown
compared how s t (value.Text a) value.Null = Unknown
compared how s t (value.Int m) (value.Int n) = truth_of (compares how (scaled_cmp s t (value.Int m) (value.Int n)))
compared how s t (value.Int m) (value.Text b) = truth_of (compares how (scaled_cmp s t (value.Int m) (value.Text b)))
compared how s t (value.Text a) (value.Int n) = truth_of (compares how (scaled_cmp s t (value.Text a) (value.Int n)))
compared how s t (value.Text a) (value.Text b) = truth_of (compares how (scaled_cmp s t (value.Text a) (value.Text b)))

abbrev pub operand_value : Operand → Row → Value
operand_value (operand.Column at scale) row = cell row at
operand_value (operand.Literal v scale) row = v

abbrev pub operand_scale : Operand → ℕ
operand_scale (operand.Column at scale) = scale
operand_scale (operand.Literal v scale) = scale

abbrev pub truth_layer : Row → Cond-F Truth → Truth
truth_layer row (layer.All members) = all_of members
truth_layer row (layer.Any members) = any_of members
truth_layer row (layer.Not part) = negated part
truth_layer row (layer.Compare how left right) = compared how (operand_scale left) (operand_scale right) (operand_value left row) (operand_value right row)
truth_layer row (layer.IsNull of) = truth_of (is_null (operand_value of row))

abbrev pub truth : Row → Cond → Truth
truth row = fold-Cond Truth (truth_layer row)

-- the condition is true on the row
abbrev pub keeps : Cond → Row → Bool
keeps cond row = is_yes (truth row cond)
