-- conditions, rows, keys and a reference of the worked examples
use Rattle.std.specs.Prelude.{ℕ, ℤ, pos, List, [], ◌∷◌, codes}
use Rattle.pm_values.specs.declared.value.Value.TheVariants as value
use Rattle.pm_values.specs.declared.condition.Comparison.{Comparison}
use Rattle.pm_values.specs.declared.condition.Comparison.TheVariants as comparison
use Rattle.pm_values.specs.declared.condition.Operand.TheVariants as operand
use Rattle.pm_values.specs.declared.condition.Cond.{Cond}
use Rattle.pm_values.specs.declared.condition.Cond.TheVariants as cond
use Rattle.pm_values.specs.declared.table.Reference.{Reference}
use Rattle.pm_values.specs.Row.{Row}

-- one column
abbrev pub null_row : Row
null_row = value.Null ∷ []

abbrev pub number_row : ℤ → Row
number_row n = value.Int n ∷ []

abbrev pub text_row : List ℕ → Row
text_row t = value.Text t ∷ []

-- 1, NULL, '1', 1 and NULL
abbrev pub mixed_keys : List Row
mixed_keys = number_row (pos 1) ∷ null_row ∷ text_row (codes "1") ∷ number_row (pos 1) ∷ null_row ∷ []

-- the second column refers to the first one of a table t
abbrev pub second_to_first : Reference
second_to_first = record { columns = 1 ∷ []; target = codes "t"; keys = 0 ∷ [] }

-- the column, which holds n times 10^-scale, against m times 10^-decimals
abbrev pub column_against : Comparison → ℕ → ℤ → ℕ → Cond
column_against how scale m decimals = cond.Compare how (operand.Column 0 scale) (operand.Literal (value.Int m) decimals)

-- column = 1
abbrev pub is_one : Cond
is_one = column_against comparison.Equal 0 (pos 1) 0

-- 1 = 1 and 1 = 2
abbrev pub always : Cond
always = cond.Compare comparison.Equal (operand.Literal (value.Int (pos 1)) 0) (operand.Literal (value.Int (pos 1)) 0)

abbrev pub never : Cond
never = cond.Compare comparison.Equal (operand.Literal (value.Int (pos 1)) 0) (operand.Literal (value.Int (pos 2)) 0)

-- column > 5.5, of whole numbers
abbrev pub above_five_and_a_half : Cond
above_five_and_a_half = column_against comparison.Greater 0 (pos 55) 1
