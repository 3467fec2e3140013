-- how a value of a column's kind is written
use Rattle.std.specs.Prelude.{ℕ, zero, suc, ◌+◌, ◌/◌, ◌%◌, ◌^◌, ◌≤◌, ℤ, pos, negsuc, List, [], ◌∷◌, ◌++◌, codes, decimal}
use Rattle.std.specs.Fmt.{signed_decimal}
use Rattle.pm_values.specs.declared.limits.TheConstants.{MOST_DECIMALS}
use Rattle.pm_values.specs.declared.value.Value.{Value}
use Rattle.pm_values.specs.declared.value.Value.TheVariants as value
use Rattle.pm_values.specs.declared.value.Kind.{Kind}
use Rattle.pm_values.specs.declared.value.Kind.TheVariants as kind

-- the last k decimal digits of a number, with zeros in front where it has fewer
abbrev pub last_digits : ℕ → ℕ → List ℕ
last_digits zero n = []
last_digits (suc k) n = last_digits k (n / 10) ++ (48 + n % 10) ∷ []

-- n times 10^-scale: the whole part, a point, and exactly so many digits
abbrev pub fixed_point : ℕ → ℕ → List ℕ
fixed_point scale n = decimal (n / 10 ^ scale) ++ codes "." ++ last_digits scale n

abbrev pub signed_fixed_point : ℕ → ℤ → List ℕ
signed_fixed_point scale (pos n) = fixed_point scale n
signed_fixed_point scale (negsuc n) = codes "-" ++ fixed_point scale (suc n)

-- NULL is the empty text
abbrev pub value_text : Kind → Value → List ℕ
value_text kind.Int value.Null = []
value_text (kind.Num scale) value.Null = []
value_text kind.Text value.Null = []
value_text kind.Int (value.Int n) = signed_decimal n
value_text (kind.Num scale) (value.Int n) = signed_fixed_point scale n
value_text kind.Text (value.Text t) = t
value_text kind.Int (value.Text t) = []
value_text (kind.Num scale) (value.Text t) = []
value_text kind.Text (value.Int n) = []

-- NULL or a value of the kind, in 128 bits
abbrev pub HasText : Kind → Value → Type 0
HasText k value.Null = Unit {0}
HasText kind.Int (value.Int n) = Unit {0}
HasText (kind.Num scale) (value.Int n) = (1 ≤ scale) × (scale ≤ MOST_DECIMALS)
HasText kind.Text (value.Text t) = Unit {0}
HasText kind.Int (value.Text t) = ⊥
HasText (kind.Num scale) (value.Text t) = ⊥
HasText kind.Text (value.Int n) = ⊥
