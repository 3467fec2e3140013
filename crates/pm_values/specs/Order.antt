-- the total order on values and on lists of values, and when KEY and ORDER hold of rows
use Rattle.std.specs.Prelude.{◌≢◌, ◌<◌, ℕ, suc, Bool, true, false, List, [], length, get_or, Option, None, Some}
use Rattle.std.specs.declared.cmp.Ordering.{Ordering}
use Rattle.std.specs.declared.cmp.Ordering.TheVariants as ordering
use Rattle.std.specs.Ordering.{int_cmp, nat_cmp}
use Rattle.std.specs.Cmp.Lexicographic.{slice_cmp}
use Rattle.pm_values.specs.declared.value.Value.{Value}
use Rattle.pm_values.specs.declared.value.Value.TheVariants as value
use Rattle.pm_values.specs.Row.{AllBelow, pick}

abbrev pub is_less : Ordering → Bool
is_less ordering.Less = true
is_less ordering.Equal = false
is_less ordering.Greater = false

-- NULL comes first, then numbers by size, then texts by their bytes
abbrev pub value_cmp : Value → Value → Ordering
value_cmp value.Null value.Null = ordering.Equal
value_cmp value.Null (value.Int n) = ordering.Less
value_cmp value.Null (value.Text t) = ordering.Less
value_cmp (value.Int m) value.Null = ordering.Greater
value_cmp (value.Int m) (value.Int n) = int_cmp m n
value_cmp (value.Int m) (value.Text t) = ordering.Less
value_cmp (value.Text s) value.Null = ordering.Greater
value_cmp (value.Text s) (value.Int n) = ordering.Greater
value_cmp (value.Text s) (value.Text t) = slice_cmp nat_cmp s t

-- lists of values, by the first position at which they differ
abbrev pub values_cmp : List Value → List Value → Ordering
values_cmp = slice_cmp value_cmp

-- the chosen columns of the row at a position, from 0
abbrev pub key_at : List ℕ → List (List Value) → ℕ → List Value
key_at columns rows at = pick columns (get_or rows at [])

-- no two rows agree in all of these columns
abbrev pub IsKey : List ℕ → List (List Value) → Type 0
IsKey columns rows = (i j : ℕ) → i < j → j < length rows → key_at columns rows i ≢ key_at columns rows j

-- the rows ascend by these columns; neighbours may be equal
abbrev pub Ascends : List ℕ → List (List Value) → Type 0
Ascends columns rows = (i : ℕ) → suc i < length rows → values_cmp (key_at columns rows i) (key_at columns rows (suc i)) ≢ ordering.Greater

-- KEY, where there is one, holds of the rows
abbrev pub KeyHolds : Option (List ℕ) → List (List Value) → Type 0
KeyHolds None rows = Unit {0}
KeyHolds (Some columns) rows = IsKey columns rows

-- ORDER, where there is one, holds of the rows
abbrev pub OrderHolds : Option (List ℕ) → List (List Value) → Type 0
OrderHolds None rows = Unit {0}
OrderHolds (Some columns) rows = Ascends columns rows

-- KEY or ORDER, where there is one, names columns of a table of this width
abbrev pub NamesColumns : Option (List ℕ) → ℕ → Type 0
NamesColumns None width = Unit {0}
NamesColumns (Some columns) width = AllBelow columns width
