-- a row is the list of its values; its columns are numbered from 0
use Rattle.std.specs.Prelude.{ℕ, ◌<◌, List, length, map, get_or}
use Rattle.pm_values.specs.declared.value.Value.{Value}
use Rattle.pm_values.specs.declared.value.Value.TheVariants as value

abbrev pub Row : Type 0
Row = List Value

-- the value of a column, NULL past the end
abbrev pub cell : Row → ℕ → Value
cell row column = get_or row column value.Null

-- the values of chosen columns
abbrev pub pick : List ℕ → Row → Row
pick columns row = map (λ column. cell row column) columns

-- a row of this width has all of the columns
abbrev pub AllBelow : List ℕ → ℕ → Type 0
AllBelow columns width = (k : ℕ) → k < length columns → get_or columns k 0 < width
