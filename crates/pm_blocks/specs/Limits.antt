-- rows that can be grouped
use Rattle.std.specs.Prelude.{ℕ, ◌<◌, ◌≤◌, ◌^◌, List, length, All, FitsSigned}
use Rattle.std.specs.Int.{w64}
use Rattle.pm_values.specs.declared.value.Value.{Value}
use Rattle.pm_values.specs.declared.value.Value.TheVariants as value
use Rattle.pm_values.specs.Row.{Row, cell}
use Rattle.pm_plan.specs.declared.plan.Aggregate.{Aggregate}
use Rattle.pm_plan.specs.declared.plan.Aggregate.TheVariants as aggregate

-- NULL, or a whole number of 64 bits
abbrev pub IsShort : Value → Type 0
IsShort value.Null = Unit {0}
IsShort (value.Int n) = FitsSigned w64 n
IsShort (value.Text t) = ⊥

-- where the aggregate is a sum, it has at most 10^18 rows, with NULL or a number of 64 bits in its column
abbrev pub IsSummable : List Row → Aggregate → Type 0
IsSummable rows aggregate.CountAll = Unit {0}
IsSummable rows (aggregate.Count column) = Unit {0}
IsSummable rows (aggregate.Sum column) = (length rows ≤ 10 ^ 18) × All (λ row. IsShort (cell row column)) rows
IsSummable rows (aggregate.Min column) = Unit {0}
IsSummable rows (aggregate.Max column) = Unit {0}

-- there are few enough rows for these aggregates
pub record AreFew (items : List Aggregate) (rows : List Row) : Type 0 where
  pub few : length rows ≤ 10 ^ 34
  pub summable : All (IsSummable rows) items

-- rows of this width have the aggregate's column
abbrev pub IsWithin : ℕ → Aggregate → Type 0
IsWithin width aggregate.CountAll = Unit {0}
IsWithin width (aggregate.Count column) = column < width
IsWithin width (aggregate.Sum column) = column < width
IsWithin width (aggregate.Min column) = column < width
IsWithin width (aggregate.Max column) = column < width
