-- rows, keys and aggregates of the worked examples
use Rattle.std.specs.Prelude.{ℕ, pos, Bool, List, [], ◌∷◌, codes}
use Rattle.pm_values.specs.declared.value.Value.{Value}
use Rattle.pm_values.specs.declared.value.Value.TheVariants.{Null, Int, Text}
use Rattle.pm_values.specs.Row.{Row}
use Rattle.pm_plan.specs.declared.plan.SortKey.{SortKey}
use Rattle.pm_plan.specs.declared.plan.Aggregate.{Aggregate}
use Rattle.pm_plan.specs.declared.plan.Aggregate.TheVariants as aggregate

abbrev pub number : ℕ → Value
number n = Int (pos n)

abbrev pub mark : Value
mark = Text (codes "a")

-- amounts and marks
abbrev pub amounts : List Row
amounts = (number 7 ∷ Text (codes "b") ∷ []) ∷ (Null ∷ mark ∷ []) ∷ (number 3 ∷ mark ∷ []) ∷ (number 7 ∷ mark ∷ []) ∷ (Null ∷ Null ∷ []) ∷ []

abbrev pub by : ℕ → Bool → SortKey
by column descending = record { column = column; descending = descending }

-- of the first column
abbrev pub all_aggregates : List Aggregate
all_aggregates = aggregate.CountAll ∷ aggregate.Count 0 ∷ aggregate.Sum 0 ∷ aggregate.Min 0 ∷ aggregate.Max 0 ∷ []

-- 2^63 - 1
abbrev pub greatest : Value
greatest = number 9223372036854775807
