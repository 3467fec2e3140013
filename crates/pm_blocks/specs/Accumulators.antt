-- what the aggregates of some rows become with one more row
use Rattle.std.specs.Prelude.{◌≡◌, ◌⊎◌, ℕ, ◌+◌, ◌<◌, ◌≤◌, ◌^◌, pos, ◌+ℤ◌, ◌≤ℤ◌, if◌then◌else◌, List, length, get_or, unwrap_or, Option, None, FitsSigned}
use Rattle.std.specs.Int.{w128}
use Rattle.pm_values.specs.declared.value.Value.{Value}
use Rattle.pm_values.specs.declared.value.Value.TheVariants as value
use Rattle.pm_values.specs.Row.{Row, cell}
use Rattle.pm_values.specs.Equality.{is_null}
use Rattle.pm_plan.specs.declared.plan.Aggregate.{Aggregate}
use Rattle.pm_plan.specs.declared.plan.Aggregate.TheVariants as aggregate
use Rattle.pm_plan.specs.Grouping.{plus, lesser, greater}

abbrev pub one_more : Value → Value
one_more value.Null = value.Null
one_more (value.Int n) = value.Int (n +ℤ pos 1)
one_more (value.Text t) = value.Text t

-- the aggregate of some rows and of this one
abbrev pub with_row : Row → Aggregate → Value → Value
with_row row aggregate.CountAll so_far = one_more so_far
with_row row (aggregate.Count column) so_far = if is_null (cell row column) then so_far else one_more so_far
with_row row (aggregate.Sum column) so_far = plus so_far (plus (cell row column) value.Null)
with_row row (aggregate.Min column) so_far = lesser so_far (cell row column)
with_row row (aggregate.Max column) so_far = greater so_far (cell row column)

-- a number of rows
abbrev pub IsCount : Value → Type 0
IsCount value.Null = ⊥
IsCount (value.Int n) = (pos 0 ≤ℤ n) × (n ≤ℤ pos (10 ^ 34))
IsCount (value.Text t) = ⊥

-- the sum and the next value are a number of 128 bits
abbrev pub SumFits : Value → Value → Type 0
SumFits value.Null v = Unit {0}
SumFits (value.Int m) value.Null = Unit {0}
SumFits (value.Int m) (value.Int n) = FitsSigned w128 (m +ℤ n)
SumFits (value.Int m) (value.Text t) = Unit {0}
SumFits (value.Text t) v = ⊥

-- the aggregate of some rows can take this one
abbrev pub HasRoom : Row → Aggregate → Value → Type 0
HasRoom row aggregate.CountAll so_far = IsCount so_far
HasRoom row (aggregate.Count column) so_far = IsCount so_far
HasRoom row (aggregate.Sum column) so_far = SumFits so_far (cell row column)
HasRoom row (aggregate.Min column) so_far = Unit {0}
HasRoom row (aggregate.Max column) so_far = Unit {0}

-- the aggregate at a position
abbrev pub item_at : List Aggregate → ℕ → Aggregate
item_at items k = get_or items k aggregate.CountAll

-- what each aggregate becomes with one more row, None where it stays, the aggregates standing from a position on
pub record AreChanges (row : Row) (items : List Aggregate) (start : ℕ) (accumulators : List Value) (changes : List (Option Value)) : Type 0 where
  pub one_each : length changes ≡ length items
  pub each : (k : ℕ) → k < length items → unwrap_or (get_or changes k None) (cell accumulators (start + k)) ≡ with_row row (item_at items k) (cell accumulators (start + k))

-- the aggregates from a position on are with one more row, and the others as they were
pub record IsAdded (row : Row) (items : List Aggregate) (start : ℕ) (accumulators after : List Value) : Type 0 where
  pub length_kept : length after ≡ length accumulators
  pub changed : (k : ℕ) → k < length items → cell after (start + k) ≡ with_row row (item_at items k) (cell accumulators (start + k))
  pub others : (i : ℕ) → (i < start) ⊎ (start + length items ≤ i) → cell after i ≡ cell accumulators i
