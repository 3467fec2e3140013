-- the groups of the rows that were taken
use Rattle.std.specs.Prelude.{◌≡◌, ℕ, ◌+◌, ◌*◌, ◌^◌, ◌<◌, ◌≤◌, Bool, List, [], ◌∷◌, ◌++◌, length}
use Rattle.pm_values.specs.declared.value.Value.{Value}
use Rattle.pm_values.specs.Row.{Row}
use Rattle.pm_keys.specs.Numbers.{KeyList}
use Rattle.pm_plan.specs.declared.plan.Aggregate.{Aggregate}
use Rattle.pm_plan.specs.Grouping.{group_keys, grouped}

pub record GroupState : Type 0 where
  pub keys : List ℕ
  pub items : List Aggregate
  -- a row for each group so far, the values of its key and then its aggregates
  pub groups : List Row
  pub closed : Bool
  -- how many numbers of groups were handed out
  pub handed : ℕ

-- the groups are those of these rows
abbrev pub IsOf : GroupState → List Row → Type 0
IsOf state rows = state.groups ≡ grouped state.keys state.items rows

-- the different keys of the rows, and the empty one alone where there are no columns
abbrev pub found_keys : List ℕ → List Row → List Row
found_keys [] rows = [] ∷ []
found_keys (key ∷ keys) rows = group_keys (key ∷ keys) rows

-- each row of the first list, followed by the row at its position in the second one
abbrev pub side_by_side : List Row → List Row → List Row
side_by_side [] others = []
side_by_side (key ∷ keys) [] = []
side_by_side (key ∷ keys) (next ∷ others) = (key ++ next) ∷ side_by_side keys others

-- what is kept of groups: their different keys, and for each key the aggregates, key after key
pub record IsKept (keys : List ℕ) (items : List Aggregate) (table : KeyList) (accumulators : List Value) (handed : ℕ) : Type 0 where
  pub width : table.width ≡ length keys
  pub whole : length accumulators ≡ length table.keys * length items
  pub few : length keys + length items < 2 ^ 32
  pub small : length table.keys < 2 ^ 32
  pub within : handed ≤ length table.keys
