-- groups of rows and their aggregates
use Rattle.std.specs.Prelude.{ℕ, not, if◌then◌else◌, ◌+ℤ◌, pos, List, [], ◌∷◌, ◌++◌, length, map, filter}
use Rattle.pm_values.specs.declared.value.Value.{Value}
use Rattle.pm_values.specs.declared.value.Value.TheVariants as value
use Rattle.pm_values.specs.Row.{Row, cell, pick}
use Rattle.pm_values.specs.Order.{value_cmp, is_less}
use Rattle.pm_values.specs.Equality.{is_null, same_values}
use Rattle.pm_values.specs.Keys.{different_keys}
use Rattle.pm_plan.specs.Joins.{keys_of}
use Rattle.pm_plan.specs.declared.plan.Aggregate.{Aggregate}
use Rattle.pm_plan.specs.declared.plan.Aggregate.TheVariants as aggregate

abbrev pub column_values : ℕ → List Row → List Value
column_values column rows = map (λ row. cell row column) rows

-- NULL adds nothing, nor does a text
abbrev pub plus : Value → Value → Value
plus value.Null b = b
plus (value.Text a) b = b
plus (value.Int m) value.Null = value.Int m
plus (value.Int m) (value.Text b) = value.Int m
plus (value.Int m) (value.Int n) = value.Int (m +ℤ n)

-- the lesser of two values, NULL put aside
abbrev pub lesser : Value → Value → Value
lesser a b = if is_null a then b else (if is_null b then a else (if is_less (value_cmp b a) then b else a))

abbrev pub greater : Value → Value → Value
greater a b = if is_null a then b else (if is_null b then a else (if is_less (value_cmp a b) then b else a))

-- of all values, NULL where there are none
abbrev pub folded : (Value → Value → Value) → List Value → Value
folded f [] = value.Null
folded f (v ∷ values) = f v (folded f values)

abbrev pub aggregate_of : List Row → Aggregate → Value
aggregate_of rows aggregate.CountAll = value.Int (pos (length rows))
aggregate_of rows (aggregate.Count column) = value.Int (pos (length (filter (λ v. not (is_null v)) (column_values column rows))))
aggregate_of rows (aggregate.Sum column) = folded plus (column_values column rows)
aggregate_of rows (aggregate.Min column) = folded lesser (column_values column rows)
aggregate_of rows (aggregate.Max column) = folded greater (column_values column rows)

-- the different lists of key values, by first appearance
abbrev pub group_keys : List ℕ → List Row → List Row
group_keys keys rows = different_keys (keys_of keys rows)

-- the key's values, and the aggregates of its rows
abbrev pub group_row : List ℕ → List Aggregate → List Row → Row → Row
group_row keys items rows key = key ++ map (aggregate_of (filter (λ row. same_values key (pick keys row)) rows)) items

-- one row for each different key; without keys exactly one
abbrev pub grouped : List ℕ → List Aggregate → List Row → List Row
grouped [] items rows = map (aggregate_of rows) items ∷ []
grouped (key ∷ keys) items rows = map (group_row (key ∷ keys) items rows) (group_keys (key ∷ keys) rows)
