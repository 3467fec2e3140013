-- groups as they grow by one row after the other, and the events of a group that has such groups so far
use Rattle.std.specs.Prelude.{ℕ, ◌+◌, ◌==◌, Bool, false, if◌then◌else◌, List, [], ◌∷◌, ◌++◌, length, map, take, drop}
use Rattle.std.specs.List.{list_any}
use Rattle.pm_values.specs.declared.value.Value.{Value}
use Rattle.pm_values.specs.Row.{Row, pick}
use Rattle.pm_values.specs.Equality.{same_values}
use Rattle.pm_plan.specs.declared.plan.Aggregate.{Aggregate}
use Rattle.pm_plan.specs.Grouping.{aggregate_of}
use Rattle.pm_blocks.specs.Accumulators.{with_row}
use Rattle.pm_flows.specs.Coming.{Coming, taken_read, rows_by}

-- the row has the key of the group, whose values come first in it
abbrev pub is_of : List ℕ → Row → Row → Bool
is_of keys row group = same_values (take (length keys) group) (pick keys row)

-- these aggregates with one more row
abbrev pub aggregates_with : Row → List Aggregate → List Value → List Value
aggregates_with row [] values = []
aggregates_with row (item ∷ items) [] = []
aggregates_with row (item ∷ items) (v ∷ values) = with_row row item v ∷ aggregates_with row items values

-- a group whose key has so many values, with one more row
abbrev pub group_with : ℕ → List Aggregate → Row → Row → Row
group_with wide items row group = take wide group ++ aggregates_with row items (drop wide group)

-- the group of this row alone
abbrev pub first_group : List ℕ → List Aggregate → Row → Row
first_group keys items row = group_with (length keys) items row (pick keys row ++ map (aggregate_of []) items)

-- the groups with one more row: that of its key has it, and where there is none, a new one comes last
abbrev pub groups_with : List ℕ → List Aggregate → Row → List Row → List Row
groups_with keys items row groups =
    map (λ group. if is_of keys row group then group_with (length keys) items row group else group) groups
    ++ (if list_any (is_of keys row) groups then [] else first_group keys items row ∷ [])

-- whether it begins one, as a number
abbrev pub new_group : List ℕ → Row → List Row → ℕ
new_group keys row groups = if list_any (is_of keys row) groups then 0 else 1

-- group n takes these events in, with these groups before them, and then hands out its groups; each step may take memory
abbrev pub grouping : ℕ → List ℕ → List Aggregate → List Row → List Coming → List Coming
grouping n keys items groups [] = rows_by n false groups
grouping n keys items groups (e ∷ es) =
    if e.taken.node == n + 1
    then record { taken = taken_read n (new_group keys e.row groups) 0 e.taken; row = e.row; free = false } ∷ grouping n keys items (groups_with keys items e.row groups) es
    else record { taken = e.taken; row = e.row; free = false } ∷ grouping n keys items groups es
