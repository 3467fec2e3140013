-- the events that an iterator has to come, with what the node that reads each row knows by it
use Rattle.std.specs.Prelude.{ℕ, ◌+◌, ◌==◌, Bool, true, if◌then◌else◌, List, [], ◌∷◌, ◌++◌, map}
use Rattle.std.specs.List.{filter}
use Rattle.pm_values.specs.Row.{Row}
use Rattle.pm_work.specs.Events.{Event}
use Rattle.pm_flows.specs.declared.taken.Taken.{Taken}

-- what the step that takes it answers, the row, and whether that step takes no memory
pub record Coming : Type 0 where
  pub taken : Taken
  pub row : Row
  pub free : Bool

-- the event alone
abbrev pub event_of : Coming → Event
event_of e = record { node = e.taken.node; row = e.row }

-- a row that node n hands out, and that none has read
abbrev pub taken_by : ℕ → Taken
taken_by n = record { node = n; reader = 0; settled = 0; worst = 0 }

-- the same event, read by a node
abbrev pub taken_read : ℕ → ℕ → ℕ → Taken → Taken
taken_read reader settled worst t = record { node = t.node; reader = reader; settled = settled; worst = worst }

-- node n hands out these rows
abbrev pub rows_by : ℕ → Bool → List Row → List Coming
rows_by n free rows = map (λ row. record { taken = taken_by n; row = row; free = free }) rows

-- node n reads the row, and so many rows are settled there
abbrev pub read : ℕ → (Row → ℕ) → Coming → Coming
read n settles e = record { taken = taken_read n (settles e.row) 0 e.taken; row = e.row; free = e.free }

-- these events, those of node c as they are read, and right after each of its rows the events that the row calls for
abbrev pub after : ℕ → (Coming → Coming) → (Row → List Coming) → List Coming → List Coming
after c reads called [] = []
after c reads called (e ∷ es) =
    (if e.taken.node == c then reads e else e) ∷ ((if e.taken.node == c then called e.row else []) ++ after c reads called es)

-- node n hands out these rows next, and right after each row of its child those that the row calls for, where it settles so many
abbrev pub streamed : ℕ → (Row → ℕ) → (Row → List Row) → List Row → List Coming → List Coming
streamed n settles called next below = rows_by n true next ++ after (n + 1) (read n settles) (λ row. rows_by n true (called row)) below

-- the rows of node c among these events
abbrev pub rows_in : ℕ → List Coming → List Row
rows_in c es = map (λ e. e.row) (filter (λ e. e.taken.node == c) es)
