-- the events of a run in their order: an event is one row that one operator hands out
use Rattle.std.specs.Prelude.{ℕ, ◌+◌, ◌==◌, Bool, true, false, ◌&&◌, if◌then◌else◌, List, [], ◌∷◌, ◌++◌, length, map, filter, Option}
use Rattle.std.specs.List.{flat_map, list_any}
use Rattle.pm_values.specs.declared.condition.Cond.{Cond}
use Rattle.pm_values.specs.Row.{Row}
use Rattle.pm_plan.specs.declared.plan.Pair.{Pair}
use Rattle.pm_plan.specs.Rows.{Db, table_rows, decls_of}
use Rattle.pm_plan.specs.Joins.{matches, joined_rows, rows_for, is_greater}
use Rattle.pm_plan.specs.Tree.{Unary, Method, Hash, Merge, Tree, Scan, Over, Join, Index, streams, right_number}
use Rattle.pm_plan.specs.Kinds.{width}
use Rattle.pm_plan.specs.Outputs.{output, rows_over, keeps_if}

pub record Event : Type 0 where
  pub node : ℕ
  pub row : Row

-- node n hands out these rows
abbrev pub events_of : ℕ → List Row → List Event
events_of n rows = map (λ row. record { node = n; row = row }) rows

-- these events, and right after each row of node c the events that the row calls for
abbrev pub after : ℕ → (Row → List Event) → List Event → List Event
after c called [] = []
after c called (e ∷ es) = e ∷ ((if e.node == c then called e.row else []) ++ after c called es)

-- the events up to and with the first row of node r that passes, or all; none where one has passed before
abbrev pub through : ℕ → (Row → Bool) → Bool → List Event → List Event
through r passes true es = []
through r passes false [] = []
through r passes false (e ∷ es) = e ∷ through r passes ((e.node == r) && passes e.row) es

-- the events after those
abbrev pub beyond : ℕ → (Row → Bool) → Bool → List Event → List Event
beyond r passes true es = es
beyond r passes false [] = []
beyond r passes false (e ∷ es) = beyond r passes ((e.node == r) && passes e.row) es

-- the events of a merge join n of sides l and r: from the rows that r has handed out, all rows of r, and the events of each side that are to come.
-- Right after each left row come the right side's events up to the first row with a greater key, and then a row for each match; what is left
-- of the right side comes last
abbrev pub merged : List Pair → ℕ → ℕ → ℕ → List Row → List Row → List Event → List Event → List Event
merged pairs n l r seen all [] rights = rights
merged pairs n l r seen all (e ∷ lefts) rights =
    if e.node == l
    then (
    let found = list_any (is_greater pairs e.row) seen in
    let now = through r (is_greater pairs e.row) found rights in
    e ∷ (now ++ (events_of n (joined_rows pairs all e.row)
    ++ merged pairs n l r (seen ++ map (λ x. x.row) (filter (λ x. x.node == r) now)) all lefts (beyond r (is_greater pairs e.row) found rights))))
    else e ∷ merged pairs n l r seen all lefts rights

-- a row that Seek s looks up for a left row, and the row of its Index n if it is kept
abbrev pub seek_events : Option Cond → ℕ → ℕ → Row → Row → List Event
seek_events cond n s l r =
    record { node = s; row = r } ∷ (if keeps_if cond (l ++ r) then record { node = n; row = l ++ r } ∷ [] else [])

-- of operator n over a child with these events and these rows: right after each row of the child what that row calls for, or all at the end
abbrev pub events_over : Unary → ℕ → List Event → List Row → List Event
events_over op n below rows =
    if streams op then after (n + 1) (λ row. events_of n (rows_over op (row ∷ []))) below else below ++ events_of n (rows_over op rows)

-- of join n, whose right side has number r, so many columns and these rows, from the events of its sides: a hash join reads its right side
-- first, and right after each left row hands out the rows for it
abbrev pub events_joined : Method → List Pair → ℕ → ℕ → ℕ → List Row → List Event → List Event → List Event
events_joined (Hash pad) pairs n r width rows lefts rights = rights ++ after (n + 1) (λ l. events_of n (rows_for (Hash pad) pairs width rows l)) lefts
events_joined Merge pairs n r width rows lefts rights = merged pairs n (n + 1) r [] rows lefts rights

-- of Index n, whose Seek has number s, from the events of its left side and the rows of the Seek's table
abbrev pub events_sought : Option Cond → List Pair → ℕ → ℕ → List Row → List Event → List Event
events_sought cond pairs n s rows lefts = after (n + 1) (λ l. flat_map (seek_events cond n s l) (matches pairs l rows)) lefts

-- the events of a tree whose root has number n
abbrev pub events : Db → Tree → ℕ → List Event
events db (Scan table label) n = events_of n (table_rows db table)
events db (Over op child) n = events_over op n (events db child (n + 1)) (output db child)
events db (Join method on left right) n =
    events_joined method on.pairs n (right_number n left) (width (decls_of db) right) (output db right)
    (events db left (n + 1)) (events db right (right_number n left))
events db (Index left seek cond) n =
    events_sought cond seek.on.pairs n (right_number n left) (table_rows db seek.table) (events db left (n + 1))

-- the numbers of the nodes, in the order of the events
abbrev pub trace : Db → Tree → List ℕ
trace db tree = map (λ e. e.node) (events db tree 1)

-- the rows that node n hands out in these events
abbrev pub rows_at : ℕ → List Event → List Row
rows_at n es = map (λ e. e.row) (filter (λ e. e.node == n) es)

-- how many rows each node hands out in these events
abbrev pub counts : List Event → ℕ → ℕ
counts es n = length (rows_at n es)
