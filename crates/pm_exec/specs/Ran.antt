-- a run as contracts see it, and the answers of its steps
use Rattle.std.specs.Prelude.{◌≡◌, ℕ, zero, suc, ◌+◌, Bool, List, [], slice_get, Option, Some, None}
use Rattle.pm_values.specs.Row.{Row}
use Rattle.pm_plan.specs.declared.plan.Plan.{Plan}
use Rattle.pm_plan.specs.Rows.{Db}
use Rattle.pm_plan.specs.Preorder.{tree_of}
use Rattle.pm_work.specs.Events.{Event, events}
use Rattle.pm_work.specs.Work.{whole_work}
use Rattle.pm_exec.specs.declared.tick.Tick.{Tick}
use Rattle.pm_exec.specs.declared.tick.Tick.TheVariants as tick

-- the plan, the database, how many events were taken, and whether memory was wanted
pub record Ran : Type 0 where
  pub plan : Plan
  pub db : Db
  pub taken : ℕ
  pub failed : Bool

-- the events of the run's plan over its database
abbrev pub run_events : Ran → List Event
run_events ran = events ran.db (tree_of ran.plan.nodes) 1

-- how many they are
abbrev pub whole_work_of : Ran → ℕ
whole_work_of ran = whole_work ran.db (tree_of ran.plan.nodes)

abbrev pub tick_of : Option Event → Tick
tick_of None = tick.End
tick_of (Some e) = tick.Row e.node

-- the answer of the step after so many events
abbrev pub tick_at : List Event → ℕ → Tick
tick_at es taken = tick_of (slice_get es taken)

-- how many events have been taken after the answer
abbrev pub taken_after : Tick → ℕ → ℕ
taken_after (tick.Row n) taken = taken + 1
taken_after tick.End taken = taken

-- the event that was taken last, of so many
abbrev pub last_event : List Event → ℕ → Option Event
last_event es zero = None
last_event es (suc k) = slice_get es k

-- there is such an event, and it is of this node
abbrev pub IsOf : ℕ → Option Event → Type 0
IsOf n None = ⊥
IsOf n (Some e) = e.node ≡ n

abbrev pub row_in : Option Event → Row
row_in None = []
row_in (Some e) = e.row

-- the last event of the run was a row of the root
abbrev pub HasRootRow : Ran → Type 0
HasRootRow ran = IsOf 1 (last_event (run_events ran) ran.taken)

-- the row that the last event handed out
abbrev pub last_row : Ran → Row
last_row ran = row_in (last_event (run_events ran) ran.taken)

-- the event that was taken last is of the node that the answer names
abbrev pub IsLast : Tick → Ran → Type 0
IsLast (tick.Row n) ran = IsOf n (last_event (run_events ran) ran.taken)
IsLast tick.End ran = Unit {0}
