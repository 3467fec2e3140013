-- a run that writes, as contracts see it
use Rattle.std.specs.Prelude.{ℕ, ◌+◌, ◌==◌, if◌then◌else◌, List, Option}
use Rattle.pm_plan.specs.declared.plan.Plan.{Plan}
use Rattle.pm_plan.specs.Rows.{Db}
use Rattle.pm_plan.specs.Preorder.{tree_of}
use Rattle.pm_work.specs.Work.{whole_work}
use Rattle.pm_exec.specs.Ran.{Ran, whole_work_of}
use Rattle.pm_run.specs.Text.{event_lines, end_text}
use Rattle.pm_run.specs.declared.run.Stage.{Stage}
use Rattle.pm_run.specs.declared.run.Stage.TheVariants as stage

-- the plan, the database, after how many events a progress line comes, the events taken, and the stage
pub record RunState : Type 0 where
  pub plan : Plan
  pub db : Db
  pub every : Option ℕ
  pub taken : ℕ
  pub stage : Stage

-- the head was written, and the end line was not
abbrev pub CanTurn : Stage → Type 0
CanTurn stage.Fresh = ⊥
CanTurn stage.Going = Unit {0}
CanTurn stage.Ended = ⊥
CanTurn (stage.Spent fault) = Unit {0}

-- no fault was answered
abbrev pub IsUnspent : Stage → Type 0
IsUnspent stage.Fresh = Unit {0}
IsUnspent stage.Going = Unit {0}
IsUnspent stage.Ended = Unit {0}
IsUnspent (stage.Spent fault) = ⊥

abbrev pub whole_work_in : RunState → ℕ
whole_work_in run = whole_work run.db (tree_of run.plan.nodes)

-- what comes after so many events of a run: the lines of the next event, or the end line where none is left
abbrev pub text_after : Ran → Option ℕ → List ℕ
text_after ran every =
    if ran.taken == whole_work_of ran then end_text ran.plan ran.db
    else event_lines ran.plan ran.db every (ran.taken + 1)

-- what the next turn writes
abbrev pub turn_text : RunState → List ℕ
turn_text run =
    if run.taken == whole_work_in run then end_text run.plan run.db
    else event_lines run.plan run.db run.every (run.taken + 1)
