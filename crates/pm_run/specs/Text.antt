-- the text of a run: plan and header lines, then for each event its row and progress lines, and the end line
use Rattle.std.specs.Prelude.{ℕ, zero, suc, ◌%◌, ◌==◌, ◌||◌, Bool, false, if◌then◌else◌, List, [], ◌++◌, length, map, Option, None, Some}
use Rattle.std.specs.List.{zip}
use Rattle.pm_values.specs.declared.value.Kind.{Kind}
use Rattle.pm_values.specs.ValueText.{value_text}
use Rattle.pm_values.specs.Row.{Row}
use Rattle.pm_plan.specs.declared.plan.Plan.{Plan}
use Rattle.pm_plan.specs.Rows.{Db}
use Rattle.pm_plan.specs.Preorder.{tree_of}
use Rattle.pm_plan.specs.Outputs.{output}
use Rattle.pm_plan.specs.PlanLines.{plan_lines}
use Rattle.pm_work.specs.Work.{whole_work}
use Rattle.pm_work.specs.Events.{Event, events}
use Rattle.pm_estim.specs.Estimates.{shown_at}
use Rattle.pm_exec.specs.Ran.{last_event}
use Rattle.pm_lines.specs.Rows.{head_line, row_line}
use Rattle.pm_lines.specs.Progress.{progress_line, end_line}

-- the texts of a row's values, by the kinds of its columns
abbrev pub row_texts : List Kind → Row → List (List ℕ)
row_texts kinds row = map (λ p. value_text p.0 p.1) (zip kinds row)

-- the row line of an event, which only the root's events have
abbrev pub row_part : List Kind → Option Event → List ℕ
row_part kinds None = []
row_part kinds (Some e) = if e.node == 1 then row_line (row_texts kinds e.row) else []

-- whether event t has a progress line: each so many events, and at the last; with progress off, never
abbrev pub is_due : Option ℕ → ℕ → ℕ → Bool
is_due None whole t = false
is_due (Some every) whole t = (t % every == 0) || (t == whole)

-- the progress line of event t, where it has one
abbrev pub progress_part : Plan → Db → Option ℕ → ℕ → List ℕ
progress_part plan db every t =
    let tree = tree_of plan.nodes in
    (if is_due every (whole_work db tree) t then progress_line (shown_at db tree t) else [])

-- the lines of event t, from 1
abbrev pub event_lines : Plan → Db → Option ℕ → ℕ → List ℕ
event_lines plan db every t =
    row_part plan.kinds (last_event (events db (tree_of plan.nodes) 1) t) ++ progress_part plan db every t

-- the lines of the first events, one event after another
abbrev pub lines_until : Plan → Db → Option ℕ → ℕ → List ℕ
lines_until plan db every zero = []
lines_until plan db every (suc t) = lines_until plan db every t ++ event_lines plan db every (suc t)

abbrev pub head_text : Plan → List ℕ
head_text plan = plan_lines 1 plan.nodes ++ head_line plan.heads

abbrev pub end_text : Plan → Db → List ℕ
end_text plan db =
    let tree = tree_of plan.nodes in end_line (length (output db tree)) (whole_work db tree)

-- what a run of the plan writes, with a progress line each `every` events, or none
abbrev pub run_text : Plan → Db → Option ℕ → List ℕ
run_text plan db every = head_text plan ++ lines_until plan db every (whole_work db (tree_of plan.nodes)) ++ end_text plan db
