-- the text of a run in pieces, which say what kind of line each is: so it is told without reading bytes which lines are of progress
use Rattle.std.specs.Prelude.{ℕ, zero, suc, ◌==◌, Bool, true, false, if◌then◌else◌, List, [], ◌∷◌, ◌++◌, map, filter, Option, None, Some}
use Rattle.std.specs.List.{flat_map}
use Rattle.pm_values.specs.declared.value.Kind.{Kind}
use Rattle.pm_values.specs.Row.{Row}
use Rattle.pm_plan.specs.declared.plan.Plan.{Plan}
use Rattle.pm_plan.specs.Rows.{Db}
use Rattle.pm_plan.specs.Preorder.{tree_of}
use Rattle.pm_plan.specs.Outputs.{output}
use Rattle.pm_plan.specs.PlanLines.{plan_lines}
use Rattle.pm_work.specs.Work.{whole_work}
use Rattle.pm_work.specs.Events.{Event, events}
use Rattle.pm_estim.specs.Estimates.{shown_at}
use Rattle.pm_exec.specs.Ran.{last_event}
use Rattle.pm_lines.specs.Rows.{head_line, row_line}
use Rattle.pm_lines.specs.Progress.{progress_line}
use Rattle.pm_run.specs.Text.{row_texts, is_due, end_text}

-- the lines of a plan, or one line of another kind
pub data Piece : Type 0 where
  PlanLines : (text : List ℕ) → Piece
  HeadLine : (text : List ℕ) → Piece
  RowLine : (text : List ℕ) → Piece
  ProgressLine : (text : List ℕ) → Piece
  EndLine : (text : List ℕ) → Piece

abbrev pub text_in : Piece → List ℕ
text_in (PlanLines text) = text
text_in (HeadLine text) = text
text_in (RowLine text) = text
text_in (ProgressLine text) = text
text_in (EndLine text) = text

-- one after another
abbrev pub text_of_pieces : List Piece → List ℕ
text_of_pieces ps = flat_map text_in ps

abbrev pub row_piece : List Kind → Row → Piece
row_piece kinds row = RowLine (row_line (row_texts kinds row))

-- of an event, which has a row line where it is the root's
abbrev pub row_pieces : List Kind → Option Event → List Piece
row_pieces kinds None = []
row_pieces kinds (Some e) = if e.node == 1 then row_piece kinds e.row ∷ [] else []

-- of event t, which has a progress line where one is due
abbrev pub progress_pieces : Plan → Db → Option ℕ → ℕ → List Piece
progress_pieces plan db every t =
    let tree = tree_of plan.nodes in
    (if is_due every (whole_work db tree) t then ProgressLine (progress_line (shown_at db tree t)) ∷ [] else [])

abbrev pub event_pieces : Plan → Db → Option ℕ → ℕ → List Piece
event_pieces plan db every t =
    row_pieces plan.kinds (last_event (events db (tree_of plan.nodes) 1) t) ++ progress_pieces plan db every t

-- of the first events, one event after another
abbrev pub pieces_until : Plan → Db → Option ℕ → ℕ → List Piece
pieces_until plan db every zero = []
pieces_until plan db every (suc t) = pieces_until plan db every t ++ event_pieces plan db every (suc t)

abbrev pub pieces : Plan → Db → Option ℕ → List Piece
pieces plan db every =
    PlanLines (plan_lines 1 plan.nodes) ∷ HeadLine (head_line plan.heads)
    ∷ (pieces_until plan db every (whole_work db (tree_of plan.nodes)) ++ EndLine (end_text plan db) ∷ [])

-- ---- some of the pieces

abbrev pub is_lasting : Piece → Bool
is_lasting (ProgressLine text) = false
is_lasting _ = true

-- all but the progress lines
abbrev pub lasting : List Piece → List Piece
lasting ps = filter is_lasting ps

abbrev pub is_answer : Piece → Bool
is_answer (HeadLine text) = true
is_answer (RowLine text) = true
is_answer _ = false

-- the header and row lines
abbrev pub answering : List Piece → List Piece
answering ps = filter is_answer ps

-- the header and row lines of a plan's heads and of its output's rows, in their order
abbrev pub output_pieces : Plan → Db → List Piece
output_pieces plan db = HeadLine (head_line plan.heads) ∷ map (row_piece plan.kinds) (output db (tree_of plan.nodes))
