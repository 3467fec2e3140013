-- the text of a run in pieces: the progress lines among them are all that the settings of progress change
use Rattle.std.proofs.Common.{◌≡◌, ◌∙◌, ℕ, zero, suc, ◌≤◌, true, false, cond, eqb, List, [], ◌∷◌, ◌++◌, length, map, take, Option, None, Some, refl, sym, ap, arith, append_assoc}
use Rattle.std.specs.Prelude.{filter, slice_get}
use Rattle.std.specs.List.{flat_map}
use Rattle.std.proofs.lemmas.Grind.{flat_map-append}
use Rattle.std.proofs.lemmas.List.{append-nil, take_all}
use Rattle.std.proofs.lemmas.List.Elements.{filter-append}
use Rattle.std.proofs.lemmas.List.{map-append}
use Rattle.pm_values.specs.declared.value.Kind.{Kind}
use Rattle.pm_plan.specs.declared.plan.Plan.{Plan}
use Rattle.pm_plan.specs.Rows.{Db}
use Rattle.pm_plan.specs.Tree.{Tree}
use Rattle.pm_plan.specs.Preorder.{tree_of}
use Rattle.pm_plan.specs.PlanLines.{plan_lines}
use Rattle.pm_work.specs.Work.{whole_work}
use Rattle.pm_work.specs.Events.{Event, events, rows_at}
use Rattle.pm_work.proofs.Counting.{length-events}
use Rattle.pm_work.proofs.EventLaws.{rows_at-events}
use Rattle.pm_work.proofs.EventLists.{rows_at-append}
use Rattle.pm_estim.specs.Estimates.{shown_at}
use Rattle.pm_exec.specs.Ran.{last_event}
use Rattle.pm_lines.specs.Rows.{head_line, row_line}
use Rattle.pm_lines.specs.Progress.{progress_line}
use Rattle.pm_run.specs.Text.{row_texts, row_part, is_due, progress_part, event_lines, lines_until, end_text, run_text}
use Rattle.pm_run.specs.Pieces.{Piece, PlanLines, HeadLine, RowLine, ProgressLine, EndLine, text_in, text_of_pieces, row_piece, row_pieces, progress_pieces, event_pieces, pieces_until, pieces, is_lasting, lasting, is_answer, answering, output_pieces}

both : (xs ys us vs : List ℕ) → xs ≡ us → ys ≡ vs → xs ++ ys ≡ us ++ vs
both xs ys us vs p q = ap (λ x. x ++ ys) p ∙ ap (λ x. us ++ x) q

both_pieces : (xs ys us vs : List Piece) → xs ≡ us → ys ≡ vs → xs ++ ys ≡ us ++ vs
both_pieces xs ys us vs p q = ap (λ x. x ++ ys) p ∙ ap (λ x. us ++ x) q

-- ---- the pieces make the text

row-text : (kinds : List Kind) (o : Option Event) → text_of_pieces (row_pieces kinds o) ≡ row_part kinds o
row-text kinds None = refl
row-text kinds (Some e) =
    let line = row_line (row_texts kinds e.row) in
    elim (eqb e.node 1) as (λ b. flat_map text_in (cond b (RowLine line ∷ []) []) ≡ cond b line [])
    [ true ↦ append-nil line | false ↦ refl ]

module _ (plan : Plan) (db : Db) where
  abbrev tree : Tree
  tree = tree_of plan.nodes

  abbrev es : List Event
  es = events db tree 1

  progress-text : (every : Option ℕ) (t : ℕ) → text_of_pieces (progress_pieces plan db every t) ≡ progress_part plan db every t
  progress-text every t =
      let line = progress_line (shown_at db tree t) in
      elim (is_due every (whole_work db tree) t) as (λ b. flat_map text_in (cond b (ProgressLine line ∷ []) []) ≡ cond b line [])
      [ true ↦ append-nil line | false ↦ refl ]

  event-text : (every : Option ℕ) (t : ℕ) → text_of_pieces (event_pieces plan db every t) ≡ event_lines plan db every t
  event-text every t =
      flat_map-append text_in (row_pieces plan.kinds (last_event es t)) (progress_pieces plan db every t)
      ∙ both (text_of_pieces (row_pieces plan.kinds (last_event es t))) (text_of_pieces (progress_pieces plan db every t))
      (row_part plan.kinds (last_event es t)) (progress_part plan db every t) (row-text plan.kinds (last_event es t)) (progress-text every t)

  until-text : (every : Option ℕ) (t : ℕ) → text_of_pieces (pieces_until plan db every t) ≡ lines_until plan db every t
  until-text every zero = refl
  until-text every (suc t) =
      flat_map-append text_in (pieces_until plan db every t) (event_pieces plan db every (suc t))
      ∙ both (text_of_pieces (pieces_until plan db every t)) (text_of_pieces (event_pieces plan db every (suc t)))
      (lines_until plan db every t) (event_lines plan db every (suc t)) (until-text every t) (event-text every (suc t))

  pub whole-text : (every : Option ℕ) → text_of_pieces (pieces plan db every) ≡ run_text plan db every
  whole-text every =
      let w = whole_work db tree in
      let ns = plan_lines 1 plan.nodes in
      let h = head_line plan.heads in
      let lines = lines_until plan db every w in
      let end = end_text plan db in
      ap (λ x. ns ++ (h ++ x))
      (flat_map-append text_in (pieces_until plan db every w) (EndLine end ∷ [])
      ∙ both (text_of_pieces (pieces_until plan db every w)) (text_of_pieces (EndLine end ∷ [])) lines end (until-text every w) (append-nil end))
      ∙ sym (append_assoc ns h (lines ++ end))
      ∙ sym (append_assoc (ns ++ h) lines end)

  -- ---- without its progress lines

  lasting-row : (kinds : List Kind) (o : Option Event) → lasting (row_pieces kinds o) ≡ row_pieces kinds o
  lasting-row kinds None = refl
  lasting-row kinds (Some e) =
      elim (eqb e.node 1) as (λ b. filter is_lasting (cond b (row_piece kinds e.row ∷ []) []) ≡ cond b (row_piece kinds e.row ∷ []) [])
      [ true ↦ refl | false ↦ refl ]

  lasting-progress : (every : Option ℕ) (t : ℕ) → lasting (progress_pieces plan db every t) ≡ []
  lasting-progress every t =
      elim (is_due every (whole_work db tree) t) as (λ b. filter is_lasting (cond b (ProgressLine (progress_line (shown_at db tree t)) ∷ []) []) ≡ [])
      [ true ↦ refl | false ↦ refl ]

  lasting-event : (every : Option ℕ) (t : ℕ) → lasting (event_pieces plan db every t) ≡ event_pieces plan db None t
  lasting-event every t =
      filter-append is_lasting (row_pieces plan.kinds (last_event es t)) (progress_pieces plan db every t)
      ∙ both_pieces (lasting (row_pieces plan.kinds (last_event es t))) (lasting (progress_pieces plan db every t))
      (row_pieces plan.kinds (last_event es t)) [] (lasting-row plan.kinds (last_event es t)) (lasting-progress every t)

  lasting-until : (every : Option ℕ) (t : ℕ) → lasting (pieces_until plan db every t) ≡ pieces_until plan db None t
  lasting-until every zero = refl
  lasting-until every (suc t) =
      filter-append is_lasting (pieces_until plan db every t) (event_pieces plan db every (suc t))
      ∙ both_pieces (lasting (pieces_until plan db every t)) (lasting (event_pieces plan db every (suc t)))
      (pieces_until plan db None t) (event_pieces plan db None (suc t)) (lasting-until every t) (lasting-event every (suc t))

  lasting-whole : (every : Option ℕ) → lasting (pieces plan db every) ≡ pieces plan db None
  lasting-whole every =
      let w = whole_work db tree in
      let end = end_text plan db in
      ap (λ x. PlanLines (plan_lines 1 plan.nodes) ∷ HeadLine (head_line plan.heads) ∷ x)
      (filter-append is_lasting (pieces_until plan db every w) (EndLine end ∷ [])
      ∙ ap (λ x. x ++ EndLine end ∷ []) (lasting-until every w))

  pub lasting-same : (every other : Option ℕ) → lasting (pieces plan db every) ≡ lasting (pieces plan db other)
  lasting-same every other = lasting-whole every ∙ sym (lasting-whole other)

  pub lasting-text : (every : Option ℕ) → text_of_pieces (lasting (pieces plan db every)) ≡ run_text plan db None
  lasting-text every = ap text_of_pieces (lasting-whole every) ∙ whole-text None

  -- ---- its header and row lines

  abbrev listed : Option Event → List Event
  listed None = []
  listed (Some e) = e ∷ []

  take-next : (xs : List Event) (t : ℕ) → take (suc t) xs ≡ take t xs ++ listed (slice_get xs t)
  take-next [] zero = refl
  take-next [] (suc t) = refl
  take-next (x ∷ xs) zero = refl
  take-next (x ∷ xs) (suc t) = ap (λ ys. x ∷ ys) (take-next xs t)

  abbrev rows_until : ℕ → List Piece
  rows_until t = map (row_piece plan.kinds) (rows_at 1 (take t es))

  answering-row : (kinds : List Kind) (o : Option Event) → answering (row_pieces kinds o) ≡ map (row_piece kinds) (rows_at 1 (listed o))
  answering-row kinds None = refl
  answering-row kinds (Some e) =
      elim (eqb e.node 1) as (λ b. filter is_answer (cond b (row_piece kinds e.row ∷ []) []) ≡ map (row_piece kinds) (map (λ x. x.row) (cond b (e ∷ []) [])))
      [ true ↦ refl | false ↦ refl ]

  answering-progress : (every : Option ℕ) (t : ℕ) → answering (progress_pieces plan db every t) ≡ []
  answering-progress every t =
      elim (is_due every (whole_work db tree) t) as (λ b. filter is_answer (cond b (ProgressLine (progress_line (shown_at db tree t)) ∷ []) []) ≡ [])
      [ true ↦ refl | false ↦ refl ]

  answering-event : (every : Option ℕ) (t : ℕ) → answering (event_pieces plan db every t) ≡ map (row_piece plan.kinds) (rows_at 1 (listed (last_event es t)))
  answering-event every t =
      let o = last_event es t in
      filter-append is_answer (row_pieces plan.kinds o) (progress_pieces plan db every t)
      ∙ both_pieces (answering (row_pieces plan.kinds o)) (answering (progress_pieces plan db every t))
      (map (row_piece plan.kinds) (rows_at 1 (listed o))) [] (answering-row plan.kinds o) (answering-progress every t)
      ∙ append-nil (map (row_piece plan.kinds) (rows_at 1 (listed o)))

  rows-next : (t : ℕ) → rows_until t ++ map (row_piece plan.kinds) (rows_at 1 (listed (slice_get es t))) ≡ rows_until (suc t)
  rows-next t =
      sym (map-append (row_piece plan.kinds) (rows_at 1 (take t es)) (rows_at 1 (listed (slice_get es t))))
      ∙ ap (map (row_piece plan.kinds)) (sym (rows_at-append 1 (take t es) (listed (slice_get es t))) ∙ ap (rows_at 1) (sym (take-next es t)))

  answering-until : (every : Option ℕ) (t : ℕ) → answering (pieces_until plan db every t) ≡ rows_until t
  answering-until every zero = refl
  answering-until every (suc t) =
      filter-append is_answer (pieces_until plan db every t) (event_pieces plan db every (suc t))
      ∙ both_pieces (answering (pieces_until plan db every t)) (answering (event_pieces plan db every (suc t)))
      (rows_until t) (map (row_piece plan.kinds) (rows_at 1 (listed (slice_get es t)))) (answering-until every t) (answering-event every (suc t))
      ∙ rows-next t

  pub answering-whole : (every : Option ℕ) → answering (pieces plan db every) ≡ output_pieces plan db
  answering-whole every =
      let w = whole_work db tree in
      let all : length es ≤ w = omega (arith, length-events db tree 1) in
      ap (λ x. HeadLine (head_line plan.heads) ∷ x)
      (filter-append is_answer (pieces_until plan db every w) (EndLine (end_text plan db) ∷ [])
      ∙ append-nil (answering (pieces_until plan db every w))
      ∙ answering-until every w
      ∙ ap (λ xs. map (row_piece plan.kinds) (rows_at 1 xs)) (take_all w es all)
      ∙ ap (map (row_piece plan.kinds)) (rows_at-events db tree 1))
