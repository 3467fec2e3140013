-- what a turn writes, put together from its parts
use Rattle.std.proofs.Common.{◌≡◌, ℕ, zero, suc, ◌+◌, ◌-◌, ◌<◌, ◌≤◌, Bool, true, false, cond, eqb, List, [], ◌++◌, length, get_or, refl, sym, ap, subst, ◌∙◌, arith, add-one, append_assoc, Option}
use Rattle.std.proofs.lemmas.Bool.{eq-eqb, eqb-true, eqb-false}
use Rattle.std.proofs.lemmas.Bool.Decides.{nat_tests}
use Rattle.std.proofs.lemmas.List.{take_all, append-nil}
use Rattle.pm_plan.specs.declared.gauge.Gauge.{Gauge}
use Rattle.pm_plan.specs.declared.plan.Plan.{Plan}
use Rattle.pm_plan.specs.Rows.{Db}
use Rattle.pm_plan.specs.Tree.{Tree, Scan, Over, Join, Index}
use Rattle.pm_plan.specs.Preorder.{tree_of}
use Rattle.pm_plan.specs.Outputs.{output}
use Rattle.pm_work.specs.Work.{whole_work}
use Rattle.pm_work.specs.Events.{events, rows_at}
use Rattle.pm_work.specs.Moments.{counts_at, gauges_at}
use Rattle.pm_work.proofs.Counting.{length-events}
use Rattle.pm_work.proofs.EventLaws.{rows_at-events}
use Rattle.pm_io.specs.Sink.{gained, GainsPart}
use Rattle.pm_io.proofs.Parts.{part_first, part_later}
use Rattle.pm_lines.specs.Progress.{end_line}
use Rattle.pm_exec.specs.Ran.{Ran, run_events, whole_work_of, last_event}
use Rattle.pm_run.specs.Text.{row_part, progress_part, event_lines, head_text, end_text, lines_until, run_text}
use Rattle.pm_run.specs.declared.run.Stage.{Stage}
use Rattle.pm_run.specs.declared.run.Stage.TheVariants.{Going}
use Rattle.pm_run.specs.RunState.{RunState, text_after, turn_text}

-- an event is left
pub after-goes : (ran : Ran) (every : Option ℕ) → ran.taken < whole_work_of ran
    → text_after ran every ≡ event_lines ran.plan ran.db every (ran.taken + 1)
after-goes ran every h =
    let no : eqb ran.taken (whole_work_of ran) ≡ false = grind (arith, nat_tests) in
    ap (λ b. cond b (end_text ran.plan ran.db) (event_lines ran.plan ran.db every (ran.taken + 1))) no

-- none is left
pub after-ends : (ran : Ran) (every : Option ℕ) → ran.taken ≡ whole_work_of ran → text_after ran every ≡ end_text ran.plan ran.db
after-ends ran every e =
    ap (λ b. cond b (end_text ran.plan ran.db) (event_lines ran.plan ran.db every (ran.taken + 1))) (eq-eqb ran.taken (whole_work_of ran) e)

-- after all events the root has handed out its output
first-handed : (db : Db) (t : Tree) (k : ℕ) (d : Gauge) → (get_or (gauges_at db t k) 0 d).handed ≡ counts_at db t k 1
first-handed db (Scan table label) k d = refl
first-handed db (Over op child) k d = refl
first-handed db (Join method on left right) k d = refl
first-handed db (Index left seek cond) k d = refl

pub root-handed : (db : Db) (t : Tree) (k : ℕ) (gauges : List Gauge) (d : Gauge) → gauges ≡ gauges_at db t k → (get_or gauges 0 d).handed ≡ counts_at db t k 1
root-handed db t k gauges d is = ap (λ gs. (get_or gs 0 d).handed) is ∙ first-handed db t k d

pub some-gauge : (db : Db) (t : Tree) (k : ℕ) → 1 ≤ length (gauges_at db t k)
some-gauge db (Scan table label) k = omega arith
some-gauge db (Over op child) k = omega arith
some-gauge db (Join method on left right) k = omega arith
some-gauge db (Index left seek cond) k = omega arith

root-rows : (db : Db) (t : Tree) → counts_at db t (whole_work db t) 1 ≡ length (output db t)
root-rows db t =
    let all : length (events db t 1) ≤ whole_work db t = omega (arith, length-events db t 1) in
    ap (λ es. length (rows_at 1 es)) (take_all (whole_work db t) (events db t 1) all)
    ∙ ap length (rows_at-events db t 1)

-- the end line of a run whose events are all taken
pub ends : (ran : Ran) (gauges : List Gauge) (d : Gauge) (taken : ℕ) → ran.taken ≡ whole_work_of ran
    → gauges ≡ gauges_at ran.db (tree_of ran.plan.nodes) ran.taken → taken ≡ ran.taken
    → end_line (get_or gauges 0 d).handed taken ≡ end_text ran.plan ran.db
ends ran gauges d taken over all count =
    let tree = tree_of ran.plan.nodes in
    let rows : (get_or gauges 0 d).handed ≡ length (output ran.db tree) =
    root-handed ran.db tree ran.taken gauges d all ∙ ap (λ k. counts_at ran.db tree k 1) over ∙ root-rows ran.db tree in
    ap (λ r. end_line r taken) rows ∙ ap (end_line (length (output ran.db tree))) (count ∙ over)

-- a run that goes on, after so many events
abbrev pub going : Plan → Db → Option ℕ → ℕ → RunState
going plan db every taken = record { plan = plan; db = db; every = every; taken = taken; stage = Going }

pub goes-on : (plan : Plan) (db : Db) (every : Option ℕ) (old new : RunState) → old ≡ going plan db every old.taken
    → new ≡ record old { taken = old.taken + 1 } → new ≡ going plan db every new.taken
goes-on plan db every old new is next =
    next
    ∙ ap (λ (r : RunState). record { plan = r.plan; db = r.db; every = r.every; taken = old.taken + 1; stage = r.stage }) is
    ∙ ap (going plan db every) (sym (ap (λ (r : RunState). r.taken) next))

-- the lines of one event more
pub lines-next : (plan : Plan) (db : Db) (every : Option ℕ) (old new : RunState) → old ≡ going plan db every old.taken
    → new ≡ record old { taken = old.taken + 1 }
    → lines_until plan db every old.taken ++ event_lines old.plan old.db old.every (old.taken + 1) ≡ lines_until plan db every new.taken
lines-next plan db every old new is next =
    ap (λ (r : RunState). lines_until plan db every old.taken ++ event_lines r.plan r.db r.every (old.taken + 1)) is
    ∙ ap (λ k. lines_until plan db every old.taken ++ event_lines plan db every k) (add-one old.taken)
    ∙ ap (lines_until plan db every) (sym (add-one old.taken))
    ∙ ap (lines_until plan db every) (sym (ap (λ (r : RunState). r.taken) next))

-- the lines of more events begin with those of fewer
lines-on : (plan : Plan) (db : Db) (every : Option ℕ) (k d w : ℕ) → w ≡ k + d → (rest : List ℕ) × (lines_until plan db every w ≡ lines_until plan db every k ++ rest)
lines-on plan db every k zero w is =
    let same : w ≡ k = omega (arith, is) in
    ([], ap (lines_until plan db every) same ∙ sym (append-nil (lines_until plan db every k)))
lines-on plan db every k (suc d) w is =
    let so_far = lines-on plan db every k d (k + d) refl in
    let more : w ≡ suc (k + d) = omega (arith, is) in (
      so_far.0 ++ event_lines plan db every (suc (k + d)),
      ap (lines_until plan db every) more
          ∙ ap (λ t. t ++ event_lines plan db every (suc (k + d))) so_far.1
          ∙ append_assoc (lines_until plan db every k) so_far.0 (event_lines plan db every (suc (k + d))),
    )

strictly : (k w : ℕ) → k ≤ w → (k ≡ w → ⊥) → k + 1 ≤ w
strictly k w within other = grind (arith)

-- the text of a run is what it wrote, what its next turn writes, and more
module _ (plan : Plan) (db : Db) (every : Option ℕ) (taken : ℕ) where
  abbrev written : List ℕ
  written = head_text plan ++ lines_until plan db every taken

  abbrev next : List ℕ
  next = event_lines plan db every (taken + 1)

  abbrev last : List ℕ
  last = end_text plan db

  abbrev whole : ℕ
  whole = whole_work db (tree_of plan.nodes)

  abbrev Cut : Type 0
  Cut = (rest : List ℕ) × (run_text plan db every ≡ written ++ (turn_text (going plan db every taken) ++ rest))

  cut-last : eqb taken whole ≡ true → Cut
  cut-last e = (
    [],
    ap (λ k. (head_text plan ++ lines_until plan db every k) ++ last) (sym (eqb-true taken whole e))
        ∙ ap (λ t. written ++ t) (sym (append-nil last))
        ∙ ap (λ b. written ++ (cond b last next ++ [])) (sym e),
  )

  cut-more : (more : List ℕ) → lines_until plan db every whole ≡ (lines_until plan db every taken ++ next) ++ more
      → run_text plan db every ≡ written ++ (next ++ (more ++ last))
  cut-more more is =
      ap (λ t. (head_text plan ++ t) ++ last) (is ∙ append_assoc (lines_until plan db every taken) next more)
      ∙ ap (λ t. t ++ last) (sym (append_assoc (head_text plan) (lines_until plan db every taken) (next ++ more)))
      ∙ append_assoc written (next ++ more) last
      ∙ ap (λ t. written ++ t) (append_assoc next more last)

  one-more : lines_until plan db every (taken + 1) ≡ lines_until plan db every taken ++ next
  one-more = ap (lines_until plan db every) (add-one taken) ∙ ap (λ k. lines_until plan db every taken ++ event_lines plan db every k) (sym (add-one taken))

  cut-next : taken ≤ whole → eqb taken whole ≡ false → Cut
  cut-next within e =
      let short : taken + 1 ≤ whole = strictly taken whole within (eqb-false taken whole e) in
      let more = lines-on plan db every (taken + 1) (whole - (taken + 1)) whole (omega (arith, short)) in (
        more.0 ++ last,
        cut-more more.0 (more.1 ∙ ap (λ t. t ++ more.0) one-more) ∙ ap (λ b. written ++ (cond b last next ++ (more.0 ++ last))) (sym e),
      )

  cut-at : (b : Bool) → taken ≤ whole → eqb taken whole ≡ b → Cut
  cut-at true within e = cut-last e
  cut-at false within e = cut-next within e

  pub text-cut : taken ≤ whole → Cut
  text-cut within = cut-at (eqb taken whole) within refl

-- a turn that fails leaves a first part of the text
pub part-of-text : (plan : Plan) (db : Db) (every : Option ℕ) (run : RunState) (old mid new : Option (List ℕ)) → run ≡ going plan db every run.taken
    → run.taken ≤ whole_work db (tree_of plan.nodes) → mid ≡ gained old (head_text plan ++ lines_until plan db every run.taken)
    → GainsPart mid new (turn_text run) → GainsPart old new (run_text plan db every)
part-of-text plan db every run old mid new is within so_far part =
    let cut = text-cut plan db every run.taken within in
    let now : GainsPart mid new (turn_text (going plan db every run.taken)) = subst (λ r. GainsPart mid new (turn_text r)) is part in
    subst (GainsPart old new) (sym cut.1)
    (part_later old mid new (head_text plan ++ lines_until plan db every run.taken) (turn_text (going plan db every run.taken) ++ cut.0) so_far
    (part_first mid new (turn_text (going plan db every run.taken)) cut.0 now))

-- the run after one event more
abbrev pub IsAfter : Ran → Ran → Type 0
IsAfter ran e = e ≡ record ran { taken = ran.taken + 1 }

pub parts : (ran e : Ran) (plan : Plan) (every : Option ℕ) → IsAfter ran e → plan ≡ ran.plan
    → row_part plan.kinds (last_event (run_events e) e.taken) ++ progress_part e.plan e.db every e.taken
    ≡ event_lines ran.plan ran.db every (ran.taken + 1)
parts ran e plan every is same =
    ap (λ (x : Ran). row_part plan.kinds (last_event (run_events x) x.taken) ++ progress_part x.plan x.db every x.taken) is
    ∙ ap (λ (p : Plan). row_part p.kinds (last_event (events ran.db (tree_of ran.plan.nodes) 1) (ran.taken + 1)) ++ progress_part ran.plan ran.db every (ran.taken + 1)) same

pub room : (ran e : Ran) → IsAfter ran e → e.taken ≤ whole_work_of e → ran.taken < whole_work_of ran
room ran e is within =
    let h : ran.taken + 1 ≤ whole_work_of ran = subst (λ (x : Ran). x.taken ≤ whole_work_of x) is within in
    omega (arith, h)

-- the view of a run whose parts have changed
abbrev pub view : Ran → Option ℕ → ℕ → Stage → RunState
view ran every taken stage = record { plan = ran.plan; db = ran.db; every = every; taken = taken; stage = stage }

pub same-view : (old new : Ran) (before every : Option ℕ) (stage : Stage) → every ≡ before → (taken : ℕ) (failed : Bool) → new ≡ record old { taken = taken; failed = failed }
    → view new every new.taken stage ≡ view old before taken stage
same-view old new before every stage same taken failed is =
    ap (λ (r : Ran). view r every r.taken stage) is ∙ ap (λ o. view old o taken stage) same
