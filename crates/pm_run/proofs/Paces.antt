-- which events have no progress line
use Rattle.std.proofs.Common.{◌≡◌, ℕ, ◌+◌, ◌*◌, ◌/◌, ◌%◌, ◌<◌, ◌≤◌, Bool, true, false, cond, eqb, List, [], Option, refl, sym, ap, ◌∙◌, arith}
use Rattle.std.proofs.Math.Nat.{div-add-mod, div-mul-le_self, lt_of_mul-lt-mul_right}
use Rattle.std.proofs.lemmas.Bool.{eq-eqb, ne_eqb, eqb-true, eqb-false}
use Rattle.std.specs.Prelude.{◌||◌, Some, min}
use Rattle.pm_io.specs.Sink.{gained}
use Rattle.pm_io.proofs.Parts.{gained-nothing}
use Rattle.pm_plan.specs.declared.gauge.Shown.{Shown}
use Rattle.pm_plan.specs.declared.plan.Plan.{Plan}
use Rattle.pm_plan.specs.Rows.{Db}
use Rattle.pm_plan.specs.Preorder.{tree_of}
use Rattle.pm_work.specs.Work.{whole_work}
use Rattle.pm_estim.specs.Estimates.{shown_at}
use Rattle.pm_lines.specs.Progress.{progress_line}
use Rattle.pm_run.specs.Text.{is_due, progress_part}
use Rattle.pm_run.specs.Pace.{IsQuiet}
use Rattle.pm_run.specs.IsMeter.{IsMoment}

-- between two multiples that follow one another there is none
no_multiple : (e q t : ℕ) → q * e < t → t < (q + 1) * e → t % e ≡ 0 → ⊥
no_multiple e q t low high none =
    let whole : t / e * e ≡ t = grind (arith, div-add-mod t e) in
    let above : q < t / e = lt_of_mul-lt-mul_right e (omega (arith, whole, low)) in
    let below : t / e < q + 1 = lt_of_mul-lt-mul_right e (omega (arith, whole, high)) in
    omega (arith, above, below)

-- of a moment with so much work done, and a lower bound of the whole
pub quiet_until : (every work lo whole : ℕ) → lo ≤ whole → IsQuiet (Some every) whole (work + 1) (min ((work / every + 1) * every) lo)
quiet_until every work lo whole below t from until =
    let low : work / every * every ≤ work = div-mul-le_self work every in
    let high : t < (work / every + 1) * every = omega (arith, until) in
    let not_last : eqb t whole ≡ false = ne_eqb t whole (λ e. omega (arith, until, below, e)) in
    let not_multiple : eqb (t % every) 0 ≡ false = ne_eqb (t % every) 0 (λ e. no_multiple every (work / every) t (omega (arith, low, from)) high e) in
    rw (not_multiple, not_last) refl

-- the last event is the one at which the upper bound is the work done
last-same : (taken whole hi : ℕ) → taken ≤ whole → whole ≤ hi → (taken ≡ whole → hi ≡ whole) → eqb taken hi ≡ eqb taken whole
last-same taken whole hi within above last = of (eqb taken whole) refl
  where
    of : (b : Bool) → eqb taken whole ≡ b → eqb taken hi ≡ b
    of true e = eq-eqb taken hi (eqb-true taken whole e ∙ sym (last (eqb-true taken whole e)))
    of false e = ne_eqb taken hi (λ s. eqb-false taken whole e (omega (arith, s, within, above)))

-- so what a moment shows says whether it has a line
pub due-same : (every whole taken : ℕ) (shown : Shown) → IsMoment whole taken shown
    → is_due (Some every) shown.hi shown.work ≡ is_due (Some every) whole taken
due-same every whole taken shown m =
    ap (λ k. eqb (k % every) 0 || eqb k shown.hi) m.work
    ∙ ap (λ b. eqb (taken % every) 0 || b) (last-same taken whole shown.hi (omega (arith, m.work, m.counted, m.below)) m.above m.last)

-- an event without a line adds nothing
pub nothing-due : (plan : Plan) (db : Db) (every : Option ℕ) (t : ℕ) (old : Option (List ℕ)) → is_due every (whole_work db (tree_of plan.nodes)) t ≡ false
    → old ≡ gained old (progress_part plan db every t)
nothing-due plan db every t old none =
    sym (ap (λ b. gained old (cond b (progress_line (shown_at db (tree_of plan.nodes) t)) [])) none ∙ gained-nothing old)

-- an event with a line adds it
pub line-due : (plan : Plan) (db : Db) (every : Option ℕ) (t : ℕ) (shown : Shown) → is_due every (whole_work db (tree_of plan.nodes)) t ≡ true
    → shown ≡ shown_at db (tree_of plan.nodes) t → progress_line shown ≡ progress_part plan db every t
line-due plan db every t shown due is =
    ap progress_line is ∙ sym (ap (λ b. cond b (progress_line (shown_at db (tree_of plan.nodes) t)) []) due)
