use Rattle.std.proofs.Common.{◌≡◌, ℕ, ◌+◌, ◌<◌, Bool, true, false, cond, List, [], ◌∷◌, ◌++◌, length, get_or, take, sym, ap, ◌∙◌}
use Rattle.std.specs.List.{filter}
use Rattle.std.proofs.lemmas.List.{append-nil}
use Rattle.std.proofs.lemmas.List.Elements.{filter_more}
use Rattle.pm_values.specs.Row.{Row}
use Rattle.pm_values.specs.Condition.{keeps}
use Rattle.pm_work.proofs.evaluation.rows.kept.Goals as goal
use Rattle.pm_work.proofs.evaluation.rows.kept.Goals.{then-is_kept+in_ok-copy_row+in_ok-push, else-is_kept}

-- one more row, which passes the test or not
one_more : (p : Row → Bool) (rows : List Row) (i : ℕ) (row : Row) (b : Bool) → i < length rows → row ≡ get_or rows i row → b ≡ p row
    → filter p (take i rows) ++ cond b (row ∷ []) [] ≡ filter p (take (i + 1) rows)
one_more p rows i row b within is test =
    ap (λ t. filter p (take i rows) ++ cond t (row ∷ []) []) test
    ∙ ap (λ r. filter p (take i rows) ++ cond (p r) (r ∷ []) []) is
    ∙ sym (filter_more p rows i row within)

pub loop-row-preserved : goal.loop-row-preserved
loop-row-preserved c =
    let p : Row → Bool = keeps c.args.cond.now in
    elim c.if-is_kept.branch [
      | then-is_kept+in_ok-copy_row+in_ok-push w ↦
          let step : filter p (take c.loop-row.row-index c.args.rows.now) ++ (c.row-item.result ∷ []) ≡ filter p (take (c.loop-row.row-index + 1) c.args.rows.now) =
          one_more p c.args.rows.now c.loop-row.row-index c.row-item.result true c.loop-row-test.true c.row-item.is w.if-is_kept.ensures in
          ap (λ v. v.items) w.kept-is ∙ w.in_ok-push.ensures.items ∙ ap (λ s. s ++ (w.in_ok-copy_row.field-0 ∷ [])) c.loop-row.invariant
          ∙ ap (λ r. filter p (take c.loop-row.row-index c.args.rows.now) ++ (r ∷ [])) w.in_ok-copy_row.ensures ∙ step
      | else-is_kept w ↦
          let step : filter p (take c.loop-row.row-index c.args.rows.now) ++ [] ≡ filter p (take (c.loop-row.row-index + 1) c.args.rows.now) =
          one_more p c.args.rows.now c.loop-row.row-index c.row-item.result false c.loop-row-test.true c.row-item.is w.if-is_kept.ensures in
          ap (λ v. v.items) w.kept-is ∙ c.loop-row.invariant ∙ sym (append-nil (filter p (take c.loop-row.row-index c.args.rows.now))) ∙ step
    ]
