use Rattle.std.proofs.Common.{◌≡◌, ℕ, ◌+◌, ◌-◌, ◌<◌, List, length, get_or, drop, refl, sym, ap, ◌∙◌, subst, arith}
use Rattle.std.proofs.lemmas.List.{at_drop_more}
use Rattle.pm_values.specs.declared.value.Value.{Value}
use Rattle.pm_values.specs.Row.{Row, cell}
use Rattle.pm_plan.specs.Grouping.{column_values, folded, plus}
use Rattle.pm_work.specs.Evaluation.{IsSmall}
use Rattle.pm_work.proofs.Adding.{SumWithin, plus_within}
use Rattle.pm_work.proofs.evaluation.aggregates.sum.Goals as goal

-- the sum from one row earlier on
earlier : (column : ℕ) (rows : List Row) (i j : ℕ) (row : Row) (found r : Value) → j ≡ i + 1 → i < length rows → row ≡ get_or rows i row
    → found ≡ folded plus (column_values column (drop j rows)) → r ≡ plus (cell row column) found → r ≡ folded plus (column_values column (drop i rows))
earlier column rows i j row found r next within is sum adds =
    adds ∙ ap (plus (cell row column)) (sum ∙ ap (λ k. folded plus (column_values column (drop k rows))) next)
    ∙ ap (λ x. plus (cell x column) (folded plus (column_values column (drop (i + 1) rows)))) is
    ∙ sym (at_drop_more (λ s. folded plus (column_values column s)) rows i row within)

pub loop-left-preserved : goal.loop-left-preserved
loop-left-preserved c =
    let i = c.loop-left.left - 1 in
    let within : i < length c.args.rows.now = omega (arith, c.loop-left.invariant.1, c.loop-left-test.true) in
    let adds = c.plus-found.ensures ∙ ap (λ v. plus v c.loop-left.found) c.cell.ensures in
    let small : IsSmall (cell c.index-rows-left.result c.args.column) =
    subst (λ row. IsSmall (cell row c.args.column)) (sym c.index-rows-left.is) (c.requires i c.index-rows-left.result within) in (
      earlier c.args.column c.args.rows.now i c.loop-left.left c.index-rows-left.result c.loop-left.found c.plus-found.result (omega (arith, c.loop-left-test.true)) within c.index-rows-left.is
          c.loop-left.invariant.0 adds,
      omega (arith, c.loop-left.invariant.1),
      refl,
      subst (SumWithin (length c.args.rows.now - i)) (sym adds)
          (plus_within (length c.args.rows.now - c.loop-left.left) (length c.args.rows.now - i) (cell c.index-rows-left.result c.args.column) c.loop-left.found
          (omega (arith, c.loop-left.invariant.1, c.loop-left-test.true)) small c.loop-left.invariant.3),
    )
