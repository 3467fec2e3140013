use Rattle.std.proofs.Common.{◌≤◌, [], ◌∷◌, ◌++◌, length, take, subst, sym, ap, ◌∙◌, arith}
use Rattle.std.proofs.lemmas.List.{take_all}
use Rattle.pm_values.specs.ValueText.{HasText, value_text}
use Rattle.pm_exec.specs.Ran.{last_row}
use Rattle.pm_run.specs.Text.{row_texts}
use Rattle.pm_work.proofs.RowKinds.{FitsKinds}
use Rattle.pm_run.proofs.RootRows.{root-fits, length-texts, column-has-text, more-texts}
use Rattle.pm_run.proofs.row.texts_of_row.Goals as goal

pub value_text-requires : goal.value_text-requires
value_text-requires c =
    let row = last_row c.args.exec.now in
    let fits : FitsKinds c.args.kinds.now row =
    subst (λ ks. FitsKinds ks row) (sym c.requires.kinds) (root-fits c.args.exec.now c.runs_fit.ensures.fits c.runs_fit.ensures.tables c.requires.at_root) in
    subst (HasText c.at-kind.result.now) (sym c.root_cell.ensures)
    (column-has-text c.args.kinds.now row c.loop-column.column c.at-kind.result.now fits c.at-kind.ensures)

pub loop-column-preserved : goal.loop-column-preserved
loop-column-preserved c =
    let row = last_row c.args.exec.now in
    let kinds = c.args.kinds.now in
    let k = c.loop-column.column in
    let fits : FitsKinds kinds row = subst (λ ks. FitsKinds ks row) (sym c.requires.kinds) (root-fits c.args.exec.now c.runs_fit.ensures.fits c.runs_fit.ensures.tables c.requires.at_root) in
    c.in_ok-push.ensures.ok
    ∙ ap (λ texts. texts ++ c.in_ok-value_text.field-0 ∷ []) c.loop-column.invariant
    ∙ ap (λ t. take k (row_texts kinds row) ++ t ∷ []) (c.in_ok-value_text.ensures ∙ ap (value_text c.at-kind.result.now) c.root_cell.ensures)
    ∙ more-texts kinds row k c.at-kind.result.now fits c.at-kind.ensures

pub returns : goal.returns
returns c =
    let row = last_row c.args.exec.now in
    let kinds = c.args.kinds.now in
    let fits : FitsKinds kinds row = subst (λ ks. FitsKinds ks row) (sym c.requires.kinds) (root-fits c.args.exec.now c.runs_fit.ensures.fits c.runs_fit.ensures.tables c.requires.at_root) in
    let whole : length (row_texts kinds row) ≤ c.loop-column.column =
    omega (arith, length-texts kinds row fits, c.root_width-column-end.ensures, ap length c.requires.kinds) in
    c.loop-column.invariant ∙ take_all c.loop-column.column (row_texts kinds row) whole
