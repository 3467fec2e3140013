-- the root's rows are what the kinds of the plan's columns say, and their texts are those of the columns
use Rattle.std.proofs.Common.{◌≡◌, ℕ, zero, suc, ◌+◌, ◌<◌, Bool, true, false, cond, eqb, List, [], ◌∷◌, ◌++◌, length, map, take, get_or, refl, sym, ap, subst, ◌∙◌, arith}
use Rattle.std.proofs.lemmas.List.{take_more}
use Rattle.std.proofs.lemmas.Option.{slice_get_within, get_or_from_slice_get}
use Rattle.std.proofs.lemmas.List.Elements.{recursion_from_All}
use Rattle.std.proofs.lemmas.Bool.{eq-eqb}
use Rattle.std.specs.Prelude.{All, Some, slice_get}
use Rattle.std.specs.List.{AllByRecursion, filter}
use Rattle.pm_values.specs.declared.value.Kind.{Kind}
use Rattle.pm_values.specs.Row.{Row, cell}
use Rattle.pm_values.specs.Table.{IsRelation}
use Rattle.pm_values.specs.ValueText.{value_text, HasText}
use Rattle.pm_plan.specs.Rows.{decls_of}
use Rattle.pm_plan.specs.Preorder.{tree_of}
use Rattle.pm_plan.specs.Kinds.{kinds_of}
use Rattle.pm_work.specs.Events.{Event, events, rows_at}
use Rattle.pm_work.specs.Fits.{Fits}
use Rattle.pm_work.proofs.EventLaws.{rows_at-events}
use Rattle.pm_work.proofs.RowKinds.{FitsKinds, output_fits}
use Rattle.pm_exec.specs.Ran.{Ran, HasRootRow, last_row, last_event, IsOf, row_in}
use Rattle.pm_run.specs.Text.{row_texts}

-- an event of node n hands out one of the node's rows
row-among : (P : Row → Type 0) (n : ℕ) (es : List Event) (k : ℕ) → AllByRecursion P (rows_at n es)
    → IsOf n (slice_get es k) → P (row_in (slice_get es k))
row-among P n [] k all is = absurd is
row-among P n (e ∷ es) zero all is =
    let here : AllByRecursion P (e.row ∷ rows_at n es) =
    subst (λ b. AllByRecursion P (map (λ x. x.row) (cond b (e ∷ filter (λ x. eqb x.node n) es) (filter (λ x. eqb x.node n) es)))) (eq-eqb e.node n is) all in
    here.0
row-among P n (e ∷ es) (suc k) all is = row-among P n es k (later (eqb e.node n) all) is
  where
    later : (b : Bool) → AllByRecursion P (map (λ x. x.row) (cond b (e ∷ filter (λ x. eqb x.node n) es) (filter (λ x. eqb x.node n) es)))
        → AllByRecursion P (rows_at n es)
    later true a = a.1
    later false a = a

row-last : (P : Row → Type 0) (n : ℕ) (es : List Event) (taken : ℕ) → AllByRecursion P (rows_at n es)
    → IsOf n (last_event es taken) → P (row_in (last_event es taken))
row-last P n es zero all is = absurd is
row-last P n es (suc k) all is = row-among P n es k all is

-- the row that the root has just handed out
pub root-fits : (ran : Ran) → Fits ran.plan ran.db → All IsRelation ran.db → HasRootRow ran → FitsKinds ran.plan.kinds (last_row ran)
root-fits ran fits tables is =
    let tree = tree_of ran.plan.nodes in
    let kinds = kinds_of (decls_of ran.db) tree in
    let rows : AllByRecursion (FitsKinds kinds) (rows_at 1 (events ran.db tree 1)) =
    recursion_from_All (FitsKinds kinds) (rows_at 1 (events ran.db tree 1))
    (subst (All (FitsKinds kinds)) (sym (rows_at-events ran.db tree 1)) (output_fits ran.db tables tree)) in
    subst (λ ks. FitsKinds ks (last_row ran)) (sym fits.valid.kinds) (row-last (FitsKinds kinds) 1 (events ran.db tree 1) ran.taken rows is)

-- the text of one column
texts-at : (kinds : List Kind) (row : Row) (k : ℕ) (d : Kind) → FitsKinds kinds row → k < length kinds
    → get_or (row_texts kinds row) k [] ≡ value_text (get_or kinds k d) (cell row k)
texts-at [] row k d f within = absurd (omega arith)
texts-at (a ∷ kinds) [] k d f within = absurd f
texts-at (a ∷ kinds) (v ∷ row) zero d f within = refl
texts-at (a ∷ kinds) (v ∷ row) (suc k) d f within = texts-at kinds row k d f.1 (omega arith)

pub length-texts : (kinds : List Kind) (row : Row) → FitsKinds kinds row → length (row_texts kinds row) ≡ length kinds
length-texts [] [] f = refl
length-texts [] (v ∷ row) f = absurd f
length-texts (a ∷ kinds) [] f = absurd f
length-texts (a ∷ kinds) (v ∷ row) f = ap suc (length-texts kinds row f.1)

pub column-has-text : (kinds : List Kind) (row : Row) (k : ℕ) (a : Kind) → FitsKinds kinds row → slice_get kinds k ≡ Some a
    → HasText a (cell row k)
column-has-text [] row k a f is = absurd cc
column-has-text (b ∷ kinds) [] k a f is = absurd f
column-has-text (b ∷ kinds) (v ∷ row) zero a f is = let same : b ≡ a = cc in subst (λ x. HasText x v) same f.0
column-has-text (b ∷ kinds) (v ∷ row) (suc k) a f is = column-has-text kinds row k a f.1 is

-- one more text
pub more-texts : (kinds : List Kind) (row : Row) (k : ℕ) (a : Kind) → FitsKinds kinds row → slice_get kinds k ≡ Some a
    → take k (row_texts kinds row) ++ value_text a (cell row k) ∷ [] ≡ take (k + 1) (row_texts kinds row)
more-texts kinds row k a f is =
    let within : k < length kinds = slice_get_within kinds k a is in
    let long : k < length (row_texts kinds row) = omega (arith, length-texts kinds row f) in
    ap (λ b. take k (row_texts kinds row) ++ value_text b (cell row k) ∷ []) (sym (get_or_from_slice_get kinds k a a is))
    ∙ ap (λ t. take k (row_texts kinds row) ++ t ∷ []) (sym (texts-at kinds row k a f within))
    ∙ sym (take_more (row_texts kinds row) k [] long)
