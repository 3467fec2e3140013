use Rattle.std.proofs.Common.{◌≡◌, ◌↔◌, ◌+◌, List, Bool, sym, ap, ◌∙◌, subst}
use Rattle.std.proofs.lemmas.Bool.{false≢true}
use Rattle.std.specs.Prelude.{IsTrue}
use Rattle.pm_values.specs.Table.{Declaration}
use Rattle.pm_plan.specs.Tree.{Tree}
use Rattle.pm_plan.specs.Preorder.{Rooted}
use Rattle.pm_plan.specs.Kinds.{kinds_of, condition_fits_if}
use Rattle.pm_plan.specs.Valid.{IsValidRoot}
use Rattle.pm_plan.specs.Fitting.{HasSeek}
use Rattle.pm_plan.proofs.Inversion.{OverSeek, begins, rooted_same, seek_at}
use Rattle.pm_plan.proofs.Rules.{fails}
use Rattle.pm_plan.proofs.valid.is_valid_root.Goals as goal

-- the same of an equal tree
at_root : (decls : List Declaration) (t u : Tree) (b : Bool) → t ≡ u → (IsTrue b ↔ (IsValidRoot decls u × HasSeek decls u)) → (IsTrue b ↔ (IsValidRoot decls t × HasSeek decls t))
at_root decls t u b e f = subst (λ v. IsTrue b ↔ (IsValidRoot decls v × HasSeek decls v)) (sym e) f

pub returns-then-not-condition_fits_if : goal.returns-then-not-condition_fits_if
returns-then-not-condition_fits_if c =
    λ t h. let i : OverSeek _ _ _ _ _ _ = begins _ (Rooted t) _ _ _ c.in-Index.is c.in-Some.ensures.node h in
    let fit = c.condition_fits_if.ensures (Rooted t) h ∙ ap (λ (v : Tree). condition_fits_if (kinds_of c.args.decls.now v) c.in-Index.cond.now) (rooted_same i.is) in
    at_root _ t _ _ (rooted_same i.is) (fails (λ w. false≢true (sym c.if-not-condition_fits_if.true ∙ fit ∙ w.0.fits)))

pub returns-then-not-is_joinable : goal.returns-then-not-is_joinable
returns-then-not-is_joinable c =
    λ t h. let i : OverSeek _ _ _ _ _ _ = begins _ (Rooted t) _ _ _ c.in-Index.is c.in-Some.ensures.node h in
    at_root _ t _ _ (rooted_same i.is) (fails (λ w. false≢true (sym c.if-not-is_joinable.true ∙ c.is_joinable.ensures i.left_tree i.left_stands ∙ w.0.joinable)))

pub returns-else-not-is_joinable : goal.returns-else-not-is_joinable
returns-else-not-is_joinable c =
    λ t h. let i : OverSeek _ _ _ _ _ _ = begins _ (Rooted t) _ _ _ c.in-Index.is c.in-Some.ensures.node h in
    let fit = c.condition_fits_if.ensures (Rooted t) h ∙ ap (λ (v : Tree). condition_fits_if (kinds_of c.args.decls.now v) c.in-Index.cond.now) (rooted_same i.is) in
    let seek = c.is_valid_seek.ensures i.left_tree i.sought (c.args.n + 1) i.left_stands (seek_at _ _ _ _ _ _ _ i c.number_after.ensures) in
    at_root _ t _ _ (rooted_same i.is) (
      λ yes. (record { fits = sym fit ∙ c.if-not-condition_fits_if.false; joinable = sym (c.is_joinable.ensures i.left_tree i.left_stands) ∙ c.if-not-is_joinable.false }, seek.0 yes),
      λ w. seek.1 w.1,
    )
