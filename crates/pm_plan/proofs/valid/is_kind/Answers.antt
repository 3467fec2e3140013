use Rattle.std.proofs.Common.{sym, ap, ◌∙◌, Some}
use Rattle.std.proofs.lemmas.Bool.{false≢true}
use Rattle.pm_plan.specs.Preorder.{Rooted}
use Rattle.pm_plan.proofs.Rules.{kinds_equal}
use Rattle.pm_plan.proofs.valid.is_kind.Goals as goal

pub returns-in-Some : goal.returns-in-Some
returns-in-Some c =
    λ t h. let at = c.in-Some.ensures (Rooted t) h in
    let same = kinds_equal c.in-Some.found c.args.kind in
    (λ yes. sym at ∙ ap (λ k. Some k) (same.0 (sym c.same_kind.ensures ∙ yes)), λ e. c.same_kind.ensures ∙ same.1 cc)

pub returns-in-None : goal.returns-in-None
returns-in-None c =
    λ t h. let at = c.in-None.ensures (Rooted t) h in
    (λ e. absurd (false≢true e), λ e. absurd cc)
