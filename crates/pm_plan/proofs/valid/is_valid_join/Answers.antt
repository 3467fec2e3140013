use Rattle.std.proofs.Common.{◌↔◌, sym, ◌∙◌, subst}
use Rattle.std.proofs.lemmas.Bool.{false≢true}
use Rattle.std.specs.Prelude.{IsTrue}
use Rattle.pm_plan.specs.Preorder.{Rooted}
use Rattle.pm_plan.specs.Fitting.{IsPaired}
use Rattle.pm_plan.proofs.Rules.{fails}
use Rattle.pm_plan.proofs.valid.is_valid_join.Goals as goal

pub returns-then-not-is_paired : goal.returns-then-not-is_paired
returns-then-not-is_paired c =
    λ l r h g. let paired = subst (λ b. IsTrue c.is_paired.result ↔ IsPaired c.args.decls.now b l (Rooted r) c.args.pairs.now c.args.unique) c.pads.ensures (c.is_paired.ensures l (Rooted r) h g) in
    fails (λ is. false≢true (sym c.if-not-is_paired.true ∙ paired.1 (record { fit = is.pairs; flags = is.flags })))

pub returns-then-not-is_joinable : goal.returns-then-not-is_joinable
returns-then-not-is_joinable c = λ l r h g. fails (λ is. false≢true (sym c.if-not-is_joinable.true ∙ c.is_joinable.ensures l h ∙ is.joinable))

pub returns-then-not-is_source : goal.returns-then-not-is_source
returns-then-not-is_source c = λ l r h g. fails (λ is. false≢true (sym c.if-not-is_source.true ∙ c.is_source.ensures r g ∙ is.source))

pub returns : goal.returns
returns c =
    λ l r h g. let paired = subst (λ b. IsTrue c.is_paired.result ↔ IsPaired c.args.decls.now b l (Rooted r) c.args.pairs.now c.args.unique) c.pads.ensures (c.is_paired.ensures l (Rooted r) h g) in
    let p = paired.0 c.if-not-is_paired.false in
    let ordered = c.method_fits.ensures l r h g in (
      λ yes. record {
        pairs = p.fit;
        flags = p.flags;
        joinable = sym (c.is_joinable.ensures l h) ∙ c.if-not-is_joinable.false;
        source = sym (c.is_source.ensures r g) ∙ c.if-not-is_source.false;
        ordered = ordered.0 yes;
      },
      λ is. ordered.1 is.ordered,
    )
