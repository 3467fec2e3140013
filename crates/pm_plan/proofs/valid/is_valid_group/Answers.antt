use Rattle.std.proofs.Common.{◌≡◌, length, arith, ap, sym, ◌∙◌}
use Rattle.std.proofs.lemmas.Bool.{false≢true, not-true, not_from_false, false_from_ne_true}
use Rattle.std.proofs.lemmas.Bool.Decides.{nat_tests}
use Rattle.std.specs.List.{list_all}
use Rattle.pm_plan.specs.Preorder.{Rooted}
use Rattle.pm_plan.specs.Kinds.{kinds_of, width, item_fits}
use Rattle.pm_plan.specs.Valid.{are_below}
use Rattle.pm_plan.proofs.Rules.{fails, empty_list}
use Rattle.pm_plan.proofs.valid.is_valid_group.Goals as goal

pub returns-then-not-columns_below : goal.returns-then-not-columns_below
returns-then-not-columns_below c =
    λ t h. let below = c.columns_below.ensures (width c.args.decls.now t) (c.width_at.ensures.value (Rooted t) h) ∙ ap (are_below (width c.args.decls.now t)) c.as_slice.ensures in
    fails (λ w. false≢true (sym c.if-not-columns_below.true ∙ below ∙ w.columns))

pub returns-then-not-items_fit : goal.returns-then-not-items_fit
returns-then-not-items_fit c =
    λ t h. let fit = c.items_fit.ensures (Rooted t) h ∙ ap (list_all (item_fits (kinds_of c.args.decls.now t))) c.as_slice-2.ensures in
    fails (λ w. false≢true (sym c.if-not-items_fit.true ∙ fit ∙ w.fit))

pub returns-then-is_empty : goal.returns-then-is_empty
returns-then-is_empty c =
    λ t h. let below = c.columns_below.ensures (width c.args.decls.now t) (c.width_at.ensures.value (Rooted t) h) ∙ ap (are_below (width c.args.decls.now t)) c.as_slice.ensures in
    let fit = c.items_fit.ensures (Rooted t) h ∙ ap (list_all (item_fits (kinds_of c.args.decls.now t))) c.as_slice-2.ensures in
    let short : length c.args.items.now ≡ 0 = grind (arith, nat_tests, c.if-is_empty.ensures) in
    (λ yes. record { columns = sym below ∙ c.if-not-columns_below.false; fit = sym fit ∙ c.if-not-items_fit.false; alone = λ g. empty_list _ short }, λ w. c.if-is_empty.true)

pub returns-else-is_empty : goal.returns-else-is_empty
returns-else-is_empty c =
    λ t h. let below = c.columns_below.ensures (width c.args.decls.now t) (c.width_at.ensures.value (Rooted t) h) ∙ ap (are_below (width c.args.decls.now t)) c.as_slice.ensures in
    let fit = c.items_fit.ensures (Rooted t) h ∙ ap (list_all (item_fits (kinds_of c.args.decls.now t))) c.as_slice-2.ensures in
    let group = c.has_group.ensures t h in
    let some : length c.args.items.now ≡ 0 → ⊥ = λ e. grind (arith, nat_tests, c.if-is_empty.ensures) in (
      λ yes. record {
        columns = sym below ∙ c.if-not-columns_below.false;
        fit = sym fit ∙ c.if-not-items_fit.false;
        alone = λ g. absurd (false≢true (sym (not-true _ yes) ∙ group ∙ g));
      },
      λ w. not_from_false _ (false_from_ne_true _ (λ g. some (ap length (w.alone (sym group ∙ g))))),
    )
