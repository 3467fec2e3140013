use Rattle.std.proofs.Common.{◌↔◌, sym, ap, ◌∙◌, subst}
use Rattle.std.proofs.lemmas.List.Folds.{list_all-map}
use Rattle.std.specs.Prelude.{IsTrue, nat_lt}
use Rattle.std.specs.List.{list_all}
use Rattle.pm_plan.specs.Preorder.{Rooted}
use Rattle.pm_plan.specs.Kinds.{kinds_of, width}
use Rattle.pm_plan.specs.Valid.{has_group, are_below, IsValidOver}
use Rattle.pm_plan.specs.Roots.{unary_of}
use Rattle.pm_plan.proofs.valid.is_valid_over.Goals as goal

pub returns-in-Filter : goal.returns-in-Filter
returns-in-Filter c =
    λ t h. let fit = c.condition_fits.ensures (Rooted t) h in
    subst (λ o. IsTrue c.condition_fits.result ↔ IsValidOver (kinds_of c.args.decls.now t) (has_group t) (unary_of o)) (sym c.in-Filter.is)
    (λ yes. sym fit ∙ yes, λ is. fit ∙ is)

pub returns-in-Project : goal.returns-in-Project
returns-in-Project c =
    λ t h. let wide = width c.args.decls.now t in
    let fit = c.columns_below.ensures wide (c.width_at.ensures.value (Rooted t) h) ∙ ap (are_below wide) c.as_slice.ensures in
    subst (λ o. IsTrue c.columns_below.result ↔ IsValidOver (kinds_of c.args.decls.now t) (has_group t) (unary_of o)) (sym c.in-Project.is)
    (λ yes. sym fit ∙ yes, λ is. fit ∙ is)

pub returns-in-Sort : goal.returns-in-Sort
returns-in-Sort c =
    λ t h. let wide = width c.args.decls.now t in
    let fit = c.keys_below.ensures wide (c.width_at-in-Sort.ensures.value (Rooted t) h) ∙ ap (list_all (λ key. nat_lt key.column wide)) c.as_slice-in-Sort.ensures
    ∙ sym (list_all-map (λ k. nat_lt k wide) (λ key. key.column) c.in-Sort.keys.now) in
    subst (λ o. IsTrue c.keys_below.result ↔ IsValidOver (kinds_of c.args.decls.now t) (has_group t) (unary_of o)) (sym c.in-Sort.is)
    (λ yes. sym fit ∙ yes, λ is. fit ∙ is)

pub returns-in-Group : goal.returns-in-Group
returns-in-Group c =
    λ t h. subst (λ o. IsTrue c.is_valid_group.result ↔ IsValidOver (kinds_of c.args.decls.now t) (has_group t) (unary_of o)) (sym c.in-Group.is) (c.is_valid_group.ensures t h)
