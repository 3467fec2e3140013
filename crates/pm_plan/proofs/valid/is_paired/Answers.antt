use Rattle.std.proofs.Common.{refl, sym, ap, ◌∙◌}
use Rattle.std.proofs.lemmas.Bool.{false≢true}
use Rattle.pm_plan.specs.Preorder.{Rooted}
use Rattle.pm_plan.specs.Joins.{right_columns}
use Rattle.pm_plan.specs.Flags.{flags_of}
use Rattle.pm_plan.specs.Standing.{subplan_unique}
use Rattle.pm_plan.proofs.Rules.{fails, same_flags}
use Rattle.pm_plan.proofs.valid.is_paired.Goals as goal

pub returns-then-not-pairs_fit : goal.returns-then-not-pairs_fit
returns-then-not-pairs_fit c = λ l q h g. fails (λ is. false≢true (sym c.if-not-pairs_fit.true ∙ (c.pairs_fit.ensures.fit (Rooted l) q h g).1 is.fit))

pub returns : goal.returns
returns c =
    λ l q h g. let small = c.pairs_fit.ensures.in_range c.if-not-pairs_fit.false in
    let decls = c.args.decls.now in
    let pairs = c.args.pairs.now in
    let right = c.is_unique_at-right_unique.ensures q (right_columns pairs) g refl in
    let called = c.flags_of.ensures l h small
    ∙ ap (λ b. flags_of decls l pairs b c.whole_table-whole.result) right ∙ ap (flags_of decls l pairs (subplan_unique decls q (right_columns pairs))) (c.whole_table-whole.ensures q g) in
    let same = same_flags c.args.unique c.flags_of.result in (
      λ yes. record { fit = (c.pairs_fit.ensures.fit (Rooted l) q h g).0 c.if-not-pairs_fit.false; flags = same.0 (sym c.eq.ensures ∙ yes) ∙ called },
      λ is. c.eq.ensures ∙ same.1 (is.flags ∙ sym called),
    )
