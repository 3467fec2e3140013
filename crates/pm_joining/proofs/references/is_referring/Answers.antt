use Rattle.std.proofs.Common.{◌≡◌, false, sym, ◌∙◌, subst, arith}
use Rattle.std.specs.List.{list_any}
use Rattle.std.proofs.lemmas.List.{take_all}
use Rattle.pm_plan.specs.References.{same_pair, paired}
use Rattle.pm_plan.specs.Fitting.{shifted}
use Rattle.pm_plan.proofs.Lists.{take_whole, any_next, any_found}
use Rattle.pm_plan.proofs.Referring.{length-paired}
use Rattle.pm_joining.proofs.references.is_referring.Goals as goal

pub returns-in_default : goal.returns-in_default
returns-in_default c =
    let all = paired c.args.reference.now.columns c.args.reference.now.keys in
    sym (subst (λ ps. list_any (same_pair (shifted c.args.from c.args.pair)) ps ≡ false) (take_whole all c.loop-i.i c.in_default.ensures) c.loop-i.invariant)

pub returns-then-is_same : goal.returns-then-is_same
returns-then-is_same c = sym (any_found _ _ c.loop-i.i c.in-Some.other c.in-Some.ensures (sym c.is_same.ensures.forth ∙ c.if-is_same.true))

pub loop-i-preserved : goal.loop-i-preserved
loop-i-preserved c = any_next _ _ c.loop-i.i c.in-Some.other c.in-Some.ensures c.loop-i.invariant (sym c.is_same.ensures.forth ∙ c.if-is_same.false)

pub returns : goal.returns
returns c =
    let all = paired c.args.reference.now.columns c.args.reference.now.keys in
    let few = length-paired c.args.reference.now.columns c.args.reference.now.keys in
    sym (subst (λ ps. list_any (same_pair (shifted c.args.from c.args.pair)) ps ≡ false) (take_all c.loop-i.i all (omega arith)) c.loop-i.invariant)
