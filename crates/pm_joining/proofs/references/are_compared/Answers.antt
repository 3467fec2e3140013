use Rattle.std.proofs.Common.{◌≡◌, true, sym, ◌∙◌, subst, arith}
use Rattle.std.specs.List.{list_any, list_all}
use Rattle.std.proofs.lemmas.List.{take_all}
use Rattle.pm_plan.specs.References.{same_pair, paired}
use Rattle.pm_plan.specs.Fitting.{shifted}
use Rattle.pm_plan.proofs.Lists.{take_whole, all_next_at, all_broken_at}
use Rattle.pm_plan.proofs.Referring.{length-paired}
use Rattle.pm_joining.proofs.references.are_compared.Goals as goal

pub returns-in_default : goal.returns-in_default
returns-in_default c =
    let all = paired c.args.reference.now.columns c.args.reference.now.keys in
    sym (subst (λ ps. list_all (λ other. list_any (λ pair. same_pair other (shifted c.args.from pair)) c.args.pairs.now) ps ≡ true)
    (take_whole all c.loop-i.i c.in_default.ensures) c.loop-i.invariant)

pub returns-then-not-is_compared : goal.returns-then-not-is_compared
returns-then-not-is_compared c = sym (all_broken_at _ _ c.loop-i.i c.in-Some.other c.in-Some.ensures (sym c.is_compared.ensures ∙ c.if-not-is_compared.true))

pub loop-i-preserved : goal.loop-i-preserved
loop-i-preserved c = all_next_at _ _ c.loop-i.i c.in-Some.other c.in-Some.ensures c.loop-i.invariant (sym c.is_compared.ensures ∙ c.if-not-is_compared.false)

pub returns : goal.returns
returns c =
    let all = paired c.args.reference.now.columns c.args.reference.now.keys in
    let few = length-paired c.args.reference.now.columns c.args.reference.now.keys in
    sym (subst (λ ps. list_all (λ other. list_any (λ pair. same_pair other (shifted c.args.from pair)) c.args.pairs.now) ps ≡ true)
    (take_all c.loop-i.i all (omega arith)) c.loop-i.invariant)
