use Rattle.std.proofs.Common.{◌∙◌, map, refl}
use Rattle.pm_plan.specs.References.{paired, pairs_within}
use Rattle.pm_plan.specs.Fitting.{shifted}
use Rattle.pm_plan.proofs.Referring.{pairs_within-left, pairs_within-right}
use Rattle.pm_plan.proofs.Tests.{and_true, and_false}
use Rattle.pm_joining.proofs.references.are_pairs_of.Goals as goal

pub returns-then-are_referring : goal.returns-then-are_referring
returns-then-are_referring c =
    let from = c.args.from in
    let pairs = c.args.pairs.now in
    let all = paired c.args.reference.now.columns c.args.reference.now.keys in
    and_true (c.are_referring.ensures ∙ pairs_within-left from pairs all) c.if-are_referring.true (c.are_compared.ensures ∙ pairs_within-right from pairs all) refl

pub returns-else-are_referring : goal.returns-else-are_referring
returns-else-are_referring c =
    let from = c.args.from in
    let pairs = c.args.pairs.now in
    let all = paired c.args.reference.now.columns c.args.reference.now.keys in
    and_false (pairs_within all (map (shifted from) pairs)) (c.are_referring.ensures ∙ pairs_within-left from pairs all) c.if-are_referring.false refl
