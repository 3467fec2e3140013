use Rattle.std.proofs.Common.{◌∙◌, arith}
use Rattle.pm_joining.specs.Trees.{tree_of}
use Rattle.pm_build.proofs.Capped.{few_rows, hi_is}
use Rattle.pm_build.proofs.first.first_hi.Goals as goal

pub returns : goal.returns
returns c = c.capped_hi.ensures ∙ hi_is c.args.sizes.now (few_rows c.args.sizes.now (λ k l. omega (arith, c.type_inv.sizes k))) (tree_of c.args.tree.now)
