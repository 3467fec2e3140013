use Rattle.std.proofs.Common.{◌∙◌, ap, arith}
use Rattle.pm_work.specs.Formulas.{up_to}
use Rattle.pm_work.specs.First.{first_seek, greatest}
use Rattle.pm_joining.specs.Trees.{seek_of, tree_of}
use Rattle.pm_build.proofs.Capped.{few_rows, seek_is}
use Rattle.pm_build.proofs.first.first_seek.Goals as goal

pub returns : goal.returns
returns c =
    c.seek_hi.ensures
    ∙ ap (first_seek (up_to greatest) c.args.sizes.now (seek_of c.args.seek.now)) c.capped_hi.ensures
    ∙ seek_is c.args.sizes.now (few_rows c.args.sizes.now (λ k l. omega (arith, c.type_inv.sizes k))) (tree_of c.args.left.now) (seek_of c.args.seek.now)
