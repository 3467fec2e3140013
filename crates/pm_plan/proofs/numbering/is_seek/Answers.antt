use Rattle.std.proofs.Common.{◌≡◌, ap, ◌∙◌, Some, arith}
use Rattle.std.proofs.lemmas.Bool.Decides.{nat_tests}
use Rattle.pm_plan.specs.Tree.{Seek}
use Rattle.pm_plan.specs.Preorder.{seek_node}
use Rattle.pm_plan.proofs.Inversion.{found_is}
use Rattle.pm_plan.proofs.numbering.is_seek.Goals as goal

pub returns-in-Seek : goal.returns-in-Seek
returns-in-Seek c =
    let e = found_is c.in-Some.ensures.node c.in-Seek.is in
    let s : Seek = record { table = c.in-Seek.table; label = c.in-Seek.label.now; on = record { pairs = c.in-Seek.pairs.now; unique = c.in-Seek.unique } } in (
      λ same. let k : c.in-Seek.own ≡ c.args.left = grind (arith, nat_tests) in (s, e ∙ ap (λ m. Some (seek_node s m)) k),
      λ found. let f = found.1 in let k : c.in-Seek.own ≡ c.args.left = cc in grind (arith, nat_tests),
    )
