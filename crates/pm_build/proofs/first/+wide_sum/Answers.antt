use Rattle.std.proofs.Common.{◌∙◌, sym, ap}
use Rattle.std.specs.Prelude.{find, nat_lt}
use Rattle.pm_work.specs.First.{most_summed, summed_in}
use Rattle.pm_joining.specs.declared.tree.Tree.{Tree}
use Rattle.pm_joining.specs.Trees.{tree_of}
use Rattle.pm_build.proofs.Found.{found_left, found_right}
use Rattle.pm_joining.proofs.Shapes.{join_is}
use Rattle.pm_build.proofs.first.+wide_sum.Goals as goal

pub returns-in-Some : goal.returns-in-Some
returns-in-Some t c =
    let sizes = c.args.sizes.now in
    let j = c.in-Join in
    found_left (nat_lt most_summed) (summed_in sizes (tree_of j.left)) (summed_in sizes (tree_of j.right)) c.in-Some.hi
    (c.in-Some.ensures ∙ ap (λ (x : Tree). find (nat_lt most_summed) (summed_in sizes (tree_of x))) c.get-in-Join.ensures)
    ∙ sym (ap (λ x. find (nat_lt most_summed) (summed_in sizes x)) (join_is c.args.tree.now j.method j.on j.left j.right j.is))

pub returns-in-None : goal.returns-in-None
returns-in-None t c =
    let sizes = c.args.sizes.now in
    let j = c.in-Join in
    found_right (nat_lt most_summed) (summed_in sizes (tree_of j.left)) (summed_in sizes (tree_of j.right)) c.wide_sum-in-None.result
    (c.in-None.ensures ∙ ap (λ (x : Tree). find (nat_lt most_summed) (summed_in sizes (tree_of x))) c.get-in-Join.ensures)
    (c.wide_sum-in-None.ensures ∙ ap (λ (x : Tree). find (nat_lt most_summed) (summed_in sizes (tree_of x))) c.get-in-None.ensures)
    ∙ sym (ap (λ x. find (nat_lt most_summed) (summed_in sizes x)) (join_is c.args.tree.now j.method j.on j.left j.right j.is))
