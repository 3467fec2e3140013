use Rattle.std.proofs.Common.{length, refl, sym, ap, subst, ◌∙◌}
use Rattle.pm_plan.specs.Preorder.{tree_of, IsNumbered}
use Rattle.pm_estim.specs.Lists.{pipes_in}
use Rattle.pm_plan_tests.proofs.estim.join_pipes.Goals as goal

pub of-requires : goal.of-requires
of-requires c = subst IsNumbered (sym c.in_ok-join_nodes.ensures) refl

pub returns : goal.returns
returns c = ap length (c.in_ok-pipes.ensures ∙ ap (λ nodes. pipes_in (tree_of nodes)) c.in_ok-join_nodes.ensures)
