use Rattle.std.proofs.Common.{◌∙◌, sym, subst}
use Rattle.pm_work.specs.Fits.{Fits}
use Rattle.pm_work.proofs.Examples.{counted_left_join_fits}
use Rattle.pm_plan_tests.proofs.work.counted_left_join.Goals as goal

pub count_whole-requires : goal.count_whole-requires
count_whole-requires c =
    subst (Fits c.in_ok-plan.plan) (sym c.in_ok-db.ensures)
    (counted_left_join_fits c.in_ok-plan.plan (record {
      nodes = c.in_ok-plan.ensures.nodes ∙ c.in_ok-counted_left_join_nodes.ensures;
      kinds = c.in_ok-plan.ensures.kinds;
      heads = c.in_ok-plan.ensures.heads;
    }))
