use Rattle.std.proofs.Common.{◌∙◌, sym, subst}
use Rattle.pm_work.specs.Fits.{Fits}
use Rattle.pm_work.proofs.Examples.{looked_up_fits}
use Rattle.pm_plan_tests.proofs.work.looked_up.Goals as goal

pub count_whole-requires : goal.count_whole-requires
count_whole-requires c =
    subst (Fits c.in_ok-plan.plan) (sym c.in_ok-db.ensures)
    (looked_up_fits c.in_ok-plan.plan (record {
      nodes = c.in_ok-plan.ensures.nodes ∙ c.in_ok-looked_up_nodes.ensures;
      kinds = c.in_ok-plan.ensures.kinds;
      heads = c.in_ok-plan.ensures.heads;
    }))
