use Rattle.std.proofs.Common.{◌∙◌, sym, subst}
use Rattle.pm_work.specs.Fits.{Fits}
use Rattle.pm_work.proofs.Examples.{counted_left_join_fits}
use Rattle.pm_operator_tests.proofs.exec.counted_left_join.Goals as goal

pub seek_indexes-requires-clause-fits : goal.seek_indexes-requires-clause-fits
seek_indexes-requires-clause-fits c =
    subst (Fits c.in_ok-plan.plan) (sym c.in_ok-db.ensures)
    (counted_left_join_fits c.in_ok-plan.plan (record {
      nodes = c.in_ok-plan.ensures.nodes ∙ c.in_ok-counted_left_join_nodes.ensures;
      kinds = c.in_ok-plan.ensures.kinds;
      heads = c.in_ok-plan.ensures.heads;
    }))

pub run_through-requires-clause-fits : goal.run_through-requires-clause-fits
run_through-requires-clause-fits c =
    subst (Fits c.in_ok-plan.plan) (sym c.in_ok-db.ensures)
    (counted_left_join_fits c.in_ok-plan.plan (record {
      nodes = c.in_ok-plan.ensures.nodes ∙ c.in_ok-counted_left_join_nodes.ensures;
      kinds = c.in_ok-plan.ensures.kinds;
      heads = c.in_ok-plan.ensures.heads;
    }))
