use Rattle.std.proofs.Common.{◌∙◌, sym, subst}
use Rattle.pm_work.specs.Fits.{Fits}
use Rattle.pm_operator_tests.proofs.Examples.{joined_fits}
use Rattle.pm_operator_tests.proofs.exec.joined_with_none.Goals as goal

pub seek_indexes-requires-clause-fits : goal.seek_indexes-requires-clause-fits
seek_indexes-requires-clause-fits c =
    subst (Fits c.in_ok-plan.plan) (sym c.in_ok-db.ensures)
    (joined_fits c.in_ok-plan.plan (record {
      nodes = c.in_ok-plan.ensures.nodes ∙ c.in_ok-joined_nodes.ensures;
      kinds = c.in_ok-plan.ensures.kinds;
      heads = c.in_ok-plan.ensures.heads;
    }))

pub run_through-requires-clause-fits : goal.run_through-requires-clause-fits
run_through-requires-clause-fits c =
    subst (Fits c.in_ok-plan.plan) (sym c.in_ok-db.ensures)
    (joined_fits c.in_ok-plan.plan (record {
      nodes = c.in_ok-plan.ensures.nodes ∙ c.in_ok-joined_nodes.ensures;
      kinds = c.in_ok-plan.ensures.kinds;
      heads = c.in_ok-plan.ensures.heads;
    }))
