use Rattle.std.proofs.Common.{sym, subst}
use Rattle.pm_plan.specs.Preorder.{tree_of}
use Rattle.pm_work.specs.Moments.{gauge_in}
use Rattle.pm_work.specs.Work.{whole_work}
use Rattle.pm_bounds.specs.Enclosure.{Encloses}
use Rattle.pm_bounds.specs.Moment.{AllEnclosedBy, bound_in}
use Rattle.pm_bounds.proofs.Written.{enclosed_by, whole_encloses}
use Rattle.pm_refine.specs.Refining.{bound_of_whole}
use Rattle.pm_refine.proofs.laws.refined_bounds_enclose.Goals as goal

pub returns : goal.returns
returns c = record {
  each = λ r gauges db K s a.
      subst (λ bounds. AllEnclosedBy db (tree_of r.plan.nodes) (gauge_in gauges) (bound_in bounds)) (sym s.bounds_are) (enclosed_by r.plan gauges s.moment db K a);
  whole = λ r gauges db K s a.
      subst (λ w. Encloses w.work (bound_of_whole w) (whole_work db (tree_of r.plan.nodes))) (sym s.whole_is) (whole_encloses r.plan gauges s.moment db K a);
}
