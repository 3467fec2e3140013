use Rattle.std.proofs.Common.{sym, ap, subst, ◌∙◌, arith}
use Rattle.pm_plan.specs.Preorder.{tree_of}
use Rattle.pm_work.specs.Work.{whole_work}
use Rattle.pm_bounds.specs.Enclosure.{Encloses}
use Rattle.pm_bounds.proofs.Written.{sums_are, sums_small, whole_encloses}
use Rattle.pm_bounds.proofs.all.whole.Goals as goal

pub sums-requires-clause-work : goal.sums-requires-clause-work
sums-requires-clause-work c =
    let small = sums_small c.args.plan.now c.args.gauges.now c.requires.moment in
    omega (arith, ap (λ w. w.work) (sums_are c.args.plan.now c.args.gauges.now c.requires.moment c.args.bounds.now c.requires.bounds), small.work)

pub sums-requires-clause-lo : goal.sums-requires-clause-lo
sums-requires-clause-lo c =
    let small = sums_small c.args.plan.now c.args.gauges.now c.requires.moment in
    omega (arith, ap (λ w. w.lo) (sums_are c.args.plan.now c.args.gauges.now c.requires.moment c.args.bounds.now c.requires.bounds), small.lo)

pub sums-requires-clause-hi : goal.sums-requires-clause-hi
sums-requires-clause-hi c =
    let small = sums_small c.args.plan.now c.args.gauges.now c.requires.moment in
    omega (arith, ap (λ w. w.hi) (sums_are c.args.plan.now c.args.gauges.now c.requires.moment c.args.bounds.now c.requires.bounds), small.hi)

pub returns-clause-exact : goal.returns-clause-exact
returns-clause-exact c = c.sums.ensures ∙ sums_are c.args.plan.now c.args.gauges.now c.requires.moment c.args.bounds.now c.requires.bounds

pub returns-clause-encloses : goal.returns-clause-encloses
returns-clause-encloses c = λ db K a.
    subst (λ w. Encloses w.work (record { lo = w.lo; hi = w.hi }) (whole_work db (tree_of c.args.plan.now.nodes)))
    (sym (c.sums.ensures ∙ sums_are c.args.plan.now c.args.gauges.now c.requires.moment c.args.bounds.now c.requires.bounds))
    (whole_encloses c.args.plan.now c.args.gauges.now c.requires.moment db K a)
