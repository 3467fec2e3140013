use Rattle.std.proofs.Common.{◌∙◌, ◌+◌, ◌-◌, ap, arith, get_or}
use Rattle.std.specs.Prelude.{slice_set}
use Rattle.pm_plan.specs.declared.gauge.Gauge.{Gauge}
use Rattle.pm_exec.proofs.NoteLists.{zeros, one_more, changed_at, noted_alone, noted_both, handed_fits, settled_fits}
use Rattle.pm_exec.proofs.gauges.note.Goals as goal

pub overflow_add-gauges : goal.overflow_add-gauges
overflow_add-gauges c = omega (arith, handed_fits c.args.taken c.args.gauges.now c.requires.among c.requires.counted)

pub overflow_add-gauge : goal.overflow_add-gauge
overflow_add-gauge c = omega (arith, settled_fits c.args.taken c.args.gauges.now c.requires.among c.requires.counted (omega (arith, c.if-taken-ne0.true)))

pub returns-then-taken-ne0 : goal.returns-then-taken-ne0
returns-then-taken-ne0 c =
    let gs = c.args.gauges.now in
    let own = changed_at one_more (c.args.taken.node - 1) gs in
    let g : Gauge = get_or own (c.args.taken.reader - 1) zeros in
    ap (λ w. slice_set own (c.args.taken.reader - 1) (record { handed = g.handed; settled = g.settled + c.args.taken.settled; worst = w; size = g.size })) c.max-gauge.ensures
    ∙ noted_both c.args.taken gs c.requires.among (omega (arith, c.if-taken-ne0.true))

pub returns-else-taken-ne0 : goal.returns-else-taken-ne0
returns-else-taken-ne0 c = noted_alone c.args.taken c.args.gauges.now c.requires.among (omega (arith, c.if-taken-ne0.false))
