use Rattle.pm_refine.proofs.Example.{is_before}
use Rattle.pm_plan_tests.proofs.refine.after_events.Goals as goal

pub after-requires-clause-event : goal.after-requires-clause-event
after-requires-clause-event c =
    is_before c.args.refiner.now c.args.t c.args.node c.args.gauges.now c.requires.example c.requires.stands c.requires.left c.requires.event c.requires.gauges
