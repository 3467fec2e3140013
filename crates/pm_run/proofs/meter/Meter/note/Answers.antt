use Rattle.std.proofs.Common.{◌-◌, length, sym, ap, subst, arith}
use Rattle.pm_plan.specs.Preorder.{tree_of}
use Rattle.pm_work.specs.Moments.{gauges_at}
use Rattle.pm_refine.specs.Refining.{IsOneEvent}
use Rattle.pm_run.specs.IsBounding.{IsBoundingBefore}
use Rattle.pm_run.proofs.Moments.{last_event_is, last_node_is}
use Rattle.pm_run.proofs.meter.Meter.note.Goals as goal

pub note-requires-clause-first : goal.note-requires-clause-first
note-requires-clause-first c =
    let e = c.args.exec.now in
    (last_node_is e.plan e.db c.gauges.ensures.fits c.gauges.ensures.tables e.taken c.args.node c.requires.last).first

pub note-requires-clause-last : goal.note-requires-clause-last
note-requires-clause-last c =
    let e = c.args.exec.now in
    omega (
      arith,
      (last_node_is e.plan e.db c.gauges.ensures.fits c.gauges.ensures.tables e.taken c.args.node c.requires.last).last,
      ap (λ p. length p.nodes) c.requires.plan,
    )

pub note-requires-clause-event : goal.note-requires-clause-event
note-requires-clause-event c =
    let e = c.args.exec.now in
    let before = gauges_at e.db (tree_of e.plan.nodes) (e.taken - 1) in
    subst (λ p. IsBoundingBefore p c.args.node c.gauges.result.now c.args.self.now.bounding) (sym c.requires.plan)
    (record {
      before = before;
      bounding = c.requires.before.bounding;
      event =
          subst (λ gauges. IsOneEvent e.plan c.args.node before gauges) (sym c.gauges.ensures.gauges)
          (last_event_is e.plan e.db c.gauges.ensures.fits c.gauges.ensures.tables e.taken c.args.node c.requires.last);
    })
