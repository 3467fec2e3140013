use Rattle.std.proofs.Common.{◌+◌}
use Rattle.pm_run.proofs.Meters.{after-look}
use Rattle.pm_run.proofs.run.Run.whole.Goals as goal

pub returns-clause-value : goal.returns-clause-value
returns-clause-value c = rw (← c.self.view_is) c.whole.ensures.value

pub invariant_of-self : goal.invariant_of-self
invariant_of-self c =
    let e = c.self.inside.exec in
    record {
      plan = c.self.invariant.plan;
      meter = after-look e.plan e.db e.taken c.self.inside.meter c.whole.new.self c.whole.ensures.same c.whole.ensures.bounding (e.taken + 1) c.self.invariant.meter;
      sound = c.self.invariant.sound;
    }
