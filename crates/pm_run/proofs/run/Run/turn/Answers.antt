use Rattle.std.proofs.Common.{◌+◌, Ok, ap, arith}
use Rattle.pm_run.proofs.Turns.{same-view}
use Rattle.pm_run.proofs.run.Run.turn.Goals as goal

pub returns-in-Spent-clause-at_most_one : goal.returns-in-Spent-clause-at_most_one
returns-in-Spent-clause-at_most_one g c = rw (← c.self.view_is) (omega arith, omega (arith, c.runs_fit.ensures.within))

pub returns-in-Ok-Went : goal.returns-in-Ok-Went
returns-in-Ok-Went g c =
    let a = c.self.inside in
    let t = c.in-Ok-Went.ensures in
    let went = ap Ok c.in-Ok-Went.field-0-is in
    rw (← c.self.view_is)
    (record {
      went = λ is. t.went went;
      took = λ is. same-view a.exec c.take_turn.new.exec a.meter.every c.take_turn.new.meter.every a.stage t.every (a.exec.taken + 1) a.exec.failed (t.took went);
      left = λ is. t.left went;
      ended = λ no. absurd cc;
      over = λ no. absurd cc;
      none_left = λ no. absurd cc;
      spends = tt;
      still = tt;
      same_fault = λ fault is. absurd (c.in_default.not-Spent fault is);
      part = tt;
      taken = λ no. absurd cc;
      at_most_one = (omega (arith, ap (λ e. e.taken) (t.took went)), omega (arith, ap (λ e. e.taken) (t.took went), t.left went));
      failed = λ no. absurd cc;
      faults = t.faults;
    })

pub returns-in-Err : goal.returns-in-Err
returns-in-Err g c =
    let a = c.self.inside in
    let e = c.take_turn.new.exec in
    let t = c.in-Err.ensures in
    rw (← c.self.view_is)
    (record {
      went = λ no. absurd cc;
      took = λ no. absurd cc;
      left = λ no. absurd cc;
      ended = λ no. absurd cc;
      over = λ no. absurd cc;
      none_left = λ no. absurd cc;
      spends = same-view a.exec e a.meter.every c.take_turn.new.meter.every _ t.every e.taken e.failed t.same;
      still = λ is. absurd (c.in_default.not-Spent _ is);
      same_fault = λ fault is. absurd (c.in_default.not-Spent fault is);
      part = t.part;
      taken = λ is going. t.taken is;
      at_most_one = t.at_most_one;
      failed = λ is going. t.failed is;
      faults = t.faults;
    })
