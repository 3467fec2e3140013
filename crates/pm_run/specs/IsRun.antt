-- what is true of every run that writes
use Rattle.std.specs.Prelude.{◌≡◌, ◌+◌, false}
use Rattle.pm_run.specs.IsMeter.{IsMeter}
use Rattle.pm_run.specs.RunState.{RunState, IsUnspent}
use Rattle.pm_run.specs.declared.run.Run.TheInside.{Inside}

abbrev pub run_of : Inside → RunState
run_of a = record { plan = a.exec.plan; db = a.exec.db; every = a.meter.every; taken = a.exec.taken; stage = a.stage }

pub record IsRun (a : Inside) : Type 0 where
  pub plan : a.plan.now ≡ a.exec.plan
  pub meter : IsMeter a.exec.plan a.exec.db a.exec.taken (a.exec.taken + 1) a.meter
  pub sound : IsUnspent a.stage → a.exec.failed ≡ false
