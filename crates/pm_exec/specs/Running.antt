-- what is true of every run
use Rattle.std.specs.Prelude.{◌≡◌, ◌≤◌, ◌<◌, ◌^◌, false, drop, length, All}
use Rattle.pm_values.specs.Table.{IsRelation}
use Rattle.pm_plan.specs.Preorder.{tree_of}
use Rattle.pm_work.specs.Fits.{Fits}
use Rattle.pm_work.specs.Moments.{gauges_at}
use Rattle.pm_flows.specs.Flow.{Flow}
use Rattle.pm_flows.specs.Plan.{coming, ends_free}
use Rattle.pm_exec.specs.Ran.{Ran, run_events, HasRootRow, last_row}
use Rattle.pm_exec.specs.declared.exec.Exec.TheInside.{Inside}

abbrev pub ran_of : Inside → Ran
ran_of a = record { plan = a.plan.now; db = a.db.now; taken = a.taken; failed = a.failed }

-- the root has to come what is left of the events, and its row is at hand
pub record IsRootOf (ran : Ran) (root : Flow) : Type 0 where
  pub node : root.node ≡ 1
  pub rest : root.rest ≡ drop ran.taken (coming ran.db (tree_of ran.plan.nodes) 1)
  pub free_end : root.free_end ≡ ends_free (tree_of ran.plan.nodes)
  pub width : length root.hand ≡ length ran.plan.kinds
  pub hand : HasRootRow ran → root.hand ≡ last_row ran

pub record IsRunning (a : Inside) : Type 0 where
  pub fits : Fits a.plan.now a.db.now
  pub declared : All IsRelation a.db.now
  pub root : a.failed ≡ false → IsRootOf (ran_of a) a.root
  pub gauges : a.gauges.items ≡ gauges_at a.db.now (tree_of a.plan.now.nodes) a.taken
  pub within : a.taken ≤ length (run_events (ran_of a))
  pub few : length (run_events (ran_of a)) < 2 ^ 128
