use Rattle.std.proofs.Common.{◌≡◌, ◌-◌, ◌≤◌, ◌++◌}
use Rattle.pm_io.specs.Sink.{gained}
use Rattle.pm_plan.specs.Preorder.{tree_of}
use Rattle.pm_work.specs.Work.{whole_work}
use Rattle.pm_run.specs.declared.run.Stage.TheVariants.{Going}
use Rattle.pm_run.specs.Text.{head_text, lines_until}
use Rattle.pm_run.proofs.run.run_over.Given as goal

-- the run goes on, and the lines of the events so far were written
abbrev pub invariant-loop-run : goal.invariant-loop-run
invariant-loop-run g l =
    let written = g.S.Sink.written in
    let faults = g.S.Sink.faults in
    record {
      going : l.run ≡ record { plan = l.plan; db = l.db; every = l.fn.every; taken = l.run.taken; stage = Going };
      within : l.run.taken ≤ whole_work l.db (tree_of l.plan.nodes);
      lines : written l.sink ≡ gained (written l.fn.sink) (head_text l.plan ++ lines_until l.plan l.db l.fn.every l.run.taken);
      faults : faults l.fn.sink ≤ faults l.sink;
    }

abbrev pub decreases-loop-run : goal.decreases-loop-run
decreases-loop-run g l = whole_work l.db (tree_of l.plan.nodes) - l.run.taken
