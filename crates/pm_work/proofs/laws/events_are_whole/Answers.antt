use Rattle.pm_work.proofs.EventLaws.{rows_at-events}
use Rattle.pm_work.proofs.Counting.{length-events, events_each}
use Rattle.pm_work.proofs.laws.events_are_whole.Goals as goal

pub returns : goal.returns
returns c = record {
  work = λ db tree. length-events db tree 1;
  rows = λ db tree. rows_at-events db tree 1;
  rows_of_each = λ db tree. events_each db tree 1;
}
