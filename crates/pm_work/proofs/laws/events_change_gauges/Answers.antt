use Rattle.pm_work.proofs.Flags.{merges_ascend}
use Rattle.pm_work.proofs.Changes.{gauges_step, node_same, seek_same}
use Rattle.pm_work.proofs.laws.events_change_gauges.Goals as goal

pub returns : goal.returns
returns c = record {
  after = λ db tree done e left sound is. gauges_step db done e left tree 1 (merges_ascend db sound.tables tree sound.operators) is;
  others = λ db tree n K L same. node_same db K L tree n same;
  other_seeks = λ db left seek n K L same. seek_same db K L left seek n same;
}
