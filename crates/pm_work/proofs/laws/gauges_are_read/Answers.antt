use Rattle.pm_work.proofs.Gauges.{length-gauges_of, has_gauges}
use Rattle.pm_work.proofs.laws.gauges_are_read.Goals as goal

pub returns : goal.returns
returns c = record {
  gauges = λ db tree K. has_gauges db K tree;
  each_node = λ db tree n K. length-gauges_of db K tree n;
}
