use Rattle.pm_bounds.proofs.BoundLists.{length-bounds_of, are_bounds}
use Rattle.pm_bounds.proofs.laws.bounds_are_read.Goals as goal

pub returns : goal.returns
returns c = record {
  bounds = λ tree G. are_bounds G tree;
  each_node = λ tree n G. length-bounds_of G tree n;
}
