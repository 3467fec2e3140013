use Rattle.pm_plan.proofs.Preorders.{tree_of-nodes_of, length-nodes_of, IsTreeAt-tree_of}
use Rattle.pm_plan.proofs.laws.preorder_is_read.Goals as goal

pub returns : goal.returns
returns c = record { tree = tree_of-nodes_of; number = length-nodes_of; stands = IsTreeAt-tree_of }
