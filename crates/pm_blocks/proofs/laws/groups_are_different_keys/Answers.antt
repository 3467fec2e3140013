use Rattle.pm_blocks.proofs.Groups.{length-grouped}
use Rattle.pm_blocks.proofs.laws.groups_are_different_keys.Goals as goal

pub returns : goal.returns
returns c = length-grouped
