use Rattle.pm_blocks.proofs.Groups.{grouped-old, grouped-new}
use Rattle.pm_blocks.proofs.laws.groups_of_one_more_row.Goals as goal

pub returns : goal.returns
returns c = record { old = grouped-old; new = grouped-new }
