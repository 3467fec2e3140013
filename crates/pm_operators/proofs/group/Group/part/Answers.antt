use Rattle.pm_operators.proofs.GroupSteps.{group_kept, no_group_kept}
use Rattle.pm_operators.proofs.group.Group.part.Goals as goal

pub returns-in-Some : goal.returns-in-Some
returns-in-Some c = rw (← c.self.view_is) (group_kept c.self.inside c.self.invariant c.in-Some.group c.in-Some.is)

pub returns-in-None : goal.returns-in-None
returns-in-None c = rw (← c.self.view_is) (no_group_kept c.self.inside c.self.invariant c.in-None.is)
