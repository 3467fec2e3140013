use Rattle.std.proofs.Common.{rules}
use Rattle.pm_commands.proofs.Once.{only-one}
use Rattle.pm_commands.proofs.preparing.prepare.Goals as goal

pub returns-in-None-clause-called : goal.returns-in-None-clause-called
returns-in-None-clause-called g c = search rules

pub returns-in-None-clause-only : goal.returns-in-None-clause-only
returns-in-None-clause-only g c = only-one _ _ _ (returns-in-None-clause-called g c)

pub returns-clause-called : goal.returns-clause-called
returns-clause-called g c = search rules

pub returns-clause-only : goal.returns-clause-only
returns-clause-only g c = only-one _ _ _ (returns-clause-called g c)
