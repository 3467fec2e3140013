use Rattle.pm_binder.proofs.DeclaredTables.{declared_are_tables}
use Rattle.pm_binder.proofs.laws.declared_are_tables.Goals as goal

pub returns : goal.returns
returns c tokens schema declares = declared_are_tables tokens schema declares
