use Rattle.pm_tables.proofs.KeyOrders.{AreLeast}
use Rattle.pm_tables.proofs.table.least_repeat.Given as goal

abbrev pub invariant-loop-next : goal.invariant-loop-next
invariant-loop-next l = AreLeast l.columns l.rows l.order l.next l.least
