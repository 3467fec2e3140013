use Rattle.std.proofs.Common.{◌≡◌, ◌<◌, ℕ, suc}
use Rattle.std.specs.declared.cmp.Ordering.TheVariants as ordering
use Rattle.pm_values.specs.Order.{key_at, values_cmp}
use Rattle.pm_tables.proofs.table.ascends_strictly.Given as goal

abbrev pub invariant-loop-next : goal.invariant-loop-next
invariant-loop-next l = (k : ℕ) → suc k < l.next → values_cmp (key_at l.columns l.rows k) (key_at l.columns l.rows (suc k)) ≡ ordering.Less
