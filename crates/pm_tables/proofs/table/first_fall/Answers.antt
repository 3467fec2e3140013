use Rattle.std.proofs.Common.{◌≡◌, ◌-◌, ◌∙◌, arith, suc}
use Rattle.std.specs.Prelude.{◌≢◌}
use Rattle.std.specs.declared.cmp.Ordering.TheVariants as ordering
use Rattle.pm_values.specs.Order.{key_at, values_cmp}
use Rattle.pm_tables.proofs.KeyOrders.{next_pair}
use Rattle.pm_tables.proofs.table.first_fall.Goals as goal

pub loop-next-preserved : goal.loop-next-preserved
loop-next-preserved c =
    let rows = c.args.rows.now in
    let columns = c.args.columns.now in
    let some : suc (c.loop-next.next - 1) ≡ c.loop-next.next = omega arith in
    next_pair (λ k. values_cmp (key_at columns rows k) (key_at columns rows (suc k)) ≢ ordering.Greater) c.loop-next.next c.loop-next.auto.next c.loop-next.invariant
    (λ e. c.in_default.not-Greater (c.compare_rows.ensures ∙ rw some at e))
