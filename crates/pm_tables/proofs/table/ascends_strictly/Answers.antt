use Rattle.std.proofs.Common.{arith}
use Rattle.pm_tables.proofs.Rising.{rising_is_key}
use Rattle.pm_tables.proofs.table.ascends_strictly.Goals as goal

pub returns : goal.returns
returns c = λ _. rising_is_key c.args.columns.now c.args.rows.now (λ k lt. c.loop-next.invariant k (omega arith))
