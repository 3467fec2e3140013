use Rattle.std.proofs.Common.{◌+◌}
use Rattle.pm_tables.proofs.Decimals.{slice_from}
use Rattle.pm_tables.proofs.field.scaled.Goals as goal

pub returns-in-None : goal.returns-in-None
returns-in-None c = rw (← c.in-None.ensures) c.whole.ensures

pub returns-in-Some : goal.returns-in-Some
returns-in-Some c = rw (← c.in-Some.ensures) (rw (slice_from (c.in-Some.point + 1) c.args.digits.now) at c.decimal.ensures)
