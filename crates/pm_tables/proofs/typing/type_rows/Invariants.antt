use Rattle.std.proofs.Common.{slice_range}
use Rattle.pm_tables.specs.Typing.{WritesRows}
use Rattle.pm_tables.proofs.typing.type_rows.Given as goal

abbrev pub invariant-loop-at : goal.invariant-loop-at
invariant-loop-at l = WritesRows l.decl.columns (slice_range l.list l.fn.from l.at) l.rows
