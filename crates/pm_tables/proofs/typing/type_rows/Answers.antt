use Rattle.std.proofs.Common.{◌≡◌, slice_range}
use Rattle.pm_tables.proofs.Fitting.{range_count, rows_fit}
use Rattle.std.proofs.Common.{◌≤◌, ◌<◌, get_or, [], length, arith}
use Rattle.pm_tables.specs.Typing.{WritesRow}
use Rattle.pm_tables.proofs.Rows.{rows_more}
use Rattle.pm_tables.proofs.typing.type_rows.Goals as goal

pub loop-at-preserved : goal.loop-at-preserved
loop-at-preserved c =
    let row : WritesRow c.args.decl.now.columns (get_or c.args.list.now c.loop-at.at []) c.in_ok-type_row.field-0 = rw (← c.columns.ensures.value, ← c.as_slice-columns.ensures, ← c.bounds_of-start.ensures.here) c.in_ok-type_row.ensures in
    let low : c.args.from ≤ c.loop-at.at = c.loop-at.auto.at in
    let high : c.loop-at.at < length c.args.list.now = omega arith in
    rw c.in_ok-push.ensures.ok (rows_more c.args.decl.now.columns c.args.list.now c.loop-at.rows c.args.from c.loop-at.at c.in_ok-type_row.field-0
    c.loop-at.invariant low high row)

pub returns-clause-fit : goal.returns-clause-fit
returns-clause-fit c = rows_fit c.args.decl.now.columns (slice_range c.args.list.now c.args.from c.loop-at.at) c.loop-at.rows c.loop-at.invariant

pub returns-clause-count : goal.returns-clause-count
returns-clause-count c =
    let all : c.loop-at.at ≡ c.args.to = omega arith in
    let rows = rw all at c.loop-at.invariant in
    range_count c.args.decl.now.columns c.args.list.now c.loop-at.rows c.args.from c.args.to c.requires.order c.requires.within rows
