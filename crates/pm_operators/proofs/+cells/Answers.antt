use Rattle.std.proofs.Common.{rules, ◌<◌, length, sym, ◌∙◌}
use Rattle.std.proofs.lemmas.Option.{get_or_from_slice_get, slice_get_within}
use Rattle.pm_flows.proofs.Streams.{cell-pick}
use Rattle.pm_operators.proofs.+cells.Goals as goal

pub project::ProjectCells::cell-cell-requires : goal.project::ProjectCells::cell-cell-requires
project::ProjectCells::cell-cell-requires t c =
    let a = c.self.inside in
    let inside : c.args.at < length a.columns.now = slice_get_within a.columns.now c.args.at c.at.result.now c.at.ensures in
    let column = get_or_from_slice_get a.columns.now c.args.at c.at.result.now 0 c.at.ensures in
    (search rules, (c.self.invariant.few, rw (sym column) (c.self.invariant.within c.args.at inside)))

pub project::ProjectCells::cell-returns : goal.project::ProjectCells::cell-returns
project::ProjectCells::cell-returns t c =
    let a = c.self.inside in
    rw (← c.self.view_is) (c.cell.ensures ∙ cell-pick a.columns.now a.child.hand c.args.at c.at.result.now c.at.ensures)
