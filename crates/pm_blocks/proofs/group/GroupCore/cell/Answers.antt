use Rattle.std.proofs.Common.{◌+◌, ◌-◌, ◌*◌, ◌<◌, length, get_or, [], ap, sym, ◌∙◌, arith}
use Rattle.pm_values.specs.Row.{cell}
use Rattle.pm_blocks.specs.GroupState.{GroupState}
use Rattle.pm_blocks.proofs.Groups.{length-groups, cell-key, cell-accumulator, group_before}
use Rattle.pm_blocks.proofs.group.GroupCore.cell.Goals as goal

pub overflow_cast-group : goal.overflow_cast-group
overflow_cast-group c =
    let inside = c.self.inside in
    omega (arith, length-groups (length inside.items) inside.table.keys inside.accumulators.items, ap (λ (s : GroupState). length s.groups) c.self.view_is, c.self.invariant.small)

pub cell-requires-clause-number : goal.cell-requires-clause-number
cell-requires-clause-number c =
    let inside = c.self.inside in
    omega (arith, length-groups (length inside.items) inside.table.keys inside.accumulators.items, ap (λ (s : GroupState). length s.groups) c.self.view_is)

pub accumulator_at-requires : goal.accumulator_at-requires
accumulator_at-requires c =
    let inside = c.self.inside in
    let there : c.args.group < length inside.table.keys =
    omega (arith, length-groups (length inside.items) inside.table.keys inside.accumulators.items, ap (λ (s : GroupState). length s.groups) c.self.view_is) in
    let columns = ap (λ (s : GroupState). length s.keys + length s.items) c.self.view_is in
    let start = ap (λ w. c.args.group * w) c.len.ensures in
    omega (arith, start, columns, c.requires.column, c.self.invariant.width, c.width-width.ensures.value, c.if-column-width.false, c.self.invariant.whole, ap length c.as_slice.ensures.value, group_before (length inside.items) c.args.group (length inside.table.keys) there)

pub returns-then-column-width : goal.returns-then-column-width
returns-then-column-width c =
    let inside = c.self.inside in
    let there : c.args.group < length inside.table.keys =
    omega (arith, length-groups (length inside.items) inside.table.keys inside.accumulators.items, ap (λ (s : GroupState). length s.groups) c.self.view_is) in
    c.cell.ensures
    ∙ sym (cell-key inside.table.width (length inside.items) inside.table.keys inside.accumulators.items c.args.group c.args.column c.width-width.ensures.wide there (omega (arith, c.width-width.ensures.value)))
    ∙ ap (λ (s : GroupState). cell (get_or s.groups c.args.group []) c.args.column) c.self.view_is

pub returns-else-column-width : goal.returns-else-column-width
returns-else-column-width c =
    let inside = c.self.inside in
    let there : c.args.group < length inside.table.keys =
    omega (arith, length-groups (length inside.items) inside.table.keys inside.accumulators.items, ap (λ (s : GroupState). length s.groups) c.self.view_is) in
    let columns = ap (λ (s : GroupState). length s.keys + length s.items) c.self.view_is in
    c.accumulator_at.ensures
    ∙ ap (λ accumulators. cell accumulators (c.args.group * c.len.result + (c.args.column - c.width-width.result))) c.as_slice.ensures.value
    ∙ ap (λ w. cell inside.accumulators.items (c.args.group * w + (c.args.column - c.width-width.result))) c.len.ensures
    ∙ ap (λ width. cell inside.accumulators.items (c.args.group * length inside.items + (c.args.column - width))) c.width-width.ensures.value
    ∙ sym (cell-accumulator inside.table.width (length inside.items) inside.table.keys inside.accumulators.items c.args.group c.args.column c.width-width.ensures.wide there
    (omega (arith, c.width-width.ensures.value, c.if-column-width.false)) (omega (arith, columns, c.requires.column, c.self.invariant.width)))
    ∙ ap (λ (s : GroupState). cell (get_or s.groups c.args.group []) c.args.column) c.self.view_is
