use Rattle.std.proofs.Common.{◌<◌, ◌≤◌, ℕ, List, false, length, All, sym, subst, arith, rules}
use Rattle.std.proofs.lemmas.List.{get_or-map, length-map}
use Rattle.pm_plan.specs.declared.plan.SortKey.{SortKey}
use Rattle.pm_values.specs.Row.{AllBelow}
use Rattle.pm_blocks.specs.SortedNumbers.{sort_columns}
use Rattle.pm_operator_tests.proofs.blocks.sorted.Goals as goal

columns_below : (keys : List SortKey) (width : ℕ) → All (λ (key : SortKey). key.column < 2) keys → 2 ≤ width → AllBelow (sort_columns keys) width
columns_below keys width all wide k h =
    let first : SortKey = record { column = 0; descending = false } in
    let within : k < length keys = omega (arith, length-map keys (λ (key : SortKey). key.column)) in
    omega (arith, get_or-map (λ (key : SortKey). key.column) keys k first 0 within, all k first within)

pub take-requires-clause-within : goal.take-requires-clause-within
take-requires-clause-within c =
    let wide : 2 ≤ length c.row-item.result = search rules in
    columns_below c.loop-row.core.keys (length c.row-item.result) (subst (All (λ (key : SortKey). key.column < 2)) (sym c.loop-row.invariant.keys_kept) c.requires.columns) wide
