use Rattle.std.proofs.Common.{◌≡◌, ℕ, List, Some, sym, ap, ◌∙◌, subst, length}
use Rattle.std.specs.List.{list_any, list_all}
use Rattle.std.specs.Prelude.{nat_eq}
use Rattle.pm_values.specs.Order.{NamesColumns}
use Rattle.pm_plan.specs.Kinds.{columns_or_none}
use Rattle.pm_plan.specs.Unique.{key_within, key_of}
use Rattle.pm_plan.specs.Standing.{AgreeBelow, side_column, side_columns}
use Rattle.pm_plan.proofs.Agreement.{key_same}
use Rattle.pm_plan.proofs.uniqueness.is_key_among.Goals as goal

pub returns-in-Some-key : goal.returns-in-Some-key
returns-in-Some-key c =
    λ columns same. let decl = c.in-Some.decl.now in
    let key : List ℕ = c.in-Some-key.key.now in
    let keyed : decl.key ≡ Some key = c.in-Some-key.ensures.value in
    let wide = length decl.columns in
    let named : NamesColumns (Some key) wide = subst (λ o. NamesColumns o wide) keyed c.in-Some-key.ensures.declared.key_named in
    let near : AgreeBelow wide columns (side_columns c.args.side c.args.pairs.now) =
    subst (λ o. AgreeBelow (length (columns_or_none o)) columns (side_columns c.args.side c.args.pairs.now)) (sym c.in-Some.ensures) same in
    let found = key_same wide key columns c.args.side c.args.pairs.now named near in
    let there = ap (λ o. key_within columns (key_of o)) c.in-Some.ensures in
    let whole = ap (key_within columns) keyed in
    let read = ap (list_all (λ k. list_any (λ pair. nat_eq k (side_column c.args.side pair)) c.args.pairs.now)) c.as_slice.ensures in
    c.are_among.ensures ∙ read ∙ found ∙ sym whole ∙ there
