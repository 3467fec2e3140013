use Rattle.std.proofs.Common.{◌∙◌, sym, ap}
use Rattle.std.specs.Prelude.{nat_eq}
use Rattle.std.specs.List.{list_any, list_all}
use Rattle.pm_plan.specs.Unique.{key_within, key_of}
use Rattle.pm_joining.specs.Sides.{side_column, side_columns}
use Rattle.pm_joining.proofs.Listed.{key_side}
use Rattle.pm_joining.proofs.uniqueness.is_key_among.Goals as goal

pub returns-in-Some-key : goal.returns-in-Some-key
returns-in-Some-key c =
    let side = c.args.side in
    let pairs = c.args.pairs.now in
    let columns = side_columns side pairs in
    c.are_among.ensures
    ∙ ap (list_all (λ k. list_any (λ pair. nat_eq k (side_column side pair)) pairs)) c.as_slice.ensures
    ∙ key_side side pairs c.in-Some-key.key.now
    ∙ sym (ap (key_within columns) c.in-Some-key.ensures.value)
    ∙ ap (λ o. key_within columns (key_of o)) c.in-Some.ensures
