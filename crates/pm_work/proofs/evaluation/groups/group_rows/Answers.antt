use Rattle.std.proofs.Common.{◌≡◌, ℕ, ◌+◌, ◌<◌, List, [], ◌∷◌, ◌++◌, length, get_or, take, map, sym, ap, ◌∙◌}
use Rattle.std.proofs.lemmas.List.{map_more}
use Rattle.pm_values.specs.Row.{Row}
use Rattle.pm_plan.specs.Grouping.{group_row}
use Rattle.pm_work.proofs.evaluation.groups.group_rows.Goals as goal

-- the row of one more key
one_more : (f : Row → Row) (keys made all : List Row) (i : ℕ) (key row : Row) → i < length keys → key ≡ get_or keys i key → row ≡ f key
    → made ≡ map f (take i keys) → all ≡ made ++ row ∷ [] → all ≡ map f (take (i + 1) keys)
one_more f keys made all i key row within is row_is made_is more =
    more ∙ ap (λ s. s ++ row ∷ []) made_is ∙ ap (λ r. map f (take i keys) ++ r ∷ []) (row_is ∙ ap f is) ∙ sym (map_more f keys i key within)

pub loop-key-preserved : goal.loop-key-preserved
loop-key-preserved c =
    one_more (group_row c.args.keys.now c.args.items.now c.args.rows.now) c.args.found.now _ _ c.loop-key.key-index _ _ c.loop-key-test.true c.key-item.is c.in_ok-group_row.ensures c.loop-key.invariant
    c.in_ok-push.ensures.items
