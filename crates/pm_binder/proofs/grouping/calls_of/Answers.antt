use Rattle.std.proofs.Common.{◌++◌, [], fold, ◌∙◌, ap, sym}
use Rattle.pm_query.specs.Bound.{same_aggregate}
use Rattle.pm_names.specs.Breaches.{added}
use Rattle.pm_binder.specs.Grouping.{placed_calls, ordered_calls}
use Rattle.pm_names.proofs.Once.{once_fold, equal_aggregates}
use Rattle.pm_binder.proofs.grouping.calls_of.Goals as goal

pub returns : goal.returns
returns c =
    let t = c.args.terms.now in
    let whole =
    once_fold same_aggregate equal_aggregates (placed_calls t.items ++ placed_calls t.havings) (ordered_calls t.orders)
    ∙ ap (λ s. fold (added same_aggregate) s (ordered_calls t.orders)) (
    once_fold same_aggregate equal_aggregates (placed_calls t.items) (placed_calls t.havings)
    ∙ ap (λ s. fold (added same_aggregate) s (placed_calls t.havings)) (once_fold same_aggregate equal_aggregates [] (placed_calls t.items))) in
    c.in_ok-push_ordered.ensures
    ∙ rw (c.as_slice-3.ensures, c.in_ok-push_placed-2.ensures, c.as_slice-2.ensures, c.in_ok-push_placed.ensures, c.as_slice.ensures, c.new-calls.ensures) (sym whole)
