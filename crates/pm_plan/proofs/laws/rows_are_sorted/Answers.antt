use Rattle.pm_plan.proofs.Sorts.{is_before-order, IsPermutation-sorted, IsSortedBy-sorted, IsStableBy-sorted, sorted-only}
use Rattle.pm_plan.proofs.laws.rows_are_sorted.Goals as goal

pub returns : goal.returns
returns c =
    record { ordered = is_before-order; permutation = IsPermutation-sorted; sorted = IsSortedBy-sorted; stable = IsStableBy-sorted; only = sorted-only }
