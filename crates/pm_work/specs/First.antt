-- the first bounds: the upper bounds where nothing is counted, which follow from the sizes of the tables alone
use Rattle.std.specs.Prelude.{ℕ, ◌-◌, ◌^◌, Bool, true, false, nat_lt, if◌then◌else◌, List, [], ◌∷◌, get_or, min, find, Option, Some}
use Rattle.std.specs.List.{list_any}
use Rattle.pm_plan.specs.declared.gauge.Gauge.{Gauge}
use Rattle.pm_plan.specs.declared.plan.Aggregate.{Aggregate}
use Rattle.pm_plan.specs.declared.plan.Aggregate.TheVariants as aggregate
use Rattle.pm_plan.specs.Tree.{Unary, Filter, Project, Sort, Group, Tree, Scan, Over, Join, Index, Seek, sum_in, list_in}
use Rattle.pm_work.specs.Formulas.{Arithmetic, exact, Side, hi_over, hi_joined, seek_hi, index_hi}

-- a size of each table, in rows
abbrev pub Sizes : Type 0
Sizes = List ℕ

abbrev pub size_in : Sizes → ℕ → ℕ
size_in sizes table = get_or sizes table 0

-- nothing is counted and nothing is settled
abbrev pub unstarted : Gauge
unstarted = record { handed = 0; settled = 0; worst = 0; size = 0 }

abbrev pub uncounted : ℕ → Side
uncounted hi = record { count = 0; hi = hi }

-- the most rows of one key: one where the KEY says so, and else all
abbrev pub first_worst : Bool → ℕ → ℕ
first_worst true size = 1
first_worst false size = size

abbrev pub unstarted_seek : Seek → ℕ → Gauge
unstarted_seek seek size = record { handed = 0; settled = 0; worst = first_worst seek.on.unique.right size; size = size }

-- of a Seek, from its left side's
abbrev pub first_seek : Arithmetic → Sizes → Seek → ℕ → ℕ
first_seek n sizes seek left = seek_hi n seek.on.unique (unstarted_seek seek (size_in sizes seek.table)) (uncounted left)

-- of the tree's root
abbrev pub first_hi : Arithmetic → Sizes → Tree → ℕ
first_hi n sizes (Scan table label) = size_in sizes table
first_hi n sizes (Over op child) = hi_over n op unstarted (uncounted (first_hi n sizes child))
first_hi n sizes (Join method on left right) =
    hi_joined n method on.unique unstarted (uncounted (first_hi n sizes left)) (uncounted (first_hi n sizes right))
first_hi n sizes (Index left seek cond) = index_hi n unstarted (uncounted (first_seek n sizes seek (first_hi n sizes left)))

-- the sum over all nodes, without an upper end
abbrev pub first_sum : Sizes → Tree → ℕ
first_sum sizes tree = sum_in (first_hi exact sizes) (λ left seek. first_seek exact sizes seek (first_hi exact sizes left)) tree

-- the greatest number that is computed with
abbrev pub greatest : ℕ
greatest = 2 ^ 128 - 1

-- of the whole work, and the greatest number where it is above that
abbrev pub first_bound : Sizes → Tree → ℕ
first_bound sizes tree = min greatest (first_sum sizes tree)

-- the most work of a plan that is run, in rows, and the most rows that a sum is taken over
abbrev pub most_work : ℕ
most_work = 10 ^ 34

abbrev pub most_summed : ℕ
most_summed = 10 ^ 18

abbrev pub is_sum : Aggregate → Bool
is_sum (aggregate.Sum column) = true
is_sum aggregate.CountAll = false
is_sum (aggregate.Count column) = false
is_sum (aggregate.Min column) = false
is_sum (aggregate.Max column) = false

abbrev pub has_sum : Unary → Bool
has_sum (Filter cond) = false
has_sum (Project columns) = false
has_sum (Sort keys) = false
has_sum (Group keys items) = list_any is_sum items

-- the first bounds of the rows that sums are taken over
abbrev pub summed_at : Sizes → Tree → List ℕ
summed_at sizes (Scan table label) = []
summed_at sizes (Over op child) = if has_sum op then first_hi exact sizes child ∷ [] else []
summed_at sizes (Join method on left right) = []
summed_at sizes (Index left seek cond) = []

abbrev pub summed_in : Sizes → Tree → List ℕ
summed_in sizes tree = list_in (summed_at sizes) (λ left seek. []) tree

-- the bound for which a plan is too wide: the first bound above the most work, and else that of a sum above the most rows summed
abbrev pub too_wide : Sizes → Tree → Option ℕ
too_wide sizes tree =
    if nat_lt most_work (first_bound sizes tree) then Some (first_bound sizes tree) else find (nat_lt most_summed) (summed_in sizes tree)
