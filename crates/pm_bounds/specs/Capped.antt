-- sums and products that stop at a greatest number, as they are computed
use Rattle.std.specs.Prelude.{ℕ, ◌+◌, ◌≤◌, List, [], ◌∷◌, min, All}
use Rattle.pm_plan.specs.Tree.{Tree, EachAt, list_in}
use Rattle.pm_work.specs.Formulas.{Arithmetic}
use Rattle.pm_work.specs.Moments.{Gauges}
use Rattle.pm_work.specs.First.{Sizes, first_hi, first_seek}
use Rattle.pm_bounds.specs.Bounds.{hi, hi_of_seek}

-- no upper bound is above this number
abbrev pub AllUpTo : ℕ → Tree → ℕ → Gauges → Type 0
AllUpTo top tree n G = EachAt (λ t m. hi t m G ≤ top) (λ left seek m. hi_of_seek left seek m G ≤ top) tree n

-- no table has more rows than this number
abbrev pub SizesUpTo : ℕ → Sizes → Type 0
SizesUpTo top sizes = All (λ size. size ≤ top) sizes

abbrev pub capped_sum : ℕ → List ℕ → ℕ
capped_sum top [] = 0
capped_sum top (x ∷ xs) = min top (x + capped_sum top xs)

-- the first bounds of all nodes, in preorder
abbrev pub first_bounds : Arithmetic → Sizes → Tree → List ℕ
first_bounds a sizes tree = list_in (λ t. first_hi a sizes t ∷ []) (λ left seek. first_seek a sizes seek (first_hi a sizes left) ∷ []) tree
