-- the first bounds that stop at the greatest number, as they are computed
use Rattle.std.proofs.Common.{◌≡◌, ◌≤◌, ◌<◌, ◌^◌, ◌+◌, ◌-◌, ◌*◌, ℕ, suc, zero, Bool, true, false, List, [], ◌∷◌, ◌++◌, min, max, get_or, length, Option, None, Some, refl, sym, ap, ◌∙◌, inl, inr, arith}
use Rattle.std.specs.Prelude.{All, nat_lt, nat_le, find}
use Rattle.std.proofs.lemmas.Bool.Decides.{nat_tests}
use Rattle.std.proofs.lemmas.List.Elements.{All-nil, All-cons}
use Rattle.pm_plan.specs.Tree.{Tree, Scan, Over, Join, Index, Seek}
use Rattle.pm_work.specs.Formulas.{exact, up_to}
use Rattle.pm_work.specs.First.{Sizes, first_hi, first_seek, first_sum, greatest, most_work}
use Rattle.pm_bounds.specs.Capped.{SizesUpTo}
use Rattle.pm_bounds.proofs.Caps.{first_capped_is, first_seek_is}

-- sizes of 64 bits are far below the greatest number
pub few_rows : (sizes : List ℕ) → ((k : ℕ) → k < length sizes → get_or sizes k 0 < 2 ^ 64) → SizesUpTo greatest sizes
few_rows [] h = All-nil (λ size. size ≤ greatest)
few_rows (x ∷ sizes) h =
    let here : x < 2 ^ 64 = h 0 (omega arith) in
    All-cons (λ size. size ≤ greatest) x sizes (omega (arith, here)) (few_rows sizes (λ k l. h (suc k) (omega arith)))

-- nothing is counted: only the product is left
pub pairs_alone : (l r : ℕ) → min greatest (0 + min greatest (min greatest ((l - 0) * r) + min greatest (0 * (r - 0)))) ≡ min (l * r) greatest
pairs_alone l r =
    let z : l - 0 ≡ l = omega arith in
    let t : 0 * (r - 0) ≡ 0 = omega arith in
    ap (λ x. min greatest (0 + min greatest (min greatest (x * r) + min greatest (0 * (r - 0))))) z
    ∙ ap (λ x. min greatest (0 + min greatest (min greatest (l * r) + min greatest x))) t ∙ (omega arith)

pub rate_alone : (l m : ℕ) → min greatest (0 + min greatest ((l - 0) * m)) ≡ min (l * m) greatest
rate_alone l m = let z : l - 0 ≡ l = omega arith in ap (λ x. min greatest (0 + min greatest (x * m))) z ∙ (omega arith)

pub rows_alone : (r : ℕ) → r ≤ greatest → min greatest (0 + (r - 0)) ≡ r
rows_alone r h = omega (arith, h)

module _ (sizes : Sizes) (few : SizesUpTo greatest sizes) where
  pub hi_is : (tree : Tree) → first_hi (up_to greatest) sizes tree ≡ min greatest (first_hi exact sizes tree)
  hi_is tree = first_capped_is greatest (omega arith) sizes few tree

  pub seek_is : (left : Tree) (seek : Seek) → first_seek (up_to greatest) sizes seek (first_hi (up_to greatest) sizes left) ≡ min greatest (first_seek exact sizes seek (first_hi exact sizes left))
  seek_is left seek = first_seek_is greatest (omega arith) sizes few left seek

-- the root's is one of those that are added up
pub hi_within : (sizes : Sizes) (tree : Tree) → first_hi exact sizes tree ≤ first_sum sizes tree
hi_within sizes (Scan table label) = omega arith
hi_within sizes (Over op child) = omega arith
hi_within sizes (Join method on left right) = omega arith
hi_within sizes (Index left seek cond) = omega arith
