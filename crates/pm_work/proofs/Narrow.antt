-- what it says that a plan is not too wide: its first bound and the first bounds below its sums are small
use Rattle.std.proofs.Common.{◌≡◌, ◌≤◌, ℕ, Bool, true, false, cond, List, [], ◌∷◌, ◌++◌, min, refl, inl, inr, arith}
use Rattle.std.specs.Prelude.{nat_lt, find, Some, None}
use Rattle.std.proofs.lemmas.Bool.{cases_Bool, ltb-false}
use Rattle.pm_plan.specs.Tree.{Tree, Scan, Over, Join, Index, Each}
use Rattle.pm_work.specs.Formulas.{exact}
use Rattle.pm_work.specs.First.{Sizes, first_hi, first_sum, first_bound, greatest, most_work, most_summed, has_sum, summed_in, too_wide}

-- a sum's child has few rows, by its first bound
abbrev pub sum_is_narrow : Sizes → Tree → Type 0
sum_is_narrow sizes (Scan table label) = Unit {0}
sum_is_narrow sizes (Over op child) = has_sum op ≡ true → first_hi exact sizes child ≤ most_summed
sum_is_narrow sizes (Join method on left right) = Unit {0}
sum_is_narrow sizes (Index left seek cond) = Unit {0}

abbrev pub SumsAreNarrow : Sizes → Tree → Type 0
SumsAreNarrow sizes tree = Each (sum_is_narrow sizes) (λ left seek. Unit {0}) tree

find_none : (p : ℕ → Bool) (xs ys : List ℕ) → find p (xs ++ ys) ≡ None → (find p xs ≡ None) × (find p ys ≡ None)
find_none p [] ys e = (refl, e)
find_none p (x ∷ xs) ys e =
    elim (cases_Bool (p x)) [
      | inl h ↦ absurd (let s : Some x ≡ None = rw h at e in cc)
      | inr h ↦ rw h (find_none p xs ys (rw h at e))
    ]

find_one : (p : ℕ → Bool) (x : ℕ) (xs : List ℕ) → find p (x ∷ xs) ≡ None → p x ≡ false
find_one p x xs e = elim (cases_Bool (p x)) [ inl h ↦ absurd (let s : Some x ≡ None = rw h at e in cc) | inr h ↦ h ]

narrow_sums : (sizes : Sizes) (t : Tree) → find (nat_lt most_summed) (summed_in sizes t) ≡ None → SumsAreNarrow sizes t
narrow_sums sizes (Scan table label) e = tt
narrow_sums sizes (Over op child) e =
    let parts = find_none (nat_lt most_summed) (cond (has_sum op) (first_hi exact sizes child ∷ []) []) (summed_in sizes child) e in
    ((λ s. ltb-false most_summed (first_hi exact sizes child) (find_one (nat_lt most_summed) (first_hi exact sizes child) [] (rw s at parts.0))), narrow_sums sizes child parts.1)
narrow_sums sizes (Join method on left right) e =
    let parts = find_none (nat_lt most_summed) (summed_in sizes left) (summed_in sizes right) e in (tt, narrow_sums sizes left parts.0, narrow_sums sizes right parts.1)
narrow_sums sizes (Index left seek cond) e =
    let parts = find_none (nat_lt most_summed) (summed_in sizes left) [] e in (tt, tt, narrow_sums sizes left parts.0)

pub record IsNarrow (sizes : Sizes) (tree : Tree) : Type 0 where
  pub bound : first_bound sizes tree ≤ most_work
  pub sum : first_sum sizes tree ≤ most_work
  pub sums : SumsAreNarrow sizes tree

pub narrow : (sizes : Sizes) (t : Tree) → too_wide sizes t ≡ None → IsNarrow sizes t
narrow sizes t e =
    elim (cases_Bool (nat_lt most_work (first_bound sizes t))) [
      | inl h ↦ absurd (let s : Some (first_bound sizes t) ≡ None = rw h at e in cc)
      | inr h ↦
          let b : first_bound sizes t ≤ most_work = ltb-false most_work (first_bound sizes t) h in
          record { bound = b; sum = uncapped (first_sum sizes t) b; sums = narrow_sums sizes t (rw h at e) }
    ]
  where
    uncapped : (n : ℕ) → min greatest n ≤ most_work → n ≤ most_work
    uncapped n h = omega (arith, h)
