-- positions of selected columns
use Rattle.std.proofs.Common.{◌≡◌, ℕ, ◌+◌, List, [], ◌∷◌, ◌++◌, length, ap, ◌∙◌, arith}
use Rattle.pm_plan.specs.declared.plan.SortKey.{SortKey}
use Rattle.pm_query.specs.Answer.{position_of}
use Rattle.pm_query.specs.Build.{numbers_from}

-- a column of ORDER BY among the selected ones
abbrev pub selected_key : List ℕ → SortKey → SortKey
selected_key outputs key = record { column = position_of key.column outputs; descending = key.descending }

pub numbers_from-push : (n : ℕ) (xs : List ℕ) (x : ℕ) → numbers_from n (xs ++ x ∷ []) ≡ numbers_from n xs ++ (n + length xs) ∷ []
numbers_from-push n [] x = let e : n ≡ n + 0 = omega arith in ap (λ k. k ∷ []) e
numbers_from-push n (y ∷ xs) x =
    let e : n + 1 + length xs ≡ n + length (y ∷ xs) = omega arith in
    ap (λ ks. n ∷ ks) (numbers_from-push (n + 1) xs x ∙ ap (λ k. numbers_from (n + 1) xs ++ k ∷ []) e)
