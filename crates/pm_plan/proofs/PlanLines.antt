-- the lines of a plan, cut after some of its operators
use Rattle.std.proofs.Common.{◌≡◌, ℕ, suc, ◌+◌, ◌<◌, List, [], ◌∷◌, ◌++◌, length, take, drop, get_or, refl, sym, ap, ◌∙◌, append_assoc, arith}
use Rattle.std.proofs.lemmas.List.{take-append-drop, append-nil, take_more, length-take-le}
use Rattle.pm_plan.specs.declared.plan.Node.{Node}
use Rattle.pm_plan.specs.PlanLines.{node_line, plan_lines}

pub lines-append : (n : ℕ) (xs ys : List Node) → plan_lines n (xs ++ ys) ≡ plan_lines n xs ++ plan_lines (n + length xs) ys
lines-append n [] ys = let same : n + 0 ≡ n = omega arith in rw same refl
lines-append n (x ∷ xs) ys =
    let next : n + 1 + length xs ≡ n + suc (length xs) = omega arith in
    ap (λ s. node_line n x ++ s) (lines-append (n + 1) xs ys)
    ∙ sym (append_assoc (node_line n x) (plan_lines (n + 1) xs) (plan_lines (n + 1 + length xs) ys))
    ∙ ap (λ m. (node_line n x ++ plan_lines (n + 1) xs) ++ plan_lines m ys) next

one-more : (xs : List Node) (i : ℕ) (x : Node) → i < length xs → x ≡ get_or xs i x → take i xs ++ x ∷ [] ≡ take (i + 1) xs
one-more xs i x within is = ap (λ y. take i xs ++ y ∷ []) is ∙ sym (take_more xs i x within)

-- one more line
pub lines-more : (xs : List Node) (i : ℕ) (x : Node) → i < length xs → x ≡ get_or xs i x
    → plan_lines 1 (take i xs) ++ node_line (i + 1) x ≡ plan_lines 1 (take (i + 1) xs)
lines-more xs i x within is =
    let place : i + 1 ≡ 1 + length (take i xs) = omega (arith, length-take-le i xs (omega arith)) in
    ap (λ s. plan_lines 1 (take i xs) ++ s) (sym (append-nil (node_line (i + 1) x)))
    ∙ ap (λ n. plan_lines 1 (take i xs) ++ plan_lines n (x ∷ [])) place
    ∙ sym (lines-append 1 (take i xs) (x ∷ []))
    ∙ ap (plan_lines 1) (one-more xs i x within is)

-- the lines of the operators from place i on
abbrev pub lines_from : ℕ → List Node → List ℕ
lines_from i xs = plan_lines (1 + length (take i xs)) (drop i xs)

-- the lines so far, and the rest
pub lines-cut : (xs : List Node) (i : ℕ) → plan_lines 1 (take i xs) ++ lines_from i xs ≡ plan_lines 1 xs
lines-cut xs i = sym (lines-append 1 (take i xs) (drop i xs)) ∙ ap (plan_lines 1) (take-append-drop i xs)

-- the lines so far, the next one, and the rest
pub lines-next : (xs : List Node) (i : ℕ) (x : Node) → i < length xs → x ≡ get_or xs i x
    → plan_lines 1 (take i xs) ++ (node_line (i + 1) x ++ lines_from (i + 1) xs) ≡ plan_lines 1 xs
lines-next xs i x within is =
    sym (append_assoc (plan_lines 1 (take i xs)) (node_line (i + 1) x) (lines_from (i + 1) xs))
    ∙ ap (λ s. s ++ lines_from (i + 1) xs) (lines-more xs i x within is)
    ∙ lines-cut xs (i + 1)
