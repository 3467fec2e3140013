-- the lines of bounds, cut after some of the operators
use Rattle.std.proofs.Common.{◌≡◌, ℕ, zero, suc, ◌+◌, ◌<◌, List, [], ◌∷◌, ◌++◌, length, take, drop, get_or, refl, sym, ap, ◌∙◌, append_assoc, arith}
use Rattle.std.specs.List.{zip}
use Rattle.std.proofs.lemmas.List.{take-append-drop, append-nil, take_more, length-take-le}
use Rattle.pm_plan.specs.declared.gauge.Bound.{Bound}
use Rattle.pm_plan.specs.Tree.{Tree}
use Rattle.pm_work.specs.Moments.{Gauges}
use Rattle.pm_bounds.specs.Bounds.{bounds_of}
use Rattle.pm_bounds.proofs.BoundLists.{length-bounds_of}
use Rattle.pm_estim.specs.declared.pipes.Pipe.{Pipe}
use Rattle.pm_estim.specs.Lists.{pipes_in}
use Rattle.pm_estim.proofs.PipeLists.{length-pipes_in}
use Rattle.pm_lines.specs.Explained.{bound_line}
use Rattle.pm_run.specs.ExplainText.{bound_lines}

-- a bound with its pipeline
abbrev pub Piped : Type 0
Piped = Bound × Pipe

abbrev pub piped_line : ℕ → Piped → List ℕ
piped_line n p = bound_line n p.0 p.1.number p.1.driver

lines-append : (n : ℕ) (xs ys : List Piped) → bound_lines n (xs ++ ys) ≡ bound_lines n xs ++ bound_lines (n + length xs) ys
lines-append n [] ys = let same : n + 0 ≡ n = omega arith in rw same refl
lines-append n (x ∷ xs) ys =
    let next : n + 1 + length xs ≡ n + suc (length xs) = omega arith in
    ap (λ s. piped_line n x ++ s) (lines-append (n + 1) xs ys)
    ∙ sym (append_assoc (piped_line n x) (bound_lines (n + 1) xs) (bound_lines (n + 1 + length xs) ys))
    ∙ ap (λ m. (piped_line n x ++ bound_lines (n + 1) xs) ++ bound_lines m ys) next

one-more : (xs : List Piped) (i : ℕ) (x : Piped) → i < length xs → x ≡ get_or xs i x → take i xs ++ x ∷ [] ≡ take (i + 1) xs
one-more xs i x within is = ap (λ y. take i xs ++ y ∷ []) is ∙ sym (take_more xs i x within)

-- one more line
pub lines-more : (xs : List Piped) (i : ℕ) (x : Piped) → i < length xs → x ≡ get_or xs i x
    → bound_lines 1 (take i xs) ++ piped_line (i + 1) x ≡ bound_lines 1 (take (i + 1) xs)
lines-more xs i x within is =
    let place : i + 1 ≡ 1 + length (take i xs) = omega (arith, length-take-le i xs (omega arith)) in
    ap (λ s. bound_lines 1 (take i xs) ++ s) (sym (append-nil (piped_line (i + 1) x)))
    ∙ ap (λ n. bound_lines 1 (take i xs) ++ bound_lines n (x ∷ [])) place
    ∙ sym (lines-append 1 (take i xs) (x ∷ []))
    ∙ ap (bound_lines 1) (one-more xs i x within is)

-- the lines of the operators from place i on
abbrev pub lines_from : ℕ → List Piped → List ℕ
lines_from i xs = bound_lines (1 + length (take i xs)) (drop i xs)

-- the lines so far, the next one, and the rest
pub lines-next : (xs : List Piped) (i : ℕ) (x : Piped) → i < length xs → x ≡ get_or xs i x
    → bound_lines 1 (take i xs) ++ (piped_line (i + 1) x ++ lines_from (i + 1) xs) ≡ bound_lines 1 xs
lines-next xs i x within is =
    sym (append_assoc (bound_lines 1 (take i xs)) (piped_line (i + 1) x) (lines_from (i + 1) xs))
    ∙ ap (λ s. s ++ lines_from (i + 1) xs) (lines-more xs i x within is)
    ∙ sym (lines-append 1 (take (i + 1) xs) (drop (i + 1) xs))
    ∙ ap (bound_lines 1) (take-append-drop (i + 1) xs)

pub length-zip : (bounds : List Bound) (pipes : List Pipe) → length pipes ≡ length bounds → length (zip bounds pipes) ≡ length bounds
length-zip [] pipes e = refl
length-zip (b ∷ bounds) [] e = absurd (omega (arith, e))
length-zip (b ∷ bounds) (p ∷ pipes) e = omega (arith, length-zip bounds pipes (omega (arith, e)))

-- a plan has as many pipelines of nodes as bounds
pub as-many : (tree : Tree) (G : Gauges) → length (pipes_in tree) ≡ length (bounds_of tree 1 G)
as-many tree G = length-pipes_in tree ∙ sym (length-bounds_of G tree 1)

-- what stands at a place of both lists
pub zip-at : (bounds : List Bound) (pipes : List Pipe) (i : ℕ) (b : Bound) (p : Pipe) (x : Piped) → length pipes ≡ length bounds → i < length bounds
    → (get_or bounds i b, get_or pipes i p) ≡ get_or (zip bounds pipes) i x
zip-at [] pipes i b p x e within = absurd (omega (arith, within))
zip-at (y ∷ bounds) [] i b p x e within = absurd (omega (arith, e))
zip-at (y ∷ bounds) (z ∷ pipes) zero b p x e within = refl
zip-at (y ∷ bounds) (z ∷ pipes) (suc i) b p x e within = zip-at bounds pipes i b p x (omega (arith, e)) (omega (arith, within))
