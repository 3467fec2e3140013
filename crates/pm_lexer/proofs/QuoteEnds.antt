-- What a quoted token stands for.
use Rattle.std.proofs.Common.{◌≡◌, ◌<◌, ◌≤◌, ◌+◌, ◌-◌, ℕ, suc, zero, true, false, List, [], ◌∷◌, ◌++◌, length, drop, take, get_or, refl, sym, ◌∙◌, ap, arith, IsUtf8, if◌then◌else◌, ◌==◌, ◌&&◌, eq-eqb, append_assoc}
use Rattle.std.specs.Str.{IsCharBoundary}
use Rattle.std.proofs.lemmas.Str.{IsCharBoundary-after_ascii, IsCharBoundary-before_ascii}
use Rattle.std.proofs.lemmas.Bool.{ne_eqb}
use Rattle.pm_lexer.specs.Pieces.{single_quotes, after_quote, NoneBefore, IsFirst}

pub boundary_before_last : (q : ℕ) (text : List ℕ) → q < 128 → 2 ≤ length text → get_or text (length text - 1) 0 ≡ q → IsCharBoundary text (length text - 1)
boundary_before_last q text small two at = IsCharBoundary-before_ascii text (length text - 1) (omega arith) (rw at small)

pub boundary_after_first : (q : ℕ) (text : List ℕ) → q < 128 → IsUtf8 text → 1 ≤ length text → get_or text 0 0 ≡ q → IsCharBoundary text 1
boundary_after_first q text small u two at = IsCharBoundary-after_ascii text 0 u (omega arith) (rw at small)

pub boundary_after_quote : (q : ℕ) (text : List ℕ) (i : ℕ) → q < 128 → IsUtf8 text → IsFirst q text i → IsCharBoundary text (i + 1)
boundary_after_quote q text i small u first = IsCharBoundary-after_ascii text i u first.0 (rw first.1 small)

single_other : (q b : ℕ) (rest : List ℕ) → (b == q) ≡ false → single_quotes q (b ∷ rest) ≡ b ∷ single_quotes q rest
unfolding single_quotes
single_other q b [] e = refl
single_other q b (c ∷ rest) e = rw e refl

single_quote : (q b : ℕ) (rest : List ℕ) → (b == q) ≡ true → single_quotes q (b ∷ rest) ≡ b ∷ single_quotes q (after_quote q rest)
unfolding single_quotes
single_quote q b [] e = refl
single_quote q b (c ∷ rest) e = elim (c == q) as (λ t. (if b == q && t then b ∷ single_quotes q rest else b ∷ single_quotes q (c ∷ rest)) ≡ b ∷ single_quotes q (if t then rest else c ∷ rest)) [
  | true ↦ rw e refl
  | false ↦ rw e refl
]

-- up to and with the first quote
pub singled : (q : ℕ) (xs : List ℕ) (i : ℕ) → IsFirst q xs i → single_quotes q xs ≡ take (i + 1) xs ++ single_quotes q (after_quote q (drop (i + 1) xs))
singled q [] i first = let none = first.0 in absurd (omega arith)
singled q (b ∷ rest) zero first = single_quote q b rest (eq-eqb b q first.1)
singled q (b ∷ rest) (suc i) first =
    let one : suc i + 1 ≡ suc (i + 1) = omega arith in
    let other : b ≡ q → ⊥ = first.2 0 (omega arith) in
    let within = first.0 in
    rw one (single_other q b rest (ne_eqb b q other) ∙ ap (λ t. b ∷ t) (singled q rest i (omega arith, first.1, λ k h. first.2 (suc k) (omega arith))))

pub unquoted : (q : ℕ) (xs : List ℕ) → NoneBefore q xs (length xs) → single_quotes q xs ≡ xs
unfolding single_quotes
unquoted q [] none = refl
unquoted q (b ∷ rest) none =
    let other : b ≡ q → ⊥ = none 0 (omega arith) in
    single_other q b rest (ne_eqb b q other) ∙ ap (λ t. b ∷ t) (unquoted q rest (λ k h. none (suc k) (omega arith)))

pub after_shorter : (q : ℕ) (xs : List ℕ) → length (after_quote q xs) ≤ length xs
after_shorter q [] = omega arith
after_shorter q (b ∷ rest) = elim (b == q) as (λ t. length (if t then rest else b ∷ rest) ≤ length (b ∷ rest)) [ true ↦ omega arith | false ↦ omega arith ]

-- one turn of the loop
pub singled_more : (q : ℕ) (single xs : List ℕ) (i : ℕ) → IsFirst q xs i → single ++ single_quotes q xs ≡ (single ++ take (i + 1) xs) ++ single_quotes q (after_quote q (drop (i + 1) xs))
singled_more q single xs i first = ap (λ t. single ++ t) (singled q xs i first) ∙ sym (append_assoc single _ _)
