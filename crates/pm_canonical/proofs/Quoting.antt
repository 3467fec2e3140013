-- Quoted bytes are read back.
use Rattle.std.proofs.Common.{◌≡◌, ◌<◌, ◌+◌, ◌-◌, ℕ, suc, Bool, true, false, not, List, [], ◌∷◌, ◌++◌, length, get_or, if◌then◌else◌, ◌==◌, ◌&&◌, Some, refl, ◌∙◌, ap, arith, length-append, eq-eqb}
use Rattle.std.specs.List.{list_all}
use Rattle.std.proofs.lemmas.Bool.{le-leb, not-true}
use Rattle.std.proofs.Math.Seq.{take-append_seam}
use Rattle.pm_lexer.specs.declared.token.TokenKind.TheVariants as kind
use Rattle.pm_lexer.specs.Pieces.{longer, quotation, single_quotes, inside, content_at}
use Rattle.pm_lexer.specs.Quoting.{doubled, quoted}
use Rattle.pm_canonical.proofs.Runs.{Follows, all_head, all_tail, all_both}

-- the bytes before a closing quote, the quote, and what stands after it
abbrev pub other_than : ℕ → ℕ → Bool
other_than quote b = not (b == quote)

doubled_step : (q b : ℕ) (rest : List ℕ) → (b == q) ≡ true → doubled q (b ∷ rest) ≡ b ∷ (b ∷ doubled q rest)
unfolding doubled
doubled_step q b rest e = rw e refl

doubled_pass : (q b : ℕ) (rest : List ℕ) → (b == q) ≡ false → doubled q (b ∷ rest) ≡ b ∷ doubled q rest
unfolding doubled
doubled_pass q b rest e = rw e refl

two_quotes : (q b : ℕ) (rest : List ℕ) → (b == q) ≡ true → quotation q (b ∷ (b ∷ rest)) ≡ longer 2 (quotation q rest)
unfolding quotation
two_quotes q b rest e = rw e refl

passed : (q b : ℕ) (rest : List ℕ) → (b == q) ≡ false → quotation q (b ∷ rest) ≡ longer 1 (quotation q rest)
unfolding quotation
passed q b [] e = rw e refl
passed q b (c ∷ rest) e = rw e refl

closes : (q : ℕ) (rest : List ℕ) → Follows (other_than q) rest → quotation q (q ∷ rest) ≡ Some 0
unfolding quotation
closes q [] ends = rw (eq-eqb q q refl) refl
closes q (c ∷ rest) ends = rw (eq-eqb q q refl, not-true (c == q) ends) refl

-- doubled quotes close nothing
pub quotation_doubled : (q : ℕ) (xs rest : List ℕ) → Follows (other_than q) rest → quotation q (doubled q xs ++ q ∷ rest) ≡ Some (length (doubled q xs))
unfolding doubled
quotation_doubled q [] rest ends = closes q rest ends
quotation_doubled q (b ∷ xs) rest ends =
    let ih = quotation_doubled q xs rest ends in
    elim (b == q) as (λ t. (b == q) ≡ t → quotation q ((if t then b ∷ b ∷ doubled q xs else b ∷ doubled q xs) ++ q ∷ rest) ≡ Some (length (if t then b ∷ b ∷ doubled q xs else b ∷ doubled q xs))) [
      | true ↦ λ e. two_quotes q b (doubled q xs ++ q ∷ rest) e ∙ rw ih (ap (λ n. Some n) (omega arith))
      | false ↦ λ e. passed q b (doubled q xs ++ q ∷ rest) e ∙ rw ih (ap (λ n. Some n) (omega arith))
    ] refl

single_two : (q b : ℕ) (rest : List ℕ) → (b == q) ≡ true → single_quotes q (b ∷ (b ∷ rest)) ≡ b ∷ single_quotes q rest
unfolding single_quotes
single_two q b rest e = rw e refl

single_pass : (q b : ℕ) (rest : List ℕ) → (b == q) ≡ false → single_quotes q (b ∷ rest) ≡ b ∷ single_quotes q rest
unfolding single_quotes
single_pass q b [] e = refl
single_pass q b (c ∷ rest) e = rw e refl

pub single_doubled : (q : ℕ) (xs : List ℕ) → single_quotes q (doubled q xs) ≡ xs
unfolding doubled single_quotes
single_doubled q [] = refl
single_doubled q (b ∷ xs) =
    let ih = single_doubled q xs in
    elim (b == q) as (λ t. (b == q) ≡ t → single_quotes q (if t then b ∷ b ∷ doubled q xs else b ∷ doubled q xs) ≡ b ∷ xs) [
      | true ↦ λ e. single_two q b (doubled q xs) e ∙ ap (λ t. b ∷ t) ih
      | false ↦ λ e. single_pass q b (doubled q xs) e ∙ ap (λ t. b ∷ t) ih
    ] refl

-- what stands between two quotes
last_of : (b c : ℕ) (xs : List ℕ) → get_or (b ∷ (xs ++ c ∷ [])) (suc (length xs)) 0 ≡ c
last_of b c [] = refl
last_of b c (x ∷ xs) = last_of x c xs

pub inside_quotes : (q : ℕ) (xs : List ℕ) → inside q (q ∷ (xs ++ q ∷ [])) ≡ xs
inside_quotes q xs =
    let long : length (q ∷ (xs ++ q ∷ [])) ≡ 2 + length xs = omega (arith, length-append xs (q ∷ [])) in
    let last : 2 + length xs - 1 ≡ suc (length xs) = omega arith in
    let middle : 2 + length xs - 2 ≡ length xs = omega arith in
    rw (long, last, middle, last_of q q xs, eq-eqb q q refl, le-leb 2 (2 + length xs) (omega arith)) (take-append_seam xs (q ∷ []))

pub content_name : (name : List ℕ) → content_at kind.Quoted (quoted 34 name) ≡ name
content_name name = ap (single_quotes 34) (inside_quotes 34 (doubled 34 name)) ∙ single_doubled 34 name

pub content_text : (text : List ℕ) → content_at kind.Text (quoted 39 text) ≡ text
content_text text = ap (single_quotes 39) (inside_quotes 39 (doubled 39 text)) ∙ single_doubled 39 text

-- doubling keeps what all bytes are
pub all_doubled : (p : ℕ → Bool) (q : ℕ) (xs : List ℕ) → list_all p xs ≡ true → list_all p (doubled q xs) ≡ true
unfolding doubled
all_doubled p q [] all = refl
all_doubled p q (b ∷ xs) all =
    let here = all_head p b xs all in
    let rest = all_doubled p q xs (all_tail p b xs all) in
    elim (b == q) as (λ t. list_all p (if t then b ∷ b ∷ doubled q xs else b ∷ doubled q xs) ≡ true) [
      | true ↦ all_both p b (b ∷ doubled q xs) here (all_both p b (doubled q xs) here rest)
      | false ↦ all_both p b (doubled q xs) here rest
    ]

-- and so does counting each doubled quote once
pub all_single : (p : ℕ → Bool) (q : ℕ) (xs : List ℕ) → list_all p xs ≡ true → list_all p (single_quotes q xs) ≡ true
unfolding single_quotes
all_single p q [] all = refl
all_single p q (b ∷ []) all = all
all_single p q (b ∷ c ∷ xs) all =
    let here = all_head p b (c ∷ xs) all in
    let rest = all_tail p b (c ∷ xs) all in
    let two = all_single p q xs (all_tail p c xs rest) in
    let one = all_single p q (c ∷ xs) rest in
    elim (b == q && c == q) as (λ t. list_all p (if t then b ∷ single_quotes q xs else b ∷ single_quotes q (c ∷ xs)) ≡ true) [
      | true ↦ all_both p b (single_quotes q xs) here two
      | false ↦ all_both p b (single_quotes q (c ∷ xs)) here one
    ]

pub some_single : (q : ℕ) (xs : List ℕ) → 0 < length xs → 0 < length (single_quotes q xs)
unfolding single_quotes
some_single q [] some = absurd (omega arith)
some_single q (b ∷ []) some = omega arith
some_single q (b ∷ c ∷ xs) some =
    elim (b == q && c == q) as (λ t. 0 < length (if t then b ∷ single_quotes q xs else b ∷ single_quotes q (c ∷ xs))) [ true ↦ omega arith | false ↦ omega arith ]
