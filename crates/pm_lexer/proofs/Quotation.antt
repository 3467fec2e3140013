-- One step of a walk over what stands between quotes.
use Rattle.std.proofs.Common.{◌≡◌, ◌<◌, ◌+◌, ℕ, true, false, List, [], ◌∷◌, length, drop, get_or, Option, Some, None, refl, sym, ◌∙◌, ap, arith, add-one, drop-cons, eq-eqb, ◌==◌, ◌⊎◌, inl, inr, rules, add_assoc, zero-add}
use Rattle.std.proofs.lemmas.Bool.{ne_eqb}
use Rattle.std.proofs.Math.Seq.{drop-length}
use Rattle.pm_lexer.specs.Pieces.{longer, quotation, single_quotes}

pub longer-longer : (n m : ℕ) (o : Option ℕ) → longer n (longer m o) ≡ longer (n + m) o
longer-longer n m None = refl
longer-longer n m (Some k) = ap (λ x. Some x) (sym (add_assoc n m k))

pub longer-zero : (o : Option ℕ) → longer 0 o ≡ o
longer-zero None = refl
longer-zero (Some k) = ap (λ x. Some x) (zero-add k)

-- the head of a rest
abbrev pub Reads1 : List ℕ → ℕ → ℕ → Type 0
Reads1 s i b = drop i s ≡ b ∷ drop (i + 1) s

pub rest_head : (s : List ℕ) (i : ℕ) → i < length s → drop i s ≡ get_or s i 0 ∷ drop (i + 1) s
rest_head s i h = rw (add-one, drop-cons s i 0) refl

pub rest_two : (s : List ℕ) (i : ℕ) → i + 1 < length s → drop i s ≡ get_or s i 0 ∷ (get_or s (i + 1) 0 ∷ drop (i + 2) s)
rest_two s i h =
    let one : i < length s = omega arith in
    let next = rest_head s (i + 1) h in
    let same : i + 1 + 1 ≡ i + 2 = omega arith in
    rest_head s i one ∙ ap (λ t. get_or s i 0 ∷ t) (rw same at next)

compare_ends : (s : List ℕ) (i : ℕ) → i < length s → (i + 1 ≡ length s) ⊎ (i + 1 < length s)
compare_ends s i h = search (rules, arith)

tail_of : (s : List ℕ) (i : ℕ) → i + 1 < length s → drop (i + 1) s ≡ get_or s (i + 1) 0 ∷ drop (i + 2) s
tail_of s i h = let same : i + 1 + 1 ≡ i + 2 = omega arith in rw same at (rest_head s (i + 1) h)

no_rest : (s : List ℕ) (i : ℕ) → i ≡ length s → drop i s ≡ []
no_rest s i e = rw (e, drop-length s) refl

-- the test of a byte
pub same_byte : (b q : ℕ) → b ≡ q → (b == q) ≡ true
same_byte b q e = eq-eqb b q e

doubled_at : (q b c : ℕ) (rest : List ℕ) → (b == q) ≡ true → (c == q) ≡ true → quotation q (b ∷ c ∷ rest) ≡ longer 2 (quotation q rest)
unfolding quotation
doubled_at q b c rest e f = rw (e, f) refl

closed_at : (q b c : ℕ) (rest : List ℕ) → (b == q) ≡ true → (c == q) ≡ false → quotation q (b ∷ c ∷ rest) ≡ Some 0
unfolding quotation
closed_at q b c rest e f = rw (e, f) refl

last_at : (q b : ℕ) → (b == q) ≡ true → quotation q (b ∷ []) ≡ Some 0
unfolding quotation
last_at q b e = rw e refl

other_at : (q b : ℕ) (rest : List ℕ) → (b == q) ≡ false → quotation q (b ∷ rest) ≡ longer 1 (quotation q rest)
unfolding quotation
other_at q b [] e = rw e refl
other_at q b (c ∷ rest) e = rw e refl

some_sum : (i : ℕ) → Some (i + 0) ≡ Some i
some_sum i = ap (λ n. Some n) (omega arith)

pub doubled : (q : ℕ) (s : List ℕ) (i : ℕ) → i + 1 < length s → get_or s i 0 ≡ q → get_or s (i + 1) 0 ≡ q
    → longer i (quotation q (drop i s)) ≡ longer (i + 2) (quotation q (drop (i + 2) s))
doubled q s i h e f = rw (rest_two s i h, doubled_at q _ _ (drop (i + 2) s) (eq-eqb _ q e) (eq-eqb _ q f)) (longer-longer i 2 _)

pub closed : (q : ℕ) (s : List ℕ) (i : ℕ) → i + 1 < length s → get_or s i 0 ≡ q → (get_or s (i + 1) 0 ≡ q → ⊥)
    → longer i (quotation q (drop i s)) ≡ Some i
closed q s i h e f = rw (rest_two s i h, closed_at q _ _ (drop (i + 2) s) (eq-eqb _ q e) (ne_eqb _ q f)) (some_sum i)

pub closed_last : (q : ℕ) (s : List ℕ) (i : ℕ) → i + 1 ≡ length s → get_or s i 0 ≡ q → longer i (quotation q (drop i s)) ≡ Some i
closed_last q s i h e =
    let one : i < length s = omega arith in
    rw (rest_head s i one, no_rest s (i + 1) h, last_at q _ (eq-eqb _ q e)) (some_sum i)

pub passed : (q : ℕ) (s : List ℕ) (i : ℕ) → i < length s → (get_or s i 0 ≡ q → ⊥)
    → longer i (quotation q (drop i s)) ≡ longer (i + 1) (quotation q (drop (i + 1) s))
passed q s i h e = rw (rest_head s i h, other_at q _ (drop (i + 1) s) (ne_eqb _ q e)) (longer-longer i 1 _)

pub not_closed : (q : ℕ) (s : List ℕ) (i : ℕ) → i ≡ length s → longer i (quotation q (drop i s)) ≡ None
unfolding quotation
not_closed q s i e = rw (no_rest s i e) refl

-- and of the walk that counts a doubled quote once
one_of_two : (q b c : ℕ) (rest : List ℕ) → (b == q) ≡ true → (c == q) ≡ true → single_quotes q (b ∷ c ∷ rest) ≡ b ∷ single_quotes q rest
unfolding single_quotes
one_of_two q b c rest e f = rw (e, f) refl

kept_first : (q b c : ℕ) (rest : List ℕ) → (b == q) ≡ false → single_quotes q (b ∷ c ∷ rest) ≡ b ∷ single_quotes q (c ∷ rest)
unfolding single_quotes
kept_first q b c rest e = rw e refl

kept_second : (q b c : ℕ) (rest : List ℕ) → (b == q) ≡ true → (c == q) ≡ false → single_quotes q (b ∷ c ∷ rest) ≡ b ∷ single_quotes q (c ∷ rest)
unfolding single_quotes
kept_second q b c rest e f = rw (e, f) refl

kept_last : (q b : ℕ) → single_quotes q (b ∷ []) ≡ b ∷ single_quotes q []
unfolding single_quotes
kept_last q b = refl

pub single : (q : ℕ) (s : List ℕ) (i : ℕ) → i + 1 < length s → get_or s i 0 ≡ q → get_or s (i + 1) 0 ≡ q
    → single_quotes q (drop i s) ≡ get_or s i 0 ∷ single_quotes q (drop (i + 2) s)
single q s i h e f = rw (rest_two s i h, one_of_two q _ _ (drop (i + 2) s) (eq-eqb _ q e) (eq-eqb _ q f)) refl

pub kept_plain : (q : ℕ) (s : List ℕ) (i : ℕ) → i < length s → (get_or s i 0 ≡ q → ⊥) → single_quotes q (drop i s) ≡ get_or s i 0 ∷ single_quotes q (drop (i + 1) s)
kept_plain q s i h e =
    elim (compare_ends s i h) [
      | inl last ↦ rw (rest_head s i h, no_rest s (i + 1) last, kept_last q _) refl
      | inr more ↦ rw (rest_two s i more, kept_first q _ _ (drop (i + 2) s) (ne_eqb _ q e), tail_of s i more) refl
    ]

pub kept_alone : (q : ℕ) (s : List ℕ) (i : ℕ) → i < length s → get_or s i 0 ≡ q → (i + 1 < length s → get_or s (i + 1) 0 ≡ q → ⊥)
    → single_quotes q (drop i s) ≡ get_or s i 0 ∷ single_quotes q (drop (i + 1) s)
kept_alone q s i h e f =
    elim (compare_ends s i h) [
      | inl last ↦ rw (rest_head s i h, no_rest s (i + 1) last, kept_last q _) refl
      | inr more ↦ rw (rest_two s i more, kept_second q _ _ (drop (i + 2) s) (eq-eqb _ q e) (ne_eqb _ q (f more)), tail_of s i more) refl
    ]

pub single_end : (q : ℕ) (s : List ℕ) (i : ℕ) → i ≡ length s → single_quotes q (drop i s) ≡ []
unfolding single_quotes
single_end q s i e = rw (no_rest s i e) refl
