-- a line feed that is searched among the bytes from a place on
use Rattle.std.proofs.Common.{◌≡◌, ◌≢◌, ◌<◌, ◌≤◌, ◌+◌, ◌-◌, ℕ, List, take, drop, length, get_or, sym, ap, subst, ◌∙◌, arith, length-drop, get_or-drop, take-add, inl, inr}
use Rattle.std.proofs.Math.Nat.{eq-or-lt_of_le}
use Rattle.std.proofs.lemmas.Bool.{eqb-true, eq-eqb}
use Rattle.std.proofs.lemmas.List.{take_rest}
use Rattle.memchr.specs.Find.{is_byte, Passes, Nowhere}
use Rattle.pm_io.specs.declared.line_start.LineStart.{LineStart}
use Rattle.pm_io.specs.declared.line_start.LineStart.TheVariants.{Progress}
use Rattle.pm_io.specs.LineStart.{start_of, line_after, EndsProgress}
use Rattle.pm_io.proofs.Lines.{line_after-append, unended_part, unended_feed}

-- the bytes from a place on
abbrev rest_of : List ℕ → ℕ → List ℕ
rest_of bytes at = take (length bytes - at) (drop at bytes)

pub length_rest : (bytes : List ℕ) (at : ℕ) → length (rest_of bytes at) ≡ length bytes - at
length_rest bytes at = ap length (take_rest bytes at) ∙ length-drop at bytes

rest_at : (bytes : List ℕ) (at k : ℕ) → get_or (rest_of bytes at) k 0 ≡ get_or bytes (at + k) 0
rest_at bytes at k = ap (λ l. get_or l k 0) (take_rest bytes at) ∙ get_or-drop at bytes k 0

pub feed_at : (bytes : List ℕ) (at n : ℕ) → Passes (is_byte 10) (rest_of bytes at) n → get_or bytes (at + n) 0 ≡ 10
feed_at bytes at n passes = sym (rest_at bytes at n) ∙ eqb-true _ _ passes

pub no_feed_up_to : (bytes : List ℕ) (at n : ℕ) → Nowhere (Passes (is_byte 10) (rest_of bytes at)) 0 n →
    (k : ℕ) → at ≤ k → k < at + n → get_or bytes k 0 ≢ 10
no_feed_up_to bytes at n none k low high is =
    let place : at + (k - at) ≡ k = omega (arith, low) in
    none (k - at) (omega arith) (omega (arith, low, high))
    (eq-eqb _ _ (rest_at bytes at (k - at) ∙ ap (λ i. get_or bytes i 0) place ∙ is))

-- the line after the bytes from a place up to another one
pub line_after_rest : (line bytes : List ℕ) (at m : ℕ) → at ≤ m →
    line_after (line_after line (take at bytes)) (take (m - at) (drop at bytes)) ≡ line_after line (take m bytes)
line_after_rest line bytes at m low =
    let whole : at + (m - at) ≡ m = omega (arith, low) in
    sym (line_after-append line (take at bytes) (take (m - at) (drop at bytes))) ∙
    ap (line_after line) (sym (take-add at (m - at) bytes) ∙ ap (λ i. take i bytes) whole)

-- no progress line is ended up to the next line feed, where the line before it is of another kind
pub unended_to_feed : (line bytes : List ℕ) (at n m : ℕ) (known : LineStart) → at + n < length bytes →
    known ≡ start_of (line_after line (take (at + n) bytes)) → (known ≡ Progress → ⊥) →
    ((i : ℕ) → i ≤ at → EndsProgress line (take i bytes) → ⊥) → Nowhere (Passes (is_byte 10) (rest_of bytes at)) 0 n →
    m ≤ at + n + 1 → EndsProgress line (take m bytes) → ⊥
unended_to_feed line bytes at n m known within is unended before none most ends = elim (eq-or-lt_of_le most) [
  | inl last ↦ unended_feed line bytes (at + n) known within is unended (subst (λ i. EndsProgress line (take i bytes)) last ends)
  | inr early ↦ unended_part line bytes at m (omega (arith, early, within)) before
      (λ k low high. no_feed_up_to bytes at n none k low (omega (arith, high, early))) ends
]
