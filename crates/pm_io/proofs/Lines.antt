-- lines that grow byte by byte
use Rattle.std.proofs.Common.{◌≡◌, ◌≢◌, ◌<◌, ◌≤◌, ◌+◌, ◌-◌, ℕ, Bool, true, false, ◌==◌, ◌&&◌, List, [], ◌∷◌, ◌++◌, All, length, take, drop, get_or, if◌then◌else◌, refl, sym, ap, subst, ◌∙◌, add-one, take-suc, arith, inl, inr}
use Rattle.std.proofs.lemmas.Bool.{false≢true, ne_eqb, cases_order}
use Rattle.std.proofs.lemmas.List.{same_from_push, take-append-drop}
use Rattle.std.proofs.lemmas.List.Elements.{All-head, All-tail, All-drop}
use Rattle.pm_io.specs.declared.line_start.LineStart.{LineStart}
use Rattle.pm_io.specs.declared.line_start.LineStart.TheVariants.{Empty, Letter, Progress, Other}
use Rattle.pm_io.specs.LineStart.{start_of, is_known, grown, line_after, EndsProgress}

line_after-last : (line bytes : List ℕ) (byte : ℕ) →
    line_after line (bytes ++ byte ∷ []) ≡ grown (line_after line bytes) byte
line_after-last line [] byte = refl
line_after-last line (first ∷ bytes) byte = line_after-last (grown line first) bytes byte

-- the byte that ends a progress line is a line feed, and the line before it is one of progress
ends_with_feed : (line bytes : List ℕ) (byte : ℕ) → EndsProgress line (bytes ++ byte ∷ []) →
    (start_of (line_after line bytes) ≡ Progress) × (byte ≡ 10)
ends_with_feed line bytes byte (front, same, progress) =
    let parts = same_from_push bytes front byte 10 same in
    (ap (λ xs. start_of (line_after line xs)) parts.0 ∙ progress, parts.1)

-- one more byte of those
take_next : (bytes : List ℕ) (at : ℕ) → at < length bytes → take (at + 1) bytes ≡ take at bytes ++ get_or bytes at 0 ∷ []
take_next bytes at within = ap (λ n. take n bytes) (add-one at) ∙ take-suc bytes at 0 within

-- what is known after the byte at a place
pub known_next : (line bytes : List ℕ) (at : ℕ) (known : LineStart) → at < length bytes →
    known ≡ start_of (grown (line_after line (take at bytes)) (get_or bytes at 0)) →
    known ≡ start_of (line_after line (take (at + 1) bytes))
known_next line bytes at known within is =
    is ∙ ap start_of (sym (ap (line_after line) (take_next bytes at within) ∙ line_after-last line (take at bytes) _))

-- a line feed begins the next line
pub empty_after_feed : (line bytes : List ℕ) (at : ℕ) → at < length bytes → get_or bytes at 0 ≡ 10 →
    start_of (line_after line (take (at + 1) bytes)) ≡ Empty
empty_after_feed line bytes at within feed =
    sym (known_next line bytes at Empty within (sym (ap (λ byte. start_of (grown (line_after line (take at bytes)) byte)) feed)))

pub line_after-append : (line front back : List ℕ) → line_after line (front ++ back) ≡ line_after (line_after line front) back
line_after-append line [] back = refl
line_after-append line (byte ∷ front) back = line_after-append (grown line byte) front back

known_by_letter : (is_letter is_blank : Bool) → is_known (if is_letter then Letter else Other) ≡ true →
    (if is_letter && is_blank then Progress else Other) ≡ (if is_letter then Letter else Other)
known_by_letter true is_blank known = absurd (false≢true known)
known_by_letter false is_blank known = refl

known_pushed : (line : List ℕ) (byte : ℕ) → is_known (start_of line) ≡ true → start_of (line ++ byte ∷ []) ≡ start_of line
known_pushed [] byte known = absurd (false≢true known)
known_pushed (first ∷ []) byte known = known_by_letter (first == 80) (byte == 32) known
known_pushed (first ∷ second ∷ rest) byte known = refl

grown_pushed : (line : List ℕ) (byte : ℕ) → byte ≢ 10 → grown line byte ≡ line ++ byte ∷ []
grown_pushed line byte other = ap (λ b. if b then [] else line ++ byte ∷ []) (ne_eqb byte 10 other)

-- what is known of a line stays known in the rest of it
known_stays : (line part : List ℕ) → is_known (start_of line) ≡ true → All (λ byte. byte ≢ 10) part →
    start_of (line_after line part) ≡ start_of line
known_stays line [] known none = refl
known_stays line (byte ∷ part) known none =
    let same : start_of (grown line byte) ≡ start_of line =
    ap start_of (grown_pushed line byte (All-head (λ x. x ≢ 10) byte part none)) ∙ known_pushed line byte known
    in
    known_stays (grown line byte) part (ap is_known same ∙ known) (All-tail (λ x. x ≢ 10) byte part none) ∙ same

-- the rest of a line need not be looked at once it is known
pub known_at : (line part : List ℕ) (at : ℕ) (known : LineStart) → All (λ byte. byte ≢ 10) part →
    known ≡ start_of (line_after line (take at part)) → is_known known ≡ true → known ≡ start_of (line_after line part)
known_at line part at known none is is_known_ =
    let begun = line_after line (take at part) in
    let split : line_after line part ≡ line_after begun (drop at part) =
    ap (line_after line) (sym (take-append-drop at part)) ∙ line_after-append line (take at part) (drop at part)
    in
    is ∙ sym (ap start_of split ∙ known_stays begun (drop at part) (sym (ap is_known is) ∙ is_known_) (All-drop (λ x. x ≢ 10) at part none))

-- the last of the first `m` bytes
ended_by_feed : (line bytes : List ℕ) (k : ℕ) → k < length bytes → EndsProgress line (take (k + 1) bytes) →
    (start_of (line_after line (take k bytes)) ≡ Progress) × (get_or bytes k 0 ≡ 10)
ended_by_feed line bytes k within ends =
    ends_with_feed line (take k bytes) _ (subst (EndsProgress line) (take_next bytes k within) ends)

-- a progress line that is ended after the first `at` bytes is ended by a line feed
pub unended_part : (line bytes : List ℕ) (at m : ℕ) → m ≤ length bytes →
    ((n : ℕ) → n ≤ at → EndsProgress line (take n bytes) → ⊥) → ((k : ℕ) → at ≤ k → k < m → get_or bytes k 0 ≢ 10) →
    EndsProgress line (take m bytes) → ⊥
unended_part line bytes at m within before none ends =
    let late : at < m → ⊥ = λ lt.
    let k = m - 1 in
    let next : m ≡ k + 1 = omega (arith, lt) in
    none k (omega (arith, lt)) (omega (arith, lt))
    (ended_by_feed line bytes k (omega (arith, lt, within)) (subst (λ n. EndsProgress line (take n bytes)) next ends)).1
    in
    elim (cases_order at m) [
      | inl e ↦ before m (omega (arith, e)) ends
      | inr other ↦ elim other [ inl lt ↦ late lt | inr gt ↦ before m (omega (arith, gt)) ends ]
    ]

-- nor does a line feed end a line of another kind
pub unended_feed : (line bytes : List ℕ) (k : ℕ) (known : LineStart) → k < length bytes →
    known ≡ start_of (line_after line (take k bytes)) → (known ≡ Progress → ⊥) → EndsProgress line (take (k + 1) bytes) → ⊥
unended_feed line bytes k known within is unended ends = unended (is ∙ (ended_by_feed line bytes k within ends).0)
