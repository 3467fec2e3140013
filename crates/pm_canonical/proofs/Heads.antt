-- What stands at the head of a text, for each kind of token.
use Rattle.std.proofs.Common.{◌≡◌, ◌<◌, ◌≤◌, ◌+◌, ℕ, Bool, true, false, not, List, [], ◌∷◌, ◌++◌, length, Some, None, Ok, if◌then◌else◌, ◌==◌, ◌&&◌, ◌||◌, nat_lt, nat_eq, codes, refl, sym, ◌∙◌, ap, arith, length-append}
use Rattle.std.specs.List.{list_all, starts_with, position, position_from}
use Rattle.std.specs.Option.{is_some}
use Rattle.std.specs.Char.{is_ascii_digit, is_ascii_control}
use Rattle.std.proofs.lemmas.Bool.{and_left, and_parts, ne_eqb, le-ltb, or_from}
use Rattle.std.proofs.lemmas.Bool.Decides.{nat_tests}
use Rattle.std.proofs.lemmas.List.{append_assoc}
use Rattle.std.proofs.lemmas.Iterator.Adapters.{position_from-zero}
use Rattle.std.proofs.Math.Seq.{take-append_seam}
use Rattle.pm_lexer.specs.declared.token.TokenKind.TheVariants as kind
use Rattle.pm_lexer.specs.declared.head.Head.TheVariants as head
use Rattle.pm_lexer.specs.Byte.{is_blank, is_letter, is_word}
use Rattle.pm_lexer.specs.Pieces.{whole_len, decimals_len, number_len, single_quotes}
use Rattle.pm_lexer.specs.Symbol.{reserved_word}
use Rattle.pm_lexer.specs.Head.{name_at, number_at, named_at, quoted_at, text_at, head_of}
use Rattle.pm_lexer.specs.Quoting.{doubled, quoted}
use Rattle.pm_canonical.proofs.Valid.{Every}
use Rattle.pm_canonical.proofs.Runs.{Follows, run_whole, follows_weaker, all_head}
use Rattle.pm_canonical.proofs.Quoting.{other_than, quotation_doubled, single_doubled, all_doubled}
use Rattle.pm_canonical.proofs.Numbers.{point, ends_number, whole_is, decimals_is, number_is}
use Rattle.pm_canonical.proofs.Spelling.{Opens, stops, ends}

-- what ends a word, a quoted piece and a number
word_ends : (b : ℕ) → stops b ≡ true → not (is_word b) ≡ true
word_ends b e = grind (arith, nat_tests)

quote_ends : (b : ℕ) → stops b ≡ true → other_than 34 b ≡ true
quote_ends b e = grind (arith, nat_tests)

text_ends : (b : ℕ) → ends b ≡ true → other_than 39 b ≡ true
text_ends b e = grind (arith, nat_tests)

number_ends : (b : ℕ) → ends b ≡ true → ends_number b ≡ true
number_ends b e = grind (arith, nat_tests)

-- a name or a reserved word
no_comment : (b : ℕ) (rest : List ℕ) → (45 ≡ b → ⊥) → starts_with nat_eq (b ∷ rest) (codes "--") ≡ false
no_comment b rest other = and_left _ _ (ne_eqb 45 b other)

letter_not_blank : (b : ℕ) → is_letter b ≡ true → is_blank b ≡ false
letter_not_blank b e = grind (arith, nat_tests)

letter_not_minus : (b : ℕ) → is_letter b ≡ true → 45 ≡ b → ⊥
letter_not_minus b e h = grind (arith, nat_tests)

head_is_name : (at b : ℕ) (rest : List ℕ) → is_letter b ≡ true → head_of at (b ∷ rest) ≡ name_at at (b ∷ rest)
unfolding head_of
head_is_name at b rest e = rw (letter_not_blank b e, no_comment b rest (letter_not_minus b e), e) refl

name_is : (at : ℕ) (w rest : List ℕ) → list_all is_word w ≡ true → length w ≤ 64 → Follows stops rest
    → name_at at (w ++ rest) ≡ Ok (head.Piece (if is_some (reserved_word w) then kind.Reserved else kind.Name) (length w))
unfolding name_at
name_is at w rest all short after =
    let run = run_whole is_word w rest all (follows_weaker stops (λ b. not (is_word b)) word_ends rest after) in
    rw (run, take-append_seam w rest, le-ltb 64 (length w) short) refl

-- the bytes of a name or a word: letters, digits and underscores after a letter
abbrev pub is_wordy : List ℕ → Bool
is_wordy [] = false
is_wordy (b ∷ rest) = is_letter b && list_all is_word rest

letter_is_word : (b : ℕ) → is_letter b ≡ true → is_word b ≡ true
letter_is_word b e = rw e refl

pub word_opens : (w : List ℕ) → is_wordy w ≡ true → length w ≤ 64 → (rest : List ℕ) → Follows stops rest → Opens (if is_some (reserved_word w) then kind.Reserved else kind.Name) w rest
word_opens [] wordy short rest after at = absurd (cc wordy)
word_opens (b ∷ w) wordy short rest after at =
    let (letter, words) = and_parts (is_letter b) (list_all is_word w) wordy in
    head_is_name at b (w ++ rest) letter ∙ name_is at (b ∷ w) rest (rw (letter_is_word b letter, words) refl) short after

-- a quoted name
named_is : (at : ℕ) (xs : List ℕ) → (length xs == 0) ≡ false → nat_lt 64 (length (single_quotes 34 xs)) ≡ false → position is_ascii_control xs ≡ None → named_at at xs ≡ Ok (head.Piece kind.Quoted (length xs + 2))
unfolding named_at
named_is at xs some short none = rw (some, short, none) refl

quoted_is : (at : ℕ) (xs rest : List ℕ) → Follows (other_than 34) rest → quoted_at at (doubled 34 xs ++ 34 ∷ rest) ≡ named_at at (doubled 34 xs)
quoted_is at xs rest after = rw (quotation_doubled 34 xs rest after, take-append_seam (doubled 34 xs) (34 ∷ rest)) refl

head_is_quoted : (at : ℕ) (rest : List ℕ) → head_of at (34 ∷ rest) ≡ quoted_at at rest
unfolding head_of
head_is_quoted at rest = refl

some_doubled : (q : ℕ) (xs : List ℕ) → 0 < length xs → 0 < length (doubled q xs)
unfolding doubled
some_doubled q [] some = absurd (omega arith)
some_doubled q (b ∷ xs) some = elim (b == q) as (λ t. 0 < length (if t then b ∷ b ∷ doubled q xs else b ∷ doubled q xs)) [ true ↦ omega arith | false ↦ omega arith ]

none_shown : (i : ℕ) (xs : List ℕ) → list_all (λ b. not (is_ascii_control b)) xs ≡ true → position_from is_ascii_control i xs ≡ None
none_shown i [] all = refl
none_shown i (x ∷ xs) all =
    elim (is_ascii_control x) as (λ t. (not t && list_all (λ b. not (is_ascii_control b)) xs) ≡ true → (if t then Some i else position_from is_ascii_control (i + 1) xs) ≡ None) [
      | true ↦ λ h. absurd (cc h)
      | false ↦ λ h. none_shown (i + 1) xs h
    ] all

all_shown : (xs : List ℕ) → Every (λ b. is_ascii_control b ≡ false) xs → list_all (λ b. not (is_ascii_control b)) xs ≡ true
all_shown [] every = refl
all_shown (x ∷ xs) every = rw (every.0, all_shown xs every.1) refl

quoted_slice : (q : ℕ) (xs rest : List ℕ) → quoted q xs ++ rest ≡ q ∷ (doubled q xs ++ q ∷ rest)
quoted_slice q xs rest = ap (λ t. q ∷ t) (append_assoc (doubled q xs) (q ∷ []) rest)

quoted_len : (q : ℕ) (xs : List ℕ) → length (quoted q xs) ≡ length (doubled q xs) + 2
quoted_len q xs = omega (arith, length-append (doubled q xs) (q ∷ []))

pub quoted_opens : (name : List ℕ) → 0 < length name → length name ≤ 64 → Every (λ b. is_ascii_control b ≡ false) name → (rest : List ℕ) → Follows stops rest → Opens kind.Quoted (quoted 34 name) rest
quoted_opens name some short clean rest after at =
    let shown : position is_ascii_control (doubled 34 name) ≡ None =
    position_from-zero is_ascii_control (doubled 34 name) ∙ none_shown 0 (doubled 34 name) (all_doubled (λ b. not (is_ascii_control b)) 34 name (all_shown name clean)) in
    let long : nat_lt 64 (length (single_quotes 34 (doubled 34 name))) ≡ false = rw (single_doubled 34 name) (le-ltb 64 (length name) short) in
    let filled : (length (doubled 34 name) == 0) ≡ false = ne_eqb _ 0 (λ h. let s = some_doubled 34 name some in omega arith) in
    ap (head_of at) (quoted_slice 34 name rest) ∙ head_is_quoted at (doubled 34 name ++ 34 ∷ rest)
    ∙ quoted_is at name rest (follows_weaker stops (other_than 34) quote_ends rest after) ∙ named_is at (doubled 34 name) filled long shown
    ∙ ap (λ n. Ok (head.Piece kind.Quoted n)) (sym (quoted_len 34 name))

-- a text
head_is_text : (at : ℕ) (rest : List ℕ) → head_of at (39 ∷ rest) ≡ text_at at rest
unfolding head_of
head_is_text at rest = refl

text_is : (at : ℕ) (xs rest : List ℕ) → Follows (other_than 39) rest → text_at at (doubled 39 xs ++ 39 ∷ rest) ≡ Ok (head.Piece kind.Text (length (doubled 39 xs) + 2))
text_is at xs rest after = rw (quotation_doubled 39 xs rest after) refl

pub text_opens : (text rest : List ℕ) → Follows ends rest → Opens kind.Text (quoted 39 text) rest
text_opens text rest after at =
    ap (head_of at) (quoted_slice 39 text rest) ∙ head_is_text at (doubled 39 text ++ 39 ∷ rest)
    ∙ text_is at text rest (follows_weaker ends (other_than 39) text_ends rest after) ∙ ap (λ n. Ok (head.Piece kind.Text n)) (sym (quoted_len 39 text))

-- a number
digit_not_blank : (b : ℕ) → is_ascii_digit b ≡ true → is_blank b ≡ false
digit_not_blank b e = grind (arith, nat_tests)

digit_not_minus : (b : ℕ) → is_ascii_digit b ≡ true → 45 ≡ b → ⊥
digit_not_minus b e h = grind (arith, nat_tests)

digit_not_letter : (b : ℕ) → is_ascii_digit b ≡ true → is_letter b ≡ false
digit_not_letter b e = grind (arith, nat_tests)

head_is_number : (at b : ℕ) (rest : List ℕ) → is_ascii_digit b ≡ true → head_of at (b ∷ rest) ≡ number_at at (b ∷ rest)
unfolding head_of
head_is_number at b rest e = rw (digit_not_blank b e, no_comment b rest (digit_not_minus b e), digit_not_letter b e, e) refl

number_at_is : (at : ℕ) (text : List ℕ) (w d n : ℕ) → decimals_len text ≡ d → whole_len text ≡ w → number_len text ≡ n → d ≤ 6 → w + d ≤ 30 → number_at at text ≡ Ok (head.Piece kind.Number n)
unfolding number_at
number_at_is at text w d n part whole long few short =
    let within : (nat_lt 30 (whole_len text + decimals_len text) || nat_lt 6 (decimals_len text)) ≡ false = or_from _ _ (le-ltb 30 (whole_len text + decimals_len text) (omega (arith, part, whole))) (le-ltb 6 (decimals_len text) (omega (arith, part))) in
    rw (within, long) refl

pub number_opens : (w d : List ℕ) → 0 < length w → list_all is_ascii_digit w ≡ true → list_all is_ascii_digit d ≡ true → length d ≤ 6 → length w + length d ≤ 30
    → (rest : List ℕ) → Follows ends rest → Opens kind.Number (w ++ point d) rest
number_opens [] d some whole part few short rest after at = absurd (omega arith)
number_opens (b ∷ w) d some whole part few short rest after at =
    let next = follows_weaker ends ends_number number_ends rest after in
    ap (head_of at) (append_assoc (b ∷ w) (point d) rest) ∙ head_is_number at b (w ++ (point d ++ rest)) (all_head is_ascii_digit b w whole)
    ∙ number_at_is at ((b ∷ w) ++ (point d ++ rest)) (length (b ∷ w)) (length d) (length ((b ∷ w) ++ point d)) (decimals_is (b ∷ w) d rest whole part next) (whole_is (b ∷ w) d rest whole next) (number_is (b ∷ w) d rest whole part next) few short
