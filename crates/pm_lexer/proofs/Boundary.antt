-- A token or a gap ends between two characters, and is not empty.
use Rattle.std.proofs.Common.{◌≡◌, ◌<◌, ◌≤◌, ◌+◌, ◌-◌, ℕ, suc, zero, Bool, true, false, List, [], ◌∷◌, length, drop, take, get_or, Option, Some, None, refl, ◌∙◌, arith, cond, inl, inr, ◌⊎◌, if◌then◌else◌, ◌==◌, ◌&&◌, ◌||◌, nat_lt, nat_le, codes, nat_eq, IsUtf8, length-take, length-drop, rules, get_or-drop, lit<}
use Rattle.std.specs.List.{prefix_len, starts_with, position, find, list_all}
use Rattle.std.specs.Str.{bytes_eq}
use Rattle.std.specs.Char.{is_ascii_digit, is_ascii_control}
use Rattle.std.specs.Option.{is_some}
use Rattle.std.proofs.lemmas.Str.{IsCharBoundary-after_ascii, IsCharBoundary-before_ascii, IsCharBoundary-end}
use Rattle.std.proofs.lemmas.Bool.Decides.{nat_tests}
use Rattle.std.proofs.lemmas.List.{get_or-take}
use Rattle.std.proofs.lemmas.Slice.Eq.{bytes_eq-Decides}
use Rattle.std.proofs.lemmas.Bool.{eqb-true, eqb-false}
use Rattle.pm_lexer.specs.declared.token.TokenKind.TheVariants as kind
use Rattle.pm_lexer.specs.declared.symbol.TheConstants.{NUMBER_BYTES}
use Rattle.pm_lexer.specs.declared.head.TheConstants.{NAME_BYTES, DIGITS, DECIMALS}
use Rattle.pm_lexer.specs.Byte.{is_blank, is_letter, is_word, is_inline}
use Rattle.pm_lexer.specs.Pieces.{whole_len, decimals, decimals_len, longer, quotation, single_quotes}
use Rattle.pm_lexer.specs.declared.symbol.Symbol.{Symbol}
use Rattle.pm_lexer.specs.declared.symbol.TheConstants.{SIGNS}
use Rattle.pm_lexer.specs.Symbol.{spelling, reserved_word, canonical_sign, sign_of}
use Rattle.pm_lexer.specs.Head.{name_at, number_at, named_at, closed_name_at, plain_at, quoted_at, closed_text_at, text_at, sign_at, head_of, IsCut, Cuts}

-- a cut after an ASCII byte
cut_after : (text : List ℕ) (n : ℕ) → IsUtf8 text → n < length text → get_or text n 0 < 128 → IsCut text (n + 1)
cut_after text n u h a = record { some = omega arith; within = omega arith; boundary = IsCharBoundary-after_ascii text n u h a }

pub choose : {A : Type 0} (P : A → Type 0) (b : Bool) (x y : A) → (b ≡ true → P x) → (b ≡ false → P y) → P (if b then x else y)
choose P true x y f g = f refl
choose P false x y f g = g refl

-- a run of bytes that pass a test
pub run_within : (p : ℕ → Bool) (xs : List ℕ) → prefix_len p xs ≤ length xs
run_within p [] = omega arith
run_within p (x ∷ xs) = elim (p x) as (λ b. cond b (1 + prefix_len p xs) 0 ≤ length (x ∷ xs)) [ true ↦ (let ih = run_within p xs in omega arith) | false ↦ omega arith ]

pub run_passes : (p : ℕ → Bool) (xs : List ℕ) (i : ℕ) → i < prefix_len p xs → p (get_or xs i 0) ≡ true
run_passes p [] i h = absurd (omega arith)
run_passes p (x ∷ xs) zero h =
    elim (p x) as (λ b. zero < cond b (1 + prefix_len p xs) 0 → b ≡ true) [ true ↦ λ _. refl | false ↦ λ h. absurd (omega arith) ] h
run_passes p (x ∷ xs) (suc i) h =
    run_passes p xs i (elim (p x) as (λ b. suc i < cond b (1 + prefix_len p xs) 0 → i < prefix_len p xs) [ true ↦ λ h. omega arith | false ↦ λ h. absurd (omega arith) ] h)

pub run_stops : (p : ℕ → Bool) (xs : List ℕ) → prefix_len p xs < length xs → p (get_or xs (prefix_len p xs) 0) ≡ false
run_stops p [] h = absurd (omega arith)
run_stops p (x ∷ xs) h =
    elim (p x) as (λ b. p x ≡ b → cond b (1 + prefix_len p xs) 0 < length (x ∷ xs) → p (get_or (x ∷ xs) (cond b (1 + prefix_len p xs) 0) 0) ≡ false) [
      | true ↦ λ e h. let same : 1 + prefix_len p xs ≡ suc (prefix_len p xs) = omega arith in rw same (run_stops p xs (omega arith))
      | false ↦ λ e h. e
    ] refl h

pub run_some : (p : ℕ → Bool) (x : ℕ) (xs : List ℕ) → p x ≡ true → 0 < prefix_len p (x ∷ xs)
run_some p x xs e = rw e (omega arith)

-- a cut after such a run, where only ASCII bytes pass
cut_run : (p : ℕ → Bool) → ((b : ℕ) → p b ≡ true → b < 128) → (text : List ℕ) → IsUtf8 text → 0 < prefix_len p text → IsCut text (prefix_len p text)
cut_run p ascii text u h =
    let n = prefix_len p text in
    let last : n - 1 < prefix_len p text = omega arith in
    let within = run_within p text in
    let small = ascii (get_or text (n - 1) 0) (run_passes p text (n - 1) last) in
    let same : n - 1 + 1 ≡ n = omega arith in
    rw same at (cut_after text (n - 1) u (omega arith) small)

digit_ascii : (b : ℕ) → is_ascii_digit b ≡ true → b < 128
digit_ascii b e = grind (arith, nat_tests)

word_ascii : (b : ℕ) → is_word b ≡ true → b < 128
word_ascii b e = grind (arith, nat_tests)

blank_ascii : (b : ℕ) → is_blank b ≡ true → b < 128
blank_ascii b e = grind (arith, nat_tests)

pub letter_is_word : (b : ℕ) → is_letter b ≡ true → is_word b ≡ true
letter_is_word b e = rw e refl

line_ends : (b : ℕ) → is_inline b ≡ false → b < 128
line_ends b e = grind (arith, nat_tests)

-- a comment
cut_line : (text : List ℕ) → IsUtf8 text → 0 < prefix_len is_inline text → IsCut text (prefix_len is_inline text)
cut_line text u h =
    let within = run_within is_inline text in
    record {
      some = h;
      within = within;
      boundary = elim (at_end (prefix_len is_inline text) (length text) within) [
        | inl last ↦ rw last (IsCharBoundary-end text)
        | inr more ↦ IsCharBoundary-before_ascii text _ more (line_ends _ (run_stops is_inline text more))
      ];
    }
  where
    at_end : (n m : ℕ) → n ≤ m → (n ≡ m) ⊎ (n < m)
    at_end n m h = search (rules, arith)

name_cuts : (at : ℕ) (text : List ℕ) → IsUtf8 text → 0 < prefix_len is_word text → Cuts text (name_at at text)
unfolding name_at
name_cuts at text u h =
    choose (Cuts text) (nat_lt NAME_BYTES (prefix_len is_word text)) _ _ (λ _. tt)
    (λ _. (cut_run is_word word_ascii text u h, no_number (is_some (reserved_word (take (prefix_len is_word text) text)))))
  where
    no_number : {n : ℕ} (b : Bool) → (if b then kind.Reserved else kind.Name) ≡ kind.Number → n ≤ NUMBER_BYTES
    no_number true e = absurd (cc e)
    no_number false e = absurd (cc e)

decimals_within : (text : List ℕ) → decimals text ≤ length text
decimals_within [] = omega arith
decimals_within (b ∷ rest) =
    choose (λ n. n ≤ length (b ∷ rest)) (b == 46) (prefix_len is_ascii_digit rest) 0 (λ _. let h = run_within is_ascii_digit rest in omega arith) (λ _. omega arith)

-- the last digit after a point
decimals_last : (text : List ℕ) → 0 < decimals text → is_ascii_digit (get_or text (decimals text) 0) ≡ true
decimals_last [] h = absurd (omega arith)
decimals_last (b ∷ rest) h =
    choose (λ n. 0 < n → is_ascii_digit (get_or (b ∷ rest) n 0) ≡ true) (b == 46) (prefix_len is_ascii_digit rest) 0
    (λ _ some. last (prefix_len is_ascii_digit rest) some (run_passes is_ascii_digit rest)) (λ _ none. absurd (omega arith)) h
  where
    last : (n : ℕ) → 0 < n → ((i : ℕ) → i < n → is_ascii_digit (get_or rest i 0) ≡ true) → is_ascii_digit (get_or (b ∷ rest) n 0) ≡ true
    last zero some all = absurd (omega arith)
    last (suc n) some all = all n (omega arith)

pub decimals_shorter : (text : List ℕ) → 0 < decimals text → decimals text < length text
decimals_shorter [] h = absurd (omega arith)
decimals_shorter (b ∷ rest) h =
    choose (λ n. 0 < n → n < length (b ∷ rest)) (b == 46) (prefix_len is_ascii_digit rest) 0 (λ _ _. let h = run_within is_ascii_digit rest in omega arith) (λ _ none. absurd (omega arith)) h

number_cuts : (at : ℕ) (text : List ℕ) → IsUtf8 text → 0 < whole_len text → Cuts text (number_at at text)
unfolding number_at
number_cuts at text u h =
    choose (Cuts text) (nat_lt DIGITS (whole_len text + decimals_len text) || nat_lt DECIMALS (decimals_len text)) _ _ (λ _. tt)
    (λ e. choose (λ n. IsCut text n × (kind.Number ≡ kind.Number → n ≤ NUMBER_BYTES)) (decimals_len text == 0) (whole_len text) (whole_len text + 1 + decimals_len text)
    (λ none. (cut_run is_ascii_digit digit_ascii text u h, λ _. short_whole (whole_len text) (decimals_len text) e))
    (λ some. (cut_decimals (omega (arith, eqb-false (decimals_len text) 0 some)), λ _. short_all (whole_len text) (decimals_len text) e)))
  where
    short_whole : (w d : ℕ) → (nat_lt DIGITS (w + d) || nat_lt DECIMALS d) ≡ false → w ≤ NUMBER_BYTES
    short_whole w d e = grind (arith, nat_tests)

    short_all : (w d : ℕ) → (nat_lt DIGITS (w + d) || nat_lt DECIMALS d) ≡ false → w + 1 + d ≤ NUMBER_BYTES
    short_all w d e = grind (arith, nat_tests)

    cut_decimals : 0 < decimals_len text → IsCut text (whole_len text + 1 + decimals_len text)
    cut_decimals some =
        let w = whole_len text in
        let rest = drop w text in
        let d = decimals rest in
        let within = run_within is_ascii_digit text in
        let shorter = decimals_shorter rest some in
        let small = digit_ascii (get_or rest d 0) (decimals_last rest some) in
        let cut = cut_after text (w + d) u (omega (arith, length-drop w text)) (rw (get_or-drop w text d 0) at small) in
        let same : w + d + 1 ≡ w + 1 + d = omega arith in
        rw same at cut

one_past : (b : ℕ) (rest : List ℕ) (m : ℕ) → get_or (b ∷ rest) (1 + m) 0 ≡ get_or rest m 0
one_past b rest m = let e : 1 + m ≡ suc m = omega arith in rw e refl

two_past : (b c : ℕ) (rest : List ℕ) (m : ℕ) → get_or (b ∷ c ∷ rest) (2 + m) 0 ≡ get_or rest m 0
two_past b c rest m = let e : 2 + m ≡ suc (suc m) = omega arith in rw e refl

-- the closing quote
pub quotation_ends : (q : ℕ) (xs : List ℕ) (n : ℕ) → quotation q xs ≡ Some n → (n < length xs) × (get_or xs n 0 ≡ q)
unfolding quotation
quotation_ends q [] n e = absurd (cc e)
quotation_ends q (b ∷ []) n e =
    choose (λ (o : Option ℕ). o ≡ Some n → (n < length (b ∷ [])) × (get_or (b ∷ []) n 0 ≡ q)) (b == q) (Some 0) None
    (λ same h. let z : n ≡ 0 = cc h in rw z (omega arith, eqb-true b q same)) (λ _ h. absurd (cc h)) e
quotation_ends q (b ∷ c ∷ rest) n e =
    choose (λ (o : Option ℕ). o ≡ Some n → (n < length (b ∷ c ∷ rest)) × (get_or (b ∷ c ∷ rest) n 0 ≡ q)) (b == q) _ _
    (λ same. choose (λ (o : Option ℕ). o ≡ Some n → (n < length (b ∷ c ∷ rest)) × (get_or (b ∷ c ∷ rest) n 0 ≡ q)) (c == q) (longer 2 (quotation q rest)) (Some 0)
    (λ _ h. let (m, is, here) = longer_some 2 n (quotation q rest) h in let (within, at) = quotation_ends q rest m is in rw here (omega arith, two_past b c rest m ∙ at))
    (λ _ h. let z : n ≡ 0 = cc h in rw z (omega arith, eqb-true b q same)))
    (λ _ h. let (m, is, here) = longer_some 1 n (quotation q (c ∷ rest)) h in let (within, at) = quotation_ends q (c ∷ rest) m is in rw here (omega arith, one_past b (c ∷ rest) m ∙ at)) e
  where
    longer_some : (k n : ℕ) (o : Option ℕ) → longer k o ≡ Some n → (m : ℕ) × (o ≡ Some m) × (n ≡ k + m)
    longer_some k n None h = absurd (cc h)
    longer_some k n (Some m) h = (m, refl, cc h)

-- after an opening and a closing quote
cut_quotes : (q b : ℕ) (rest : List ℕ) (n : ℕ) → q < 128 → IsUtf8 (b ∷ rest) → quotation q rest ≡ Some n → IsCut (b ∷ rest) (n + 2)
cut_quotes q b rest n small u e =
    let (within, at) = quotation_ends q rest n e in
    let less : get_or (b ∷ rest) (1 + n) 0 < 128 = rw (one_past b rest n, at) small in
    let same : 1 + n + 1 ≡ n + 2 = omega arith in
    rw same at (cut_after (b ∷ rest) (1 + n) u (omega arith) less)

text_cuts : (at b : ℕ) (rest : List ℕ) → IsUtf8 (b ∷ rest) → Cuts (b ∷ rest) (text_at at rest)
text_cuts at b rest u =
    elim (quotation 39 rest) as (λ o. quotation 39 rest ≡ o → Cuts (b ∷ rest) (closed_text_at at o)) [
      | None ↦ λ e. tt
      | Some n ↦ λ e. (cut_quotes 39 b rest n (lit< tt) u e, λ k. absurd (cc k))
    ] refl

named_cuts : (at n : ℕ) (text name : List ℕ) → length name ≡ n → IsCut text (n + 2) → Cuts text (named_at at name)
unfolding named_at
named_cuts at n text name e cut =
    choose (Cuts text) (length name == 0) _ _ (λ _. tt) (λ _. choose (Cuts text) (nat_lt NAME_BYTES (length (single_quotes 34 name))) _ _ (λ _. tt) (λ _. plain (position is_ascii_control name)))
  where
    plain : (o : Option ℕ) → Cuts text (plain_at at (length name) o)
    plain None = (rw e cut, λ k. absurd (cc k))
    plain (Some i) = tt

quoted_cuts : (at b : ℕ) (rest : List ℕ) → IsUtf8 (b ∷ rest) → Cuts (b ∷ rest) (quoted_at at rest)
quoted_cuts at b rest u =
    elim (quotation 34 rest) as (λ o. quotation 34 rest ≡ o → Cuts (b ∷ rest) (closed_name_at at rest o)) [
      | None ↦ λ e. tt
      | Some n ↦ λ e. let (within, _) = quotation_ends 34 rest n e in named_cuts at n (b ∷ rest) (take n rest) (omega (arith, length-take n rest)) (cut_quotes 34 b rest n (lit< tt) u e)
    ] refl

pub first : (a b : Bool) → (a && b) ≡ true → a ≡ true
first true b e = refl
first false b e = absurd (cc e)

pub second : (a b : Bool) → (a && b) ≡ true → b ≡ true
second true b e = e
second false b e = absurd (cc e)

pub bytes_same : (xs ys : List ℕ) → bytes_eq xs ys ≡ true → xs ≡ ys
bytes_same xs ys e = (bytes_eq-Decides xs ys).0 e

-- what a search finds passes, and has what all have
pub found : {A : Type 0} (p q : A → Bool) (xs : List A) → list_all q xs ≡ true → is_some (find p xs) ≡ true → (x : A) × (p x ≡ true) × (q x ≡ true)
found {A} p q [] all some = absurd (cc some)
found {A} p q (x ∷ xs) all some =
    elim (p x) as (λ b. p x ≡ b → is_some (cond b (Some x) (find p xs)) ≡ true → (x : A) × (p x ≡ true) × (q x ≡ true)) [
      | true ↦ λ e _. (x, e, first (q x) (list_all q xs) all)
      | false ↦ λ e h. found p q xs (second (q x) (list_all q xs) all) h
    ] refl some

all_below : (xs : List ℕ) (i : ℕ) → list_all (λ b. nat_lt b 128) xs ≡ true → get_or xs i 0 < 128
all_below [] i all = lit< tt
all_below (x ∷ xs) zero all = let h : nat_lt x 128 ≡ true = first (nat_lt x 128) (list_all (λ b. nat_lt b 128) xs) all in grind (arith, nat_tests)
all_below (x ∷ xs) (suc i) all = all_below xs i (second (nat_lt x 128) (list_all (λ b. nat_lt b 128) xs) all)

-- each sign is of ASCII bytes
sign_found : (bytes : List ℕ) → is_some (canonical_sign bytes) ≡ true → (sign : Symbol) × (bytes ≡ spelling sign) × (list_all (λ b. nat_lt b 128) (spelling sign) ≡ true)
unfolding canonical_sign
sign_found bytes some =
    let (sign, spelt, ascii) = found (λ sign. bytes_eq bytes (spelling sign)) (λ s. list_all (λ b. nat_lt b 128) (spelling s)) SIGNS refl some in
    (sign, bytes_same bytes (spelling sign) spelt, ascii)

cut_sign : (text : List ℕ) (n : ℕ) → IsUtf8 text → 0 < n → n ≤ length text → is_some (sign_of (take n text)) ≡ true → IsCut text n
cut_sign text n u some within e =
    let small : get_or (take n text) (n - 1) 0 < 128 = sign_ascii (take n text) (n - 1) e in
    let last : n - 1 < n = omega arith in
    let cut = cut_after text (n - 1) u (omega arith) (rw (get_or-take n text (n - 1) 0 last) at small) in
    let same : n - 1 + 1 ≡ n = omega arith in
    rw same at cut
  where
    sign_ascii : (bytes : List ℕ) (i : ℕ) → is_some (sign_of bytes) ≡ true → get_or bytes i 0 < 128
    sign_ascii bytes i e = choose (λ (o : Option Symbol). is_some o ≡ true → get_or bytes i 0 < 128) (bytes_eq bytes (codes "!=")) _ _
        (λ same _. rw (bytes_same bytes (codes "!=") same) (all_below (codes "!=") i refl))
        (λ _ some. let (sign, spelt, ascii) = sign_found bytes some in rw spelt (all_below (spelling sign) i ascii)) e

sign_cuts : (at b : ℕ) (rest : List ℕ) → IsUtf8 (b ∷ rest) → Cuts (b ∷ rest) (sign_at at (b ∷ rest))
unfolding sign_at
sign_cuts at b rest u =
    let text = b ∷ rest in
    choose (Cuts text) (nat_le 2 (length text) && is_some (sign_of (take 2 text))) _ _
    (λ e. (cut_sign text 2 u (lit< tt) (two_within (length text) _ e) (second (nat_le 2 (length text)) _ e), λ k. absurd (cc k)))
    (λ _. choose (Cuts text) (is_some (sign_of (take 1 text))) _ _ (λ e. (cut_sign text 1 u (lit< tt) (omega arith) e, λ k. absurd (cc k))) (λ _. tt))
  where
    two_within : (n : ℕ) (b : Bool) → (nat_le 2 n && b) ≡ true → 2 ≤ n
    two_within n b e = grind (arith, nat_tests)

-- a head is a cut of the text, and a number is short
pub head_cuts : (at : ℕ) (text : List ℕ) → IsUtf8 text → 0 < length text → Cuts text (head_of at text)
unfolding head_of
head_cuts at [] u h = tt
head_cuts at (b ∷ rest) u h =
    let text = b ∷ rest in
    choose (Cuts text) (is_blank b) _ _ (λ e. cut_after text 0 u (omega arith) (blank_ascii b e))
    (λ blank. choose (Cuts text) (starts_with nat_eq text (codes "--")) _ _ (λ e. cut_line text u (run_some is_inline b rest (no_blank_inline b blank)))
    (λ _. choose (Cuts text) (is_letter b) _ _ (λ e. name_cuts at text u (run_some is_word b rest (letter_is_word b e)))
    (λ _. choose (Cuts text) (is_ascii_digit b) _ _ (λ e. number_cuts at text u (run_some is_ascii_digit b rest e))
    (λ _. choose (Cuts text) (b == 34) _ _ (λ _. quoted_cuts at b rest u)
    (λ _. choose (Cuts text) (b == 39) _ _ (λ _. text_cuts at b rest u)
    (λ _. sign_cuts at b rest u))))))
  where
    no_blank_inline : (b : ℕ) → is_blank b ≡ false → is_inline b ≡ true
    no_blank_inline b e = grind (arith, nat_tests)
