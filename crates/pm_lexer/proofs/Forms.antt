-- What stands at the head of a text is its longest token, or a gap.
use Rattle.std.proofs.Common.{◌≡◌, ◌<◌, ◌≤◌, ◌+◌, ℕ, suc, Bool, true, false, List, [], ◌∷◌, ◌++◌, length, drop, take, Option, Some, None, Result, Ok, Err, refl, sym, ◌∙◌, arith, inl, inr, if◌then◌else◌, ◌==◌, ◌&&◌, ◌||◌, not, nat_lt, nat_le, nat_eq, codes, is_some, length-take, subst, cond}
use Rattle.std.specs.List.{prefix_len, list_all, starts_with, position}
use Rattle.std.specs.Char.{is_ascii_digit, is_ascii_control}
use Rattle.std.proofs.lemmas.Bool.{eqb-true}
use Rattle.std.proofs.lemmas.Bool.Decides.{nat_tests}
use Rattle.pm_lexer.specs.declared.token.TokenKind.{TokenKind}
use Rattle.pm_lexer.specs.declared.token.TokenKind.TheVariants as kind
use Rattle.pm_lexer.specs.declared.fault.LexBad.{LexBad}
use Rattle.pm_lexer.specs.declared.head.Head.{Head}
use Rattle.pm_lexer.specs.declared.head.Head.TheVariants as head
use Rattle.pm_lexer.specs.declared.symbol.TheConstants.{NUMBER_BYTES}
use Rattle.pm_lexer.specs.declared.head.TheConstants.{NAME_BYTES, DIGITS, DECIMALS}
use Rattle.pm_lexer.specs.Byte.{is_blank, is_letter, is_word, is_inline}
use Rattle.pm_lexer.specs.Pieces.{whole_len, decimals_len, number_len, quotation, single_quotes}
use Rattle.pm_lexer.specs.Symbol.{reserved_word, sign_of}
use Rattle.pm_lexer.specs.Head.{name_at, number_at, plain_at, named_at, closed_name_at, quoted_at, closed_text_at, text_at, sign_at, head_of}
use Rattle.pm_lexer.specs.Parts.{is_name, is_digits, IsNumber, IsQuoted, HasForm, EndsLine, IsComment, IsGap}
use Rattle.pm_lexer.proofs.Boundary.{choose, run_some, letter_is_word, quotation_ends, first, second}
use Rattle.pm_lexer.proofs.Runs.{run_all, run_longest, number_form, number_longest, quotation_form, quoted_longest, is_sign_like, sign_like}

-- the five classes of bytes that begin tokens
abbrev class_by : Bool → Bool → Bool → Bool → ℕ
class_by letter digit quote text_quote = if letter then 0 else (if digit then 1 else (if quote then 2 else (if text_quote then 3 else 4)))

abbrev class : ℕ → ℕ
class b = class_by (is_letter b) (is_ascii_digit b) (b == 34) (b == 39)

abbrev class_of : TokenKind → ℕ
class_of kind.Name = 0
class_of kind.Reserved = 0
class_of kind.Number = 1
class_of kind.Quoted = 2
class_of kind.Text = 3
class_of kind.Sign = 4
class_of kind.End = 5

letter_class : (b : ℕ) → is_letter b ≡ true → class b ≡ 0
letter_class b e = rw e refl

digit_class : (b : ℕ) → is_ascii_digit b ≡ true → class b ≡ 1
digit_class b e = let other : is_letter b ≡ false = grind (arith, nat_tests) in rw (other, e) refl

sign_class : (b : ℕ) (rest : List ℕ) → is_sign_like (b ∷ rest) ≡ true → class b ≡ 4
sign_class b rest e = apart (is_letter b) (is_ascii_digit b) (b == 34) (b == 39) (second (nat_le (length rest) 1) _ e)
  where
    apart : (l d q t : Bool) → not (l || d || q || t) ≡ true → class_by l d q t ≡ 4
    apart true d q t e = absurd (cc e)
    apart false true q t e = absurd (cc e)
    apart false false true t e = absurd (cc e)
    apart false false false true e = absurd (cc e)
    apart false false false false e = refl

number_begins : (b : ℕ) (rest : List ℕ) → IsNumber (b ∷ rest) → is_ascii_digit b ≡ true
number_begins b rest (inl digits) = first (is_ascii_digit b) (list_all is_ascii_digit rest) digits
number_begins b rest (inr parts) = of parts.0 parts.2 parts.3
  where
    of : (whole : List ℕ) → b ∷ rest ≡ whole ++ 46 ∷ parts.1 → is_digits whole ≡ true → is_ascii_digit b ≡ true
    of [] e digits = absurd (cc digits)
    of (c ∷ whole) e digits = let same : b ≡ c = cc e in rw same (first (is_ascii_digit c) (list_all is_ascii_digit whole) digits)

-- a token begins with a byte of its class
form_class : (k : TokenKind) (b : ℕ) (rest : List ℕ) → HasForm k (b ∷ rest) → class b ≡ class_of k
form_class kind.Name b rest form = letter_class b (first (is_letter b) (list_all is_word rest) form.0)
form_class kind.Reserved b rest form = letter_class b (first (is_letter b) (list_all is_word rest) form.0)
form_class kind.Number b rest form = digit_class b (number_begins b rest form)
form_class kind.Quoted b rest form = let same : b ≡ 34 = cc form.1 in rw same refl
form_class kind.Text b rest form = let same : b ≡ 39 = cc form.1 in rw same refl
form_class kind.Sign b rest form = sign_class b rest (sign_like (b ∷ rest) form)
form_class kind.End b rest form = absurd form

no_form : (k : TokenKind) → HasForm k [] → ⊥
no_form kind.Name form = cc form.0
no_form kind.Reserved form = cc form.0
no_form kind.Number (inl digits) = cc digits
no_form kind.Number (inr parts) = of parts.0 parts.2
  where
    of : (whole : List ℕ) → [] ≡ whole ++ 46 ∷ parts.1 → ⊥
    of [] e = cc e
    of (c ∷ whole) e = cc e
no_form kind.Quoted form = cc form.1
no_form kind.Text form = cc form.1
no_form kind.Sign form = cc (sign_like [] form)
no_form kind.End form = form

-- so does each token at the head of the text
head_class : (k : TokenKind) (b : ℕ) (rest bytes after : List ℕ) → b ∷ rest ≡ bytes ++ after → HasForm k bytes → class b ≡ class_of k
head_class k b rest [] after split form = absurd (no_form k form)
head_class k b rest (c ∷ bytes) after split form = let same : b ≡ c = cc split in rw same (form_class k c bytes form)

-- a token of n bytes, the longest at the head of the text
pub record Reaches (k : TokenKind) (n : ℕ) (text : List ℕ) : Type 0 where
  pub form : HasForm k (take n text)
  pub longest : (other : TokenKind) (bytes after : List ℕ) → text ≡ bytes ++ after → HasForm other bytes → length bytes ≤ n

abbrev pub IsHead : List ℕ → Result Head LexBad → Type 0
IsHead text (Ok (head.Gap n)) = IsGap (take n text) (drop n text)
IsHead text (Ok (head.Piece k n)) = Reaches k n text × (starts_with nat_eq text (codes "--") ≡ false)
IsHead text (Err e) = Unit {0}

-- the longest of one class
of_class : (k : TokenKind) (n c b : ℕ) (rest : List ℕ) → class b ≡ c → HasForm k (take n (b ∷ rest))
    → ((other : TokenKind) (bytes after : List ℕ) → c ≡ class_of other → b ∷ rest ≡ bytes ++ after → HasForm other bytes → length bytes ≤ n) → Reaches k n (b ∷ rest)
of_class k n c b rest is form reach = record { form = form; longest = λ other bytes after split f. reach other bytes after (sym is ∙ head_class other b rest bytes after split f) split f }

word_form : (b : ℕ) (rest : List ℕ) → is_letter b ≡ true → is_name (take (prefix_len is_word (b ∷ rest)) (b ∷ rest)) ≡ true
word_form b rest e =
    let passes = letter_is_word b e in
    let same : 1 + prefix_len is_word rest ≡ suc (prefix_len is_word rest) = omega arith in
    rw (passes, same, e) (run_all is_word rest)

names_all : (bytes : List ℕ) → is_name bytes ≡ true → list_all is_word bytes ≡ true
names_all [] e = refl
names_all (b ∷ bytes) e = let passes = letter_is_word b (first (is_letter b) (list_all is_word bytes) e) in rw passes (second (is_letter b) (list_all is_word bytes) e)

word_longest : (text bytes after : List ℕ) → text ≡ bytes ++ after → is_name bytes ≡ true → length bytes ≤ prefix_len is_word text
word_longest text bytes after split e = rw split (run_longest is_word bytes after (names_all bytes e))

word_reach : (b : ℕ) (rest : List ℕ) (other : TokenKind) (bytes after : List ℕ) → 0 ≡ class_of other → b ∷ rest ≡ bytes ++ after → HasForm other bytes → length bytes ≤ prefix_len is_word (b ∷ rest)
word_reach b rest kind.Name bytes after c split form = word_longest (b ∷ rest) bytes after split form.0
word_reach b rest kind.Reserved bytes after c split form = word_longest (b ∷ rest) bytes after split form.0
word_reach b rest kind.Number bytes after c split form = absurd (omega arith)
word_reach b rest kind.Quoted bytes after c split form = absurd (omega arith)
word_reach b rest kind.Text bytes after c split form = absurd (omega arith)
word_reach b rest kind.Sign bytes after c split form = absurd (omega arith)
word_reach b rest kind.End bytes after c split form = absurd form

number_reach : (text : List ℕ) (other : TokenKind) (bytes after : List ℕ) → 1 ≡ class_of other → text ≡ bytes ++ after → HasForm other bytes → length bytes ≤ number_len text
number_reach text kind.Name bytes after c split form = absurd (omega arith)
number_reach text kind.Reserved bytes after c split form = absurd (omega arith)
number_reach text kind.Number bytes after c split form = number_longest text bytes after split form
number_reach text kind.Quoted bytes after c split form = absurd (omega arith)
number_reach text kind.Text bytes after c split form = absurd (omega arith)
number_reach text kind.Sign bytes after c split form = absurd (omega arith)
number_reach text kind.End bytes after c split form = absurd form

quoted_reach : (b : ℕ) (rest : List ℕ) (n : ℕ) → quotation 34 rest ≡ Some n → (other : TokenKind) (bytes after : List ℕ) → 2 ≡ class_of other → b ∷ rest ≡ bytes ++ after → HasForm other bytes → length bytes ≤ n + 2
quoted_reach b rest n e kind.Name bytes after c split form = absurd (omega arith)
quoted_reach b rest n e kind.Reserved bytes after c split form = absurd (omega arith)
quoted_reach b rest n e kind.Number bytes after c split form = absurd (omega arith)
quoted_reach b rest n e kind.Quoted bytes after c split form = quoted_longest 34 b rest bytes after n split e form
quoted_reach b rest n e kind.Text bytes after c split form = absurd (omega arith)
quoted_reach b rest n e kind.Sign bytes after c split form = absurd (omega arith)
quoted_reach b rest n e kind.End bytes after c split form = absurd form

text_reach : (b : ℕ) (rest : List ℕ) (n : ℕ) → quotation 39 rest ≡ Some n → (other : TokenKind) (bytes after : List ℕ) → 3 ≡ class_of other → b ∷ rest ≡ bytes ++ after → HasForm other bytes → length bytes ≤ n + 2
text_reach b rest n e kind.Name bytes after c split form = absurd (omega arith)
text_reach b rest n e kind.Reserved bytes after c split form = absurd (omega arith)
text_reach b rest n e kind.Number bytes after c split form = absurd (omega arith)
text_reach b rest n e kind.Quoted bytes after c split form = absurd (omega arith)
text_reach b rest n e kind.Text bytes after c split form = quoted_longest 39 b rest bytes after n split e form
text_reach b rest n e kind.Sign bytes after c split form = absurd (omega arith)
text_reach b rest n e kind.End bytes after c split form = absurd form

sign_reach : (text : List ℕ) (n : ℕ) → ((bytes after : List ℕ) → text ≡ bytes ++ after → is_some (sign_of bytes) ≡ true → length bytes ≤ n)
    → (other : TokenKind) (bytes after : List ℕ) → 4 ≡ class_of other → text ≡ bytes ++ after → HasForm other bytes → length bytes ≤ n
sign_reach text n most kind.Name bytes after c split form = absurd (omega arith)
sign_reach text n most kind.Reserved bytes after c split form = absurd (omega arith)
sign_reach text n most kind.Number bytes after c split form = absurd (omega arith)
sign_reach text n most kind.Quoted bytes after c split form = absurd (omega arith)
sign_reach text n most kind.Text bytes after c split form = absurd (omega arith)
sign_reach text n most kind.Sign bytes after c split form = most bytes after split form
sign_reach text n most kind.End bytes after c split form = absurd form

name_head : (at b : ℕ) (rest : List ℕ) → is_letter b ≡ true → starts_with nat_eq (b ∷ rest) (codes "--") ≡ false → IsHead (b ∷ rest) (name_at at (b ∷ rest))
unfolding name_at
name_head at b rest e plain =
    let text : List ℕ = b ∷ rest in
    let n : ℕ = prefix_len is_word text in
    choose (IsHead text) (nat_lt NAME_BYTES n) _ _ (λ _. tt) (λ _.
    elim (is_some (reserved_word (take n text))) as (λ w. is_some (reserved_word (take n text)) ≡ w → Reaches (if w then kind.Reserved else kind.Name) n text × (starts_with nat_eq text (codes "--") ≡ false)) [
      | true ↦ λ w. (of_class kind.Reserved n 0 b rest (letter_class b e) (word_form b rest e, w) (word_reach b rest), plain)
      | false ↦ λ w. (of_class kind.Name n 0 b rest (letter_class b e) (word_form b rest e, w) (word_reach b rest), plain)
    ] refl)

number_head : (at b : ℕ) (rest : List ℕ) → is_ascii_digit b ≡ true → starts_with nat_eq (b ∷ rest) (codes "--") ≡ false → IsHead (b ∷ rest) (number_at at (b ∷ rest))
unfolding number_at
number_head at b rest e plain =
    choose (IsHead (b ∷ rest)) (nat_lt DIGITS (whole_len (b ∷ rest) + decimals_len (b ∷ rest)) || nat_lt DECIMALS (decimals_len (b ∷ rest))) _ _ (λ _. tt)
    (λ _. (of_class kind.Number (number_len (b ∷ rest)) 1 b rest (digit_class b e) (number_form (b ∷ rest) (run_some is_ascii_digit b rest e)) (number_reach (b ∷ rest)), plain))

-- up to the closing quote
quotes_form : (q b : ℕ) (rest : List ℕ) (n : ℕ) → b ≡ q → quotation q rest ≡ Some n → IsQuoted q (take (n + 2) (b ∷ rest))
quotes_form q b rest n same e =
    let (content, cut) = quotation_form q rest n e in
    let size : n + 2 ≡ suc (n + 1) = omega arith in
    (content, rw (size, same, cut) refl)

text_head : (at b : ℕ) (rest : List ℕ) → b ≡ 39 → starts_with nat_eq (b ∷ rest) (codes "--") ≡ false → IsHead (b ∷ rest) (text_at at rest)
text_head at b rest same plain =
    elim (quotation 39 rest) as (λ o. quotation 39 rest ≡ o → IsHead (b ∷ rest) (closed_text_at at o)) [
      | None ↦ λ e. tt
      | Some n ↦ λ e. (of_class kind.Text (n + 2) 3 b rest (rw same refl) (quotes_form 39 b rest n same e) (text_reach b rest n e), plain)
    ] refl

named_head : (at n : ℕ) (text name : List ℕ) → length name ≡ n → Reaches kind.Quoted (n + 2) text × (starts_with nat_eq text (codes "--") ≡ false) → IsHead text (named_at at name)
unfolding named_at
named_head at n text name size reaches =
    choose (IsHead text) (length name == 0) _ _ (λ _. tt) (λ _. choose (IsHead text) (nat_lt NAME_BYTES (length (single_quotes 34 name))) _ _ (λ _. tt) (λ _. plain_head (position is_ascii_control name)))
  where
    plain_head : (o : Option ℕ) → IsHead text (plain_at at (length name) o)
    plain_head None = rw size reaches
    plain_head (Some i) = tt

quoted_head : (at b : ℕ) (rest : List ℕ) → b ≡ 34 → starts_with nat_eq (b ∷ rest) (codes "--") ≡ false → IsHead (b ∷ rest) (quoted_at at rest)
quoted_head at b rest same plain =
    elim (quotation 34 rest) as (λ o. quotation 34 rest ≡ o → IsHead (b ∷ rest) (closed_name_at at rest o)) [
      | None ↦ λ e. tt
      | Some n ↦ λ e. named_head at n (b ∷ rest) (take n rest) (let within = (quotation_ends 34 rest n e).0 in omega (arith, length-take n rest))
          (of_class kind.Quoted (n + 2) 2 b rest (rw same refl) (quotes_form 34 b rest n same e) (quoted_reach b rest n e), plain)
    ] refl

sign_head : (at b : ℕ) (rest : List ℕ) → class b ≡ 4 → starts_with nat_eq (b ∷ rest) (codes "--") ≡ false → IsHead (b ∷ rest) (sign_at at (b ∷ rest))
unfolding sign_at
sign_head at b rest c plain =
    let text : List ℕ = b ∷ rest in
    choose (IsHead text) (nat_le 2 (length text) && is_some (sign_of (take 2 text))) _ _
    (λ e. (of_class kind.Sign 2 4 b rest c (second (nat_le 2 (length text)) _ e) (sign_reach text 2 (λ bytes after split some. two bytes (sign_like bytes some))), plain))
    (λ no_two. choose (IsHead text) (is_some (sign_of (take 1 text))) _ _ (λ e. (of_class kind.Sign 1 4 b rest c e (sign_reach text 1 (λ bytes after split some. one bytes after split some no_two)), plain)) (λ _. tt))
  where
    long : (n : ℕ) → nat_le 2 (suc (suc n)) ≡ true
    long n = grind (arith, nat_tests)

    two : (bytes : List ℕ) → is_sign_like bytes ≡ true → length bytes ≤ 2
    two [] e = omega arith
    two (c ∷ bytes) e = let short : nat_le (length bytes) 1 ≡ true = first (nat_le (length bytes) 1) _ e in grind (arith, nat_tests)

    one : (bytes after : List ℕ) → b ∷ rest ≡ bytes ++ after → is_some (sign_of bytes) ≡ true → (nat_le 2 (length (b ∷ rest)) && is_some (sign_of (take 2 (b ∷ rest)))) ≡ false → length bytes ≤ 1
    one [] after split some no_two = omega arith
    one (x ∷ []) after split some no_two = omega arith
    one (x ∷ y ∷ []) after split some no_two = absurd (let two_signs = subst (λ (t : List ℕ). (nat_le 2 (length t) && is_some (sign_of (take 2 t))) ≡ false) split no_two in
        let enough : nat_le 2 (length (x ∷ y ∷ after)) ≡ true = long (length after) in
        let found : (nat_le 2 (length (x ∷ y ∷ after)) && is_some (sign_of (x ∷ y ∷ []))) ≡ true = rw (enough, some) refl in cc)
    one (x ∷ y ∷ z ∷ bytes) after split some no_two = let short = two (x ∷ y ∷ z ∷ bytes) (sign_like (x ∷ y ∷ z ∷ bytes) some) in absurd (omega arith)

line_end : (xs : List ℕ) → EndsLine (drop (prefix_len is_inline xs) xs)
line_end [] = tt
line_end (x ∷ xs) = elim (is_inline x) as (λ b. is_inline x ≡ b → EndsLine (drop (cond b (1 + prefix_len is_inline xs) 0) (x ∷ xs))) [
  | true ↦ λ e. let same : 1 + prefix_len is_inline xs ≡ suc (prefix_len is_inline xs) = omega arith in rw same (line_end xs)
  | false ↦ λ e. line_feed (x == 10) e (eqb-true x 10)
] refl
  where
    line_feed : (b : Bool) → not b ≡ false → (b ≡ true → x ≡ 10) → x ≡ 10
    line_feed true e is = is refl
    line_feed false e is = absurd (cc e)

comment_head : (text : List ℕ) → starts_with nat_eq text (codes "--") ≡ true → IsComment (take (prefix_len is_inline text) text) (drop (prefix_len is_inline text) text)
comment_head [] e = absurd (cc e)
comment_head (b ∷ []) e = absurd (let alone = second (nat_eq 45 b) false e in cc)
comment_head (b ∷ c ∷ more) e =
    let one : b ≡ 45 = sym (eqb-true 45 b (first (nat_eq 45 b) (nat_eq 45 c && true) e)) in
    let other : c ≡ 45 = sym (eqb-true 45 c (first (nat_eq 45 c) true (second (nat_eq 45 b) (nat_eq 45 c && true) e))) in
    let size : prefix_len is_inline (b ∷ c ∷ more) ≡ suc (suc (prefix_len is_inline more)) = rw (one, other) (omega arith) in
    record { dashes = rw size e; one_line = run_all is_inline (b ∷ c ∷ more); ends = line_end (b ∷ c ∷ more) }

-- what head_of answers
pub head_is : (at : ℕ) (text : List ℕ) → 0 < length text → IsHead text (head_of at text)
unfolding head_of
head_is at [] some = tt
head_is at (b ∷ rest) some =
    let text = b ∷ rest in
    choose (IsHead text) (is_blank b) _ _ (λ e. inl (b, refl, e))
    (λ blank. choose (IsHead text) (starts_with nat_eq text (codes "--")) _ _ (λ e. inr (comment_head text e))
    (λ plain. choose (IsHead text) (is_letter b) _ _ (λ e. name_head at b rest e plain)
    (λ letter. choose (IsHead text) (is_ascii_digit b) _ _ (λ e. number_head at b rest e plain)
    (λ digit. choose (IsHead text) (b == 34) _ _ (λ e. quoted_head at b rest (eqb-true b 34 e) plain)
    (λ quote. choose (IsHead text) (b == 39) _ _ (λ e. text_head at b rest (eqb-true b 39 e) plain)
    (λ text_quote. sign_head at b rest (rw (letter, digit, quote, text_quote) refl) plain))))))
