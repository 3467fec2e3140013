-- Every token of a text is formed as its kind says.
use Rattle.std.proofs.Common.{◌≡◌, ◌<◌, ◌≤◌, ◌+◌, ◌-◌, ℕ, suc, zero, Bool, true, false, not, List, [], ◌∷◌, ◌++◌, length, take, All, Some, None, Result, Ok, Err, cond, if◌then◌else◌, ◌==◌, ◌&&◌, ◌||◌, nat_lt, nat_le, nat_eq, codes, refl, sym, ◌∙◌, ap, arith}
use Rattle.std.specs.List.{prefix_len, list_all, starts_with, position, position_from}
use Rattle.std.specs.Option.{is_some}
use Rattle.std.specs.Char.{is_ascii_digit, is_ascii_control}
use Rattle.std.proofs.lemmas.Bool.{cond_both, and_from, eqb-true, eqb-false, not-true, not_from_false}
use Rattle.std.proofs.lemmas.Bool.Decides.{nat_tests}
use Rattle.std.proofs.lemmas.List.Elements.{All-nil, All-cons}
use Rattle.std.proofs.lemmas.List.Folds.{length-prefix_len}
use Rattle.std.proofs.lemmas.Iterator.Adapters.{position_from-zero}
use Rattle.std.proofs.Math.Seq.{take-append_seam, take-append-add}
use Rattle.pm_lexer.specs.declared.token.Token.{Token}
use Rattle.pm_lexer.specs.declared.token.TokenKind.{TokenKind}
use Rattle.pm_lexer.specs.declared.token.TokenKind.TheVariants as kind
use Rattle.pm_lexer.specs.declared.fault.LexBad.{LexBad}
use Rattle.pm_lexer.specs.declared.head.Head.{Head}
use Rattle.pm_lexer.specs.declared.head.Head.TheVariants as head
use Rattle.pm_lexer.specs.Byte.{is_blank, is_letter, is_word}
use Rattle.pm_lexer.specs.Pieces.{whole_len, decimals_len, longer, quotation, single_quotes, content_at}
use Rattle.pm_lexer.specs.Symbol.{reserved_word, sign_of}
use Rattle.pm_lexer.specs.Head.{name_at, number_at, named_at, closed_name_at, plain_at, quoted_at, closed_text_at, text_at, sign_at, head_of}
use Rattle.pm_lexer.specs.Tokens.{before, end_token, tokens_after, tokens_of}
use Rattle.pm_canonical.proofs.Valid.{Every}
use Rattle.pm_canonical.proofs.Formed.{IsPlainName, IsFormedAt, IsFormed}
use Rattle.pm_canonical.proofs.Runs.{run_all, all_head, all_tail}
use Rattle.pm_canonical.proofs.Numbers.{number_at_formed}
use Rattle.pm_canonical.proofs.Quoting.{inside_quotes, all_single, some_single}

-- what a head says of the token that it is
abbrev pub Forms : List ℕ → Result Head LexBad → Type 0
Forms text (Ok (head.Gap n)) = Unit {0}
Forms text (Ok (head.Piece k n)) = IsFormedAt k (take n text)
Forms text (Err e) = Unit {0}

-- a plain name, or a reserved word
word_run : (b : ℕ) (rest : List ℕ) → is_letter b ≡ true → prefix_len is_word (b ∷ rest) ≡ suc (prefix_len is_word rest)
word_run b rest e = rw e (omega arith)

name_forms : (at b : ℕ) (rest : List ℕ) → is_letter b ≡ true → Forms (b ∷ rest) (name_at at (b ∷ rest))
unfolding name_at
name_forms at b rest e =
    cond_both (nat_lt 64 (prefix_len is_word (b ∷ rest))) _ _ (Forms (b ∷ rest)) (λ _. tt)
    (λ short. by (is_some (reserved_word (take (prefix_len is_word (b ∷ rest)) (b ∷ rest)))) refl (grind (arith, nat_tests)))
  where
    plain : is_some (reserved_word (take (prefix_len is_word (b ∷ rest)) (b ∷ rest))) ≡ false → prefix_len is_word (b ∷ rest) ≤ 64 → IsPlainName (take (prefix_len is_word (b ∷ rest)) (b ∷ rest))
    plain free short =
        let n = prefix_len is_word rest in
        let run = word_run b rest e in
        let free' : is_some (reserved_word (b ∷ take n rest)) ≡ false = rw run at free in
        rw run (record {
          plain = and_from (is_letter b && list_all is_word (take n rest)) (not (is_some (reserved_word (b ∷ take n rest)))) (and_from (is_letter b) (list_all is_word (take n rest)) e (run_all is_word rest)) (not_from_false _ free');
          short = omega (arith, length-prefix_len is_word rest, run);
        })

    by : (r : Bool) → is_some (reserved_word (take (prefix_len is_word (b ∷ rest)) (b ∷ rest))) ≡ r → prefix_len is_word (b ∷ rest) ≤ 64 → IsFormedAt (if r then kind.Reserved else kind.Name) (take (prefix_len is_word (b ∷ rest)) (b ∷ rest))
    by true is short = is
    by false is short = plain is short

number_forms : (at : ℕ) (text : List ℕ) → 0 < whole_len text → Forms text (number_at at text)
unfolding number_at
number_forms at text some =
    cond_both (nat_lt 30 (whole_len text + decimals_len text) || nat_lt 6 (decimals_len text)) _ _ (Forms text) (λ _. tt)
    (λ short. number_at_formed text some (few (whole_len text) (decimals_len text) short) (all (whole_len text) (decimals_len text) short))
  where
    few : (w d : ℕ) → (nat_lt 30 (w + d) || nat_lt 6 d) ≡ false → d ≤ 6
    few w d e = grind (arith, nat_tests)

    all : (w d : ℕ) → (nat_lt 30 (w + d) || nat_lt 6 d) ≡ false → w + d ≤ 30
    all w d e = grind (arith, nat_tests)

-- what stands before a closing quote
record Closing (q : ℕ) (xs : List ℕ) (n : ℕ) : Type 0 where
  front : List ℕ
  rest : List ℕ
  is : xs ≡ front ++ q ∷ rest
  long : length front ≡ n

closing_longer : (k m n : ℕ) → Some (k + m) ≡ Some n → n ≡ k + m
closing_longer k m n e = cc e

closing : (q : ℕ) (xs : List ℕ) (n : ℕ) → quotation q xs ≡ Some n → Closing q xs n
unfolding quotation
closing q [] n e = absurd (cc e)
closing q (b ∷ []) n e =
    cond_both (b == q) (Some 0) None (λ o. o ≡ Some n → Closing q (b ∷ []) n)
    (λ same h. record { front = []; rest = []; is = rw (eqb-true b q same) refl; long = (let z : 0 ≡ n = cc h in z) }) (λ _ h. absurd (cc h)) e
closing q (b ∷ c ∷ rest) n e =
    cond_both (b == q) (if c == q then longer 2 (quotation q rest) else Some 0) (longer 1 (quotation q (c ∷ rest))) (λ o. o ≡ Some n → Closing q (b ∷ c ∷ rest) n)
    (λ same. cond_both (c == q) (longer 2 (quotation q rest)) (Some 0) (λ o. o ≡ Some n → Closing q (b ∷ c ∷ rest) n)
    (λ _ h. elim (quotation q rest) as (λ o. ((m : ℕ) → o ≡ Some m → Closing q rest m) → longer 2 o ≡ Some n → Closing q (b ∷ c ∷ rest) n) [
      | None ↦ λ _ h. absurd (cc h)
      | Some m ↦ λ ih h. let r = ih m refl in record { front = b ∷ (c ∷ r.front); rest = r.rest; is = ap (λ t. b ∷ (c ∷ t)) r.is; long = (let s = closing_longer 2 m n h in omega (arith, r.long, s)) }
    ] (λ m h. closing q rest m h) h)
    (λ _ h. record { front = []; rest = c ∷ rest; is = rw (eqb-true b q same) refl; long = (let z : 0 ≡ n = cc h in z) }))
    (λ _ h. elim (quotation q (c ∷ rest)) as (λ o. ((m : ℕ) → o ≡ Some m → Closing q (c ∷ rest) m) → longer 1 o ≡ Some n → Closing q (b ∷ c ∷ rest) n) [
      | None ↦ λ _ h. absurd (cc h)
      | Some m ↦ λ ih h. let r = ih m refl in record { front = b ∷ r.front; rest = r.rest; is = ap (λ t. b ∷ t) r.is; long = (let s = closing_longer 1 m n h in omega (arith, r.long, s)) }
    ] (λ m h. closing q (c ∷ rest) m h) h) e

-- no control character stands where none is found
shown_from : (i : ℕ) (xs : List ℕ) → position_from is_ascii_control i xs ≡ None → list_all (λ b. not (is_ascii_control b)) xs ≡ true
shown_from i [] e = refl
shown_from i (x ∷ xs) e =
    elim (is_ascii_control x) as (λ t. cond t (Some i) (position_from is_ascii_control (i + 1) xs) ≡ None → (not t && list_all (λ b. not (is_ascii_control b)) xs) ≡ true) [
      | true ↦ λ h. absurd (cc h)
      | false ↦ λ h. shown_from (i + 1) xs h
    ] e

every_shown : (xs : List ℕ) → list_all (λ b. not (is_ascii_control b)) xs ≡ true → Every (λ b. is_ascii_control b ≡ false) xs
every_shown [] all = tt
every_shown (x ∷ xs) all =
    (not-true (is_ascii_control x) (all_head (λ b. not (is_ascii_control b)) x xs all), every_shown xs (all_tail (λ b. not (is_ascii_control b)) x xs all))

quoted_forms : (at : ℕ) (front rest : List ℕ) → (length front == 0) ≡ false → nat_lt 64 (length (single_quotes 34 front)) ≡ false → position is_ascii_control front ≡ None → IsFormedAt kind.Quoted (take (length front + 2) (34 ∷ (front ++ 34 ∷ rest)))
quoted_forms at front rest some short none =
    let long : length front + 2 ≡ suc (length front + 1) = omega arith in
    let slice : take (length front + 1) (front ++ 34 ∷ rest) ≡ front ++ 34 ∷ [] = take-append-add front (34 ∷ rest) 1 in
    let content : content_at kind.Quoted (34 ∷ (front ++ 34 ∷ [])) ≡ single_quotes 34 front = ap (single_quotes 34) (inside_quotes 34 front) in
    rw (long, slice, content) (record {
      some = some_single 34 front (omega (arith, eqb-false (length front) 0 some));
      short = grind (arith, nat_tests);
      clean = every_shown (single_quotes 34 front) (all_single (λ b. not (is_ascii_control b)) 34 front (shown_from 0 front (sym (position_from-zero is_ascii_control front) ∙ none)));
    })

named_forms : (at : ℕ) (front rest : List ℕ) → Forms (34 ∷ (front ++ 34 ∷ rest)) (named_at at front)
unfolding named_at
named_forms at front rest =
    let text = 34 ∷ (front ++ 34 ∷ rest) in
    cond_both (length front == 0) _ _ (Forms text) (λ _. tt)
    (λ some. cond_both (nat_lt 64 (length (single_quotes 34 front))) _ _ (Forms text) (λ _. tt)
    (λ short. elim (position is_ascii_control front) as (λ o. position is_ascii_control front ≡ o → Forms text (plain_at at (length front) o)) [
      | None ↦ λ none. quoted_forms at front rest some short none
      | Some i ↦ λ _. tt
    ] refl))

closed_forms : (at : ℕ) (rest : List ℕ) (n : ℕ) → Closing 34 rest n → Forms (34 ∷ rest) (named_at at (take n rest))
closed_forms at rest n r =
    let name : take n (r.front ++ 34 ∷ r.rest) ≡ r.front = rw (sym r.long) (take-append_seam r.front (34 ∷ r.rest)) in
    rw r.is (rw name (named_forms at r.front r.rest))

quoted_at_forms : (at : ℕ) (rest : List ℕ) → Forms (34 ∷ rest) (quoted_at at rest)
quoted_at_forms at rest =
    elim (quotation 34 rest) as (λ o. quotation 34 rest ≡ o → Forms (34 ∷ rest) (closed_name_at at rest o)) [
      | None ↦ λ _. tt
      | Some n ↦ λ e. closed_forms at rest n (closing 34 rest n e)
    ] refl

text_forms : (at : ℕ) (rest text : List ℕ) → Forms text (text_at at rest)
text_forms at rest text = elim (quotation 39 rest) as (λ o. Forms text (closed_text_at at o)) [ None ↦ tt | Some n ↦ tt ]

sign_forms : (at : ℕ) (text : List ℕ) → Forms text (sign_at at text)
unfolding sign_at
sign_forms at text =
    cond_both (nat_le 2 (length text) && is_some (sign_of (take 2 text))) _ _ (Forms text) (λ _. tt)
    (λ _. cond_both (is_some (sign_of (take 1 text))) _ _ (Forms text) (λ _. tt) (λ _. tt))

head_forms : (at : ℕ) (text : List ℕ) → Forms text (head_of at text)
unfolding head_of
head_forms at [] = tt
head_forms at (b ∷ rest) =
    let text = b ∷ rest in
    cond_both (is_blank b) _ _ (Forms text) (λ _. tt)
    (λ _. cond_both (starts_with nat_eq text (codes "--")) _ _ (Forms text) (λ _. tt)
    (λ _. cond_both (is_letter b) _ _ (Forms text) (λ e. name_forms at b rest e)
    (λ _. cond_both (is_ascii_digit b) _ _ (Forms text) (λ e. number_forms at text (rw e (omega arith)))
    (λ _. cond_both (b == 34) _ _ (Forms text) (λ e. let same : b ≡ 34 = eqb-true b 34 e in rw same (quoted_at_forms at rest))
    (λ _. cond_both (b == 39) _ _ (Forms text) (λ _. text_forms at rest text)
    (λ _. sign_forms at text))))))

-- the tokens of a text are formed
formed_before : (k : TokenKind) (slice : List ℕ) (at : ℕ) (more : Result (List Token) LexBad) (tokens : List Token) → IsFormedAt k slice → ((ts : List Token) → more ≡ Ok ts → All IsFormed ts)
    → before (record { kind = k; slice = slice; at = at }) more ≡ Ok tokens → All IsFormed tokens
formed_before k slice at (Ok ts) tokens here rest e =
    let is : record { kind = k; slice = slice; at = at } ∷ ts ≡ tokens = cc e in
    rw (sym is) (All-cons IsFormed (record { kind = k; slice = slice; at = at }) ts here (rest ts refl))
formed_before k slice at (Err bad) tokens here rest e = absurd (cc e)

pub formed_after : (n at : ℕ) (text : List ℕ) (tokens : List Token) → tokens_after n at text ≡ Ok tokens → All IsFormed tokens
unfolding tokens_after
formed_after n at [] tokens e =
    let is : end_token at ∷ [] ≡ tokens = cc e in
    rw (sym is) (All-cons IsFormed (end_token at) [] tt (All-nil IsFormed))
formed_after (suc n) at (b ∷ rest) tokens e = formed_after n (suc at) rest tokens e
formed_after zero at (b ∷ rest) tokens e =
    elim (head_of at (b ∷ rest)) as (λ h. Forms (b ∷ rest) h → (let r : Result (List Token) LexBad = elim h [
      | Ok (head.Gap n) ↦ tokens_after (n - 1) (suc at) rest
      | Ok (head.Piece k n) ↦ before (record { kind = k; slice = take n (b ∷ rest); at = at }) (tokens_after (n - 1) (suc at) rest)
      | Err e ↦ Err e
    ] in r ≡ Ok tokens) → All IsFormed tokens) [
      | Ok (head.Gap n) ↦ λ _ e. formed_after (n - 1) (suc at) rest tokens e
      | Ok (head.Piece k n) ↦ λ here e. formed_before k (take n (b ∷ rest)) at (tokens_after (n - 1) (suc at) rest) tokens here (λ ts is. formed_after (n - 1) (suc at) rest ts is) e
      | Err bad ↦ λ _ e. absurd (cc e)
    ] (head_forms at (b ∷ rest)) e

pub formed_tokens : (text : List ℕ) (tokens : List Token) → tokens_of text ≡ Ok tokens → All IsFormed tokens
unfolding tokens_of
formed_tokens text tokens e = formed_after 0 0 text tokens e
