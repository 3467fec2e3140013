-- The longest runs, numbers, quotations and signs at the head of a text.
use Rattle.std.proofs.Common.{◌≡◌, ◌<◌, ◌≤◌, ◌+◌, ℕ, suc, Bool, true, false, List, [], ◌∷◌, ◌++◌, length, drop, take, Option, Some, None, refl, sym, ap, arith, cond, inl, inr, if◌then◌else◌, ◌==◌, ◌&&◌, ◌||◌, not, codes, append_assoc, length-append, eq-eqb, is_some, length-take, nat_le}
use Rattle.std.specs.List.{prefix_len, list_all}
use Rattle.std.specs.Str.{bytes_eq}
use Rattle.std.specs.Char.{is_ascii_digit}
use Rattle.std.proofs.lemmas.Bool.{eqb-true, eqb-false}
use Rattle.std.proofs.Math.Seq.{drop-append_seam, take-add}
use Rattle.pm_lexer.specs.Byte.{is_letter}
use Rattle.pm_lexer.specs.declared.symbol.Symbol.{Symbol}
use Rattle.pm_lexer.specs.declared.symbol.TheConstants.{SIGNS}
use Rattle.pm_lexer.specs.Pieces.{whole_len, decimals, decimals_len, number_len, longer, quotation}
use Rattle.pm_lexer.specs.Quoting.{doubled}
use Rattle.pm_lexer.specs.Symbol.{spelling, canonical_sign, sign_of}
use Rattle.pm_lexer.specs.Parts.{is_digits, IsNumber, IsQuoted}
use Rattle.pm_lexer.proofs.Boundary.{choose, run_within, first, second, found, bytes_same}

-- a run is of bytes that pass
pub run_all : (p : ℕ → Bool) (xs : List ℕ) → list_all p (take (prefix_len p xs) xs) ≡ true
run_all p [] = refl
run_all p (x ∷ xs) = elim (p x) as (λ b. p x ≡ b → list_all p (take (cond b (1 + prefix_len p xs) 0) (x ∷ xs)) ≡ true) [
  | true ↦ λ e. let same : 1 + prefix_len p xs ≡ suc (prefix_len p xs) = omega arith in rw (same, e) (run_all p xs)
  | false ↦ λ e. refl
] refl

-- and no longer beginning is
pub run_longest : (p : ℕ → Bool) (xs ys : List ℕ) → list_all p xs ≡ true → length xs ≤ prefix_len p (xs ++ ys)
run_longest p [] ys all = omega arith
run_longest p (x ∷ xs) ys all =
    let passes = first (p x) (list_all p xs) all in
    let more = run_longest p xs ys (second (p x) (list_all p xs) all) in
    rw passes (omega arith)

-- a run ends before a byte that does not pass
run_exact : (p : ℕ → Bool) (xs ys : List ℕ) (c : ℕ) → list_all p xs ≡ true → p c ≡ false → prefix_len p (xs ++ c ∷ ys) ≡ length xs
run_exact p [] ys c all fails = rw fails refl
run_exact p (x ∷ xs) ys c all fails =
    let passes = first (p x) (list_all p xs) all in
    let more = run_exact p xs ys c (second (p x) (list_all p xs) all) fails in
    rw (passes, more) (omega arith)

pub digits_all : (xs : List ℕ) → is_digits xs ≡ true → (list_all is_ascii_digit xs ≡ true) × (0 < length xs)
digits_all [] e = absurd (cc e)
digits_all (b ∷ xs) e = (e, omega arith)

pub all_digits : (xs : List ℕ) → list_all is_ascii_digit xs ≡ true → 0 < length xs → is_digits xs ≡ true
all_digits [] e some = absurd (omega arith)
all_digits (b ∷ xs) e some = e

-- no beginning that is a number is longer
pub number_longest : (text bytes after : List ℕ) → text ≡ bytes ++ after → IsNumber bytes → length bytes ≤ number_len text
number_longest text bytes after e form = elim form [
  | inl digits ↦ let reach = run_longest is_ascii_digit bytes after (digits_all bytes digits).0 in rw (sym e) at (at_least (bytes ++ after) reach)
  | inr parts ↦ let (whole, fraction, is, front, back) = parts in rw (sym e) at (rw (sym is) at (with_point whole fraction after (digits_all whole front).0 (digits_all fraction back)))
]
  where
    at_least : (t : List ℕ) → length bytes ≤ whole_len t → length bytes ≤ number_len t
    at_least t reach = choose (λ n. length bytes ≤ n) (decimals_len t == 0) _ _ (λ _. reach) (λ _. omega arith)

    with_point : (whole fraction after : List ℕ) → list_all is_ascii_digit whole ≡ true → (list_all is_ascii_digit fraction ≡ true) × (0 < length fraction)
        → length (whole ++ 46 ∷ fraction) ≤ number_len ((whole ++ 46 ∷ fraction) ++ after)
    with_point whole fraction after front back =
        let text : List ℕ = (whole ++ 46 ∷ fraction) ++ after in
        let split : text ≡ whole ++ 46 ∷ (fraction ++ after) = append_assoc whole (46 ∷ fraction) after in
        let before : whole_len text ≡ length whole = rw split (run_exact is_ascii_digit whole (fraction ++ after) 46 front refl) in
        let rest : drop (whole_len text) text ≡ 46 ∷ (fraction ++ after) = rw (before, split) (drop-append_seam whole (46 ∷ (fraction ++ after))) in
        let count : decimals_len text ≡ prefix_len is_ascii_digit (fraction ++ after) = rw rest refl in
        let reach = run_longest is_ascii_digit fraction after back.0 in
        let some = back.1 in
        let size : length (whole ++ 46 ∷ fraction) ≡ length whole + suc (length fraction) = length-append whole (46 ∷ fraction) in
        choose (λ n. length (whole ++ 46 ∷ fraction) ≤ n) (decimals_len text == 0) _ _
        (λ none. let zero : decimals_len text ≡ 0 = eqb-true (decimals_len text) 0 none in absurd (omega arith)) (λ _. omega arith)

-- a run that is not empty
run_digits : (xs : List ℕ) → 0 < prefix_len is_ascii_digit xs → is_digits (take (prefix_len is_ascii_digit xs) xs) ≡ true
run_digits xs some =
    let within = run_within is_ascii_digit xs in
    all_digits (take (prefix_len is_ascii_digit xs) xs) (run_all is_ascii_digit xs) (omega (arith, length-take (prefix_len is_ascii_digit xs) xs))

-- a point and digits
point_form : (rest : List ℕ) → (decimals rest == 0) ≡ false → (fraction : List ℕ) × (take (1 + decimals rest) rest ≡ 46 ∷ fraction) × (is_digits fraction ≡ true)
point_form [] some = absurd (cc some)
point_form (b ∷ rest) some =
    choose (λ n. (n == 0) ≡ false → (fraction : List ℕ) × (take (1 + n) (b ∷ rest) ≡ 46 ∷ fraction) × (is_digits fraction ≡ true)) (b == 46) (prefix_len is_ascii_digit rest) 0
    (λ point more.
    let same : 1 + prefix_len is_ascii_digit rest ≡ suc (prefix_len is_ascii_digit rest) = omega arith in
    let is : b ≡ 46 = eqb-true b 46 point in
    (take (prefix_len is_ascii_digit rest) rest, rw (same, is) refl, run_digits rest (omega (arith, eqb-false (prefix_len is_ascii_digit rest) 0 more))))
    (λ _ none. absurd (cc none)) some

-- the head of a number
pub number_form : (text : List ℕ) → 0 < whole_len text → IsNumber (take (number_len text) text)
number_form text some =
    choose (λ n. IsNumber (take n text)) (decimals_len text == 0) _ _ (λ _. inl (run_digits text some))
    (λ more.
    let (fraction, is, digits) = point_form (drop (whole_len text) text) more in
    let sum : whole_len text + 1 + decimals_len text ≡ whole_len text + (1 + decimals_len text) = omega arith in
    inr (take (whole_len text) text, fraction, rw (sum, take-add (whole_len text) (1 + decimals_len text) text, is) refl, run_digits text some, digits))

-- one more, where there is a number
longer_is : (k n : ℕ) (o : Option ℕ) → longer k o ≡ Some n → (m : ℕ) × (o ≡ Some m) × (n ≡ k + m)
longer_is k n None h = absurd (cc h)
longer_is k n (Some m) h = (m, refl, cc h)

-- up to the closing quote each quote is doubled
pub quotation_form : (q : ℕ) (rest : List ℕ) (n : ℕ) → quotation q rest ≡ Some n → (content : List ℕ) × (take (n + 1) rest ≡ doubled q content ++ q ∷ [])
unfolding quotation doubled
quotation_form q [] n e = absurd (cc e)
quotation_form q (b ∷ []) n e =
    choose (λ (o : Option ℕ). o ≡ Some n → (content : List ℕ) × (take (n + 1) (b ∷ []) ≡ doubled q content ++ q ∷ [])) (b == q) (Some 0) None
    (λ same h. let z : n ≡ 0 = cc h in let is : b ≡ q = eqb-true b q same in ([], rw (z, is) refl)) (λ _ h. absurd (cc h)) e
quotation_form q (b ∷ c ∷ rest) n e =
    choose (λ (o : Option ℕ). o ≡ Some n → (content : List ℕ) × (take (n + 1) (b ∷ c ∷ rest) ≡ doubled q content ++ q ∷ [])) (b == q) _ _
    (λ same. let is : b ≡ q = eqb-true b q same in
    choose (λ (o : Option ℕ). o ≡ Some n → (content : List ℕ) × (take (n + 1) (b ∷ c ∷ rest) ≡ doubled q content ++ q ∷ [])) (c == q) (longer 2 (quotation q rest)) (Some 0)
    (λ second h.
    let (m, some, here) = longer_is 2 n (quotation q rest) h in
    let (content, cut) = quotation_form q rest m some in
    let size : n + 1 ≡ suc (suc (m + 1)) = omega arith in
    let next : c ≡ q = eqb-true c q second in
    let test : (q == q) ≡ true = eq-eqb q q refl in
    (q ∷ content, rw (size, is, next, test, cut) refl))
    (λ _ h. let z : n ≡ 0 = cc h in ([], rw (z, is) refl)))
    (λ other h.
    let (m, some, here) = longer_is 1 n (quotation q (c ∷ rest)) h in
    let (content, cut) = quotation_form q (c ∷ rest) m some in
    let size : n + 1 ≡ suc (m + 1) = omega arith in
    (b ∷ content, rw (size, other) (ap (λ t. b ∷ t) cut))) e

-- no quotation ends before
quotation_reach : (q : ℕ) (content after : List ℕ) (n : ℕ) → quotation q (doubled q content ++ q ∷ after) ≡ Some n → length (doubled q content) ≤ n
unfolding quotation doubled
quotation_reach q [] after n e = omega arith
quotation_reach q (b ∷ content) after n e =
    elim (b == q) as (λ t. (b == q) ≡ t → quotation q ((if t then b ∷ b ∷ doubled q content else b ∷ doubled q content) ++ q ∷ after) ≡ Some n → length (if t then b ∷ b ∷ doubled q content else b ∷ doubled q content) ≤ n) [
      | true ↦ λ same h.
          let (m, some, here) = longer_is 2 n (quotation q (doubled q content ++ q ∷ after)) (rw same at h) in
          let ih = quotation_reach q content after m some in omega arith
      | false ↦ λ other h. single (doubled q content) other h (λ m some. quotation_reach q content after m some)
    ] refl e
  where
    single : (inner : List ℕ) → (b == q) ≡ false → quotation q ((b ∷ inner) ++ q ∷ after) ≡ Some n → ((m : ℕ) → quotation q (inner ++ q ∷ after) ≡ Some m → length inner ≤ m) → length (b ∷ inner) ≤ n
    single [] other h ih = let (m, some, here) = longer_is 1 n (quotation q (q ∷ after)) (rw other at h) in omega arith
    single (c ∷ inner) other h ih = let (m, some, here) = longer_is 1 n (quotation q ((c ∷ inner) ++ q ∷ after)) (rw other at h) in let reach = ih m some in omega arith

-- no beginning between quotes is longer
pub quoted_longest : (q b : ℕ) (rest bytes after : List ℕ) (n : ℕ) → b ∷ rest ≡ bytes ++ after → quotation q rest ≡ Some n → IsQuoted q bytes → length bytes ≤ n + 2
quoted_longest q b rest bytes after n split e form =
    let content : List ℕ = form.0 in
    let whole : b ∷ rest ≡ q ∷ ((doubled q content ++ q ∷ []) ++ after) = rw form.1 at split in
    let tail : rest ≡ doubled q content ++ q ∷ after = cc (whole, append_assoc (doubled q content) (q ∷ []) after) in
    let reach = quotation_reach q content after n (rw tail at e) in
    let size : length bytes ≡ suc (length (doubled q content) + 1) = rw form.1 (simp length-append) in
    omega arith

-- one byte or two, of which the first begins no other token
abbrev pub is_sign_like : List ℕ → Bool
is_sign_like [] = false
is_sign_like (b ∷ rest) = nat_le (length rest) 1 && not (is_letter b || is_ascii_digit b || b == 34 || b == 39)

pub sign_like : (bytes : List ℕ) → is_some (sign_of bytes) ≡ true → is_sign_like bytes ≡ true
unfolding canonical_sign
sign_like bytes e = choose (λ (o : Option Symbol). is_some o ≡ true → is_sign_like bytes ≡ true) (bytes_eq bytes (codes "!=")) _ _
    (λ same _. rw (bytes_same bytes (codes "!=") same) refl)
    (λ _ some. let (sign, spelt, like) = found (λ sign. bytes_eq bytes (spelling sign)) (λ s. is_sign_like (spelling s)) SIGNS refl some in rw (bytes_same bytes (spelling sign) spelt) like) e
