-- a number with a point, of which only so many decimals are kept
use Rattle.std.proofs.Common.{◌≡◌, ◌∙◌, ◌≤◌, ◌<◌, ◌+◌, ◌-◌, ◌*◌, ◌/◌, ◌^◌, min, ◌++◌, ◌⊎◌, ℕ, zero, suc, List, [], ◌∷◌, length, take, drop, refl, sym, ap, arith, inl, inr, length-drop, Option, Some, None, MatchOption, Bool, true, false, IsTrue, ◌↔◌}
use Rattle.std.proofs.Math.Seq.{take-length}
use Rattle.std.proofs.lemmas.Nat.{pow-add}
use Rattle.std.proofs.lemmas.List.{take-append-drop}
use Rattle.std.proofs.Math.Nat.{mul-div_cancel_left}
use Rattle.std.proofs.lemmas.Str.{digit_value_digit}
use Rattle.std.proofs.lemmas.Str.Parse.{digit_from_value}
use Rattle.std.proofs.lemmas.Int.Digits.{digits_value-lt}
use Rattle.std.specs.Char.{digit_value}
use Rattle.std.specs.Str.Parse.{AllDigits, digits_value, digits_value_after}
use Rattle.pm_tables.specs.Field.{AreZeros, IsDecimal, IsScaled}

after-append : (n : ℕ) (a b : List ℕ) → digits_value_after 10 n (a ++ b) ≡ digits_value_after 10 (digits_value_after 10 n a) b
after-append n [] b = refl
after-append n (c ∷ a) b = after-append (n * 10 + digit_value c) a b

-- digits behind a number move it up by their count
after-is : (n : ℕ) (ds : List ℕ) → digits_value_after 10 n ds ≡ n * 10 ^ length ds + digits_value 10 ds
after-is n [] = omega arith
after-is n (c ∷ ds) =
    let one = after-is (n * 10 + digit_value c) ds in
    let two = after-is (0 * 10 + digit_value c) ds in
    let step : 10 ^ suc (length ds) ≡ 10 * 10 ^ length ds = grind arith in
    rw step (grind (arith, one, two))

digits_front : (a b : List ℕ) → AllDigits 10 (a ++ b) → AllDigits 10 a
digits_front [] b h = tt
digits_front (c ∷ a) b h = (h.0, digits_front a b h.1)

digits_back : (a b : List ℕ) → AllDigits 10 (a ++ b) → AllDigits 10 b
digits_back [] b h = h
digits_back (c ∷ a) b h = digits_back a b h.1

digits_both : (a b : List ℕ) → AllDigits 10 a → AllDigits 10 b → AllDigits 10 (a ++ b)
digits_both [] b ha hb = hb
digits_both (c ∷ a) b ha hb = (ha.0, digits_both a b ha.1 hb)

zeros_tail : (c : ℕ) (ds : List ℕ) → AreZeros (c ∷ ds) → AreZeros ds
zeros_tail c ds h k lt = h (suc k) (omega arith)

zeros_digits : (ds : List ℕ) → AreZeros ds → AllDigits 10 ds
zeros_digits [] h = tt
zeros_digits (c ∷ ds) h =
    let e : c ≡ 48 = h 0 (omega arith) in
    (rw e (omega arith), zeros_digits ds (zeros_tail c ds h))

zeros_value : (ds : List ℕ) → AreZeros ds → digits_value 10 ds ≡ 0
zeros_value [] h = refl
zeros_value (c ∷ ds) h =
    let e : c ≡ 48 = h 0 (omega arith) in
    rw e (zeros_value ds (zeros_tail c ds h))

zeros_cons : (c : ℕ) (ds : List ℕ) → c ≡ 48 → AreZeros ds → AreZeros (c ∷ ds)
zeros_cons c ds e h zero lt = e
zeros_cons c ds e h (suc k) lt = h k (omega arith)

pow_pos : (k : ℕ) → 0 < 10 ^ k
pow_pos zero = omega arith
pow_pos (suc k) = let step : 10 ^ suc k ≡ 10 * 10 ^ k = grind arith in rw step (omega (arith, pow_pos k))

none_of_product : (a b : ℕ) → 0 < b → a * b ≡ 0 → a ≡ 0
none_of_product zero b pos h = refl
none_of_product (suc a) b pos h = absurd (grind (arith, pos, h))

value_zeros : (ds : List ℕ) → AllDigits 10 ds → digits_value 10 ds ≡ 0 → AreZeros ds
value_zeros [] digits none = λ k lt. absurd (omega arith)
value_zeros (c ∷ ds) digits none =
    let is = after-is (0 * 10 + digit_value c) ds in
    let here : digit_value c ≡ 0 = none_of_product (digit_value c) (10 ^ length ds) (pow_pos (length ds)) (grind (arith, is, none)) in
    let rest : digits_value 10 ds ≡ 0 = grind (arith, is, none) in
    let code : c ≡ 48 = omega (arith, digit_value_digit c (digit_from_value c digits.0), here) in
    zeros_cons c ds code (value_zeros ds digits.1 rest)

-- how the digits of a number part at the decimals that are kept
parts : (whole ds : List ℕ) (kept : ℕ) → digits_value 10 (whole ++ ds)
    ≡ digits_value_after 10 (digits_value 10 whole) (take kept ds) * 10 ^ length (drop kept ds) + digits_value 10 (drop kept ds)
parts whole ds kept =
    let join = after-append 0 whole ds in
    let split = after-append (digits_value 10 whole) (take kept ds) (drop kept ds) in
    let whole_ds : take kept ds ++ drop kept ds ≡ ds = take-append-drop kept ds in
    join ∙ ap (digits_value_after 10 (digits_value 10 whole)) (sym whole_ds) ∙ split
    ∙ after-is (digits_value_after 10 (digits_value 10 whole) (take kept ds)) (drop kept ds)

le_or_lt : (a b : ℕ) → (a ≤ b) ⊎ (b < a)
le_or_lt zero b = inl (omega arith)
le_or_lt (suc a) zero = inr (omega arith)
le_or_lt (suc a) (suc b) = elim (le_or_lt a b) [ inl h ↦ inl (omega arith) | inr h ↦ inr (omega arith) ]

sub_same : (a b : ℕ) → b ≡ a → 10 ^ (a - b) ≡ 1
sub_same a b e = let z : a - b ≡ 0 = omega arith in rw z refl

le_times : (n k : ℕ) → 0 < k → n ≤ n * k
le_times n zero pos = absurd (omega arith)
le_times n (suc k) pos = let e : n * suc k ≡ n + n * k = grind arith in rw e (omega arith)

cancel_left : (k x y : ℕ) → 0 < k → k * x ≡ k * y → x ≡ y
cancel_left k x y pos h = sym (mul-div_cancel_left x pos) ∙ ap (λ z. z / k) h ∙ mul-div_cancel_left y pos

-- the equation that says that m is the number, without what both sides share
cancel : (m n r k p s : ℕ) → 0 < k → m * (k * p) ≡ (n * p + r) * (k * s) → m * p ≡ (n * p + r) * s
cancel m n r k p s pos h = cancel_left k (m * p) ((n * p + r) * s) pos (omega (arith, h))

-- a remainder of what is dropped is none where m is whole
no_rest : (m n r p : ℕ) → r < p → m * p ≡ n * p + r → r ≡ 0
no_rest zero n r p small h = omega (arith, h)
no_rest (suc m) zero r p small h =
    let e : suc m * p ≡ m * p + p = grind arith in absurd (omega (arith, e, h, small))
no_rest (suc m) (suc n) r p small h =
    let e : suc m * p ≡ m * p + p = grind arith in
    let f : suc n * p ≡ n * p + p = grind arith in
    no_rest m n r p small (omega (arith, e, f, h))

pow_parts : (kept all : ℕ) → kept ≤ all → 10 ^ all ≡ 10 ^ kept * 10 ^ (all - kept)
pow_parts kept all h = let e : kept + (all - kept) ≡ all = omega arith in ap (λ k. 10 ^ k) (sym e) ∙ pow-add 10 kept (all - kept)

-- what an equation of a number says once the powers are parted at the decimals that are kept
equation : (scale kept m : ℕ) (whole ds : List ℕ) → kept ≤ scale → kept ≤ length ds
    → m * 10 ^ length ds ≡ digits_value 10 (whole ++ ds) * 10 ^ scale
    → m * 10 ^ length (drop kept ds) ≡ (digits_value_after 10 (digits_value 10 whole) (take kept ds) * 10 ^ length (drop kept ds)
    + digits_value 10 (drop kept ds)) * 10 ^ (scale - kept)
equation scale kept m whole ds low high h =
    let long : 10 ^ length ds ≡ 10 ^ kept * 10 ^ length (drop kept ds) = rw (length-drop kept ds) (pow_parts kept (length ds) high) in
    let e = rw (long, pow_parts kept scale low, parts whole ds kept) at h in
    cancel m _ _ (10 ^ kept) (10 ^ length (drop kept ds)) (10 ^ (scale - kept)) (pow_pos kept) e

pub decimal_fits : (scale kept m n : ℕ) (whole ds : List ℕ) → kept ≤ scale → kept ≤ length ds → 0 < length whole → 0 < length ds → AllDigits 10 whole
    → AllDigits 10 (take kept ds) → AreZeros (drop kept ds) → n ≡ digits_value_after 10 (digits_value 10 whole) (take kept ds)
    → m ≡ n * 10 ^ (scale - kept) → IsDecimal scale whole ds m
decimal_fits scale kept m n whole ds low high some behind digits front zeros is shifted =
    let all : AllDigits 10 ds = rw (← take-append-drop kept ds) (digits_both _ _ front (zeros_digits _ zeros)) in
    let long : 10 ^ length ds ≡ 10 ^ kept * 10 ^ length (drop kept ds) = rw (length-drop kept ds) (pow_parts kept (length ds) high) in
    let value = parts whole ds kept in
    let none = zeros_value (drop kept ds) zeros in
    ((some, digits), (behind, all), rw (long, pow_parts kept scale low, value, none, ← is, shifted) (omega arith))

-- m is the number that the code reads, where only zeros stand behind the decimals that are kept
pub decimal_is : (scale kept m : ℕ) (whole ds : List ℕ) → kept ≤ scale → kept ≤ length ds → AreZeros (drop kept ds) → IsDecimal scale whole ds m
    → m ≡ digits_value_after 10 (digits_value 10 whole) (take kept ds) * 10 ^ (scale - kept)
decimal_is scale kept m whole ds low high zeros h =
    let p = 10 ^ length (drop kept ds) in
    let e = rw (zeros_value (drop kept ds) zeros) at (equation scale kept m whole ds low high h.2) in
    cancel_left p m _ (pow_pos (length (drop kept ds))) (omega (arith, e))

-- and only zeros stand there
pub decimal_zeros : (scale kept m : ℕ) (whole ds : List ℕ) → kept ≡ min (length ds) scale → IsDecimal scale whole ds m → AreZeros (drop kept ds)
decimal_zeros scale kept m whole ds is h = elim (le_or_lt scale (length ds)) [
  | inl long ↦
      let same : kept ≡ scale = omega (arith, is, long) in
      let low : kept ≤ scale = omega arith in
      let high : kept ≤ length ds = omega arith in
      let back : AllDigits 10 (drop kept ds) = digits_back (take kept ds) (drop kept ds) (rw (take-append-drop kept ds) h.1.1) in
      let e = rw (sub_same scale kept same) at (equation scale kept m whole ds low high h.2) in
      let eq : m * 10 ^ length (drop kept ds) ≡ digits_value_after 10 (digits_value 10 whole) (take kept ds) * 10 ^ length (drop kept ds)
      + digits_value 10 (drop kept ds) = omega (arith, e) in
      value_zeros (drop kept ds) back (no_rest m _ _ (10 ^ length (drop kept ds)) (digits_value-lt 10 (drop kept ds) back) eq)
  | inr short ↦ λ k lt. absurd (omega (arith, length-drop kept ds, is, short, lt))
]

pub number_le : (scale kept m : ℕ) (whole ds : List ℕ) → kept ≤ scale → kept ≤ length ds → AreZeros (drop kept ds) → IsDecimal scale whole ds m
    → digits_value_after 10 (digits_value 10 whole) (take kept ds) ≤ m
number_le scale kept m whole ds low high zeros h =
    let n = digits_value_after 10 (digits_value 10 whole) (take kept ds) in
    let is = decimal_is scale kept m whole ds low high zeros h in
    rw is (le_times n (10 ^ (scale - kept)) (pow_pos (scale - kept)))

-- the front of decimals is digits
pub decimal_front : (scale kept m : ℕ) (whole ds : List ℕ) → IsDecimal scale whole ds m → AllDigits 10 (take kept ds)
decimal_front scale kept m whole ds h = digits_front (take kept ds) (drop kept ds) (rw (take-append-drop kept ds) h.1.1)

-- a slice from a position on
pub slice_from : (i : ℕ) (ds : List ℕ) → take (length ds - i) (drop i ds) ≡ drop i ds
slice_from i ds = rw (← length-drop i ds) (take-length (drop i ds))

-- what a test of the digits from a position on says
pub zeros_told : (i : ℕ) (ds : List ℕ) (b : Bool) → (IsTrue b ↔ AreZeros (take (length ds - i) (drop i ds))) → b ≡ true → AreZeros (drop i ds)
zeros_told i ds b told e = (rw (slice_from i ds) at told).0 e

pub zeros_denied : (i : ℕ) (ds : List ℕ) (b : Bool) → (IsTrue b ↔ AreZeros (take (length ds - i) (drop i ds))) → b ≡ false → AreZeros (drop i ds) → ⊥
zeros_denied i ds b told e zeros = let k : b ≡ true = (rw (slice_from i ds) at told).1 zeros in cc

-- a number that is D exactly where it is x, if x is not too large
pub within_most : (D : ℕ → Type 0) (x most : ℕ) (r : Option ℕ) → MatchOption r (most < x) (λ m. (m ≡ x) × (x ≤ most))
    → ((m : ℕ) → D m → m ≡ x) → D x → MatchOption r ((m : ℕ) → D m → most < m) (λ m. D m × (m ≤ most))
within_most D x most None large only is = λ m h. rw (only m h) large
within_most D x most (Some m) small only is = (rw small.0 is, rw small.0 small.1)

pub whole_large : (scale most : ℕ) (digits : List ℕ) (m : ℕ) → IsScaled scale digits None m → most < digits_value 10 digits → most < m
whole_large scale most digits m h large = omega (arith, h.1, large, le_times (digits_value 10 digits) (10 ^ scale) (pow_pos scale))

pub scaled_once : (scale : ℕ) (digits : List ℕ) (point : Option ℕ) (m n : ℕ) → IsScaled scale digits point m → IsScaled scale digits point n → m ≡ n
scaled_once scale digits None m n h k = h.1 ∙ sym k.1
scaled_once scale digits (Some point) m n h k =
    cancel_left (10 ^ length (drop (point + 1) digits)) m n (pow_pos (length (drop (point + 1) digits))) (omega (arith, h.2, k.2))
