-- The value of a number's digits.
use Rattle.std.proofs.Common.{◌≡◌, ◌<◌, ◌≤◌, ◌+◌, ◌-◌, ◌*◌, ◌/◌, ◌%◌, ◌^◌, ℕ, suc, zero, Bool, true, false, List, [], ◌∷◌, ◌++◌, length, take, drop, fold, replicate, decimal, ◌==◌, refl, sym, ◌∙◌, ap, arith, length-append}
use Rattle.std.specs.List.{list_all}
use Rattle.std.specs.Char.{is_ascii_digit}
use Rattle.std.proofs.Math.Nat.{pow-succ'}
use Rattle.std.proofs.lemmas.Bool.{ne_eqb, and_parts}
use Rattle.std.proofs.lemmas.Bool.Decides.{nat_tests}
use Rattle.std.proofs.lemmas.Fmt.{decimal_by_steps_wide, length-decimal-le_wide}
use Rattle.std.proofs.lemmas.List.{append_assoc, append-nil, take-append-drop, take_all, length-replicate, length-drop}
use Rattle.std.proofs.lemmas.List.Folds.{list_all-append}
use Rattle.std.proofs.lemmas.List.Sums.{fold-append}
use Rattle.pm_lexer.specs.Pieces.{decimals_len}
use Rattle.pm_syntax.specs.Terminals.{digits_value, magnitude_of}
use Rattle.pm_canonical.specs.Canon.{padded, pointed}
use Rattle.pm_canonical.proofs.Runs.{all_head, all_tail, all_both}
use Rattle.pm_canonical.proofs.Numbers.{point, digits_of, decimals_is}

abbrev one_more : ℕ → ℕ → ℕ
one_more n digit = 10 * n + (digit - 48)

-- digits before digits
all_joined : (p : ℕ → Bool) (xs ys : List ℕ) → list_all p xs ≡ true → list_all p ys ≡ true → list_all p (xs ++ ys) ≡ true
all_joined p xs ys a b = rw (list_all-append p xs ys, a, b) refl

pub all_cut : (p : ℕ → Bool) (n : ℕ) (xs : List ℕ) → list_all p xs ≡ true → (list_all p (take n xs) ≡ true) × (list_all p (drop n xs) ≡ true)
all_cut p n xs all = and_parts (list_all p (take n xs)) (list_all p (drop n xs)) (sym (list_all-append p (take n xs) (drop n xs)) ∙ ap (list_all p) (take-append-drop n xs) ∙ all)

all_zeros : (k : ℕ) → list_all is_ascii_digit (replicate k 48) ≡ true
all_zeros zero = refl
all_zeros (suc k) = all_both is_ascii_digit 48 (replicate k 48) refl (all_zeros k)

-- zeros in front count for nothing
zeros_value : (k : ℕ) (ds : List ℕ) → digits_value (replicate k 48 ++ ds) ≡ digits_value ds
zeros_value zero ds = refl
zeros_value (suc k) ds = zeros_value k ds

-- a number in decimal digits
record Decimal (n : ℕ) (ds : List ℕ) : Type 0 where
  digits : list_all is_ascii_digit ds ≡ true
  value : digits_value ds ≡ n
  some : 0 < length ds

is_digit : (n : ℕ) → n < 10 → is_ascii_digit (48 + n) ≡ true
is_digit n h = grind (arith, nat_tests)

decimal_one : (n : ℕ) → n < 10 → Decimal n ((48 + n) ∷ [])
decimal_one n h = record { digits = all_both is_ascii_digit (48 + n) [] (is_digit n h) refl; value = (let e : 10 * 0 + (48 + n - 48) ≡ n = omega arith in e); some = omega arith }

decimal_more : (n : ℕ) (ds : List ℕ) → 10 ≤ n → Decimal (n / 10) ds → Decimal n (ds ++ ((48 + n % 10) ∷ []))
decimal_more n ds h d = record {
  digits = all_joined is_ascii_digit ds ((48 + n % 10) ∷ []) d.digits (all_both is_ascii_digit (48 + n % 10) [] (is_digit (n % 10) (omega arith)) refl);
  value = fold-append one_more 0 ds ((48 + n % 10) ∷ []) ∙ (let e : 10 * digits_value ds + (48 + n % 10 - 48) ≡ n = omega (arith, d.value) in e);
  some = omega (arith, length-append ds ((48 + n % 10) ∷ []));
}

decimal_is : (n : ℕ) → n < 10 ^ 30 → Decimal n (decimal n)
decimal_is n h = decimal_by_steps_wide Decimal decimal_one decimal_more n (omega arith)

-- the number of so many digits is so small
power_step : (i : ℕ) → 10 ^ suc i ≡ 10 * 10 ^ i
power_step i = rw pow-succ' refl

value_below : (ds : List ℕ) (n k : ℕ) → n < 10 ^ k → list_all is_ascii_digit ds ≡ true → fold one_more n ds < 10 ^ (k + length ds)
value_below [] n k h all = let e : k + 0 ≡ k = omega arith in rw e h
value_below (b ∷ ds) n k h all =
    let small : b - 48 ≤ 9 = digit_small b (all_head is_ascii_digit b ds all) in
    let e : k + suc (length ds) ≡ suc k + length ds = omega arith in
    rw e (value_below ds (one_more n b) (suc k) (omega (arith, power_step k)) (all_tail is_ascii_digit b ds all))
  where
    digit_small : (b : ℕ) → is_ascii_digit b ≡ true → b - 48 ≤ 9
    digit_small b e = grind (arith, nat_tests)

power_up : (i k : ℕ) → 10 ^ i ≤ 10 ^ (i + k)
power_up i zero = let e : i + 0 ≡ i = omega arith in rw e (omega arith)
power_up i (suc k) = let e : i + suc k ≡ suc (i + k) = omega arith in rw e (let ih = power_up i k in omega (arith, power_step (i + k)))

pub value_small : (ds : List ℕ) (most : ℕ) → list_all is_ascii_digit ds ≡ true → length ds ≤ most → digits_value ds < 10 ^ most
value_small ds most all short =
    let below : digits_value ds < 10 ^ (0 + length ds) = value_below ds 0 0 (omega arith) all in
    let same : 0 + length ds ≡ length ds = omega arith in
    let up : 10 ^ length ds ≤ 10 ^ most = let e : length ds + (most - length ds) ≡ most = omega arith in rw e at (power_up (length ds) (most - length ds)) in
    let below' : digits_value ds < 10 ^ length ds = rw same at below in
    omega (arith, below', up)

-- the digits of a number with so many decimals
pub record Digits (m d : ℕ) (ds : List ℕ) : Type 0 where
  pub digits : list_all is_ascii_digit ds ≡ true
  pub value : digits_value ds ≡ m
  pub long : d < length ds

pub digits_are : (m d : ℕ) → m < 10 ^ 30 → Digits m d (padded (d + 1) (decimal m))
digits_are m d small =
    let is = decimal_is m small in
    let zeros : List ℕ = replicate (d + 1 - length (decimal m)) 48 in
    record {
      digits = all_joined is_ascii_digit zeros (decimal m) (all_zeros (d + 1 - length (decimal m))) is.digits;
      value = zeros_value (d + 1 - length (decimal m)) (decimal m) ∙ is.value;
      long = omega (arith, length-append zeros (decimal m), length-replicate {A = ℕ} (d + 1 - length (decimal m)) 48);
    }

pub padded_length : (m d : ℕ) → m < 10 ^ 30 → d ≤ 6 → length (padded (d + 1) (decimal m)) ≤ 30
padded_length m d small after =
    let zeros : List ℕ = replicate (d + 1 - length (decimal m)) 48 in
    let short : length (decimal m) ≤ 30 = length-decimal-le_wide 30 m (omega arith) small (omega arith) in
    omega (arith, length-append zeros (decimal m), length-replicate {A = ℕ} (d + 1 - length (decimal m)) 48)

point_some : (ds : List ℕ) → 0 < length ds → point ds ≡ 46 ∷ ds
point_some [] some = absurd (omega arith)
point_some (b ∷ ds) some = refl

drop_whole : (ds : List ℕ) → drop (length ds) ds ≡ []
drop_whole [] = refl
drop_whole (b ∷ ds) = drop_whole ds

-- the number in its two parts
pub pointed_parts : (d : ℕ) (ds : List ℕ) → d < length ds → pointed d ds ≡ take (length ds - d) ds ++ point (drop (length ds - d) ds)
pointed_parts zero ds long = let all : length ds - 0 ≡ length ds = omega arith in rw (all, drop_whole ds) (sym (append-nil (take (length ds) ds) ∙ take_all (length ds) ds (omega arith)))
pointed_parts (suc d) ds long =
    let some : (suc d == 0) ≡ false = ne_eqb (suc d) 0 (λ h. absurd (omega arith)) in
    let after : 0 < length (drop (length ds - suc d) ds) = omega (arith, length-drop (length ds - suc d) ds) in
    rw (some, point_some (drop (length ds - suc d) ds) after) (append_assoc (take (length ds - suc d) ds) (46 ∷ []) (drop (length ds - suc d) ds))

pub record Pointed (m d : ℕ) (slice : List ℕ) : Type 0 where
  pub value : magnitude_of slice ≡ m
  pub decimals : decimals_len slice ≡ d

pub pointed_is : (m d : ℕ) (ds : List ℕ) → Digits m d ds → Pointed m d (pointed d ds)
pointed_is m d ds is =
    let w = take (length ds - d) ds in
    let p = drop (length ds - d) ds in
    let parts = all_cut is_ascii_digit (length ds - d) ds is.digits in
    let long = is.long in
    let count : length p ≡ d = omega (arith, length-drop (length ds - d) ds) in
    rw (pointed_parts d ds is.long) (record {
      value = ap digits_value (digits_of w p parts.0 parts.1 ∙ take-append-drop (length ds - d) ds) ∙ is.value;
      decimals = (rw (append-nil (point p)) at (decimals_is w p [] parts.0 parts.1 tt)) ∙ count;
    })
