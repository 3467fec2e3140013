-- The bytes of a number.
use Rattle.std.proofs.Common.{◌≡◌, ◌<◌, ◌≤◌, ◌+◌, ℕ, suc, zero, Bool, true, false, not, List, [], ◌∷◌, ◌++◌, length, take, drop, filter, if◌then◌else◌, ◌==◌, refl, sym, ◌∙◌, ap, arith, length-append}
use Rattle.std.specs.List.{prefix_len, list_all}
use Rattle.std.specs.Char.{is_ascii_digit}
use Rattle.std.proofs.lemmas.Bool.{eqb-true, ne_eqb}
use Rattle.std.proofs.lemmas.List.{append-nil, take-append-drop}
use Rattle.std.proofs.lemmas.List.Elements.{filter-append}
use Rattle.std.proofs.lemmas.List.Folds.{length-prefix_len}
use Rattle.std.proofs.Math.Seq.{take-append_seam, take-append-add, drop-append_seam}
use Rattle.pm_lexer.specs.Pieces.{whole_len, decimals, decimals_len, number_len}
use Rattle.pm_canonical.proofs.Runs.{Follows, run_whole, run_all, filter_all}
use Rattle.pm_canonical.proofs.Formed.{IsNumber}

-- decimals after their point, where there are any
abbrev pub point : List ℕ → List ℕ
point [] = []
point (x ∷ xs) = 46 ∷ (x ∷ xs)

-- a byte that ends a number: no digit, and no point
abbrev pub ends_number : ℕ → Bool
ends_number b = if b == 46 then false else not (is_ascii_digit b)

no_digit : (b : ℕ) → ends_number b ≡ true → not (is_ascii_digit b) ≡ true
no_digit b e = elim (b == 46) as (λ t. (if t then false else not (is_ascii_digit b)) ≡ true → not (is_ascii_digit b) ≡ true) [ true ↦ λ h. absurd (cc h) | false ↦ λ h. h ] e

no_point : (b : ℕ) → ends_number b ≡ true → (b == 46) ≡ false
no_point b e = elim (b == 46) as (λ t. (if t then false else not (is_ascii_digit b)) ≡ true → t ≡ false) [ true ↦ λ h. absurd (cc h) | false ↦ λ h. refl ] e

-- what follows the digits before the point is no digit
whole_ends : (d rest : List ℕ) → Follows ends_number rest → Follows (λ b. not (is_ascii_digit b)) (point d ++ rest)
whole_ends [] [] ends = tt
whole_ends [] (b ∷ rest) ends = no_digit b ends
whole_ends (x ∷ d) rest ends = refl

digits_end : (rest : List ℕ) → Follows ends_number rest → Follows (λ b. not (is_ascii_digit b)) rest
digits_end [] ends = tt
digits_end (b ∷ rest) ends = no_digit b ends

point_decimals : (d rest : List ℕ) → list_all is_ascii_digit d ≡ true → Follows ends_number rest → decimals (point d ++ rest) ≡ length d
point_decimals [] [] all ends = refl
point_decimals [] (b ∷ rest) all ends = rw (no_point b ends) refl
point_decimals (x ∷ d) rest all ends = run_whole is_ascii_digit (x ∷ d) rest all (digits_end rest ends)

pub whole_is : (w d rest : List ℕ) → list_all is_ascii_digit w ≡ true → Follows ends_number rest → whole_len (w ++ (point d ++ rest)) ≡ length w
whole_is w d rest all ends = run_whole is_ascii_digit w (point d ++ rest) all (whole_ends d rest ends)

pub decimals_is : (w d rest : List ℕ) → list_all is_ascii_digit w ≡ true → list_all is_ascii_digit d ≡ true → Follows ends_number rest → decimals_len (w ++ (point d ++ rest)) ≡ length d
decimals_is w d rest whole part ends = rw (whole_is w d rest whole ends, drop-append_seam w (point d ++ rest)) (point_decimals d rest part ends)

-- the length of the number by its two parts
sized : ℕ → ℕ → ℕ
sized w d = if d == 0 then w else w + 1 + d

sized_is : (w d : List ℕ) → sized (length w) (length d) ≡ length (w ++ point d)
unfolding sized
sized_is w [] = ap length (sym (append-nil w))
sized_is w (x ∷ d) = let some : (suc (length d) == 0) ≡ false = ne_eqb (suc (length d)) 0 (λ h. absurd (omega arith)) in rw some (omega (arith, length-append w (46 ∷ (x ∷ d))))

pub number_is : (w d rest : List ℕ) → list_all is_ascii_digit w ≡ true → list_all is_ascii_digit d ≡ true → Follows ends_number rest → number_len (w ++ (point d ++ rest)) ≡ length (w ++ point d)
unfolding sized
number_is w d rest whole part ends = rw (decimals_is w d rest whole part ends, whole_is w d rest whole ends) (sized_is w d)

-- the digits of a number, and how many there are
pub digits_of : (w d : List ℕ) → list_all is_ascii_digit w ≡ true → list_all is_ascii_digit d ≡ true → filter is_ascii_digit (w ++ point d) ≡ w ++ d
digits_of w d whole part = filter-append is_ascii_digit w (point d) ∙ ap (λ t. t ++ filter is_ascii_digit (point d)) (filter_all is_ascii_digit w whole) ∙ ap (λ t. w ++ t) (after d part)
  where
    after : (d : List ℕ) → list_all is_ascii_digit d ≡ true → filter is_ascii_digit (point d) ≡ d
    after [] all = refl
    after (x ∷ d) all = filter_all is_ascii_digit (x ∷ d) all

pub number_formed : (w d : List ℕ) → 0 < length w → list_all is_ascii_digit w ≡ true → list_all is_ascii_digit d ≡ true → length d ≤ 6 → length w + length d ≤ 30 → IsNumber (w ++ point d)
number_formed w d some whole part few short =
    let none = append-nil (point d) in
    let w_is : whole_len (w ++ point d) ≡ length w = rw none at (whole_is w d [] whole tt) in
    let d_is : decimals_len (w ++ point d) ≡ length d = rw none at (decimals_is w d [] whole part tt) in
    record {
      some = rw w_is some;
      decimals = rw d_is few;
      digits = rw (d_is, w_is) (ap length (digits_of w d whole part) ∙ length-append w d);
      short = rw (d_is, w_is) short;
    }

-- the number at the head of a text, in its two parts
abbrev pub part_of : List ℕ → List ℕ
part_of [] = []
part_of (b ∷ rest) = if b == 46 then take (prefix_len is_ascii_digit rest) rest else []

part_digits : (rest : List ℕ) → list_all is_ascii_digit (part_of rest) ≡ true
part_digits [] = refl
part_digits (b ∷ rest) = elim (b == 46) as (λ t. list_all is_ascii_digit (if t then take (prefix_len is_ascii_digit rest) rest else []) ≡ true) [ true ↦ run_all is_ascii_digit rest | false ↦ refl ]

part_len : (rest : List ℕ) → length (part_of rest) ≡ decimals rest
part_len [] = refl
part_len (b ∷ rest) = elim (b == 46) as (λ t. length (if t then take (prefix_len is_ascii_digit rest) rest else []) ≡ (if t then prefix_len is_ascii_digit rest else 0)) [ true ↦ length-prefix_len is_ascii_digit rest | false ↦ refl ]

slice_whole : (w rest : List ℕ) → take (sized (length w) 0) (w ++ rest) ≡ w ++ point []
unfolding sized
slice_whole w rest = take-append_seam w rest ∙ sym (append-nil w)

slice_long : (w : List ℕ) (c : ℕ) (rest : List ℕ) (k : ℕ) → take (sized (length w) (suc k)) (w ++ 46 ∷ (c ∷ rest)) ≡ w ++ point (take (suc k) (c ∷ rest))
unfolding sized
slice_long w c rest k =
    let some : (suc k == 0) ≡ false = ne_eqb (suc k) 0 (λ h. absurd (omega arith)) in
    let sum : length w + 1 + suc k ≡ length w + suc (suc k) = omega arith in
    rw (some, sum) (take-append-add w (46 ∷ (c ∷ rest)) (suc (suc k)))

slice_point : (w rest : List ℕ) (k : ℕ) → prefix_len is_ascii_digit rest ≡ k → take (sized (length w) k) (w ++ 46 ∷ rest) ≡ w ++ point (take k rest)
slice_point w rest zero e = slice_whole w (46 ∷ rest)
slice_point w [] (suc k) e = absurd (omega (arith, e))
slice_point w (c ∷ rest) (suc k) e = slice_long w c rest k

slice_by : (w rest : List ℕ) → take (sized (length w) (decimals rest)) (w ++ rest) ≡ w ++ point (part_of rest)
slice_by w [] = slice_whole w []
slice_by w (b ∷ rest) =
    elim (b == 46) as (λ t. (b == 46) ≡ t → take (sized (length w) (if t then prefix_len is_ascii_digit rest else 0)) (w ++ b ∷ rest) ≡ w ++ point (if t then take (prefix_len is_ascii_digit rest) rest else [])) [
      | true ↦ λ e. let same : b ≡ 46 = eqb-true b 46 e in rw same (slice_point w rest (prefix_len is_ascii_digit rest) refl)
      | false ↦ λ e. slice_whole w (b ∷ rest)
    ] refl

-- the bytes of a number
pub number_slice : (text : List ℕ) → take (number_len text) text ≡ take (whole_len text) text ++ point (part_of (drop (whole_len text) text))
unfolding sized
number_slice text =
    let w = take (whole_len text) text in
    let rest = drop (whole_len text) text in
    let long : length w ≡ whole_len text = length-prefix_len is_ascii_digit text in
    let whole : w ++ rest ≡ text = take-append-drop (whole_len text) text in
    rw (long, whole) at (slice_by w rest)

pub number_at_formed : (text : List ℕ) → 0 < whole_len text → decimals_len text ≤ 6 → whole_len text + decimals_len text ≤ 30 → IsNumber (take (number_len text) text)
number_at_formed text some few short =
    let rest = drop (whole_len text) text in
    let long : length (take (whole_len text) text) ≡ whole_len text = length-prefix_len is_ascii_digit text in
    let part : length (part_of rest) ≡ decimals_len text = part_len rest in
    rw (number_slice text) (number_formed (take (whole_len text) text) (part_of rest) (rw long some) (run_all is_ascii_digit text) (part_digits rest) (rw part few) (rw (long, part) short))
