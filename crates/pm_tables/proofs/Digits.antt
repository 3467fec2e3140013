-- reading digits from the left
use Rattle.std.proofs.Common.{◌≡◌, ◌≤◌, ◌<◌, ◌+◌, ◌-◌, ◌*◌, ℕ, List, [], ◌∷◌, length, get_or, drop, refl, arith, add-one, suc}
use Rattle.std.proofs.Math.Seq.{drop-cons}
use Rattle.std.specs.Int.{IsInRange}
use Rattle.std.specs.Char.{digit_value}
use Rattle.std.specs.Str.Parse.{AllDigits, digits_value_after}
use Rattle.std.proofs.lemmas.Str.{digit_value_digit}
use Rattle.std.proofs.lemmas.Str.Parse.{digit_from_value}

-- reading the digits ds behind those of start has come to n and the rest
pub record Reads (start : ℕ) (ds : List ℕ) (n : ℕ) (rest : List ℕ) : Type 0 where
  pub to : AllDigits 10 rest → AllDigits 10 ds
  pub from : AllDigits 10 ds → AllDigits 10 rest
  pub value : digits_value_after 10 n rest ≡ digits_value_after 10 start ds

pub reads_start : (start : ℕ) (ds : List ℕ) → Reads start ds start (drop 0 ds)
reads_start start ds = record { to = λ h. h; from = λ h. h; value = refl }

digit_is : (c : ℕ) → IsInRange 48 57 c → digit_value c ≡ c - 48
digit_is c h = omega (arith, digit_value_digit c h)

pub reads_cons : (start : ℕ) (ds : List ℕ) (n c : ℕ) (rest : List ℕ) → Reads start ds n (c ∷ rest) → IsInRange 48 57 c
    → Reads start ds (n * 10 + (c - 48)) rest
reads_cons start ds n c rest h digit = record {
  to = λ k. h.to (rw (digit_is c digit) (omega (arith, digit.0, digit.1), k));
  from = λ k. (h.from k).1;
  value = rw (← digit_is c digit) h.value;
}

pub reads_step : (start : ℕ) (ds : List ℕ) (n i : ℕ) → Reads start ds n (drop i ds) → i < length ds → IsInRange 48 57 (get_or ds i 0)
    → Reads start ds (n * 10 + (get_or ds i 0 - 48)) (drop (i + 1) ds)
reads_step start ds n i h lt digit =
    rw add-one (reads_cons start ds n (get_or ds i 0) (drop (suc i) ds) (rw (drop-cons ds i 0 lt) at h) digit)

pub reads_other : (start : ℕ) (ds : List ℕ) (n i : ℕ) → Reads start ds n (drop i ds) → i < length ds → ¬ (IsInRange 48 57 (get_or ds i 0))
    → AllDigits 10 ds → ⊥
reads_other start ds n i h lt other digits =
    let k = rw (drop-cons ds i 0 lt) at (h.from digits) in other (digit_from_value _ k.0)

pub after-le : (n : ℕ) (ds : List ℕ) → n ≤ digits_value_after 10 n ds
after-le n [] = omega arith
after-le n (c ∷ cs) = omega (arith, after-le (n * 10 + digit_value c) cs)

pub reads_value : (start : ℕ) (ds : List ℕ) (n : ℕ) (rest : List ℕ) → Reads start ds n rest → n ≤ digits_value_after 10 start ds
reads_value start ds n rest h = omega (arith, after-le n rest, h.value)

pub reads_over : (start : ℕ) (ds : List ℕ) (n i : ℕ) → Reads start ds n (drop i ds) → i < length ds → IsInRange 48 57 (get_or ds i 0)
    → n * 10 + (get_or ds i 0 - 48) ≤ digits_value_after 10 start ds
reads_over start ds n i h lt digit = reads_value start ds _ _ (reads_step start ds n i h lt digit)

pub drop_all : (ds : List ℕ) → drop (length ds) ds ≡ []
drop_all [] = refl
drop_all (c ∷ cs) = drop_all cs

pub reads_end : (start : ℕ) (ds : List ℕ) (n i : ℕ) → Reads start ds n (drop i ds) → i ≡ length ds
    → AllDigits 10 ds × (n ≡ digits_value_after 10 start ds)
reads_end start ds n i h end = let k = rw (end, drop_all ds) at h in (k.to tt, k.value)
