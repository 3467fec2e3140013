-- Digits with a point.
use Rattle.std.proofs.Common.{◌≡◌, ◌<◌, ◌≤◌, ◌+◌, ◌-◌, ℕ, suc, false, List, [], ◌∷◌, ◌++◌, length, drop, take, replicate, length-append, ◌==◌, refl, arith, codes}
use Rattle.std.specs.Str.{IsAscii, IsCharBoundary}
use Rattle.std.proofs.lemmas.Str.{IsCharBoundary-from_ascii}
use Rattle.std.proofs.lemmas.Bool.{ne_eqb}
use Rattle.std.proofs.lemmas.List.{length-replicate}
use Rattle.pm_canonical.specs.Canon.{padded, pointed}

no_zeros : (k n : ℕ) → k ≤ n → replicate {A = ℕ} (k - n) 48 ≡ []
no_zeros k n h = let none : k - n ≡ 0 = omega arith in rw none refl

pub pointed_none : (digits : List ℕ) (d : ℕ) → d ≡ 0 → 0 < length digits → pointed d (padded (d + 1) digits) ≡ digits
pointed_none digits d e some = rw (no_zeros (d + 1) (length digits) (omega arith), e) refl

pub pointed_empty : (digits : List ℕ) (d : ℕ) → d ≡ 0 → length digits ≤ d → pointed d (padded (d + 1) digits) ≡ codes "0"
pointed_empty [] d e none = rw e refl
pointed_empty (b ∷ rest) d e none = absurd (omega arith)

not_zero : (d : ℕ) → (d ≡ 0 → ⊥) → (d == 0) ≡ false
not_zero d h = ne_eqb d 0 h

pub pointed_long : (digits : List ℕ) (d : ℕ) → (d ≡ 0 → ⊥) → d < length digits
    → pointed d (padded (d + 1) digits) ≡ (take (length digits - d) digits ++ codes ".") ++ drop (length digits - d) digits
pointed_long digits d some less = rw (not_zero d some, no_zeros (d + 1) (length digits) (omega arith)) refl

pub pointed_short : (digits : List ℕ) (d : ℕ) → (d ≡ 0 → ⊥) → length digits ≤ d
    → pointed d (padded (d + 1) digits) ≡ (codes "0." ++ replicate (d - length digits) 48) ++ digits
pointed_short digits d some short =
    let one : d + 1 - length digits ≡ suc (d - length digits) = omega arith in
    let cut : length (replicate {A = ℕ} (suc (d - length digits)) 48 ++ digits) - d ≡ 1 = omega (arith, length-append (replicate {A = ℕ} (suc (d - length digits)) 48) digits, length-replicate {A = ℕ} (suc (d - length digits)) 48) in
    rw (not_zero d some, one, cut) refl

pub cut_digits : (digits : List ℕ) (d : ℕ) → IsAscii digits → d < length digits → IsCharBoundary digits (length digits - d)
cut_digits digits d ascii less = IsCharBoundary-from_ascii digits (length digits - d) ascii (omega arith)
