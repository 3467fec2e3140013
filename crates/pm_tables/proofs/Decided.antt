-- facts that hold or do not: a search among numbers, equal keys and texts, numerals, numbers of 64 bits
use Rattle.std.proofs.Common.{◌≡◌, ◌≢◌, ◌∙◌, ◌≤◌, ◌<◌, ◌*◌, ◌^◌, ◌/◌, ◌⊎◌, ℕ, zero, suc, List, [], ◌∷◌, length, take, refl, sym, ap, subst, arith, inl, inr, slice_get}
use Rattle.std.specs.Prelude.{ℤ, FitsSigned, IsUtf8}
use Rattle.std.specs.Int.{w64}
use Rattle.std.specs.Int.Signed.{mag}
use Rattle.std.specs.Char.{digit_value}
use Rattle.std.specs.Cmp.Lexicographic.{slice_cmp}
use Rattle.std.specs.Ordering.{nat_cmp}
use Rattle.std.specs.Str.{IsValidUpTo, is_utf8}
use Rattle.std.specs.Str.Parse.{AllDigits, IsNumeral}
use Rattle.std.specs.declared.cmp.Ordering.{Ordering}
use Rattle.std.specs.declared.cmp.Ordering.TheVariants as ordering
use Rattle.std.proofs.Math.Nat.{mul-div_cancel}
use Rattle.std.proofs.Math.Seq.{take-length}
use Rattle.std.proofs.lemmas.Bool.{cases_Bool, cases_order}
use Rattle.std.proofs.lemmas.Cmp.{nat_list_cmp_total, tied_itself}
use Rattle.std.proofs.lemmas.Map.Lookups.{exact_bytes}
use Rattle.std.proofs.lemmas.Str.{IsUtf8-from_is_utf8, IsUtf8-nil, is_utf8-from_IsUtf8}
use Rattle.pm_values.specs.declared.value.Value.{Value}
use Rattle.pm_values.specs.Order.{values_cmp}
use Rattle.pm_values.proofs.ValueOrder.{exact_values, values_cmp_itself}

-- it holds, or it does not
abbrev pub Decision : Type 0 → Type 0
Decision P = P ⊎ (P → ⊥)

pub lt_or_not : (m n : ℕ) → Decision (m < n)
lt_or_not m n = elim (cases_order m n) [
  | inl e ↦ inr (λ h. absurd (omega arith))
  | inr other ↦ elim other [ inl lt ↦ inl lt | inr gt ↦ inr (λ h. absurd (omega arith)) ]
]

pub same_or_not : (m n : ℕ) → Decision (m ≡ n)
same_or_not m n = elim (cases_order m n) [
  | inl e ↦ inl e
  | inr other ↦ elim other [ inl lt ↦ inr (λ h. absurd (omega arith)) | inr gt ↦ inr (λ h. absurd (omega arith)) ]
]

pub both_or_not : {P Q : Type 0} → Decision P → Decision Q → Decision (P × Q)
both_or_not (inl p) (inl q) = inl (p, q)
both_or_not (inl p) (inr q) = inr (λ h. q h.1)
both_or_not (inr p) d = inr (λ h. p h.0)

-- the first number below n at which it holds
pub first_below : (P : ℕ → Type 0) → ((k : ℕ) → Decision (P k)) → (n : ℕ)
    → ((i : ℕ) × (i < n) × P i × ((k : ℕ) → k < i → P k → ⊥)) ⊎ ((k : ℕ) → k < n → P k → ⊥)
first_below P decide zero = inr (λ k lt h. absurd (omega arith))
first_below P decide (suc n) = elim (first_below P decide n) [
  | inl found ↦ inl (found.0, omega (arith, found.1), found.2, found.3)
  | inr none ↦ elim (decide n) [
    | inl here ↦ inl (n, omega arith, here, none)
    | inr other ↦ inr (λ k lt h. elim (cases_order k n) [
      | inl e ↦ other (subst P e h)
      | inr apart ↦ elim apart [ inl low ↦ none k low h | inr high ↦ absurd (omega arith) ]
    ])
  ]
]

-- the last number up to n at which it holds, where it holds at 0
last_within : (P : ℕ → Type 0) → ((k : ℕ) → Decision (P k)) → P 0 → (n : ℕ) → (i : ℕ) × (i ≤ n) × P i × ((k : ℕ) → i < k → k ≤ n → P k → ⊥)
last_within P decide start zero = (0, omega arith, start, λ k lt le h. absurd (omega arith))
last_within P decide start (suc n) = elim (decide (suc n)) [
  | inl here ↦ (suc n, omega arith, here, λ k lt le h. absurd (omega arith))
  | inr other ↦
      let low = last_within P decide start n in (
        low.0,
        omega (arith, low.1),
        low.2,
        λ k lt le h. elim (cases_order k (suc n)) [
          | inl e ↦ other (subst P e h)
          | inr apart ↦ elim apart [ inl less ↦ low.3 k lt (omega arith) h | inr more ↦ absurd (omega arith) ]
        ],
      )
]

-- ---- keys and texts

pub same_key_or_not : (a b : List Value) → Decision (a ≡ b)
same_key_or_not a b = by (values_cmp a b) refl
  where
    by : (o : Ordering) → values_cmp a b ≡ o → Decision (a ≡ b)
    by ordering.Less e = inr (λ same. let tied : values_cmp a b ≡ ordering.Equal = rw same (values_cmp_itself b) in cc (tied, e))
    by ordering.Equal e = inl (exact_values a b e)
    by ordering.Greater e = inr (λ same. let tied : values_cmp a b ≡ ordering.Equal = rw same (values_cmp_itself b) in cc (tied, e))

same_text_or_not : (a b : List ℕ) → Decision (a ≡ b)
same_text_or_not a b = by (slice_cmp nat_cmp a b) refl
  where
    by : (o : Ordering) → slice_cmp nat_cmp a b ≡ o → Decision (a ≡ b)
    by ordering.Less e = inr (λ same. let tied : slice_cmp nat_cmp a b ≡ ordering.Equal = rw same (tied_itself nat_list_cmp_total b) in cc (tied, e))
    by ordering.Equal e = inl (exact_bytes a b e)
    by ordering.Greater e = inr (λ same. let tied : slice_cmp nat_cmp a b ≡ ordering.Equal = rw same (tied_itself nat_list_cmp_total b) in cc (tied, e))

-- lists of texts are equal, or they differ first at some position
pub differ_or_same : (xs ys : List (List ℕ)) → ((i : ℕ) × (take i xs ≡ take i ys) × (slice_get xs i ≢ slice_get ys i)) ⊎ (xs ≡ ys)
differ_or_same [] [] = inr refl
differ_or_same [] (y ∷ ys) = inl (0, refl, λ e. cc e)
differ_or_same (x ∷ xs) [] = inl (0, refl, λ e. cc e)
differ_or_same (x ∷ xs) (y ∷ ys) = elim (same_text_or_not x y) [
  | inl same ↦ elim (differ_or_same xs ys) [
    | inl rest ↦ inl (suc rest.0, ap (λ z. z ∷ take rest.0 xs) same ∙ ap (λ zs. y ∷ zs) rest.1, rest.2)
    | inr rest ↦ inr (ap (λ z. z ∷ xs) same ∙ ap (λ zs. y ∷ zs) rest)
  ]
  | inr other ↦ inl (0, refl, λ e. other (cc e))
]

text_or_not : (bytes : List ℕ) → Decision (IsUtf8 bytes)
text_or_not bytes = elim (cases_Bool (is_utf8 bytes)) [
  | inl h ↦ inl (IsUtf8-from_is_utf8 bytes h)
  | inr h ↦ inr (λ is. let so = is_utf8-from_IsUtf8 bytes is in cc (so, h))
]

take_all : (n : ℕ) (xs : List ℕ) → length xs ≤ n → take n xs ≡ xs
take_all zero [] le = refl
take_all (suc n) [] le = refl
take_all zero (x ∷ xs) le = absurd (omega arith)
take_all (suc n) (x ∷ xs) le = ap (λ zs. x ∷ zs) (take_all n xs (omega arith))

-- bytes are UTF-8, or their longest front that is UTF-8 ends somewhere
pub text_or_front : (bytes : List ℕ) → IsUtf8 bytes ⊎ (¬ (IsUtf8 bytes) × (n : ℕ) × IsValidUpTo bytes n)
text_or_front bytes = elim (text_or_not bytes) [
  | inl h ↦ inl h
  | inr h ↦
      let last = last_within (λ n. IsUtf8 (take n bytes)) (λ n. text_or_not (take n bytes)) IsUtf8-nil (length bytes) in
      inr (
        h,
        last.0,
        record {
          short = elim (cases_order last.0 (length bytes)) [
            | inl e ↦ absurd (h (rw (take-length bytes) at (subst (λ n. IsUtf8 (take n bytes)) e last.2)))
            | inr other ↦ elim other [ inl lt ↦ lt | inr gt ↦ absurd (omega (arith, last.1)) ]
          ];
          front = last.2;
          longest = λ m lt is. elim (lt_or_not (length bytes) m) [
            | inl past ↦ h (subst IsUtf8 (take_all m bytes (omega arith)) is)
            | inr low ↦ last.3 m lt (omega arith) is
          ];
        },
      )
]

-- ---- numbers

digits_or_not : (ds : List ℕ) → Decision (AllDigits 10 ds)
digits_or_not [] = inl tt
digits_or_not (c ∷ ds) = both_or_not (lt_or_not (digit_value c) 10) (digits_or_not ds)

pub numeral_or_not : (ds : List ℕ) → Decision (IsNumeral 10 ds)
numeral_or_not ds = both_or_not (lt_or_not 0 (length ds)) (digits_or_not ds)

-- a divisor of a number, and what times it is the number
pub quotient_or_not : (n d : ℕ) → 0 < d → ((m : ℕ) × (m * d ≡ n)) ⊎ ((m : ℕ) → m * d ≡ n → ⊥)
quotient_or_not n d some = elim (same_or_not (n / d * d) n) [
  | inl e ↦ inl (n / d, e)
  | inr other ↦ inr (λ m e. other (let is : n / d ≡ m = ap (λ k. k / d) (sym e) ∙ mul-div_cancel m some in rw is e))
]

pub fits_or_not : (n : ℤ) → Decision (FitsSigned w64 n)
fits_or_not n = elim (lt_or_not (mag n) (2 ^ 63)) [ inl h ↦ inl (record { sfits = h }) | inr other ↦ inr (λ fits. other fits.sfits) ]
