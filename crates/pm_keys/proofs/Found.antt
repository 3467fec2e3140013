-- where a key is in a list of different keys, and how a walk along the links comes to it
use Rattle.std.proofs.Common.{◌≡◌, ◌∙◌, ◌⊎◌, inl, inr, ◌<◌, ℕ, true, false, List, [], length, get_or, Option, None, Some, refl, sym, ap, arith}
use Rattle.std.specs.Prelude.{◌≢◌, nat_lt, AllPairs}
use Rattle.std.specs.List.{position_or_len}
use Rattle.std.proofs.lemmas.Bool.{cases_Bool}
use Rattle.std.proofs.lemmas.List.Sums.{position_or_len_is, fails_before_first}
use Rattle.pm_values.specs.Row.{Row}
use Rattle.pm_values.specs.Equality.{same_values}
use Rattle.pm_values.proofs.ValueOrder.{same_values_equal}
use Rattle.pm_keys.specs.Numbers.{number_of}
use Rattle.pm_keys.specs.Hash.{hash_of}
use Rattle.pm_keys.specs.Chains.{hash_at, IsLast}

below : (m n : ℕ) → m < n → nat_lt m n ≡ true
below m n h = grind arith

not_below : (n : ℕ) → nat_lt n n ≡ false
not_below n = grind arith

other : (a b : Row) → (b ≢ a) → same_values a b ≡ false
other a b differ = elim (cases_Bool (same_values a b)) [ inl t ↦ absurd (differ (sym ((same_values_equal a b).0 t))) | inr f ↦ f ]

pub number_of-found : (key : Row) (keys : List Row) (n : ℕ) → AllPairs (λ a b. a ≢ b) keys → n < length keys → same_values key (get_or keys n []) ≡ true → number_of key keys ≡ Some n
number_of-found key keys n different within same =
    let first : position_or_len (same_values key) keys ≡ n =
    position_or_len_is (same_values key) keys n [] (omega arith)
    (λ k before. other key (get_or keys k []) (λ again. different k n [] before within (again ∙ (same_values_equal key (get_or keys n [])).0 same)))
    (λ _. same) in
    rw (first, below n (length keys) within) refl

pub number_of-absent : (key : Row) (keys : List Row) → ((k : ℕ) → k < length keys → get_or keys k [] ≢ key) → number_of key keys ≡ None
number_of-absent key keys nowhere =
    let end : position_or_len (same_values key) keys ≡ length keys =
    position_or_len_is (same_values key) keys (length keys) [] (omega arith) (λ k within. other key (get_or keys k []) (nowhere k within)) (λ past. absurd (omega arith)) in
    rw (end, not_below (length keys)) refl

pub absent_nowhere : (key : Row) (keys : List Row) → number_of key keys ≡ None → (k : ℕ) → k < length keys → get_or keys k [] ≢ key
absent_nowhere key keys none k within there =
    let same : same_values key (get_or keys k []) ≡ true = (same_values_equal key (get_or keys k [])).1 (sym there) in
    elim (cases_Bool (nat_lt (position_or_len (same_values key) keys) (length keys))) [
      | inl t ↦ let some : number_of key keys ≡ Some (position_or_len (same_values key) keys) = rw t refl in absurd (cc (sym none ∙ some))
      | inr f ↦ let before : k < position_or_len (same_values key) keys = grind arith in absurd (cc (sym same ∙ fails_before_first (same_values key) keys k [] before))
    ]

-- the numbers at which a key may still be: those up to the next one of its hash
abbrev pub IsAhead : Row → List Row → Option ℕ → Type 0
IsAhead key keys None = (k : ℕ) → k < length keys → get_or keys k [] ≢ key
IsAhead key keys (Some n) = (n < length keys) × (hash_at keys n ≡ hash_of key) × ((k : ℕ) → n < k → k < length keys → get_or keys k [] ≢ key)

pub ahead_first : (key : Row) (keys : List Row) (next : Option ℕ) → IsLast keys (length keys) (hash_of key) next → IsAhead key keys next
ahead_first key keys None last = λ k within same. last k within (ap hash_of same)
ahead_first key keys (Some n) last = (last.0, last.1, λ k above within same. last.2 k above within (ap hash_of same))

around : (k n : ℕ) → (k < n) ⊎ ((k ≡ n) ⊎ (n < k))
around k n = grind arith

pub ahead_next : (key : Row) (keys : List Row) (n : ℕ) (next : Option ℕ) → IsAhead key keys (Some n) → get_or keys n [] ≢ key → IsLast keys n (hash_at keys n) next → IsAhead key keys next
ahead_next key keys n None ahead differ last =
    λ k within same. elim (around k n) [
      | inl before ↦ last k before (ap hash_of same ∙ sym ahead.1)
      | inr (inl here) ↦ differ (ap (λ i. get_or keys i []) (sym here) ∙ same)
      | inr (inr above) ↦ ahead.2 k above within same
    ]
ahead_next key keys n (Some m) ahead differ last = (
  omega (arith, last.0, ahead.0),
  last.1 ∙ ahead.1,
  λ k after within same. elim (around k n) [
    | inl before ↦ last.2 k after before (ap hash_of same ∙ sym ahead.1)
    | inr (inl here) ↦ differ (ap (λ i. get_or keys i []) (sym here) ∙ same)
    | inr (inr above) ↦ ahead.2 k above within same
  ],
)
