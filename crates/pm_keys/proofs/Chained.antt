-- the chains of keys by their hashes once a new key has been put behind the others
use Rattle.std.proofs.Common.{◌≡◌, ◌∙◌, ◌⊎◌, inl, inr, ◌<◌, ◌≤◌, ◌+◌, ◌-◌, ◌^◌, ℕ, false, cond, List, [], ◌∷◌, ◌++◌, length, get_or, Option, None, Some, refl, sym, ap, subst, arith}
use Rattle.std.specs.Prelude.{◌≢◌, nat_eq, AllPairs}
use Rattle.std.specs.Option.{unwrap_or}
use Rattle.std.proofs.lemmas.Bool.{cases_Bool}
use Rattle.std.proofs.lemmas.List.{get_or_append_left, get_or_push, length_push, get_or_default}
use Rattle.std.proofs.lemmas.List.Quantifiers.{all_pairs_push}
use Rattle.pm_values.specs.Row.{Row}
use Rattle.pm_values.specs.Equality.{same_values}
use Rattle.pm_values.proofs.ValueOrder.{same_values_equal}
use Rattle.pm_keys.specs.Numbers.{number_of, entered}
use Rattle.pm_keys.specs.Hash.{hash_of}
use Rattle.pm_keys.specs.Chains.{hash_at, link_number, IsLast, IsChained}
use Rattle.pm_keys.proofs.Found.{absent_nowhere, number_of-found}

-- ---- the list of keys

pub different-push : (key : Row) (keys : List Row) → number_of key keys ≡ None → AllPairs (λ a b. a ≢ b) keys → AllPairs (λ a b. a ≢ b) (keys ++ key ∷ [])
different-push key keys new different =
    all_pairs_push (λ a b. a ≢ b) keys key different (λ k d within same. absent_nowhere key keys new k within (get_or_default keys k [] d within ∙ same))

pub number_of-push : (key : Row) (keys : List Row) → number_of key keys ≡ None → AllPairs (λ a b. a ≢ b) keys → number_of key (keys ++ key ∷ []) ≡ Some (length keys)
number_of-push key keys new different =
    number_of-found key (keys ++ key ∷ []) (length keys) (different-push key keys new different) (omega (arith, length_push keys key))
    (ap (same_values key) (get_or_push keys key [] (length keys) refl) ∙ (same_values_equal key key).1 refl)

pub entered-new : (key : Row) (keys : List Row) → number_of key keys ≡ None → entered key keys ≡ keys ++ key ∷ []
entered-new key keys new = rw new refl

pub entered-old : (key : Row) (keys : List Row) (n : ℕ) → number_of key keys ≡ Some n → entered key keys ≡ keys
entered-old key keys n old = rw old refl

-- ---- the chains

same_hash : (key : Row) (keys : List Row) (k : ℕ) → k < length keys → hash_at (keys ++ key ∷ []) k ≡ hash_at keys k
same_hash key keys k within = ap hash_of (get_or_append_left keys (key ∷ []) [] k within)

last_hash : (key : Row) (keys : List Row) → hash_at (keys ++ key ∷ []) (length keys) ≡ hash_of key
last_hash key keys = ap hash_of (get_or_push keys key [] (length keys) refl)

-- below an end within the list nothing changes
pub IsLast-kept : (key : Row) (keys : List Row) (end hash : ℕ) (last : Option ℕ) → end ≤ length keys → IsLast keys end hash last → IsLast (keys ++ key ∷ []) end hash last
IsLast-kept key keys end hash None within last = λ k below same. last k below (sym (same_hash key keys k (omega arith)) ∙ same)
IsLast-kept key keys end hash (Some n) within last = (
  last.0,
  same_hash key keys n (omega (arith, last.0)) ∙ last.1,
  λ k above below same. last.2 k above below (sym (same_hash key keys k (omega arith)) ∙ same),
)

end_or_below : (k n : ℕ) → k < n + 1 → (k < n) ⊎ (k ≡ n)
end_or_below k n below = grind arith

-- a key with another hash changes nothing
IsLast-other : (key : Row) (keys : List Row) (hash : ℕ) (last : Option ℕ) → hash_of key ≢ hash → IsLast keys (length keys) hash last → IsLast (keys ++ key ∷ []) (length keys + 1) hash last
IsLast-other key keys hash None differ last =
    λ k below same. elim (end_or_below k (length keys) below) [
      | inl within ↦ last k within (sym (same_hash key keys k within) ∙ same)
      | inr end ↦ differ (sym (last_hash key keys) ∙ ap (hash_at (keys ++ key ∷ [])) (sym end) ∙ same)
    ]
IsLast-other key keys hash (Some n) differ last = (
  omega (arith, last.0),
  same_hash key keys n last.0 ∙ last.1,
  λ k above below same. elim (end_or_below k (length keys) below) [
    | inl within ↦ last.2 k above within (sym (same_hash key keys k within) ∙ same)
    | inr end ↦ differ (sym (last_hash key keys) ∙ ap (hash_at (keys ++ key ∷ [])) (sym end) ∙ same)
  ],
)

-- and it is the last one with its own
IsLast-own : (key : Row) (keys : List Row) → IsLast (keys ++ key ∷ []) (length keys + 1) (hash_of key) (Some (length keys))
IsLast-own key keys = (omega arith, last_hash key keys, λ k above below same. omega arith)

-- a number is a link to itself
number_links : (keys : List Row) (hash : ℕ) (last : Option ℕ) → length keys < 2 ^ 32 - 1 → IsLast keys (length keys) hash last → link_number (unwrap_or last 4294967295) ≡ last
number_links keys hash None few last = refl
number_links keys hash (Some n) few last = let other : nat_eq n 4294967295 ≡ false = grind (arith, last.0) in rw other refl

module _ (key : Row) (keys : List Row) (last : ℕ → Option ℕ) (links : List ℕ) (chained : IsChained keys last links) (new : number_of key keys ≡ None) (few : length keys < 2 ^ 32 - 1) where
  more_lasts : (hash : ℕ) → IsLast (keys ++ key ∷ []) (length (keys ++ key ∷ [])) hash (cond (nat_eq (hash_of key) hash) (Some (length keys)) (last hash))
  more_lasts hash =
      rw length_push (elim (cases_Bool (nat_eq (hash_of key) hash)) [
        | inl t ↦ let same : hash_of key ≡ hash = grind arith in
            rw t (subst (λ h. IsLast (keys ++ key ∷ []) (length keys + 1) h (Some (length keys))) same (IsLast-own key keys))
        | inr f ↦ let differ : hash_of key ≢ hash = grind arith in rw f (IsLast-other key keys hash (last hash) differ (chained.lasts hash))
      ])

  more_befores : (n : ℕ) → n < length (keys ++ key ∷ []) → IsLast (keys ++ key ∷ []) n (hash_at (keys ++ key ∷ []) n) (link_number (get_or (links ++ unwrap_or (last (hash_of key)) 4294967295 ∷ []) n 0))
  more_befores n within =
      elim (end_or_below n (length keys) (omega (arith, length_push keys key))) [
        | inl below ↦ let linked : n < length links = omega (arith, chained.linked) in
            rw (get_or_append_left links (unwrap_or (last (hash_of key)) 4294967295 ∷ []) 0 n linked, same_hash key keys n below)
            (IsLast-kept key keys n (hash_at keys n) (link_number (get_or links n 0)) (omega arith) (chained.befores n below))
        | inr end ↦ let linked : length links ≡ n = chained.linked ∙ sym end in
            let hash : hash_at (keys ++ key ∷ []) n ≡ hash_of key = ap (hash_at (keys ++ key ∷ [])) end ∙ last_hash key keys in
            rw (get_or_push links (unwrap_or (last (hash_of key)) 4294967295) 0 n linked, hash, number_links keys (hash_of key) (last (hash_of key)) few (chained.lasts (hash_of key)))
            (subst (λ e. IsLast (keys ++ key ∷ []) e (hash_of key) (last (hash_of key))) (sym end)
            (IsLast-kept key keys (length keys) (hash_of key) (last (hash_of key)) (omega arith) (chained.lasts (hash_of key))))
      ]

  pub IsChained-push : (more : ℕ → Option ℕ) → ((hash : ℕ) → more hash ≡ cond (nat_eq (hash_of key) hash) (Some (length keys)) (last hash))
      → IsChained (keys ++ key ∷ []) more (links ++ unwrap_or (last (hash_of key)) 4294967295 ∷ [])
  IsChained-push more updated = record {
    different = different-push key keys new chained.different;
    few = omega (arith, length_push keys key);
    linked = length_push links (unwrap_or (last (hash_of key)) 4294967295) ∙ omega (arith, length_push keys key, chained.linked);
    lasts = λ hash. rw (updated hash) (more_lasts hash);
    befores = more_befores;
  }
