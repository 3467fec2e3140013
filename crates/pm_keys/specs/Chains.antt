-- how keys are found by their hashes: the last number with each hash, and for each number the last one below it with its hash
use Rattle.std.specs.Prelude.{◌≡◌, ◌≢◌, ◌<◌, ◌^◌, ℕ, if◌then◌else◌, List, [], length, get_or, nat_eq, Option, None, Some, AllPairs}
use Rattle.pm_values.specs.Row.{Row}
use Rattle.pm_keys.specs.Hash.{hash_of}

-- the hash of the key with this number
abbrev pub hash_at : List Row → ℕ → ℕ
hash_at keys number = hash_of (get_or keys number [])

-- the greatest of the numbers below an end whose keys have this hash
abbrev pub IsLast : List Row → ℕ → ℕ → Option ℕ → Type 0
IsLast keys end hash None = (k : ℕ) → k < end → hash_at keys k ≢ hash
IsLast keys end hash (Some n) = (n < end) × (hash_at keys n ≡ hash) × ((k : ℕ) → n < k → k < end → hash_at keys k ≢ hash)

-- a link is a number, or the greatest one of 32 bits where there is none
abbrev pub link_number : ℕ → Option ℕ
link_number link = if nat_eq link 4294967295 then None else Some link

-- of keys that differ, the last number with each hash, and the links from each number to the one before it
pub record IsChained (keys : List Row) (last : ℕ → Option ℕ) (links : List ℕ) : Type 0 where
  pub different : AllPairs (λ a b. a ≢ b) keys
  pub few : length keys < 2 ^ 32
  pub linked : length links ≡ length keys
  pub lasts : (hash : ℕ) → IsLast keys (length keys) hash (last hash)
  pub befores : (n : ℕ) → n < length keys → IsLast keys n (hash_at keys n) (link_number (get_or links n 0))
