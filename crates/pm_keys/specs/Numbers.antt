-- keys numbered from 0 in order of first appearance; a key is a list of values, and NULLs count as one value
use Rattle.std.specs.Prelude.{◌≡◌, ◌≢◌, ◌<◌, ◌^◌, ℕ, if◌then◌else◌, List, [], ◌∷◌, ◌++◌, length, fold, position, Option, is_some, All, AllPairs}
use Rattle.pm_values.specs.Row.{Row}
use Rattle.pm_values.specs.Equality.{same_values}

-- the number of the key, None where it is not there
abbrev pub number_of : Row → List Row → Option ℕ
number_of key keys = position (same_values key) keys

-- the keys once this one has been entered: a new one comes last
abbrev pub entered : Row → List Row → List Row
entered key keys = if is_some (number_of key keys) then keys else keys ++ key ∷ []

-- the keys once all of these have been entered into none, one after the other
abbrev pub all_entered : List Row → List Row
all_entered keys = fold (λ known key. entered key known) [] keys

-- different keys of one width, as contracts see them
pub record KeyList : Type 0 where
  pub width : ℕ
  pub keys : List Row

abbrev pub HasWidth : ℕ → Row → Type 0
HasWidth width key = length key ≡ width

pub record IsKeyList (list : KeyList) : Type 0 where
  pub wide : All (HasWidth list.width) list.keys
  pub different : AllPairs (λ a b. a ≢ b) list.keys
  pub few : length list.keys < 2 ^ 32
