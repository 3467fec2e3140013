-- Tests along a list, and maps of the first items of one.
use Rattle.std.proofs.Common.{◌≡◌, ◌+◌, ◌<◌, ◌≤◌, ℕ, Bool, ◌&&◌, ◌||◌, List, [], ◌∷◌, ◌++◌, map, length, take, get_or, refl, ap, ◌∙◌}
use Rattle.std.specs.List.{list_any, list_all}
use Rattle.std.proofs.lemmas.List.{map_more, length-map}
use Rattle.pm_values.specs.Keys.{once}
use Rattle.pm_values.proofs.KeyCounts.{length-once_le}

pub any_map : {A : Type 0} (f : A → Bool) (xs : List A) → list_any (λ m. m) (map f xs) ≡ list_any f xs
any_map f [] = refl
any_map f (x ∷ xs) = ap (λ r. f x || r) (any_map f xs)

pub all_map : {A : Type 0} (f : A → Bool) (xs : List A) → list_all (λ m. m) (map f xs) ≡ list_all f xs
all_map f [] = refl
all_map f (x ∷ xs) = ap (λ r. f x && r) (all_map f xs)

pub map_step : {A B : Type 0} (f : A → B) (xs : List A) (i : ℕ) (x : A) → i < length xs → x ≡ get_or xs i x → map f (take (i + 1) xs) ≡ map f (take i xs) ++ f x ∷ []
map_step f xs i x within is = map_more f xs i x within ∙ rw (← is) refl

pub once_few : {X : Type 0} (same : ℕ → ℕ → Bool) (f : X → ℕ) (xs : List X) → length (once same (map f xs)) ≤ length xs
once_few same f xs = let few : length (once same (map f xs)) ≤ length (map f xs) = length-once_le same (map f xs) in rw (length-map xs f) at few
