-- how many groups rows make
use Rattle.std.proofs.Common.{◌≡◌, ℕ, suc, zero, ◌+◌, ◌-◌, ◌≤◌, not, List, [], ◌∷◌, ◌++◌, length, map, take, drop, min, refl, ap, ◌∙◌, arith, length-append, length-drop, length-take}
use Rattle.std.specs.List.{filter}
use Rattle.std.proofs.lemmas.List.{length-map, map-append, take-append-drop}
use Rattle.std.proofs.lemmas.List.Elements.{filter-append}
use Rattle.pm_values.specs.Row.{Row, pick}
use Rattle.pm_values.specs.Equality.{same_values}
use Rattle.pm_plan.specs.declared.plan.Aggregate.{Aggregate}
use Rattle.pm_values.specs.Keys.{once}
use Rattle.pm_values.proofs.KeyCounts.{length-filter_le, length-once_le}
use Rattle.pm_plan.specs.Grouping.{group_keys, group_row, grouped}

-- a number grows by at most so much
abbrev pub GrowsBy : ℕ → ℕ → ℕ → Type 0
GrowsBy most a b = (a ≤ b) × (b ≤ a + most)

-- the groups of these rows; without keys one
abbrev pub groups_in : List ℕ → List Row → ℕ
groups_in [] rows = 1
groups_in (key ∷ keys) rows = length (group_keys (key ∷ keys) rows)

-- those that are not the same as one of the first list
abbrev unlike : List Row → List Row → List Row
unlike [] keys = keys
unlike (x ∷ xs) keys = filter (λ y. not (same_values x y)) (unlike xs keys)

length-unlike : (xs keys : List Row) → length (unlike xs keys) ≤ length keys
length-unlike [] keys = omega arith
length-unlike (x ∷ xs) keys = omega (arith, length-filter_le (λ y. not (same_values x y)) (unlike xs keys), length-unlike xs keys)

once-append : (xs ys : List Row) → once same_values (xs ++ ys) ≡ once same_values xs ++ unlike xs (once same_values ys)
once-append [] ys = refl
once-append (x ∷ xs) ys =
    ap (λ s. x ∷ filter (λ y. not (same_values x y)) s) (once-append xs ys)
    ∙ ap (λ s. x ∷ s) (filter-append (λ y. not (same_values x y)) (once same_values xs) (unlike xs (once same_values ys)))

-- more rows make no fewer groups, and at most one more for each row
keys_append : (keys : List ℕ) (xs ys : List Row)
    → GrowsBy (length ys) (length (group_keys keys xs)) (length (group_keys keys (xs ++ ys)))
keys_append keys xs ys =
    let parts : group_keys keys (xs ++ ys) ≡ group_keys keys xs ++ unlike (map (pick keys) xs) (group_keys keys ys) =
    ap (once same_values) (map-append (pick keys) xs ys) ∙ once-append (map (pick keys) xs) (map (pick keys) ys) in
    let sum = length-append (group_keys keys xs) (unlike (map (pick keys) xs) (group_keys keys ys)) in
    let few = length-unlike (map (pick keys) xs) (group_keys keys ys) in
    let fewer = length-once_le same_values (map (pick keys) ys) in
    (omega (arith, ap length parts, sum), omega (arith, ap length parts, sum, few, fewer, length-map ys (pick keys)))

pub groups_cut : (keys : List ℕ) (k : ℕ) (rows : List Row) → GrowsBy (length rows - k) (groups_in keys (take k rows)) (groups_in keys rows)
groups_cut [] k rows = (omega arith, omega arith)
groups_cut (c ∷ cs) k rows =
    let both : GrowsBy (length (drop k rows)) (groups_in (c ∷ cs) (take k rows)) (groups_in (c ∷ cs) (take k rows ++ drop k rows)) = keys_append (c ∷ cs) (take k rows) (drop k rows) in
    let whole : groups_in (c ∷ cs) (take k rows ++ drop k rows) ≡ groups_in (c ∷ cs) rows = ap (groups_in (c ∷ cs)) (take-append-drop k rows) in
    (omega (arith, both, whole), omega (arith, both, whole, length-drop k rows))

take-take : (k : ℕ) (xs : List Row) → take k (take (suc k) xs) ≡ take k xs
take-take zero xs = refl
take-take (suc k) [] = refl
take-take (suc k) (x ∷ xs) = ap (λ s. x ∷ s) (take-take k xs)

pub groups_step : (keys : List ℕ) (k : ℕ) (rows : List Row) → GrowsBy 1 (groups_in keys (take k rows)) (groups_in keys (take (suc k) rows))
groups_step keys k rows =
    let cut : GrowsBy (length (take (suc k) rows) - k) (groups_in keys (take k (take (suc k) rows))) (groups_in keys (take (suc k) rows)) = groups_cut keys k (take (suc k) rows) in
    let same : groups_in keys (take k (take (suc k) rows)) ≡ groups_in keys (take k rows) = ap (groups_in keys) (take-take k rows) in
    (omega (arith, cut, same), omega (arith, cut, same, length-take (suc k) rows))

pub length-grouped : (keys : List ℕ) (items : List Aggregate) (rows : List Row) → length (grouped keys items rows) ≡ groups_in keys rows
length-grouped [] items rows = refl
length-grouped (k ∷ ks) items rows = length-map (group_keys (k ∷ ks) rows) (group_row (k ∷ ks) items rows)

pub groups_some : (k : ℕ) (ks : List ℕ) (rows : List Row) → min 1 (length rows) ≤ groups_in (k ∷ ks) rows
groups_some k ks [] = omega arith
groups_some k ks (r ∷ rows) = omega arith
