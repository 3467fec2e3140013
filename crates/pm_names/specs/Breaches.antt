-- breaches of rules in their order, the first of which is told
use Rattle.std.specs.Prelude.{◌+◌, ℕ, Bool, true, false, if◌then◌else◌, List, [], ◌∷◌, ◌++◌, Result, Ok, Err}
use Rattle.std.specs.List.{list_any}
use Rattle.pm_names.specs.declared.fault.BindBad.{BindBad}

abbrev pub bad_if : Bool → BindBad → List BindBad
bad_if true breach = breach ∷ []
bad_if false breach = []

-- what a check answers that finds these
abbrev pub verdict : List BindBad → Result (Unit {0}) BindBad
verdict [] = Ok tt
verdict (breach ∷ breaches) = Err breach

-- the list with one more item, unless it has the same
abbrev pub added : {A : Type 0} → (A → A → Bool) → List A → A → List A
added same items x = if list_any (λ y. same y x) items then items else items ++ x ∷ []

-- this value, where there is no breach
abbrev pub outcome : {A : Type 0} → List BindBad → A → Result A BindBad
outcome [] value = Ok value
outcome (breach ∷ breaches) value = Err breach

-- what f gives for each of these and its position, the first of which is i, in order
abbrev pub each_from : {A B : Type 0} → (ℕ → A → List B) → ℕ → List A → List B
each_from f i [] = []
each_from f i (x ∷ xs) = f i x ++ each_from f (i + 1) xs
