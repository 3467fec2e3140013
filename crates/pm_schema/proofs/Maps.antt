-- One turn of a walk along a list, and columns that are found.
use Rattle.std.proofs.Common.{◌≡◌, ◌<◌, ◌+◌, ℕ, Bool, true, false, List, [], ◌∷◌, ◌++◌, map, length, refl, append_assoc, append-nil, arith, ◌||◌, cond, not, nat_lt, Option, Some, None, unwrap_or}
use Rattle.std.proofs.lemmas.Bool.Decides.{nat_tests}
use Rattle.std.specs.List.{list_any, position, position_or_len}
use Rattle.pm_lexer.specs.declared.token.Token.{Token}
use Rattle.pm_schema.specs.Terminals.{marked, marked_before}

pub map_step : {A B : Type 0} (f : A → B) (done : List B) (x : A) (after rest : List A) → rest ≡ x ∷ after → (done ++ f x ∷ []) ++ map f after ≡ done ++ map f rest
map_step f done x after rest is = rw (is, append_assoc) refl

pub map_ends : {A B : Type 0} (f : A → B) (done : List B) (rest : List A) → rest ≡ [] → done ≡ done ++ map f rest
map_ends f done rest is = rw (is, append-nil) refl

-- what is there is found
first_within : {A : Type 0} (p : A → Bool) (xs : List A) → list_any p xs ≡ true → position_or_len p xs < length xs
first_within p [] h = absurd (cc h)
first_within p (x ∷ xs) h = of (p x) h (first_within p xs)
  where
    of : (b : Bool) → (b || list_any p xs) ≡ true → (list_any p xs ≡ true → position_or_len p xs < length xs) → cond (not b) (1 + position_or_len p xs) 0 < length (x ∷ xs)
    of true h further = omega arith
    of false h further = let low = further h in omega arith

pub found : {A : Type 0} (p : A → Bool) (xs : List A) → list_any p xs ≡ true → position p xs ≡ None → ⊥
found p xs h none = of (nat_lt (position_or_len p xs) (length xs)) refl none
  where
    of : (b : Bool) → nat_lt (position_or_len p xs) (length xs) ≡ b → cond b (Some (position_or_len p xs)) None ≡ None → ⊥
    of true e s = cc s
    of false e s = let low = first_within p xs h in absurd (grind (arith, nat_tests))

pub within : {A : Type 0} (p : A → Bool) (xs : List A) (i : ℕ) → position p xs ≡ Some i → i < length xs
within p xs i at = of (nat_lt (position_or_len p xs) (length xs)) refl at
  where
    of : (b : Bool) → nat_lt (position_or_len p xs) (length xs) ≡ b → cond b (Some (position_or_len p xs)) None ≡ Some i → i < length xs
    of true e s = let same : position_or_len p xs ≡ i = cc s in let low : position_or_len p xs < length xs = grind (arith, nat_tests) in rw same at low
    of false e s = absurd (cc s)

-- the number of what is there is below their number
pub number_within : {A : Type 0} (p : A → Bool) (xs : List A) → list_any p xs ≡ true → unwrap_or (position p xs) 0 < length xs
number_within p xs h = of (position p xs) refl
  where
    of : (o : Option ℕ) → position p xs ≡ o → unwrap_or o 0 < length xs
    of None e = absurd (found p xs h e)
    of (Some i) e = within p xs i e

-- one token more as the grammar sees it
pub marked_step : (seen : List Token) (t : Token) (rest after : List Token) → rest ≡ t ∷ after → (seen ++ marked_before after t ∷ []) ++ marked after ≡ seen ++ marked rest
unfolding marked
marked_step seen t rest after e = rw (e, append_assoc) refl

pub marked_ends : (seen rest : List Token) → rest ≡ [] → seen ≡ seen ++ marked rest
unfolding marked
marked_ends seen rest e = rw (e, append-nil) refl
