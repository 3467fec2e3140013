-- the records that were read one by one are a first part of all records of the text
use Rattle.std.proofs.Common.{◌≡◌, ◌∙◌, ◌≤◌, ◌<◌, ◌+◌, ◌++◌, ◌==◌, ℕ, zero, suc, Bool, true, false, List, [], ◌∷◌, length, Some, None, refl, sym, ap, subst, arith, append-nil}
use Rattle.csv.specs.Machine.{Read, ends_at_end, field_after, fields_after, in_field, is_end, next_record, start_field, start_record, step}
use Rattle.csv.specs.Reading.{Reached, default_config, records, records_from, records_next}
use Rattle.csv.specs.declared.parser.Action.{Action}
use Rattle.csv.specs.declared.parser.State.{State}
use Rattle.csv.specs.declared.parser.State.TheVariants as st

abbrev Quiet : State → Type 0
Quiet s = ends_at_end s ≡ false

in_field_quiet : (c : ℕ) → is_end (in_field default_config c).1 ≡ true → Quiet (in_field default_config c).0
in_field_quiet c h = by (c == 44) (c == 13) (c == 10) refl refl refl
  where
    by : (a b d : Bool) → (c == 44) ≡ a → (c == 13) ≡ b → (c == 10) ≡ d → Quiet (in_field default_config c).0
    by true b d e f g = absurd (let k = rw e at h in cc k)
    by false true d e f g = rw (e, f) refl
    by false false true e f g = rw (e, f, g) refl
    by false false false e f g = absurd (let k = rw (e, f, g) at h in cc k)

start_field_quiet : (c : ℕ) → is_end (start_field default_config c).1 ≡ true → Quiet (start_field default_config c).0
start_field_quiet c h = by (c == 34) refl
  where
    by : (a : Bool) → (c == 34) ≡ a → Quiet (start_field default_config c).0
    by true e = absurd (let k = rw e at h in cc k)
    by false e = rw e (in_field_quiet c (rw e at h))

-- what ends no record but in a quiet state
abbrev EndsQuiet : State × Action → Type 0
EndsQuiet q = is_end q.1 ≡ true → Quiet q.0

start_is : (c : ℕ) → (c == 13) ≡ false → (c == 10) ≡ false → start_record default_config c ≡ start_field default_config c
start_is c f g = rw (f, g) refl

after_is : (c : ℕ) → (c == 10) ≡ false → step default_config st.AfterCr c ≡ start_record default_config c
after_is c g = rw g refl

start_record_quiet : (c : ℕ) → is_end (start_record default_config c).1 ≡ true → Quiet (start_record default_config c).0
start_record_quiet c h = by (c == 13) (c == 10) refl refl
  where
    by : (b d : Bool) → (c == 13) ≡ b → (c == 10) ≡ d → Quiet (start_record default_config c).0
    by true d f g = absurd (let k = rw f at h in cc k)
    by false true f g = absurd (let k = rw (f, g) at h in cc k)
    by false false f g = subst EndsQuiet (sym (start_is c f g)) (start_field_quiet c) h

step_quiet : (s : State) (c : ℕ) → is_end (step default_config s c).1 ≡ true → Quiet (step default_config s c).0
step_quiet st.StartRecord c h = start_record_quiet c h
step_quiet st.StartField c h = start_field_quiet c h
step_quiet st.InField c h = in_field_quiet c h
step_quiet st.InQuoted c h = by (c == 34) refl
  where
    by : (a : Bool) → (c == 34) ≡ a → Quiet (step default_config st.InQuoted c).0
    by true e = absurd (let k = rw e at h in cc k)
    by false e = absurd (let k = rw e at h in cc k)
step_quiet st.InEscape c h = cc h
step_quiet st.AfterQuote c h = by (c == 34) refl
  where
    by : (a : Bool) → (c == 34) ≡ a → Quiet (step default_config st.AfterQuote c).0
    by true e = absurd (let k = rw e at h in cc k)
    by false e = rw e (in_field_quiet c (rw e at h))
step_quiet st.InComment c h = by (c == 10) refl
  where
    by : (a : Bool) → (c == 10) ≡ a → Quiet (step default_config st.InComment c).0
    by true e = absurd (let k = rw e at h in cc k)
    by false e = absurd (let k = rw e at h in cc k)
step_quiet st.AfterCr c h = by (c == 10) refl
  where
    by : (a : Bool) → (c == 10) ≡ a → Quiet (step default_config st.AfterCr c).0
    by true e = absurd (let k = rw e at h in cc k)
    by false e = subst EndsQuiet (sym (after_is c e)) (start_record_quiet c) h

-- what a record leaves: a state between two records, and no more bytes than there were
record Leaves (p : Read) (xs : List ℕ) : Type 0 where
  quiet : Quiet p.1
  fewer : length p.2 ≤ length xs

some_is : {A : Type 0} {x y : A} → Some x ≡ Some y → x ≡ y
some_is e = cc e

leaves : (s : State) (fields : List (List ℕ)) (field xs : List ℕ) (p : Read) → next_record default_config s fields field xs ≡ Some p → Leaves p xs
unfolding next_record
leaves s fields field [] p h = by (ends_at_end s) refl
  where
    by : (b : Bool) → ends_at_end s ≡ b → Leaves p []
    by true e = let k = some_is (rw e at h) in rw (← k) (record { quiet = refl; fewer = omega arith })
    by false e = absurd (let k = rw e at h in cc k)
leaves s fields field (c ∷ xs) p h = by (is_end (step default_config s c).1) refl (leaves (step default_config s c).0 _ _ xs p)
  where
    by : (b : Bool) → is_end (step default_config s c).1 ≡ b
        → (next_record default_config (step default_config s c).0 (fields_after (step default_config s c).1 fields field) (field_after (step default_config s c).1 c field) xs ≡ Some p → Leaves p xs)
        → Leaves p (c ∷ xs)
    by true e more = let k = some_is (rw e at h) in rw (← k) (record { quiet = step_quiet s c e; fewer = omega arith })
    by false e more = let k = more (rw e at h) in record { quiet = k.quiet; fewer = omega (arith, k.fewer) }

-- a record takes a byte at least
shorter : (s : State) (xs : List ℕ) (p : Read) → Quiet s → next_record default_config s [] [] xs ≡ Some p → length p.2 < length xs
unfolding next_record
shorter s [] p quiet h = absurd (let k = rw quiet at h in cc k)
shorter s (c ∷ xs) p quiet h = by (is_end (step default_config s c).1) refl
  where
    by : (b : Bool) → is_end (step default_config s c).1 ≡ b → length p.2 < suc (length xs)
    by true e = let k = some_is (rw e at h) in rw (← k) (omega arith)
    by false e = let k = leaves (step default_config s c).0 _ _ xs p (rw e at h) in omega (arith, k.fewer)

-- what was reached, and then the rest with fewer bytes
record Parts (s : State) (rows : List (List (List ℕ))) (xs : List ℕ) (n : ℕ) (s2 : State) (ys : List ℕ) : Type 0 where
  fuel : ℕ
  enough : length ys < fuel
  parts : records_from default_config n s xs ≡ rows ++ records_from default_config fuel s2 ys

reached_parts : (rows : List (List (List ℕ))) (s : State) (xs : List ℕ) (n : ℕ) (s2 : State) (ys : List ℕ)
    → Quiet s → length xs < n → Reached default_config s xs rows s2 ys → Parts s rows xs n s2 ys
unfolding Reached records_from
reached_parts [] s xs n s2 ys quiet enough h = rw (← h.0, ← h.1) (record { fuel = n; enough = enough; parts = refl })
reached_parts (r ∷ rows) s xs zero s2 ys quiet enough h = absurd (omega arith)
reached_parts (r ∷ rows) s xs (suc n) s2 ys quiet enough h =
    let left = leaves s [] [] xs h.0 h.1 in
    let less = shorter s xs h.0 quiet h.1 in
    let more = reached_parts rows h.0.1 h.0.2 n s2 ys left.quiet (omega (arith, less)) h.3 in
    record { fuel = more.fuel; enough = more.enough; parts = ap (records_next (records_from default_config n)) h.1 ∙ ap (λ f. f ∷ records_from default_config n h.0.1 h.0.2) (sym h.2) ∙ ap (λ z. r ∷ z) more.parts }

-- these records and some more are all of the text
pub all_start : (text : List ℕ) (rows : List (List (List ℕ))) (s2 : State) (ys : List ℕ) → Reached default_config st.StartRecord text rows s2 ys
    → (rest : List (List (List ℕ))) × (records default_config text ≡ rows ++ rest)
all_start text rows s2 ys h =
    let p = reached_parts rows st.StartRecord text (length text + 1) s2 ys refl (omega arith) h in
    (records_from default_config p.fuel s2 ys, p.parts)

-- these are all records of the text
pub all_of : (text : List ℕ) (rows : List (List (List ℕ))) (s2 : State) (ys : List ℕ) → Reached default_config st.StartRecord text rows s2 ys
    → next_record default_config s2 [] [] ys ≡ None → records default_config text ≡ rows
unfolding records_from
all_of text rows s2 ys h end =
    let p = reached_parts rows st.StartRecord text (length text + 1) s2 ys refl (omega arith) h in
    p.parts ∙ ends p.fuel
  where
    ends : (fuel : ℕ) → rows ++ records_from default_config fuel s2 ys ≡ rows
    ends zero = append-nil rows
    ends (suc fuel) = rw end (append-nil rows)
