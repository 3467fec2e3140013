-- rows that are kept by parts
use Rattle.std.proofs.Common.{◌≡◌, ℕ, zero, suc, ◌+◌, ◌-◌, ◌<◌, ◌≤◌, Bool, true, arith, List, [], ◌∷◌, ◌++◌, length, map, drop, get_or, replicate, refl, ap, sym, subst, ◌∙◌, append-nil}
use Rattle.std.specs.Prelude.{All, Option, None, Some, IfSome}
use Rattle.std.specs.List.{range_with_len}
use Rattle.std.proofs.lemmas.List.{append_assoc, length-append, length-map, length-replicate, map-append, get_or-map, get_or_append_left, get_or-append_right}
use Rattle.std.proofs.lemmas.List.FromFn.{fill_by_all, length-range_with_len, get_or-range_with_len, get_or-map-range_with_len}
use Rattle.std.specs.Borrow.{Bor}
use Rattle.std.proofs.lemmas.List.Elements.{All-from_get_or, All-nil, All-cons, All-head, All-tail, All-get_or, All-map, All-append, All-weaker}
use Rattle.std.proofs.lemmas.Simd.{map-map}
use Rattle.pm_values.specs.declared.value.Value.TheVariants.{Null}
use Rattle.pm_values.specs.Row.{Row, AllBelow, cell, pick}
use Rattle.pm_flows.specs.declared.part.Part.{Part}
use Rattle.pm_flows.specs.declared.part.Part.TheVariants as part
use Rattle.pm_flows.specs.BuildFlow.{right_row}
use Rattle.pm_flows.specs.Held.{Place, Nowhere, InRow, InGroup, Held, value_in_row, value_in_group, value_at, kept_row, HasColumn, IsGroupOf, HasPlace, Keep, place_of, HasValue, held_in_row, held_in_group, held_picked, shifted, held_beside, KeepsHeld, KeepsRow, PutsRow, PutsSome, part_of}

-- ---- a value by its column

at_mapped : {X Y : Type 0} (f : X → Y) (xs : List X) (i : ℕ) (d : X) → get_or (map f xs) i (f d) ≡ f (get_or xs i d)
at_mapped f [] zero d = refl
at_mapped f [] (suc i) d = refl
at_mapped f (x ∷ xs) zero d = refl
at_mapped f (x ∷ xs) (suc i) d = at_mapped f xs i d

pub kept-cell : (held : Held) (parts : List Part) (at : ℕ) → cell (kept_row held parts) at ≡ value_at held.groups parts (place_of held at)
kept-cell held parts at = at_mapped (value_at held.groups parts) held.places at Nowhere

pub keep-at : (held : Held) (parts : List Part) (at : ℕ) → Keep held parts → at < length held.places → HasValue held parts at
keep-at held parts at keep within = All-get_or (HasPlace held.final held.groups parts) held.places at Nowhere within keep

pub kept-length : (held : Held) (parts : List Part) → length (kept_row held parts) ≡ length held.places
kept-length held parts = length-map held.places (value_at held.groups parts)

-- ---- what a step leaves

module _ (old new : Held) (k : KeepsHeld old new) where
  group_same : (p : Part) (column : ℕ) → IsGroupOf old.final old.groups p → (value_in_group new.groups p column ≡ value_in_group old.groups p column) × IsGroupOf new.final new.groups p
  group_same (part.Row row) column h = absurd h
  group_same part.Nulls column h = (refl, tt)
  group_same (part.Group group) column h =
      let g = k.groups h.0 in
      (ap (λ gs. cell (get_or gs group []) column) g.1, (g.0, subst (λ gs. group < length gs) (sym g.1) h.1))

  place_same : (parts : List Part) (p : Place) → HasPlace old.final old.groups parts p
      → (value_at new.groups parts p ≡ value_at old.groups parts p) × HasPlace new.final new.groups parts p
  place_same parts Nowhere h = absurd h
  place_same parts (InRow at column) h = (refl, h)
  place_same parts (InGroup at column) h = group_same (get_or parts at part.Nulls) column h

  places_same : (parts : List Part) (ps : List Place) → All (HasPlace old.final old.groups parts) ps
      → (map (value_at new.groups parts) ps ≡ map (value_at old.groups parts) ps) × All (HasPlace new.final new.groups parts) ps
  places_same parts [] all = (refl, All-nil (HasPlace new.final new.groups parts))
  places_same parts (p ∷ ps) all =
      let first = place_same parts p (All-head (HasPlace old.final old.groups parts) p ps all) in
      let rest = places_same parts ps (All-tail (HasPlace old.final old.groups parts) p ps all) in (
        ap (λ v. v ∷ map (value_at new.groups parts) ps) first.0 ∙ ap (λ vs. value_at old.groups parts p ∷ vs) rest.0,
        All-cons (HasPlace new.final new.groups parts) p ps first.1 rest.1,
      )

  -- parts that kept a row keep it
  pub kept-same : (parts : List Part) → Keep old parts → kept_row new parts ≡ kept_row old parts
  kept-same parts keep = ap (map (value_at new.groups parts)) k.places ∙ (places_same parts old.places keep).0

  pub keep-same : (parts : List Part) → Keep old parts → Keep new parts
  keep-same parts keep = subst (All (HasPlace new.final new.groups parts)) (sym k.places) (places_same parts old.places keep).1

pub held_stays : (h : Held) → KeepsHeld h h
held_stays h = record { parts = refl; places = refl; groups = λ f. (f, refl) }

-- ---- one part

module _ (wide : ℕ) (row : Row) (is : length row ≡ wide) where
  cells_are : map (cell row) (range_with_len 0 wide) ≡ row
  cells_are = sym (fill_by_all (cell row) row wide Null is (λ k h. refl))

nulls_are : (wide : ℕ) (row : Row) → length row ≡ wide → ((k : ℕ) → k < wide → cell row k ≡ Null) → map (λ column. Null) (range_with_len 0 wide) ≡ row
nulls_are wide row is null = sym (fill_by_all (λ k. Null) row wide Null is null)

pub range_below : (n : ℕ) → All (λ k. k < n) (range_with_len 0 n)
range_below n =
    All-from_get_or (λ k. k < n) (range_with_len 0 n) 0 (λ i l.
    let within : i < n = omega (arith, l, length-range_with_len 0 n) in omega (arith, within, get_or-range_with_len 0 n i 0 within))

-- the values in one part
abbrev pub in_row : ℕ → Part → Row
in_row wide p = map (value_in_row p) (range_with_len 0 wide)

row_kept : (wide : ℕ) (p : Part) (rest : List Part) → map (value_at [] (p ∷ rest)) (map (InRow 0) (range_with_len 0 wide)) ≡ in_row wide p
row_kept wide p rest = map-map (value_at [] (p ∷ rest)) (InRow 0) (range_with_len 0 wide)

pub in_row-row : (wide : ℕ) (row : Bor Row) → length row.now ≡ wide → in_row wide (part.Row row) ≡ row.now
in_row-row wide row is = cells_are wide row.now is

pub in_row-nulls : (wide : ℕ) (row : Row) → length row ≡ wide → ((k : ℕ) → k < wide → cell row k ≡ Null) → in_row wide part.Nulls ≡ row
in_row-nulls wide row is null = nulls_are wide row is null

-- the part has all columns
abbrev pub IsWide : ℕ → Part → Type 0
IsWide wide (part.Row row) = length row.now ≡ wide
IsWide wide part.Nulls = Unit {0}
IsWide wide (part.Group group) = ⊥

has_columns : (wide : ℕ) (p : Part) → IsWide wide p → All (HasColumn p) (range_with_len 0 wide)
has_columns wide (part.Row row) is = subst (λ w. All (λ k. k < w) (range_with_len 0 wide)) (sym is) (range_below wide)
has_columns wide part.Nulls is = All-weaker (λ k. k < wide) (λ k. Unit {0}) (λ k l. tt) (range_with_len 0 wide) (range_below wide)
has_columns wide (part.Group group) is = absurd is

row_places : (final : Bool) (groups : List Row) (wide : ℕ) (p : Part) (rest : List Part) → IsWide wide p → All (HasPlace final groups (p ∷ rest)) (map (InRow 0) (range_with_len 0 wide))
row_places final groups wide p rest is = All-map (HasPlace final groups (p ∷ rest)) (InRow 0) (range_with_len 0 wide) (has_columns wide p is)

module _ (wide : ℕ) (p : Part) (is : IsWide wide p) where
  pub keep-row : Keep (held_in_row wide) (p ∷ [])
  keep-row = row_places true [] wide p [] is

  pub kept-row : kept_row (held_in_row wide) (p ∷ []) ≡ in_row wide p
  kept-row = row_kept wide p []

-- ---- a group

module _ (wide : ℕ) (groups : List Row) (final : Bool) where
  pub keep-group : (p : Part) → IsGroupOf final groups p → Keep (held_in_group wide groups final) (p ∷ [])
  keep-group p is =
      All-map (HasPlace final groups (p ∷ [])) (InGroup 0) (range_with_len 0 wide) (All-weaker (λ k. k < wide) (λ k. IsGroupOf final groups p) (λ k l. is) (range_with_len 0 wide) (range_below wide))

  pub kept-group : (group : ℕ) → length (get_or groups group []) ≡ wide → kept_row (held_in_group wide groups final) (part.Group group ∷ []) ≡ get_or groups group []
  kept-group group is = map-map (value_at groups (part.Group group ∷ [])) (InGroup 0) (range_with_len 0 wide) ∙ cells_are wide (get_or groups group []) is

  pub kept-no_group : (row : Row) → length row ≡ wide → ((k : ℕ) → k < wide → cell row k ≡ Null) → kept_row (held_in_group wide groups final) (part.Nulls ∷ []) ≡ row
  kept-no_group row is null = map-map (value_at groups (part.Nulls ∷ [])) (InGroup 0) (range_with_len 0 wide) ∙ nulls_are wide row is null

-- the groups grow until they are final
pub grows_held : (wide : ℕ) (old new : List Row) (closed after : Bool) → (closed ≡ true → (after ≡ true) × (new ≡ old)) → KeepsHeld (held_in_group wide old closed) (held_in_group wide new after)
grows_held wide old new closed after same = record { parts = refl; places = refl; groups = same }

-- ---- chosen columns

module _ (columns : List ℕ) (held : Held) (parts : List Part) where
  pub kept-picked : kept_row (held_picked columns held) parts ≡ pick columns (kept_row held parts)
  kept-picked = map-map (value_at held.groups parts) (place_of held) columns ∙ each columns
    where
      each : (cs : List ℕ) → map (λ c. value_at held.groups parts (place_of held c)) cs ≡ pick cs (kept_row held parts)
      each [] = refl
      each (c ∷ cs) = ap (λ v. v ∷ map (λ d. value_at held.groups parts (place_of held d)) cs) (sym (kept-cell held parts c)) ∙ ap (λ vs. cell (kept_row held parts) c ∷ vs) (each cs)

  pub keep-picked : Keep held parts → AllBelow columns (length held.places) → Keep (held_picked columns held) parts
  keep-picked keep below =
      All-map (HasPlace held.final held.groups parts) (place_of held) columns
      (All-from_get_or (λ c. HasValue held parts c) columns 0 (λ k l. keep-at held parts (get_or columns k 0) keep (below k l)))

pub picked_stays : (columns : List ℕ) (old new : Held) → KeepsHeld old new → KeepsHeld (held_picked columns old) (held_picked columns new)
picked_stays columns old new k = record { parts = k.parts; places = ap (λ ps. map (λ c. get_or ps c Nowhere) columns) k.places; groups = k.groups }

-- ---- a row behind another

value-shifted : (groups : List Row) (p : Part) (parts : List Part) (place : Place) → value_at groups (p ∷ parts) (shifted place) ≡ value_at groups parts place
value-shifted groups p parts Nowhere = refl
value-shifted groups p parts (InRow at column) = refl
value-shifted groups p parts (InGroup at column) = refl

has-shifted : (final : Bool) (groups : List Row) (p : Part) (parts : List Part) (place : Place) → HasPlace final groups parts place → HasPlace final groups (p ∷ parts) (shifted place)
has-shifted final groups p parts Nowhere h = h
has-shifted final groups p parts (InRow at column) h = h
has-shifted final groups p parts (InGroup at column) h = h

has-unshifted : (final : Bool) (groups : List Row) (p : Part) (parts : List Part) (place : Place) → HasPlace final groups (p ∷ parts) (shifted place) → HasPlace final groups parts place
has-unshifted final groups p parts Nowhere h = h
has-unshifted final groups p parts (InRow at column) h = h
has-unshifted final groups p parts (InGroup at column) h = h

module _ (wide : ℕ) (held : Held) (p : Part) (parts : List Part) where
  pub kept-beside : kept_row (held_beside wide held) (p ∷ parts) ≡ kept_row held parts ++ in_row wide p
  kept-beside =
      map-append (value_at held.groups (p ∷ parts)) (map shifted held.places) (map (InRow 0) (range_with_len 0 wide))
      ∙ ap (λ vs. vs ++ map (value_at held.groups (p ∷ parts)) (map (InRow 0) (range_with_len 0 wide))) (each held.places)
      ∙ ap (λ vs. kept_row held parts ++ vs) (map-map (value_at held.groups (p ∷ parts)) (InRow 0) (range_with_len 0 wide))
    where
      each : (ps : List Place) → map (value_at held.groups (p ∷ parts)) (map shifted ps) ≡ map (value_at held.groups parts) ps
      each [] = refl
      each (q ∷ ps) = ap (λ v. v ∷ map (value_at held.groups (p ∷ parts)) (map shifted ps)) (value-shifted held.groups p parts q) ∙ ap (λ vs. value_at held.groups parts q ∷ vs) (each ps)

  pub keep-beside : Keep held parts → IsWide wide p → Keep (held_beside wide held) (p ∷ parts)
  keep-beside keep is =
      All-append (HasPlace held.final held.groups (p ∷ parts)) (map shifted held.places) (map (InRow 0) (range_with_len 0 wide))
      (All-map (HasPlace held.final held.groups (p ∷ parts)) shifted held.places
      (All-weaker (HasPlace held.final held.groups parts) (λ q. HasPlace held.final held.groups (p ∷ parts) (shifted q)) (has-shifted held.final held.groups p parts) held.places keep))
      (row_places held.final held.groups wide p parts is)

pub beside_stays : (wide after : ℕ) (old new : Held) → after ≡ wide → KeepsHeld old new → KeepsHeld (held_beside wide old) (held_beside after new)
beside_stays wide after old new same k = record {
  parts = ap suc k.parts;
  places = ap (λ ps. map shifted ps ++ map (InRow 0) (range_with_len 0 after)) k.places ∙ ap (λ w. map shifted old.places ++ map (InRow 0) (range_with_len 0 w)) same;
  groups = k.groups;
}

-- as many places as columns
pub places-beside : (wide : ℕ) (held : Held) → length (held_beside wide held).places ≡ length held.places + wide
places-beside wide held =
    length-append (map shifted held.places) (map (InRow 0) (range_with_len 0 wide))
    ∙ ap (λ n. n + length (map (InRow 0) (range_with_len 0 wide))) (length-map held.places shifted)
    ∙ ap (λ n. length held.places + n) (length-map (range_with_len 0 wide) (InRow 0) ∙ length-range_with_len 0 wide)

pub places-row : (wide : ℕ) → length (held_in_row wide).places ≡ wide
places-row wide = length-map (range_with_len 0 wide) (InRow 0) ∙ length-range_with_len 0 wide

pub places-group : (wide : ℕ) (groups : List Row) (final : Bool) → length (held_in_group wide groups final).places ≡ wide
places-group wide groups final = length-map (range_with_len 0 wide) (InGroup 0) ∙ length-range_with_len 0 wide

-- ---- the place of a column

has_within : (final : Bool) (groups : List Row) (parts : List Part) (places : List Place) (at : ℕ) → HasPlace final groups parts (get_or places at Nowhere) → at < length places
has_within final groups parts [] zero h = absurd h
has_within final groups parts [] (suc at) h = absurd h
has_within final groups parts (p ∷ places) zero h = omega arith
has_within final groups parts (p ∷ places) (suc at) h = omega (arith, has_within final groups parts places at h)

-- no parts keep NULLs
pub value-none : (groups : List Row) (place : Place) → value_at groups [] place ≡ Null
value-none groups Nowhere = refl
value-none groups (InRow zero column) = refl
value-none groups (InRow (suc at) column) = refl
value-none groups (InGroup zero column) = refl
value-none groups (InGroup (suc at) column) = refl

pub record InOneRow (groups : List Row) (parts : List Part) (wide at : ℕ) (place : Place) : Type 0 where
  pub within : at < wide
  pub has : HasColumn (get_or parts 0 part.Nulls) at
  pub value : value_at groups parts place ≡ value_in_row (get_or parts 0 part.Nulls) at

module _ (final : Bool) (groups : List Row) (parts : List Part) (wide at : ℕ) where
  pub row-place : HasPlace final groups parts (get_or (map (InRow 0) (range_with_len 0 wide)) at Nowhere)
      → InOneRow groups parts wide at (get_or (map (InRow 0) (range_with_len 0 wide)) at Nowhere)
  row-place has =
      let within : at < wide = omega (arith, has_within final groups parts (map (InRow 0) (range_with_len 0 wide)) at has, length-map (range_with_len 0 wide) (InRow 0), length-range_with_len 0 wide) in
      let place : get_or (map (InRow 0) (range_with_len 0 wide)) at Nowhere ≡ InRow 0 at = get_or-map-range_with_len (InRow 0) 0 wide at at Nowhere within (omega arith) in
      record { within = within; has = subst (HasPlace final groups parts) place has; value = ap (value_at groups parts) place }

pub record InOneGroup (final : Bool) (groups : List Row) (parts : List Part) (wide at : ℕ) (place : Place) : Type 0 where
  pub within : at < wide
  pub has : IsGroupOf final groups (get_or parts 0 part.Nulls)
  pub value : value_at groups parts place ≡ value_in_group groups (get_or parts 0 part.Nulls) at

module _ (final : Bool) (groups : List Row) (parts : List Part) (wide at : ℕ) where
  pub group-place : HasPlace final groups parts (get_or (map (InGroup 0) (range_with_len 0 wide)) at Nowhere)
      → InOneGroup final groups parts wide at (get_or (map (InGroup 0) (range_with_len 0 wide)) at Nowhere)
  group-place has =
      let within : at < wide = omega (arith, has_within final groups parts (map (InGroup 0) (range_with_len 0 wide)) at has, length-map (range_with_len 0 wide) (InGroup 0), length-range_with_len 0 wide) in
      let place : get_or (map (InGroup 0) (range_with_len 0 wide)) at Nowhere ≡ InGroup 0 at = get_or-map-range_with_len (InGroup 0) 0 wide at at Nowhere within (omega arith) in
      record { within = within; has = subst (HasPlace final groups parts) place has; value = ap (value_at groups parts) place }

-- the place of a chosen column
module _ (columns : List ℕ) (held : Held) (at column : ℕ) (within : at < length columns) (is : get_or columns at 0 ≡ column) where
  pub picked-place : place_of (held_picked columns held) at ≡ place_of held column
  picked-place = get_or-map (place_of held) columns at 0 Nowhere within ∙ ap (place_of held) is

  pub picked-has : (parts : List Part) → HasValue (held_picked columns held) parts at → HasValue held parts column
  picked-has parts has = subst (HasPlace held.final held.groups parts) picked-place has

module _ (columns : List ℕ) (held : Held) (parts : List Part) (at : ℕ) where
  pub picked-within : HasValue (held_picked columns held) parts at → at < length columns
  picked-within has = omega (arith, has_within held.final held.groups parts (map (place_of held) columns) at has, length-map columns (place_of held))

-- a column of a row behind another, or of that one
value-behind : (groups : List Row) (parts : List Part) (place : Place) → value_at groups parts (shifted place) ≡ value_at groups (drop 1 parts) place
value-behind groups [] place = value-none groups (shifted place) ∙ sym (value-none groups place)
value-behind groups (p ∷ parts) place = value-shifted groups p parts place

has-behind : (final : Bool) (groups : List Row) (parts : List Part) (place : Place) → HasPlace final groups parts (shifted place) → HasPlace final groups (drop 1 parts) place
has-behind final groups [] Nowhere h = h
has-behind final groups [] (InRow zero column) h = tt
has-behind final groups [] (InRow (suc at) column) h = tt
has-behind final groups [] (InGroup zero column) h = tt
has-behind final groups [] (InGroup (suc at) column) h = tt
has-behind final groups (p ∷ parts) place h = has-unshifted final groups p parts place h

module _ (wide : ℕ) (held : Held) (parts : List Part) (at : ℕ) (has : HasValue (held_beside wide held) parts at) where
  abbrev last : List Place
  last = map (InRow 0) (range_with_len 0 wide)

  module _ (within : at < length held.places) where
    first_place : place_of (held_beside wide held) at ≡ shifted (place_of held at)
    first_place =
        get_or_append_left (map shifted held.places) last Nowhere at (omega (arith, within, length-map held.places shifted))
        ∙ get_or-map shifted held.places at Nowhere Nowhere within

    pub first-has : HasValue held (drop 1 parts) at
    first-has = has-behind held.final held.groups parts (place_of held at) (subst (HasPlace held.final held.groups parts) first_place has)

    pub first-value : value_at held.groups parts (place_of (held_beside wide held) at) ≡ value_at held.groups (drop 1 parts) (place_of held at)
    first-value = ap (value_at held.groups parts) first_place ∙ value-behind held.groups parts (place_of held at)

  module _ (past : length held.places ≤ at) where
    abbrev behind : ℕ
    behind = at - length held.places

    last_place : place_of (held_beside wide held) at ≡ get_or last behind Nowhere
    last_place = get_or-append_right (map shifted held.places) last (length held.places) at Nowhere (length-map held.places shifted) past

    pub last-in : InOneRow held.groups parts wide behind (place_of (held_beside wide held) at)
    last-in =
        let i = row-place held.final held.groups parts wide behind (subst (HasPlace held.final held.groups parts) last_place has) in
        record { within = i.within; has = i.has; value = ap (value_at held.groups parts) last_place ∙ i.value }

-- ---- what is put at the end

pub puts_one : (held : Held) (row : Row) (p : Part) (old new : List Part) → KeepsRow held row p → new ≡ old ++ p ∷ [] → PutsRow held row old new
puts_one held row p old new k is = record { parts = p ∷ []; put = is; count = sym k.one; keep = k.keep; row_is = k.row_is; some = omega (arith, k.one) }

pub puts_none : (old new : List Part) → new ≡ old → PutsSome old new
puts_none old new is = record { parts = []; put = is ∙ sym (append-nil old) }

-- behind a part that was put
pub puts_behind : (p : Part) (old first new : List Part) → first ≡ old ++ p ∷ [] → PutsSome first new → PutsSome old new
puts_behind p old first new is more =
    record { parts = p ∷ more.parts; put = more.put ∙ ap (λ ps. ps ++ more.parts) is ∙ append_assoc old (p ∷ []) more.parts }

pub puts_beside : (wide : ℕ) (held : Held) (row : Row) (p : Part) (old first new : List Part) → IsWide wide p → first ≡ old ++ p ∷ [] → PutsRow held row first new
    → PutsRow (held_beside wide held) (row ++ in_row wide p) old new
puts_beside wide held row p old first new is put more = record {
  parts = p ∷ more.parts;
  put = more.put ∙ ap (λ ps. ps ++ more.parts) put ∙ append_assoc old (p ∷ []) more.parts;
  count = ap suc more.count;
  keep = keep-beside wide held p more.parts more.keep is;
  row_is = kept-beside wide held p more.parts ∙ ap (λ r. r ++ in_row wide p) more.row_is;
  some = omega arith;
}

pub puts_picked : (columns : List ℕ) (held : Held) (row : Row) (old new : List Part) → AllBelow columns (length row) → PutsRow held row old new
    → PutsRow (held_picked columns held) (pick columns row) old new
puts_picked columns held row old new below more = record {
  parts = more.parts;
  put = more.put;
  count = more.count;
  keep = keep-picked columns held more.parts more.keep (subst (AllBelow columns) (sym (ap length more.row_is) ∙ kept-length held more.parts) below);
  row_is = kept-picked columns held more.parts ∙ ap (pick columns) more.row_is;
  some = more.some;
}

-- a row of a table, or NULLs
pub row_keeps : (wide : ℕ) (row : Bor Row) → length row.now ≡ wide → KeepsRow (held_in_row wide) row.now (part.Row row)
row_keeps wide row is = record { one = refl; keep = keep-row wide (part.Row row) is; row_is = kept-row wide (part.Row row) is ∙ in_row-row wide row is }

pub nulls_keep : (wide : ℕ) (row : Row) → length row ≡ wide → ((k : ℕ) → k < wide → cell row k ≡ Null) → KeepsRow (held_in_row wide) row part.Nulls
nulls_keep wide row is null = record { one = refl; keep = keep-row wide part.Nulls tt; row_is = kept-row wide part.Nulls tt ∙ in_row-nulls wide row is null }

-- a group
module _ (wide : ℕ) (groups : List Row) (final : Bool) where
  pub group_keeps : (group : ℕ) → final ≡ true → group < length groups → length (get_or groups group []) ≡ wide
      → KeepsRow (held_in_group wide groups final) (get_or groups group []) (part.Group group)
  group_keeps group shut within is = record { one = refl; keep = keep-group wide groups final (part.Group group) (shut, within); row_is = kept-group wide groups final group is }

  pub no_group_keeps : (row : Row) → length row ≡ wide → ((k : ℕ) → k < wide → cell row k ≡ Null) → KeepsRow (held_in_group wide groups final) row part.Nulls
  no_group_keeps row is null = record { one = refl; keep = keep-group wide groups final part.Nulls tt; row_is = kept-no_group wide groups final row is null }

pub null_cells : (wide k : ℕ) → cell (replicate wide Null) k ≡ Null
null_cells zero zero = refl
null_cells zero (suc k) = refl
null_cells (suc wide) zero = refl
null_cells (suc wide) (suc k) = null_cells wide k

-- NULLs, or a right row
pub right_wide : (wide : ℕ) (row : Option (Bor Row)) → IfSome row (λ r. length r.now ≡ wide) → IsWide wide (part_of row)
right_wide wide None is = tt
right_wide wide (Some row) is = is

pub right_kept : (wide : ℕ) (row : Option (Bor Row)) → IfSome row (λ r. length r.now ≡ wide) → in_row wide (part_of row) ≡ right_row wide row
right_kept wide None is = in_row-nulls wide (replicate wide Null) (length-replicate wide Null) (λ k l. null_cells wide k)
right_kept wide (Some row) is = in_row-row wide row is

pub beside_width : (l : Row) (wide : ℕ) (r : Option (Bor Row)) → IfSome r (λ row. length row.now ≡ wide) → length (l ++ right_row wide r) ≡ length l + wide
beside_width l wide None is = length-append l (replicate wide Null) ∙ ap (λ n. length l + n) (length-replicate wide Null)
beside_width l wide (Some row) is = length-append l row.now ∙ ap (λ n. length l + n) is
