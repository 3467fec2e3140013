-- how an iterator's rows are kept without a copy: each by some parts, which are rows of tables and numbers of groups
use Rattle.std.specs.Prelude.{◌≡◌, ℕ, suc, ◌<◌, ◌≤◌, Bool, true, List, [], ◌∷◌, ◌++◌, length, map, get_or, Option, None, Some, All}
use Rattle.std.specs.Borrow.{Bor}
use Rattle.std.specs.List.{range_with_len}
use Rattle.pm_values.specs.declared.value.Value.{Value}
use Rattle.pm_values.specs.declared.value.Value.TheVariants.{Null}
use Rattle.pm_values.specs.Row.{Row, cell}
use Rattle.pm_flows.specs.declared.part.Part.{Part}
use Rattle.pm_flows.specs.declared.part.Part.TheVariants as part

-- where the value of a column is: in a part that is a row of a table, or a group, and in which column there
pub data Place : Type 0 where
  Nowhere : Place
  InRow : (at column : ℕ) → Place
  InGroup : (at column : ℕ) → Place

-- how many parts keep a row; the place of each column; the groups so far, and whether no more rows go into them
pub record Held : Type 0 where
  pub parts : ℕ
  pub places : List Place
  pub groups : List Row
  pub final : Bool

-- ---- the row that parts keep

abbrev pub value_in_row : Part → ℕ → Value
value_in_row (part.Row row) column = cell row.now column
value_in_row part.Nulls column = Null
value_in_row (part.Group group) column = Null

abbrev pub value_in_group : List Row → Part → ℕ → Value
value_in_group groups (part.Row row) column = Null
value_in_group groups part.Nulls column = Null
value_in_group groups (part.Group group) column = cell (get_or groups group []) column

abbrev pub value_at : List Row → List Part → Place → Value
value_at groups parts Nowhere = Null
value_at groups parts (InRow at column) = value_in_row (get_or parts at part.Nulls) column
value_at groups parts (InGroup at column) = value_in_group groups (get_or parts at part.Nulls) column

abbrev pub kept_row : Held → List Part → Row
kept_row held parts = map (value_at held.groups parts) held.places

-- ---- parts that keep one

abbrev pub HasColumn : Part → ℕ → Type 0
HasColumn (part.Row row) column = column < length row.now
HasColumn part.Nulls column = Unit {0}
HasColumn (part.Group group) column = ⊥

abbrev pub IsGroupOf : Bool → List Row → Part → Type 0
IsGroupOf final groups (part.Row row) = ⊥
IsGroupOf final groups part.Nulls = Unit {0}
IsGroupOf final groups (part.Group group) = (final ≡ true) × (group < length groups)

abbrev pub HasPlace : Bool → List Row → List Part → Place → Type 0
HasPlace final groups parts Nowhere = ⊥
HasPlace final groups parts (InRow at column) = HasColumn (get_or parts at part.Nulls) column
HasPlace final groups parts (InGroup at column) = IsGroupOf final groups (get_or parts at part.Nulls)

abbrev pub Keep : Held → List Part → Type 0
Keep held parts = All (HasPlace held.final held.groups parts) held.places

-- the place of a column
abbrev pub place_of : Held → ℕ → Place
place_of held column = get_or held.places column Nowhere

-- the parts have it
abbrev pub HasValue : Held → List Part → ℕ → Type 0
HasValue held parts column = HasPlace held.final held.groups parts (place_of held column)

-- ---- each kind's way of keeping

-- one part, a row of a table of so many columns
abbrev pub held_in_row : ℕ → Held
held_in_row wide = record { parts = 1; places = map (InRow 0) (range_with_len 0 wide); groups = []; final = true }

-- one part, the number of one of these groups
abbrev pub held_in_group : ℕ → List Row → Bool → Held
held_in_group wide groups final = record { parts = 1; places = map (InGroup 0) (range_with_len 0 wide); groups = groups; final = final }

-- chosen columns
abbrev pub held_picked : List ℕ → Held → Held
held_picked columns held = record { parts = held.parts; places = map (place_of held) columns; groups = held.groups; final = held.final }

-- one part further on
abbrev pub shifted : Place → Place
shifted Nowhere = Nowhere
shifted (InRow at column) = InRow (suc at) column
shifted (InGroup at column) = InGroup (suc at) column

-- behind a part that is a row of so many columns, which come last
abbrev pub held_beside : ℕ → Held → Held
held_beside wide held =
    record { parts = suc held.parts; places = map shifted held.places ++ map (InRow 0) (range_with_len 0 wide); groups = held.groups; final = held.final }

-- ---- what a step leaves

-- the places stay, and the groups too once no more rows go into them
pub record KeepsHeld (old new : Held) : Type 0 where
  pub parts : new.parts ≡ old.parts
  pub places : new.places ≡ old.places
  pub groups : old.final ≡ true → (new.final ≡ true) × (new.groups ≡ old.groups)

-- one part keeps this row
pub record KeepsRow (held : Held) (row : Row) (p : Part) : Type 0 where
  pub one : held.parts ≡ 1
  pub keep : Keep held (p ∷ [])
  pub row_is : kept_row held (p ∷ []) ≡ row

-- parts that keep this row were put at the end
pub record PutsRow (held : Held) (row : Row) (old new : List Part) : Type 0 where
  pub parts : List Part
  pub put : new ≡ old ++ parts
  pub count : length parts ≡ held.parts
  pub keep : Keep held parts
  pub row_is : kept_row held parts ≡ row
  pub some : 1 ≤ held.parts

-- some of them may be
pub record PutsSome (old new : List Part) : Type 0 where
  pub parts : List Part
  pub put : new ≡ old ++ parts

-- a row, or NULLs
abbrev pub part_of : Option (Bor Row) → Part
part_of None = part.Nulls
part_of (Some row) = part.Row row
