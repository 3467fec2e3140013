-- the value of a column that a field of a CSV record writes
use Rattle.std.specs.Prelude.{◌≡◌, ◌≢◌, ◌∷◌, ℕ, ◌+◌, ◌*◌, ◌^◌, ◌==◌, true, ℤ, List, [], ◌++◌, length, take, drop, position, Option, None, Some, FitsSigned, EachIndex, slice_index, pos, neg_ℤ, cond}
use Rattle.std.specs.Int.{w64}
use Rattle.std.specs.Str.Parse.{IsNumeral, digits_value, signed_digits_value, starts_with_minus, without_leading_sign}
use Rattle.pm_values.specs.declared.value.Value.{Value}
use Rattle.pm_values.specs.declared.value.Value.TheVariants as value
use Rattle.pm_values.specs.declared.value.Kind.{Kind}
use Rattle.pm_values.specs.declared.value.Kind.TheVariants as kind
use Rattle.pm_values.specs.declared.table.ColumnDecl.{ColumnDecl}

-- a sign or none, and one digit or more, for a number of 64 bits
abbrev pub WritesInt : List ℕ → ℤ → Type 0
WritesInt field n = IsNumeral 10 (without_leading_sign field) × FitsSigned w64 n × (n ≡ signed_digits_value 10 field)

-- each of the digits is a zero
abbrev pub AreZeros : List ℕ → Type 0
AreZeros digits = EachIndex digits (λ k. slice_index digits k ≡ 48)

-- m is the number times 10^scale that digits before and behind a point write
abbrev pub IsDecimal : ℕ → List ℕ → List ℕ → ℕ → Type 0
IsDecimal scale whole decimals m = IsNumeral 10 whole × IsNumeral 10 decimals
    × (m * 10 ^ length decimals ≡ digits_value 10 (whole ++ decimals) * 10 ^ scale)

-- m is the number times 10^scale that these digits write, with a point at this position or without one
abbrev pub IsScaled : ℕ → List ℕ → Option ℕ → ℕ → Type 0
IsScaled scale digits None m = IsNumeral 10 digits × (m ≡ digits_value 10 digits * 10 ^ scale)
IsScaled scale digits (Some point) m = IsDecimal scale (take point digits) (drop (point + 1) digits) m

abbrev pub point_of : List ℕ → Option ℕ
point_of digits = position (λ b. b == 46) digits

-- a magnitude with the sign that a field begins with
abbrev pub with_sign_of : List ℕ → ℕ → ℤ
with_sign_of field m = cond (starts_with_minus field) (neg_ℤ (pos m)) (pos m)

-- a sign or none, digits, and a point and digits or none, for a number of 64 bits times 10^-scale
abbrev pub WritesScaled : ℕ → List ℕ → ℤ → Type 0
WritesScaled scale field n = let digits = without_leading_sign field in
    (m : ℕ) × IsScaled scale digits (point_of digits) m × (n ≡ with_sign_of field m) × FitsSigned w64 n

-- a field that is not empty writes this value of the kind
abbrev pub Writes : Kind → List ℕ → Value → Type 0
Writes kind.Int field (value.Int n) = WritesInt field n
Writes (kind.Num scale) field (value.Int n) = WritesScaled scale field n
Writes kind.Text field (value.Text t) = t ≡ field
Writes kind.Int field value.Null = ⊥
Writes (kind.Num scale) field value.Null = ⊥
Writes kind.Text field value.Null = ⊥
Writes kind.Int field (value.Text t) = ⊥
Writes (kind.Num scale) field (value.Text t) = ⊥
Writes kind.Text field (value.Int n) = ⊥

-- an empty field is NULL in a nullable column, and else the empty text in a TEXT column
abbrev pub IsEmptyValue : ColumnDecl → Value → Type 0
IsEmptyValue column value.Null = column.nullable ≡ true
IsEmptyValue column (value.Text t) = (column.nullable ≢ true) × (column.kind ≡ kind.Text) × (t ≡ [])
IsEmptyValue column (value.Int n) = ⊥

-- the field has this value in the column
abbrev pub HasValue : ColumnDecl → List ℕ → Value → Type 0
HasValue column [] v = IsEmptyValue column v
HasValue column (b ∷ field) v = Writes column.kind (b ∷ field) v

-- the field has no value in the column
abbrev pub HasNoValue : ColumnDecl → List ℕ → Type 0
HasNoValue column field = (v : Value) → HasValue column field v → ⊥
