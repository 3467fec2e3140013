-- the value of a field, from what its text writes
use Rattle.std.proofs.Common.{◌≡◌, ◌≢◌, ◌<◌, ◌^◌, ℕ, ℤ, List, [], ◌∷◌, Option, Some, None, MatchOption, true, false, arith, refl}
use Rattle.std.proofs.lemmas.Int.{ints}
use Rattle.std.specs.Prelude.{FitsSigned}
use Rattle.std.specs.Int.{w64}
use Rattle.std.specs.Str.Parse.{starts_with_minus}
use Rattle.pm_values.specs.declared.value.Value.{Value}
use Rattle.pm_values.specs.declared.value.Value.TheVariants as value
use Rattle.pm_values.specs.declared.value.Kind.{Kind}
use Rattle.pm_values.specs.declared.value.Kind.TheVariants as kind
use Rattle.pm_values.specs.declared.table.ColumnDecl.{ColumnDecl}
use Rattle.pm_tables.specs.Field.{HasValue, HasNoValue, IsEmptyValue, Writes, WritesScaled, with_sign_of}

pub unsigned_fits : (field : List ℕ) (m : ℕ) (n : ℤ) → starts_with_minus field ≡ false → n ≡ with_sign_of field m → FitsSigned w64 n → m < 2 ^ 63
unsigned_fits field m n plain is fits = let k = rw (is, plain) at fits in omega (arith, ints, k)

none_empty : (column : ColumnDecl) (scale : ℕ) → column.kind ≡ kind.Num scale → (column.nullable ≡ true → ⊥) → (v : Value) → IsEmptyValue column v → ⊥
none_empty column scale is not_null value.Null h = not_null h
none_empty column scale is not_null (value.Int n) h = h
none_empty column scale is not_null (value.Text t) h = let k = h.1 in cc

writes_none : (k : Kind) (scale : ℕ) (field : List ℕ) → k ≡ kind.Num scale → ((n : ℤ) → WritesScaled scale field n → ⊥) → (v : Value) → Writes k field v → ⊥
writes_none k scale field is none value.Null h = rw is at h
writes_none k scale field is none (value.Int n) h = none n (rw is at h)
writes_none k scale field is none (value.Text t) h = rw is at h

-- what a field that is no NULL has as its value in a NUM column
pub scaled_value : (column : ColumnDecl) (field : List ℕ) (scale : ℕ) (r : Option Value) → column.kind ≡ kind.Num scale
    → (column.nullable ≡ true → field ≢ [])
    → MatchOption r ((n : ℤ) → WritesScaled scale field n → ⊥) (λ v. (n : ℤ) × WritesScaled scale field n × (v ≡ value.Int n))
    → MatchOption r (HasNoValue column field) (λ v. HasValue column field v)
scaled_value column [] scale None is some read = none_empty column scale is (λ h. some h refl)
scaled_value column [] scale (Some v) is some read = absurd (omega (arith, read.1.1.0.0))
scaled_value column (b ∷ field) scale None is some read = writes_none column.kind scale (b ∷ field) is read
scaled_value column (b ∷ field) scale (Some v) is some read = rw (is, read.2) read.1
