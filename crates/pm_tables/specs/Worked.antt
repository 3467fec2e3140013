-- worked values of fields
use Rattle.std.specs.Prelude.{[], negsuc, pos, Bool, true, false, codes}
use Rattle.pm_values.specs.declared.value.Value.TheVariants as value
use Rattle.pm_values.specs.declared.value.Kind.{Kind}
use Rattle.pm_values.specs.declared.value.Kind.TheVariants as kind
use Rattle.pm_values.specs.declared.table.ColumnDecl.{ColumnDecl}
use Rattle.pm_tables.specs.Field.{HasNoValue, HasValue}

abbrev pub column_of : Kind → Bool → ColumnDecl
column_of kind nullable = record { name = []; kind = kind; nullable = nullable }

-- in a column of two decimals -0.050 is -5 hundredths, and 12.505 has no value
abbrev pub InHundredths : Type 0
InHundredths = HasValue (column_of (kind.Num 2) true) (codes "-0.050") (value.Int (negsuc 4)) × HasNoValue (column_of (kind.Num 2) true) (codes "12.505")

-- 2^63 - 1 is the last whole number of a column, and an empty field is NULL, or none where the column is NOT NULL
abbrev pub InWholeNumbers : Type 0
InWholeNumbers = HasValue (column_of kind.Int true) (codes "9223372036854775807") (value.Int (pos 9223372036854775807))
    × HasNoValue (column_of kind.Int true) (codes "9223372036854775808")
    × HasValue (column_of kind.Int true) [] value.Null
    × HasNoValue (column_of kind.Int false) []
