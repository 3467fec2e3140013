use Rattle.std.proofs.Common.{rules, arith, codes, true, false, [], refl}
use Rattle.std.proofs.lemmas.Int.{ints}
use Rattle.pm_values.specs.declared.value.Value.TheVariants as value
use Rattle.pm_values.specs.declared.value.Kind.TheVariants as kind
use Rattle.pm_tables.specs.Field.{HasNoValue}
use Rattle.pm_tables.specs.Worked.{column_of}
use Rattle.pm_tables.proofs.worked.worked_fields.Goals as goal

no_hundredths : HasNoValue (column_of (kind.Num 2) true) (codes "12.505")
no_hundredths value.Null h = h
no_hundredths (value.Int n) h = let k = h.1.2 in omega (arith, k)
no_hundredths (value.Text t) h = h

past_most : HasNoValue (column_of kind.Int true) (codes "9223372036854775808")
past_most value.Null h = h
past_most (value.Int n) h = let fits = rw h.2 at h.1 in omega (arith, ints, fits)
past_most (value.Text t) h = h

no_null : HasNoValue (column_of kind.Int false) []
no_null value.Null h = cc h
no_null (value.Int n) h = h
no_null (value.Text t) h = let k = h.1 in cc k

pub returns-clause-hundredths : goal.returns-clause-hundredths
returns-clause-hundredths c = ((5, search rules, refl, search rules), no_hundredths)

pub returns-clause-whole : goal.returns-clause-whole
returns-clause-whole c = (search rules, past_most, refl, no_null)
