-- when values and lists of values are equal: for grouping, where NULLs are one value, and as a key, where NULL equals nothing
use Rattle.std.specs.Prelude.{Bool, true, false, not, ◌&&◌, List, [], ◌∷◌}
use Rattle.std.specs.declared.cmp.Ordering.{Ordering}
use Rattle.std.specs.declared.cmp.Ordering.TheVariants as ordering
use Rattle.pm_values.specs.declared.value.Value.{Value}
use Rattle.pm_values.specs.declared.value.Value.TheVariants as value
use Rattle.pm_values.specs.Order.{value_cmp, values_cmp}

abbrev pub is_equal : Ordering → Bool
is_equal ordering.Less = false
is_equal ordering.Equal = true
is_equal ordering.Greater = false

abbrev pub is_null : Value → Bool
is_null value.Null = true
is_null (value.Int n) = false
is_null (value.Text t) = false

-- NULLs count as one value
abbrev pub same_values : List Value → List Value → Bool
same_values a b = is_equal (values_cmp a b)

-- neither is NULL, and they are equal
abbrev pub same_key_value : Value → Value → Bool
same_key_value a b = not (is_null a) && is_equal (value_cmp a b)

-- both lists have the same length and hold no NULL, and they are equal
abbrev pub same_key : List Value → List Value → Bool
same_key [] [] = true
same_key [] (b ∷ rest_b) = false
same_key (a ∷ rest_a) [] = false
same_key (a ∷ rest_a) (b ∷ rest_b) = same_key_value a b && same_key rest_a rest_b
