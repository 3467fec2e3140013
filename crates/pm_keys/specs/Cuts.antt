-- keys of one width in one list of values
use Rattle.std.specs.Prelude.{ℕ, zero, suc, List, [], ◌∷◌, take, drop}
use Rattle.pm_values.specs.declared.value.Value.{Value}
use Rattle.pm_values.specs.Row.{Row}

-- so many keys of this width, which stand one after the other
abbrev pub cut : ℕ → ℕ → List Value → List Row
cut width zero values = []
cut width (suc count) values = take width values ∷ cut width count (drop width values)
