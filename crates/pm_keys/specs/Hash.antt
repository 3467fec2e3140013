-- the number of 64 bits by which keys are looked up
use Rattle.std.specs.Prelude.{ℕ, List, [], ◌∷◌, fold}
use Rattle.std.specs.Hash as fed
use Rattle.std.specs.Hash.FoldHasher as folding
use Rattle.std.specs.declared.hash.FoldHasher.{FoldHasher}
use Rattle.pm_values.specs.declared.value.Value.{Value}
use Rattle.pm_values.specs.declared.value.Value.TheVariants as value
use Rattle.pm_values.specs.Row.{Row}

-- the bytes that a value feeds the hasher
abbrev pub fed_by : Value → List (List ℕ)
fed_by value.Null = fed.u8 0
fed_by (value.Int n) = fed.i128 n
fed_by (value.Text t) = t ∷ []

abbrev pub after_value : FoldHasher → Value → FoldHasher
after_value hasher v = fold folding.write hasher (fed_by v)

unfoldable pub hash_of : Row → ℕ
hash_of key = folding.finish (fold after_value folding.initial key)
