-- records that are written without quotes
use Rattle.std.specs.Prelude.{◌≡◌, ◌<◌, ℕ, false, List, length, All}
use Rattle.csv.specs.Writing.{default_writer, needs_quotes}

-- no byte of the field calls for quotes
abbrev pub IsBare : List ℕ → Type 0
IsBare field = needs_quotes default_writer field ≡ false

-- a record of a first field that shows something, and the rest
pub record IsPlain (first : List ℕ) (rest : List (List ℕ)) : Type 0 where
  pub shows : 0 < length first
  pub first_bare : IsBare first
  pub rest_bare : All IsBare rest
