-- the records of a file, as one list of fields and the position where each record ends
use Rattle.std.specs.Prelude.{◌-◌, ℕ, List, [], ◌∷◌, take, drop}

-- the records that end at these positions of a list of fields, behind a start
unfoldable pub cut : ℕ → List ℕ → List (List ℕ) → List (List (List ℕ))
cut start [] fields = []
cut start (end ∷ ends) fields = take (end - start) (drop start fields) ∷ cut end ends fields
