use Rattle.std.specs.Prelude.{◌≡◌, ℕ, List, ◌++◌, Option, Some, None}

-- what was written before and then these bytes, where it is told
abbrev pub gained : Option (List ℕ) → List ℕ → Option (List ℕ)
gained (Some written) bytes = Some (written ++ bytes)
gained None bytes = None

-- a first part of the piece was written, perhaps nothing of it or all
abbrev pub GainsPart : Option (List ℕ) → Option (List ℕ) → List ℕ → Type 0
GainsPart old new piece = (front : List ℕ) × (back : List ℕ) × (piece ≡ front ++ back) × (new ≡ gained old front)
