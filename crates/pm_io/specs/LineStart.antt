-- what is known of a line by its first bytes
use Rattle.std.specs.Prelude.{◌≡◌, ◌==◌, ◌&&◌, ℕ, Bool, true, false, List, [], ◌∷◌, ◌++◌, if◌then◌else◌}
use Rattle.pm_io.specs.declared.line_start.LineStart.{LineStart}
use Rattle.pm_io.specs.declared.line_start.LineStart.TheVariants.{Empty, Letter, Progress, Other}

-- a progress line begins with `P` and a blank
abbrev pub start_of : List ℕ → LineStart
start_of [] = Empty
start_of (first ∷ []) = (if first == 80 then Letter else Other)
start_of (first ∷ second ∷ rest) = (if first == 80 && second == 32 then Progress else Other)

-- the bytes before its line feed no longer change what is known of the line
abbrev pub is_known : LineStart → Bool
is_known Empty = false
is_known Letter = false
is_known Progress = true
is_known Other = true

-- the line after one more byte; after a line feed the next one begins
abbrev pub grown : List ℕ → ℕ → List ℕ
grown line byte = (if byte == 10 then [] else line ++ byte ∷ [])

-- the line after these bytes
abbrev pub line_after : List ℕ → List ℕ → List ℕ
line_after line [] = line
line_after line (byte ∷ bytes) = line_after (grown line byte) bytes

-- the last of these bytes ends a progress line
abbrev pub EndsProgress : List ℕ → List ℕ → Type 0
EndsProgress line bytes = (front : List ℕ) × (bytes ≡ front ++ 10 ∷ []) × (start_of (line_after line front) ≡ Progress)
