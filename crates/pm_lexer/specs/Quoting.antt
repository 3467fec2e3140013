-- How a name and a text are written: a name is plain where it may be, and else between quotes, with each quote doubled.
use Rattle.std.specs.Prelude.{ℕ, Bool, false, not, ◌==◌, ◌&&◌, List, [], ◌∷◌, ◌++◌, if◌then◌else◌, is_some}
use Rattle.std.specs.List.{list_all}
use Rattle.pm_lexer.specs.Byte.{is_letter, is_word}
use Rattle.pm_lexer.specs.Symbol.{reserved_word}

-- each quote doubled, and the whole between quotes
unfoldable pub doubled : ℕ → List ℕ → List ℕ
doubled quote [] = []
doubled quote (b ∷ rest) = if b == quote then b ∷ b ∷ doubled quote rest else b ∷ doubled quote rest

abbrev pub quoted : ℕ → List ℕ → List ℕ
quoted quote bytes = quote ∷ (doubled quote bytes ++ quote ∷ [])

-- a name that needs no quotes
abbrev pub is_plain : List ℕ → Bool
is_plain [] = false
is_plain (b ∷ rest) = is_letter b && list_all is_word rest && not (is_some (reserved_word (b ∷ rest)))

unfoldable pub canon_name : List ℕ → List ℕ
canon_name name = if is_plain name then name else quoted 34 name
