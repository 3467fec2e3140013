-- The classes of bytes that tokens are made of.
use Rattle.std.specs.Prelude.{ℕ, Bool, ◌==◌, ◌||◌, not}
use Rattle.std.specs.Char.{is_ascii_alphabetic, is_ascii_digit}

-- space, tab, CR or LF
abbrev pub is_blank : ℕ → Bool
is_blank b = b == 32 || b == 9 || b == 13 || b == 10

-- a byte that begins a name
abbrev pub is_letter : ℕ → Bool
is_letter b = is_ascii_alphabetic b || b == 95

-- a byte that goes on in a name
abbrev pub is_word : ℕ → Bool
is_word b = is_letter b || is_ascii_digit b

-- a byte of the same line
abbrev pub is_inline : ℕ → Bool
is_inline b = not (b == 10)
