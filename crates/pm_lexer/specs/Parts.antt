-- A text as tokens and gaps in turn: what the tokens of a text are, said without the walk that finds them.
use Rattle.std.specs.Prelude.{◌≡◌, ◌≤◌, ◌⊎◌, ℕ, ◌+◌, ◌&&◌, Bool, true, false, List, [], ◌∷◌, ◌++◌, length, codes, nat_eq, is_some}
use Rattle.std.specs.List.{list_all, starts_with}
use Rattle.std.specs.Char.{is_ascii_digit}
use Rattle.pm_lexer.specs.declared.token.Token.{Token}
use Rattle.pm_lexer.specs.declared.token.TokenKind.{TokenKind}
use Rattle.pm_lexer.specs.declared.token.TokenKind.TheVariants as kind
use Rattle.pm_lexer.specs.Byte.{is_blank, is_letter, is_word, is_inline}
use Rattle.pm_lexer.specs.Symbol.{reserved_word, sign_of}
use Rattle.pm_lexer.specs.Quoting.{quoted}
use Rattle.pm_lexer.specs.Tokens.{end_token}

-- a letter or `_`, and then letters, digits and `_`
abbrev pub is_name : List ℕ → Bool
is_name [] = false
is_name (b ∷ rest) = is_letter b && list_all is_word rest

-- one or more digits
abbrev pub is_digits : List ℕ → Bool
is_digits [] = false
is_digits (b ∷ rest) = is_ascii_digit b && list_all is_ascii_digit rest

-- digits, and then perhaps a point and digits
abbrev pub IsNumber : List ℕ → Type 0
IsNumber bytes = (is_digits bytes ≡ true) ⊎ ((whole : List ℕ) × (decimals : List ℕ) × (bytes ≡ whole ++ 46 ∷ decimals) × (is_digits whole ≡ true) × (is_digits decimals ≡ true))

-- two quotes, with each quote between them doubled
abbrev pub IsQuoted : ℕ → List ℕ → Type 0
IsQuoted quote bytes = (content : List ℕ) × (bytes ≡ quoted quote content)

-- the form of a token of this kind, whatever its length
abbrev pub HasForm : TokenKind → List ℕ → Type 0
HasForm kind.Name bytes = (is_name bytes ≡ true) × (is_some (reserved_word bytes) ≡ false)
HasForm kind.Reserved bytes = (is_name bytes ≡ true) × (is_some (reserved_word bytes) ≡ true)
HasForm kind.Quoted bytes = IsQuoted 34 bytes
HasForm kind.Number bytes = IsNumber bytes
HasForm kind.Text bytes = IsQuoted 39 bytes
HasForm kind.Sign bytes = is_some (sign_of bytes) ≡ true
HasForm kind.End bytes = ⊥

-- these bytes are the longest at the head of the text that have the form of a token, and no comment begins there
pub record IsLongest (k : TokenKind) (slice text : List ℕ) : Type 0 where
  pub form : HasForm k slice
  pub longest : (other : TokenKind) (bytes after : List ℕ) → text ≡ bytes ++ after → HasForm other bytes → length bytes ≤ length slice
  pub no_comment : starts_with nat_eq text (codes "--") ≡ false

-- the text ends, or a line does
abbrev pub EndsLine : List ℕ → Type 0
EndsLine [] = Unit {0}
EndsLine (b ∷ rest) = b ≡ 10

-- a comment up to the end of its line, before these bytes
pub record IsComment (bytes after : List ℕ) : Type 0 where
  pub dashes : starts_with nat_eq bytes (codes "--") ≡ true
  pub one_line : list_all is_inline bytes ≡ true
  pub ends : EndsLine after

-- a blank, or a comment
abbrev pub IsGap : List ℕ → List ℕ → Type 0
IsGap bytes after = ((b : ℕ) × (bytes ≡ b ∷ []) × (is_blank b ≡ true)) ⊎ IsComment bytes after

pub data Part : Type 0 where
  gap : List ℕ → Part
  piece : Token → Part

-- these parts in turn are the text from this place on
abbrev pub InTurn : ℕ → List Part → List ℕ → Type 0
InTurn at [] text = text ≡ []
InTurn at (gap bytes ∷ parts) text = (after : List ℕ) × (text ≡ bytes ++ after) × IsGap bytes after × InTurn (at + length bytes) parts after
InTurn at (piece token ∷ parts) text =
    (after : List ℕ) × (text ≡ token.slice ++ after) × (token.at ≡ at) × IsLongest token.kind token.slice text × InTurn (at + length token.slice) parts after

abbrev pub tokens_in : List Part → List Token
tokens_in [] = []
tokens_in (gap bytes ∷ parts) = tokens_in parts
tokens_in (piece token ∷ parts) = token ∷ tokens_in parts

-- the tokens, with the gaps between them, are the text from this place on
abbrev pub AreTokens : ℕ → List ℕ → List Token → Type 0
AreTokens at text tokens = (parts : List Part) × InTurn at parts text × (tokens ≡ tokens_in parts ++ end_token (at + length text) ∷ [])
