-- What stands at the head of a text: the longest token there, or a blank or a comment, or why there is none.
use Rattle.std.specs.Prelude.{◌≡◌, ◌<◌, ◌≤◌, ℕ, ◌==◌, ◌&&◌, ◌||◌, ◌+◌, nat_lt, nat_le, List, [], ◌∷◌, Option, Some, None, Result, Ok, Err, if◌then◌else◌, length, take, codes, is_some, nat_eq, position}
use Rattle.std.specs.List.{prefix_len, starts_with}
use Rattle.std.specs.Str.{IsCharBoundary}
use Rattle.std.specs.Char.{is_ascii_digit, is_ascii_control}
use Rattle.pm_lexer.specs.declared.token.TokenKind.TheVariants as kind
use Rattle.pm_lexer.specs.declared.fault.LexBad.{LexBad}
use Rattle.pm_lexer.specs.declared.fault.LexBad.TheVariants as bad
use Rattle.pm_lexer.specs.declared.head.Head.{Head}
use Rattle.pm_lexer.specs.declared.head.Head.TheVariants as head
use Rattle.pm_lexer.specs.Byte.{is_blank, is_letter, is_word, is_inline}
use Rattle.pm_lexer.specs.Pieces.{whole_len, decimals_len, number_len, quotation, single_quotes}
use Rattle.pm_lexer.specs.Symbol.{reserved_word, sign_of}
use Rattle.pm_lexer.specs.declared.symbol.TheConstants.{NUMBER_BYTES}
use Rattle.pm_lexer.specs.declared.head.TheConstants.{NAME_BYTES, DIGITS, DECIMALS}

-- a plain name of at most 64 bytes, or a reserved word
unfoldable pub name_at : ℕ → List ℕ → Result Head LexBad
name_at at text =
    let n = prefix_len is_word text in
    if nat_lt NAME_BYTES n then Err (bad.LongName at)
    else Ok (head.Piece (if is_some (reserved_word (take n text)) then kind.Reserved else kind.Name) n)

-- a number of at most 30 digits, at most 6 of them after the point
unfoldable pub number_at : ℕ → List ℕ → Result Head LexBad
number_at at text =
    if nat_lt DIGITS (whole_len text + decimals_len text) || nat_lt DECIMALS (decimals_len text) then Err (bad.LongNumber at)
    else Ok (head.Piece kind.Number (number_len text))

-- the head of a quoted name with these bytes between its quotes, and with this first control character
abbrev pub plain_at : ℕ → ℕ → Option ℕ → Result Head LexBad
plain_at at n None = Ok (head.Piece kind.Quoted (n + 2))
plain_at at n (Some i) = Err (bad.BadChar (at + 1 + i))

-- a quoted name by what stands between its quotes: it is not empty, not too long, and has no control character
unfoldable pub named_at : ℕ → List ℕ → Result Head LexBad
named_at at name =
    if length name == 0 then Err (bad.BadChar at)
    else (if nat_lt NAME_BYTES (length (single_quotes 34 name)) then Err (bad.LongName at)
    else plain_at at (length name) (position is_ascii_control name))

-- a quoted name, by the text after its first quote and the place of its last one there
abbrev pub closed_name_at : ℕ → List ℕ → Option ℕ → Result Head LexBad
closed_name_at at rest None = Err (bad.OpenText at)
closed_name_at at rest (Some n) = named_at at (take n rest)

abbrev pub quoted_at : ℕ → List ℕ → Result Head LexBad
quoted_at at rest = closed_name_at at rest (quotation 34 rest)

-- a text, by the place of its last quote after its first one
abbrev pub closed_text_at : ℕ → Option ℕ → Result Head LexBad
closed_text_at at None = Err (bad.OpenText at)
closed_text_at at (Some n) = Ok (head.Piece kind.Text (n + 2))

abbrev pub text_at : ℕ → List ℕ → Result Head LexBad
text_at at rest = closed_text_at at (quotation 39 rest)

-- a sign of two bytes, else one of one
unfoldable pub sign_at : ℕ → List ℕ → Result Head LexBad
sign_at at text =
    if nat_le 2 (length text) && is_some (sign_of (take 2 text)) then Ok (head.Piece kind.Sign 2)
    else (if is_some (sign_of (take 1 text)) then Ok (head.Piece kind.Sign 1) else Err (bad.BadChar at))

-- what stands at the head of a text whose first byte is at this place
unfoldable pub head_of : ℕ → List ℕ → Result Head LexBad
head_of at [] = Err (bad.BadChar at)
head_of at (b ∷ rest) =
    if is_blank b then Ok (head.Gap 1)
    else (if starts_with nat_eq (b ∷ rest) (codes "--") then Ok (head.Gap (prefix_len is_inline (b ∷ rest)))
    else (if is_letter b then name_at at (b ∷ rest)
    else (if is_ascii_digit b then number_at at (b ∷ rest)
    else (if b == 34 then quoted_at at rest
    else (if b == 39 then text_at at rest
    else sign_at at (b ∷ rest))))))

-- the text may be cut after its first n bytes, of which there is one
pub record IsCut (text : List ℕ) (n : ℕ) : Type 0 where
  pub some : 0 < n
  pub within : n ≤ length text
  pub boundary : IsCharBoundary text n

-- what stands at the head of a text is a part of it that ends between two characters, and a number is short
abbrev pub Cuts : List ℕ → Result Head LexBad → Type 0
Cuts text (Ok (head.Gap n)) = IsCut text n
Cuts text (Ok (head.Piece k n)) = IsCut text n × (k ≡ kind.Number → n ≤ NUMBER_BYTES)
Cuts text (Err e) = Unit {0}
