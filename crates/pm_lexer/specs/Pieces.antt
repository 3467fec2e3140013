-- The longest pieces at the head of a text.
use Rattle.std.specs.Prelude.{◌≡◌, ◌≢◌, ◌<◌, ℕ, ◌==◌, ◌&&◌, ◌+◌, ◌-◌, List, [], ◌∷◌, Option, Some, None, if◌then◌else◌, length, take, drop, nat_le, slice_index}
use Rattle.std.specs.List.{prefix_len}
use Rattle.std.specs.Char.{is_ascii_digit}
use Rattle.pm_lexer.specs.declared.token.Token.{Token}
use Rattle.pm_lexer.specs.declared.token.TokenKind.{TokenKind}
use Rattle.pm_lexer.specs.declared.token.TokenKind.TheVariants as kind

-- the digits that stand after a point, where the text begins with one
abbrev pub decimals : List ℕ → ℕ
decimals [] = 0
decimals (b ∷ rest) = if b == 46 then prefix_len is_ascii_digit rest else 0

-- a number: its digits before the point, and those after it
abbrev pub whole_len : List ℕ → ℕ
whole_len text = prefix_len is_ascii_digit text

abbrev pub decimals_len : List ℕ → ℕ
decimals_len text = decimals (drop (whole_len text) text)

abbrev pub number_len : List ℕ → ℕ
number_len text = if decimals_len text == 0 then whole_len text else whole_len text + 1 + decimals_len text

-- one more, where there is a number
abbrev pub longer : ℕ → Option ℕ → Option ℕ
longer n None = None
longer n (Some m) = Some (n + m)

-- after an opening quote: the bytes up to the closing quote, which stands before no quote; a quote before a quote is a doubled one
unfoldable pub quotation : ℕ → List ℕ → Option ℕ
quotation quote [] = None
quotation quote (b ∷ []) = if b == quote then Some 0 else None
quotation quote (b ∷ c ∷ rest) =
    if b == quote then (if c == quote then longer 2 (quotation quote rest) else Some 0)
    else longer 1 (quotation quote (c ∷ rest))

-- what stands between quotes, with each doubled quote once
unfoldable pub single_quotes : ℕ → List ℕ → List ℕ
single_quotes quote [] = []
single_quotes quote (b ∷ []) = b ∷ []
single_quotes quote (b ∷ c ∷ rest) =
    if b == quote && c == quote then b ∷ single_quotes quote rest else b ∷ single_quotes quote (c ∷ rest)

-- none of the first n bytes is this one
abbrev pub NoneBefore : ℕ → List ℕ → ℕ → Type 0
NoneBefore b bytes n = (k : ℕ) → k < n → slice_index bytes k ≢ b

-- this byte stands first at i
abbrev pub IsFirst : ℕ → List ℕ → ℕ → Type 0
IsFirst b bytes i = (i < length bytes) × (slice_index bytes i ≡ b) × NoneBefore b bytes i

-- what stands after a quote, where one comes next
abbrev pub after_quote : ℕ → List ℕ → List ℕ
after_quote quote [] = []
after_quote quote (b ∷ rest) = if b == quote then rest else b ∷ rest

-- what stands between these quotes, where they enclose the bytes
abbrev pub inside : ℕ → List ℕ → List ℕ
inside quote bytes =
    if nat_le 2 (length bytes) && slice_index bytes 0 == quote && slice_index bytes (length bytes - 1) == quote
    then take (length bytes - 2) (drop 1 bytes) else bytes

-- the name that a name's token stands for, or the text that a text's token stands for
abbrev pub content_at : TokenKind → List ℕ → List ℕ
content_at kind.Quoted slice = single_quotes 34 (inside 34 slice)
content_at kind.Text slice = single_quotes 39 (inside 39 slice)
content_at kind.Name slice = slice
content_at kind.Reserved slice = slice
content_at kind.Number slice = slice
content_at kind.Sign slice = slice
content_at kind.End slice = slice

abbrev pub content_of : Token → List ℕ
content_of token = content_at token.kind token.slice
