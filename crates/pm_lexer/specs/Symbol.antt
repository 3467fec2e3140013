-- What a grammar sees of a token.
use Rattle.std.specs.Prelude.{ℕ, Bool, List, [], Option, Some, codes, unwrap_or, if◌then◌else◌, length, nat_le}
use denote.Enum.Bare.{sameb}
use Rattle.std.specs.List.{find}
use Rattle.std.specs.Str.{bytes_eq, str_eq_ignore_ascii_case}
use Rattle.pm_lexer.specs.declared.token.Token.{Token}
use Rattle.pm_lexer.specs.declared.token.TokenKind.{TokenKind}
use Rattle.pm_lexer.specs.declared.token.TokenKind.TheVariants as kind
use Rattle.pm_lexer.specs.declared.symbol.Symbol.{Symbol}
use Rattle.pm_lexer.specs.declared.symbol.Symbol.TheVariants as symbol
use Rattle.pm_lexer.specs.contracts.symbol.Symbol.{the_type}
use Rattle.pm_lexer.specs.declared.symbol.TheConstants.{NUMBER_BYTES, RESERVED, SIGNS}

-- a reserved word in capitals, or a sign
abbrev pub spelling : Symbol → List ℕ
spelling symbol.Select = codes "SELECT"
spelling symbol.Distinct = codes "DISTINCT"
spelling symbol.From = codes "FROM"
spelling symbol.Join = codes "JOIN"
spelling symbol.Inner = codes "INNER"
spelling symbol.Left = codes "LEFT"
spelling symbol.Right = codes "RIGHT"
spelling symbol.Full = codes "FULL"
spelling symbol.Outer = codes "OUTER"
spelling symbol.Cross = codes "CROSS"
spelling symbol.Natural = codes "NATURAL"
spelling symbol.Using = codes "USING"
spelling symbol.On = codes "ON"
spelling symbol.Where = codes "WHERE"
spelling symbol.Group = codes "GROUP"
spelling symbol.By = codes "BY"
spelling symbol.Having = codes "HAVING"
spelling symbol.Order = codes "ORDER"
spelling symbol.Asc = codes "ASC"
spelling symbol.Desc = codes "DESC"
spelling symbol.And = codes "AND"
spelling symbol.Or = codes "OR"
spelling symbol.Not = codes "NOT"
spelling symbol.Is = codes "IS"
spelling symbol.Null = codes "NULL"
spelling symbol.In = codes "IN"
spelling symbol.Between = codes "BETWEEN"
spelling symbol.As = codes "AS"
spelling symbol.Limit = codes "LIMIT"
spelling symbol.Offset = codes "OFFSET"
spelling symbol.Union = codes "UNION"
spelling symbol.Open = codes "("
spelling symbol.Close = codes ")"
spelling symbol.Comma = codes ","
spelling symbol.Point = codes "."
spelling symbol.Semicolon = codes ";"
spelling symbol.Star = codes "*"
spelling symbol.Minus = codes "-"
spelling symbol.Equal = codes "="
spelling symbol.Unequal = codes "<>"
spelling symbol.Less = codes "<"
spelling symbol.AtMost = codes "<="
spelling symbol.Greater = codes ">"
spelling symbol.AtLeast = codes ">="
spelling symbol.Name = []
spelling symbol.Number = []
spelling symbol.Text = []
spelling symbol.End = []
spelling symbol.Other = []

-- the reserved word that these bytes spell, with ASCII case put aside
unfoldable pub reserved_word : List ℕ → Option Symbol
reserved_word bytes = find (λ word. str_eq_ignore_ascii_case bytes (spelling word)) RESERVED

-- the sign that is spelt like this in canonical text
unfoldable pub canonical_sign : List ℕ → Option Symbol
canonical_sign bytes = find (λ sign. bytes_eq bytes (spelling sign)) SIGNS

-- the sign that these bytes are: `!=` is the other spelling of `<>`
abbrev pub sign_of : List ℕ → Option Symbol
sign_of bytes = if bytes_eq bytes (codes "!=") then Some symbol.Unequal else canonical_sign bytes

-- a number of more bytes is no token of a text
abbrev pub symbol_at : TokenKind → List ℕ → Symbol
symbol_at kind.Name slice = symbol.Name
symbol_at kind.Reserved slice = unwrap_or (reserved_word slice) symbol.Other
symbol_at kind.Quoted slice = symbol.Name
symbol_at kind.Number slice = if nat_le (length slice) NUMBER_BYTES then symbol.Number else symbol.Other
symbol_at kind.Text slice = symbol.Text
symbol_at kind.Sign slice = unwrap_or (sign_of slice) symbol.Other
symbol_at kind.End slice = symbol.End

-- what a grammar sees of a token
unfoldable pub symbol_of : Token → Symbol
symbol_of token = symbol_at token.kind token.slice

-- whether two symbols are one
unfoldable pub same_symbol : Symbol → Symbol → Bool
same_symbol = sameb the_type

-- whether a token is this symbol
abbrev pub is : Symbol → Token → Bool
is symbol token = same_symbol (symbol_of token) symbol
