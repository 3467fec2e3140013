-- What a schema sees of single tokens.
use Rattle.std.specs.Prelude.{ℕ, Bool, false, ◌&&◌, ◌||◌, ◌-◌, List, [], ◌∷◌, Option, Some, None, if◌then◌else◌, codes, nat_le}
use denote.Enum.Bare.{sameb}
use Rattle.std.specs.Str.{str_eq_ignore_ascii_case}
use Rattle.pm_lexer.specs.declared.token.Token.{Token}
use Rattle.pm_lexer.specs.declared.token.TokenKind.{TokenKind}
use Rattle.pm_lexer.specs.declared.token.TokenKind.TheVariants as kind
use Rattle.pm_lexer.specs.declared.symbol.Symbol.TheVariants as symbol
use Rattle.pm_lexer.specs.Symbol.{is}
use Rattle.pm_grammar.specs.Reading.{sees}
use Rattle.pm_schema.specs.declared.terminals.Word.{Word}
use Rattle.pm_schema.specs.declared.terminals.Word.TheVariants as word
use Rattle.pm_schema.specs.contracts.terminals.Word.{the_type}
use Rattle.pm_schema.specs.declared.terminals.SchemaTerminal.{SchemaTerminal}
use Rattle.pm_schema.specs.declared.terminals.SchemaTerminal.TheVariants as terminal

-- the word that is spelt like this, with ASCII case put aside
unfoldable pub word_named : List ℕ → Option Word
word_named slice =
    if str_eq_ignore_ascii_case slice (codes "TABLE") then Some word.Table
    else (if str_eq_ignore_ascii_case slice (codes "KEY") then Some word.Key
    else (if str_eq_ignore_ascii_case slice (codes "REFERENCES") then Some word.References
    else (if str_eq_ignore_ascii_case slice (codes "TO") then Some word.To
    else (if str_eq_ignore_ascii_case slice (codes "INT") then Some word.Int
    else (if str_eq_ignore_ascii_case slice (codes "NUM") then Some word.Num
    else (if str_eq_ignore_ascii_case slice (codes "TEXT") then Some word.Text
    else None))))))

-- whether two words are one
unfoldable pub same_word : Word → Word → Bool
same_word = sameb the_type

abbrev pub is_found : Word → Option Word → Bool
is_found w None = false
is_found w (Some found) = same_word found w

-- the word that a plain name is
abbrev pub word_of_kind : TokenKind → List ℕ → Option Word
word_of_kind kind.Name slice = word_named slice
word_of_kind _ slice = None

abbrev pub word_of : Token → Option Word
word_of token = word_of_kind token.kind token.slice

abbrev pub is_word : Word → Token → Bool
is_word w token = is_found w (word_of token)

-- the word that a reserved word is, which KEY and REFERENCES are before a parenthesis
abbrev pub clause_word_of_kind : TokenKind → List ℕ → Option Word
clause_word_of_kind kind.Reserved slice = word_named slice
clause_word_of_kind _ slice = None

abbrev pub clause_word_of : Token → Option Word
clause_word_of token = clause_word_of_kind token.kind token.slice

abbrev pub is_clause : Word → Token → Bool
is_clause w token = is symbol.Other token && is_found w (clause_word_of token)

-- REFERENCES where no column may stand
abbrev pub is_references : Token → Bool
is_references token = is_clause word.References token || is_word word.References token

-- any name
abbrev pub is_name : Token → Bool
is_name token = is symbol.Name token || is_clause word.Key token || is_clause word.References token

-- one digit from 1 to 6
abbrev pub is_scale_digit : List ℕ → Bool
is_scale_digit (b ∷ []) = nat_le 49 b && nat_le b 54
is_scale_digit _ = false

abbrev pub spells_scale : TokenKind → List ℕ → Bool
spells_scale kind.Number slice = is_scale_digit slice
spells_scale _ slice = false

abbrev pub is_scale : Token → Bool
is_scale token = spells_scale token.kind token.slice

abbrev pub digit_of : List ℕ → ℕ
digit_of [] = 0
digit_of (b ∷ rest) = b - 48

-- the number of decimals that a scale says
abbrev pub scale_of : Token → ℕ
scale_of token = digit_of token.slice

-- whether a token is this terminal
abbrev pub stands : SchemaTerminal → Token → Bool
stands (terminal.Clause w) = is_clause w
stands terminal.References = is_references
stands terminal.Name = is_name
stands terminal.Scale = is_scale

-- what stands for the first REFERENCES of a table: after a list of KEY or ORDER the word, and else the word before a parenthesis
abbrev pub references_word : Bool → Token → Bool
references_word after_list = if after_list then is_references else is_clause word.References

-- The tokens as the grammar sees them: KEY and REFERENCES are reserved words before a parenthesis, and else names.
abbrev pub reserved : Token → Token
reserved token = record { kind = kind.Reserved; slice = token.slice; at = token.at }

abbrev pub marked_before : List Token → Token → Token
marked_before rest token = if (is_word word.Key token || is_word word.References token) && sees (is symbol.Open) rest then reserved token else token

unfoldable pub marked : List Token → List Token
marked [] = []
marked (t ∷ ts) = marked_before ts t ∷ marked ts
