-- What lexing says of one token.
use Rattle.std.proofs.Common.{◌≡◌, ◌<◌, ◌≤◌, ◌+◌, ℕ, true, false, List, length, filter}
use Rattle.std.specs.Option.{is_some}
use Rattle.std.specs.Char.{is_ascii_digit, is_ascii_control}
use Rattle.pm_lexer.specs.declared.token.Token.{Token}
use Rattle.pm_lexer.specs.declared.token.TokenKind.{TokenKind}
use Rattle.pm_lexer.specs.declared.token.TokenKind.TheVariants as kind
use Rattle.pm_lexer.specs.Pieces.{whole_len, decimals_len, content_at}
use Rattle.pm_lexer.specs.Symbol.{reserved_word}
use Rattle.pm_lexer.specs.Quoting.{is_plain}
use Rattle.pm_canonical.proofs.Valid.{Every}

-- a name that needs no quotes, and one that may stand between them
pub record IsPlainName (name : List ℕ) : Type 0 where
  pub plain : is_plain name ≡ true
  pub short : length name ≤ 64

pub record IsQuotedName (name : List ℕ) : Type 0 where
  pub some : 0 < length name
  pub short : length name ≤ 64
  pub clean : Every (λ b. is_ascii_control b ≡ false) name

-- a number: at most 30 digits, of which at most 6 stand after the point
pub record IsNumber (slice : List ℕ) : Type 0 where
  pub some : 0 < whole_len slice
  pub decimals : decimals_len slice ≤ 6
  pub digits : length (filter is_ascii_digit slice) ≡ whole_len slice + decimals_len slice
  pub short : whole_len slice + decimals_len slice ≤ 30

abbrev pub IsFormedAt : TokenKind → List ℕ → Type 0
IsFormedAt kind.Name slice = IsPlainName slice
IsFormedAt kind.Reserved slice = is_some (reserved_word slice) ≡ true
IsFormedAt kind.Quoted slice = IsQuotedName (content_at kind.Quoted slice)
IsFormedAt kind.Number slice = IsNumber slice
IsFormedAt kind.Text slice = Unit {0}
IsFormedAt kind.Sign slice = Unit {0}
IsFormedAt kind.End slice = Unit {0}

abbrev pub IsFormed : Token → Type 0
IsFormed token = IsFormedAt token.kind token.slice
