-- The tokens of a text.
use Rattle.std.specs.Prelude.{ℕ, zero, suc, ◌≡◌, ◌≤◌, ◌-◌, List, [], ◌∷◌, ◌++◌, Result, Ok, Err, take, length}
use Rattle.pm_lexer.specs.declared.token.Token.{Token}
use Rattle.pm_lexer.specs.declared.token.TokenKind.TheVariants as kind
use Rattle.pm_lexer.specs.declared.fault.LexBad.{LexBad}
use Rattle.pm_lexer.specs.declared.head.Head.TheVariants as head
use Rattle.pm_lexer.specs.declared.symbol.TheConstants.{NUMBER_BYTES}
use Rattle.pm_lexer.specs.Head.{head_of}

-- a token before the others, where there are tokens
abbrev pub before : Token → Result (List Token) LexBad → Result (List Token) LexBad
before token (Ok tokens) = Ok (token ∷ tokens)
before token (Err e) = Err e

abbrev pub end_token : ℕ → Token
end_token at = record { kind = kind.End; slice = []; at = at }

-- the tokens of a text that begins at this place, of whose bytes the first n belong to what stands before
unfoldable pub tokens_after : ℕ → ℕ → List ℕ → Result (List Token) LexBad
tokens_after n at [] = Ok (end_token at ∷ [])
tokens_after (suc n) at (b ∷ rest) = tokens_after n (suc at) rest
tokens_after zero at (b ∷ rest) =
    elim (head_of at (b ∷ rest)) [
      | Ok (head.Gap n) ↦ tokens_after (n - 1) (suc at) rest
      | Ok (head.Piece k n) ↦ before (record { kind = k; slice = take n (b ∷ rest); at = at }) (tokens_after (n - 1) (suc at) rest)
      | Err e ↦ Err e
    ]

-- these tokens before the others, where there are tokens
abbrev pub all_before : List Token → Result (List Token) LexBad → Result (List Token) LexBad
all_before tokens (Ok more) = Ok (tokens ++ more)
all_before tokens (Err e) = Err e

-- the tokens of a text, or the refusal with the least place
unfoldable pub tokens_of : List ℕ → Result (List Token) LexBad
tokens_of text = tokens_after 0 0 text

-- a number of a text has at most 30 digits and a point
abbrev pub IsShortNumber : Token → Type 0
IsShortNumber token = token.kind ≡ kind.Number → length token.slice ≤ NUMBER_BYTES
