-- What a reader answers, token by token.
use Rattle.std.specs.Prelude.{ℕ, Bool, false, ◌&&◌, if◌then◌else◌, List, [], ◌∷◌, Option, Some, None, Result, Ok, Err, drop}
use Rattle.pm_lexer.specs.declared.token.Token.{Token}
use Rattle.pm_lexer.specs.Pieces.{content_of}
use Rattle.pm_grammar.specs.declared.names.PlacedName.{PlacedName}

-- why reading stops, and at which place: no phrase begins like this, or only a deeper one, or only one with a longer list
pub data Stop : Type 0 where
  expected : ℕ → Stop
  too_deep : ℕ → Stop
  too_many : ℕ → Stop

-- a value and the tokens after its phrase
abbrev pub Read : Type 0 → Type 0
Read A = Result (A × List Token) Stop

infixl 10 ◌>>=◌
abbrev pub ◌>>=◌ : {A B : Type 0} → Result A Stop → (A → Result B Stop) → Result B Stop
(Ok x) >>= f = f x
(Err e) >>= f = Err e

-- where a list of tokens goes on
abbrev pub place_of : List Token → ℕ
place_of [] = 0
place_of (t ∷ ts) = t.at

-- whether a token that passes the test comes next
abbrev pub sees : (Token → Bool) → List Token → Bool
sees test [] = false
sees test (t ∷ ts) = test t

abbrev pub token_at : (Token → Bool) → List Token → Read Token
token_at test [] = Err (expected 0)
token_at test (t ∷ ts) = if test t then Ok (t, ts) else Err (expected t.at)

-- an entry, or why there is none past the limit
abbrev pub entry_at : {A : Type 0} → Bool → (List Token → Read Token) → (List Token → Read A) → List Token → Read A
entry_at past peek p ts = if past then (peek ts >>= λ _. Err (too_many (place_of ts))) else p ts

-- an entry whose first token was seen, or that there is none past the limit
abbrev pub limited_at : {A : Type 0} → Bool → (List Token → Read A) → List Token → Read A
limited_at past p ts = if past then Err (too_many (place_of ts)) else p ts

-- nothing may follow
abbrev pub whole : {A : Type 0} → Read A → Result A Stop
whole (Ok (a, [])) = Ok a
whole (Ok (a, t ∷ ts)) = Err (expected t.at)
whole (Err e) = Err e

-- a token that may stand
abbrev pub optional_at : (Token → Bool) → List Token → Option Token × List Token
optional_at test [] = (None, [])
optional_at test (t ∷ ts) = if test t then (Some t, ts) else (None, t ∷ ts)

-- a name with its place
abbrev pub named : Token → PlacedName
named token = record { text = content_of token; at = token.at }

unfoldable pub name_at : (Token → Bool) → List Token → Read PlacedName
name_at test ts = token_at test ts >>= λ name. Ok (named name.0, name.1)

-- a clause after a separator, where its first word stands there
unfoldable pub clause_at : {A : Type 0} → (Token → Bool) → (Token → Bool) → (List Token → Read A) → List Token → Read (Option A)
clause_at sep word p ts = if sees sep ts && sees word (drop 1 ts) then (p (drop 1 (drop 1 ts)) >>= λ a. Ok (Some a.0, a.1)) else Ok (None, ts)
