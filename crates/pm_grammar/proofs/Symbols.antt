-- A token of each symbol, and readers of symbols.
use Rattle.std.proofs.Common.{◌≡◌, ℕ, true, false, List, [], refl, rules, codes}
use denote.Enum.Bare.{same_true}
use Rattle.pm_lexer.specs.contracts.symbol.Symbol.{the_type}
use Rattle.pm_lexer.specs.declared.token.Token.{Token}
use Rattle.pm_lexer.specs.declared.token.TokenKind.TheVariants as kind
use Rattle.pm_lexer.specs.declared.symbol.Symbol.{Symbol}
use Rattle.pm_lexer.specs.declared.symbol.Symbol.TheVariants as symbol
use Rattle.pm_lexer.specs.Symbol.{symbol_of, same_symbol, is, spelling, reserved_word, canonical_sign}
use Rattle.pm_grammar.specs.Language.{Is}
use Rattle.pm_grammar.specs.Reading.{Read, ◌>>=◌, token_at}
use Rattle.pm_grammar.proofs.Phrases.{Phrase, Reader}
use Rattle.pm_grammar.proofs.Readers.{Then, token_reader}

-- a token is its symbol
pub is_symbol : (s : Symbol) (t : Token) → is s t ≡ true → symbol_of t ≡ s
unfolding same_symbol
is_symbol s t e = same_true the_type (search rules) (symbol_of t) s e

abbrev sign : Symbol → Token
sign s = record { kind = kind.Sign; slice = spelling s; at = 0 }

-- a token of each symbol that a text may have
unfoldable pub sample : Symbol → Token
sample symbol.Name = record { kind = kind.Name; slice = codes "a"; at = 0 }
sample symbol.Number = record { kind = kind.Number; slice = codes "1"; at = 0 }
sample symbol.Text = record { kind = kind.Text; slice = codes "''"; at = 0 }
sample symbol.End = record { kind = kind.End; slice = []; at = 0 }
sample symbol.Open = sign symbol.Open
sample symbol.Close = sign symbol.Close
sample symbol.Comma = sign symbol.Comma
sample symbol.Point = sign symbol.Point
sample symbol.Semicolon = sign symbol.Semicolon
sample symbol.Star = sign symbol.Star
sample symbol.Minus = sign symbol.Minus
sample symbol.Equal = sign symbol.Equal
sample symbol.Unequal = sign symbol.Unequal
sample symbol.Less = sign symbol.Less
sample symbol.AtMost = sign symbol.AtMost
sample symbol.Greater = sign symbol.Greater
sample symbol.AtLeast = sign symbol.AtLeast
sample s = record { kind = kind.Reserved; slice = spelling s; at = 0 }

pub sample_is : (s : Symbol) → same_symbol s symbol.Other ≡ false → is s (sample s) ≡ true
unfolding same_symbol symbol_of reserved_word canonical_sign sample
sample_is symbol.Other e = absurd (cc e)
sample_is s e = refl

-- a symbol, and then what a reader reads
pub symbol_reader : {B : Type 0} (S : Token → Type 0) (s : Symbol) → same_symbol s symbol.Other ≡ false → (Q : Token → Phrase B) (d : ℕ) (q : Token × List Token → Read B) → ((t : Token) → Reader S (Q t) d (λ r. q (t, r)))
    → Reader S (Then (λ _ _. Is (is s)) Q) d (λ ts. token_at (is s) ts >>= q)
symbol_reader S s e Q d q second = token_reader S (is s) (sample s) (sample_is s e) Q d q second
