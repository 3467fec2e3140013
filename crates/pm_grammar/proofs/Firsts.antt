-- What the first token of a phrase says.
use Rattle.std.proofs.Common.{◌≡◌, ℕ, Bool, true, false, List, [], ◌∷◌, sym, rules}
use denote.Enum.Bare.{same_true}
use Rattle.pm_lexer.specs.contracts.symbol.Symbol.{the_type}
use Rattle.pm_lexer.specs.declared.token.Token.{Token}
use Rattle.pm_lexer.specs.declared.symbol.Symbol.{Symbol}
use Rattle.pm_lexer.specs.Symbol.{symbol_of, same_symbol, is}
use Rattle.pm_grammar.specs.Language.{Gate, Is}
use Rattle.pm_grammar.specs.Reading.{sees, token_at}
use Rattle.pm_grammar.proofs.Phrases.{Phrase, Next, Able, NotOther, open_after}
use Rattle.pm_grammar.proofs.Readers.{Then, then_began, token_able, not_seen}
use Rattle.pm_grammar.proofs.Lists.{Peek}
pub use Rattle.pm_grammar.proofs.Furthers.{seen_law}
use Rattle.pm_grammar.proofs.Furthers.{token_peek}

-- no token is two symbols
pub not_both : (a b : Symbol) (t : Token) → same_symbol a b ≡ false → is a t ≡ true → is b t ≡ true → ⊥
unfolding same_symbol
not_both a b t d e f =
    let first : symbol_of t ≡ a = same_true the_type (search rules) (symbol_of t) a e in
    let same : same_symbol a b ≡ true = rw first at f in
    cc

-- each phrase begins with a token of this set
abbrev pub FirstOf : (Token → Type 0) → List Token → Type 0
FirstOf F [] = ⊥
FirstOf F (t ∷ ts) = F t

abbrev pub BeginsWith : {A : Type 0} → Phrase A → (Token → Type 0) → Type 1
BeginsWith {A} P F = (d : ℕ) (g : Gate) (next : Next A) (w : List Token) → P d g next w → FirstOf F w

-- no phrase begins with a token that passes the test
pub bars : {A : Type 0} (S : Token → Type 0) (P : Phrase A) (F : Token → Type 0) (test : Token → Bool) → BeginsWith P F → ((t : Token) → test t ≡ true → F t → ⊥) → (ts : List Token) → sees test ts ≡ true → NotOther S P ts
bars S P F test begins none [] e d g next w avoids heads h = absurd (let bad : false ≡ true = e in cc)
bars S P F test begins none (t ∷ ts) e d g next [] avoids heads h = heads
bars S P F test begins none (t ∷ ts) e d g next (u ∷ us) avoids heads h = none u (rw (sym heads) at e) (begins d g next (u ∷ us) h)

-- what the first token of a phrase says, where the phrase is a token and what stands after it
pub first_peek : {A : Type 0} (S : Token → Type 0) (test : Token → Bool) (t₀ : Token) → test t₀ ≡ true → (Q : Token → Phrase A) (d : ℕ) → ((t : Token) → Able (Q t) d) → Peek S (Then (λ _ _. Is test) Q) d (token_at test)
first_peek S test t₀ e₀ Q d able =
    token_peek S (Then (λ _ _. Is test) Q) test d (λ ts e d' g next w avoids heads h. not_seen test ts w _ e heads h) (then_began able (token_able test t₀ e₀ d))
    (λ t e. record { more = (able t).more; value = (able t).value; ends = λ d' g next v le o h. (e, (able t).ends d' g next v le (open_after g (t ∷ []) _ o) h) })
