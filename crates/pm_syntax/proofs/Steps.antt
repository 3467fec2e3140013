-- What stops the reading of a list.
use Rattle.std.proofs.Common.{◌≡◌, List, [], ◌∷◌, length, Ok}
use Rattle.pm_lexer.specs.declared.token.Token.{Token}
use Rattle.pm_grammar.specs.Reading.{Read, token_at}
use Rattle.pm_grammar.specs.Steps.{more_at, list_at}
use Rattle.pm_grammar.specs.Outcome.{Fails}
use Rattle.pm_grammar.proofs.Outcomes.{bind_fails}
use Rattle.pm_grammar.specs.declared.fault.SynBad.{SynBad}
use Rattle.pm_lexer.specs.declared.symbol.Symbol.TheVariants as symbol
use Rattle.pm_lexer.specs.Symbol.{is}
use Rattle.pm_syntax.specs.declared.tree.Test.{Test}
use Rattle.pm_syntax.specs.Reading.{ands_at, cond_at}

-- further members failed
pub ands_fail : (peek : List Token → Read Token) (p : List Token → Read Test) (ts : List Token) (a : Test) (r : List Token) (e : SynBad) → p ts ≡ Ok (a, r)
    → Fails e (more_at (is symbol.And) (token_at (is symbol.And)) peek (λ _. p) 256 (length r) (a ∷ []) r) → Fails e (ands_at peek p ts)
unfolding ands_at list_at
ands_fail peek p ts a r e h f = rw h (bind_fails (more_at (is symbol.And) (token_at (is symbol.And)) peek (λ _. p) 256 (length r) (a ∷ []) r) _ e f)

pub cond_fails : (peek : List Token → Read Token) (p : List Token → Read Test) (ts : List Token) (a : Test) (r : List Token) (e : SynBad) → ands_at peek p ts ≡ Ok (a, r)
    → Fails e (more_at (is symbol.Or) (token_at (is symbol.Or)) peek (λ _. ands_at peek p) 256 (length r) (a ∷ []) r) → Fails e (cond_at peek p ts)
unfolding cond_at list_at
cond_fails peek p ts a r e h f = rw h (bind_fails (more_at (is symbol.Or) (token_at (is symbol.Or)) peek (λ _. ands_at peek p) 256 (length r) (a ∷ []) r) _ e f)
