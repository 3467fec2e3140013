-- Steps of the bodies that read lists, turn by turn: proofs compute with them, and no public contract cites them. What a list reads
-- is said in Lists.
use Rattle.std.specs.Prelude.{ℕ, zero, suc, Bool, ◌&&◌, if◌then◌else◌, List, [], ◌∷◌, ◌++◌, Ok, length, drop, nat_le}
use Rattle.pm_lexer.specs.declared.token.Token.{Token}
use Rattle.pm_grammar.specs.Reading.{Read, ◌>>=◌, sees, token_at, entry_at, limited_at}

-- further entries after separators, in at most so many turns
unfoldable pub more_at : {A S : Type 0} → (Token → Bool) → (List Token → Read S) → (List Token → Read Token) → (S → List Token → Read A) → ℕ → ℕ → List A → List Token → Read (List A)
more_at starts sep peek p limit zero before ts = Ok (before, ts)
more_at starts sep peek p limit (suc n) before ts =
    if sees starts ts
    then (sep ts >>= λ s. (entry_at (nat_le limit (length before)) peek (p s.0) s.1 >>= λ a. more_at starts sep peek p limit n (before ++ a.0 ∷ []) a.1))
    else Ok (before, ts)

unfoldable pub list_at : {A : Type 0} → (Token → Bool) → (List Token → Read Token) → (List Token → Read A) → ℕ → List Token → Read (List A)
list_at sep peek p limit ts = p ts >>= λ first. more_at sep (token_at sep) peek (λ _. p) limit (length first.1) (first.0 ∷ []) first.1

-- Further entries, while one begins after the separator: a list that is followed by clauses with the same separator.
unfoldable pub more_while : {A : Type 0} → (Token → Bool) → (Token → Bool) → (List Token → Read A) → ℕ → ℕ → List A → List Token → Read (List A)
more_while sep starts p limit zero before ts = Ok (before, ts)
more_while sep starts p limit (suc n) before ts =
    if sees sep ts && sees starts (drop 1 ts)
    then (limited_at (nat_le limit (length before)) p (drop 1 ts) >>= λ a. more_while sep starts p limit n (before ++ a.0 ∷ []) a.1)
    else Ok (before, ts)
