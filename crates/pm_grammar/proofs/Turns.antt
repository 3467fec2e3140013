-- One turn of the reading of a list.
use Rattle.std.proofs.Common.{◌≡◌, ◌+◌, ℕ, zero, suc, Bool, true, false, List, [], ◌∷◌, ◌++◌, drop, length, Ok, Err, refl, arith, nat_le}
use Rattle.pm_lexer.specs.declared.token.Token.{Token}
use Rattle.pm_grammar.specs.Reading.{Stop, Read, ◌>>=◌, sees, token_at, entry_at}
use Rattle.pm_grammar.specs.Steps.{more_at, more_while}

-- no turn is left
pub more_ends : {A S : Type 0} (starts : Token → Bool) (sep : List Token → Read S) (peek : List Token → Read Token) (p : S → List Token → Read A) (limit n : ℕ) (before : List A) (ts : List Token)
    → n ≡ 0 → more_at starts sep peek p limit n before ts ≡ Ok (before, ts)
unfolding more_at
more_ends starts sep peek p limit n before ts e = rw e refl

-- no separator comes next
pub more_stops : {A S : Type 0} (starts : Token → Bool) (sep : List Token → Read S) (peek : List Token → Read Token) (p : S → List Token → Read A) (limit n : ℕ) (before : List A) (ts : List Token)
    → sees starts ts ≡ false → more_at starts sep peek p limit n before ts ≡ Ok (before, ts)
unfolding more_at
more_stops starts sep peek p limit zero before ts e = refl
more_stops starts sep peek p limit (suc n) before ts e = rw e refl

pub more_goes : {A S : Type 0} (starts : Token → Bool) (sep : List Token → Read S) (peek : List Token → Read Token) (p : S → List Token → Read A) (limit n m : ℕ) (before : List A) (ts : List Token)
    → n ≡ m + 1 → sees starts ts ≡ true
    → more_at starts sep peek p limit n before ts ≡ (sep ts >>= λ s. (entry_at (nat_le limit (length before)) peek (p s.0) s.1 >>= λ a. more_at starts sep peek p limit m (before ++ a.0 ∷ []) a.1))
unfolding more_at
more_goes starts sep peek p limit zero m before ts e s = absurd (omega arith)
more_goes starts sep peek p limit (suc n) m before ts e s = let q : m ≡ n = omega arith in rw (s, q) refl

-- a separator and an entry were read
pub more_took : {A S : Type 0} (starts : Token → Bool) (sep : List Token → Read S) (peek : List Token → Read Token) (p : S → List Token → Read A) (limit n m : ℕ) (before : List A) (ts : List Token) (s : S) (r : List Token) (a : A) (rest : List Token)
    → n ≡ m + 1 → sees starts ts ≡ true → sep ts ≡ Ok (s, r) → entry_at (nat_le limit (length before)) peek (p s) r ≡ Ok (a, rest) → more_at starts sep peek p limit n before ts ≡ more_at starts sep peek p limit m (before ++ a ∷ []) rest
more_took starts sep peek p limit n m before ts s r a rest e f g h = rw (more_goes starts sep peek p limit n m before ts e f, g, h) refl

-- the entry was not
pub more_fails : {A S : Type 0} (starts : Token → Bool) (sep : List Token → Read S) (peek : List Token → Read Token) (p : S → List Token → Read A) (limit n m : ℕ) (before : List A) (ts : List Token) (s : S) (r : List Token) (stop : Stop)
    → n ≡ m + 1 → sees starts ts ≡ true → sep ts ≡ Ok (s, r) → entry_at (nat_le limit (length before)) peek (p s) r ≡ Err stop → more_at starts sep peek p limit n before ts ≡ Err stop
more_fails starts sep peek p limit n m before ts s r stop e f g h = rw (more_goes starts sep peek p limit n m before ts e f, g, h) refl

-- a separator that is one token
pub seen : (test : Token → Bool) (ts : List Token) → sees test ts ≡ true → (t : Token) × (token_at test ts ≡ Ok (t, drop 1 ts))
seen test [] e = absurd (let bad : false ≡ true = e in cc)
seen test (t ∷ ts) e = (t, rw e refl)

pub token_took : {A : Type 0} (test : Token → Bool) (peek : List Token → Read Token) (p : List Token → Read A) (limit n m : ℕ) (before : List A) (ts : List Token) (a : A) (rest : List Token)
    → n ≡ m + 1 → sees test ts ≡ true → entry_at (nat_le limit (length before)) peek p (drop 1 ts) ≡ Ok (a, rest) → more_at test (token_at test) peek (λ _. p) limit n before ts ≡ more_at test (token_at test) peek (λ _. p) limit m (before ++ a ∷ []) rest
token_took test peek p limit n m before ts a rest e f h = let (t, is) = seen test ts f in more_took test (token_at test) peek (λ _. p) limit n m before ts t (drop 1 ts) a rest e f is h

pub token_fails : {A : Type 0} (test : Token → Bool) (peek : List Token → Read Token) (p : List Token → Read A) (limit n m : ℕ) (before : List A) (ts : List Token) (stop : Stop)
    → n ≡ m + 1 → sees test ts ≡ true → entry_at (nat_le limit (length before)) peek p (drop 1 ts) ≡ Err stop → more_at test (token_at test) peek (λ _. p) limit n before ts ≡ Err stop
token_fails test peek p limit n m before ts stop e g h = let (t, is) = seen test ts g in more_fails test (token_at test) peek (λ _. p) limit n m before ts t (drop 1 ts) stop e g is h

-- a list of entries that are read while one begins, where no separator comes next
pub while_stops : {A : Type 0} (sep starts : Token → Bool) (p : List Token → Read A) (limit n : ℕ) (before : List A) (ts : List Token) → sees sep ts ≡ false → more_while sep starts p limit n before ts ≡ Ok (before, ts)
unfolding more_while
while_stops sep starts p limit zero before ts e = refl
while_stops sep starts p limit (suc n) before ts e = rw e refl
