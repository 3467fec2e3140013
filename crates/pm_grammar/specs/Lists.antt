-- What a list of entries with separators between them reads.
use Rattle.std.specs.Prelude.{◌≡◌, ℕ, Bool, true, false, ◌&&◌, List, [], ◌∷◌, ◌++◌, Ok, Err, length, drop, nat_le}
use Rattle.pm_lexer.specs.declared.token.Token.{Token}
use Rattle.pm_grammar.specs.Reading.{Stop, Read, sees, token_at, entry_at, limited_at}

-- What the rest of a list reads, after the entries before it: nothing more where no separator begins, and else a separator, an entry,
-- and the rest after them. A separator or an entry that is refused refuses the list. An entry is told whether it is past the limit.
pub data ReadsMore {A S : Type 0} (begins : List Token → Bool) (separate : List Token → Read S) (entry : Bool → S → List Token → Read A) (limit : ℕ) : List A → List Token → Read (List A) → Type 0 where
  ends : (before : List A) (ts : List Token) → begins ts ≡ false → ReadsMore begins separate entry limit before ts (Ok (before, ts))
  no_separator : (before : List A) (ts : List Token) (stop : Stop) → begins ts ≡ true → separate ts ≡ Err stop → ReadsMore begins separate entry limit before ts (Err stop)
  no_entry : (before : List A) (ts : List Token) (s : S) (next : List Token) (stop : Stop) → begins ts ≡ true → separate ts ≡ Ok (s, next)
      → entry (nat_le limit (length before)) s next ≡ Err stop → ReadsMore begins separate entry limit before ts (Err stop)
  another : (before : List A) (ts : List Token) (s : S) (next : List Token) (a : A) (rest : List Token) (read : Read (List A)) → begins ts ≡ true → separate ts ≡ Ok (s, next)
      → entry (nat_le limit (length before)) s next ≡ Ok (a, rest) → ReadsMore begins separate entry limit (before ++ a ∷ []) rest read → ReadsMore begins separate entry limit before ts read

-- further entries, each after a token
abbrev pub ReadsFurther : {A : Type 0} → (Token → Bool) → (List Token → Read Token) → (List Token → Read A) → ℕ → List A → List Token → Read (List A) → Type 0
ReadsFurther sep peek p limit = ReadsMore (sees sep) (token_at sep) (λ past _. entry_at past peek p) limit

-- each after a separator of its own
abbrev pub ReadsSeries : {A S : Type 0} → (Token → Bool) → (List Token → Read S) → (List Token → Read Token) → (S → List Token → Read A) → ℕ → List A → List Token → Read (List A) → Type 0
ReadsSeries starts separate peek p limit = ReadsMore (sees starts) separate (λ past s. entry_at past peek (p s)) limit

-- each after a token, where an entry begins after it
abbrev pub ReadsWhile : {A : Type 0} → (Token → Bool) → (Token → Bool) → (List Token → Read A) → ℕ → List A → List Token → Read (List A) → Type 0
ReadsWhile sep first p limit = ReadsMore (λ ts. sees sep ts && sees first (drop 1 ts)) (token_at sep) (λ past _. limited_at past p) limit

-- one or more entries
pub data ReadsList {A : Type 0} (sep : Token → Bool) (peek : List Token → Read Token) (p : List Token → Read A) (limit : ℕ) : List Token → Read (List A) → Type 0 where
  no_first : (ts : List Token) (stop : Stop) → p ts ≡ Err stop → ReadsList sep peek p limit ts (Err stop)
  entries : (ts : List Token) (a : A) (rest : List Token) (read : Read (List A)) → p ts ≡ Ok (a, rest) → ReadsFurther sep peek p limit (a ∷ []) rest read → ReadsList sep peek p limit ts read
