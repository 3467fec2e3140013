-- Languages of token lists. A language says of a list of tokens that it begins with a phrase of it, and that the phrase's value and
-- the tokens after it are as asked.
use Rattle.std.specs.Prelude.{◌≡◌, ◌≤◌, ◌⊎◌, ℕ, zero, suc, Bool, true, Option, Some, None, List, [], ◌∷◌, ◌++◌, length}
use Rattle.pm_lexer.specs.declared.token.Token.{Token}

abbrev pub Lang : Type 0 → Type 1
Lang A = (A → List Token → Type 0) → List Token → Type 0

-- a token that passes a test
abbrev pub Is : (Token → Bool) → Lang Token
Is test next [] = ⊥
Is test next (t ∷ ts) = (test t ≡ true) × next t ts

-- where an entry past the limit of its list may begin: nowhere, anywhere, or where these tokens are left
abbrev pub Gate : Type 1
Gate = List Token → Type 0

abbrev pub never : Gate
never ts = ⊥

abbrev pub always : Gate
always ts = Unit {0}

-- a language within limits: at most so deep, and with an entry past its limit only where the gate is open
abbrev pub Phrase : Type 0 → Type 1
Phrase A = ℕ → Gate → Lang A

abbrev pub only_at : List Token → Gate
only_at rest ts = ts ≡ rest

-- what follows is an entry that stands after so many
abbrev pub Within : Gate → ℕ → ℕ → (List Token → Type 0) → List Token → Type 0
Within gate limit n entry ts = (limit ≤ n → gate ts) × entry ts

-- n further entries, each after a separator
unfoldable pub IsMore : {A S : Type 0} → Gate → ℕ → Lang S → (S → Lang A) → ℕ → List A → Lang (List A)
IsMore gate limit Sep P zero before next = next before
IsMore gate limit Sep P (suc n) before next = Sep (λ s. Within gate limit (length before) (P s (λ a. IsMore gate limit Sep P n (before ++ a ∷ []) next)))

abbrev pub IsFurther : {A S : Type 0} → Gate → ℕ → Lang S → (S → Lang A) → List A → Lang (List A)
IsFurther gate limit Sep P before next ts = (n : ℕ) × IsMore gate limit Sep P n before next ts

-- one or more entries with separators between, at most so many but where the gate is open
abbrev pub IsList : {A : Type 0} → Gate → ℕ → Lang A → (Token → Bool) → Lang (List A)
IsList gate limit P sep next = P (λ a. IsFurther gate limit (Is sep) (λ _. P) (a ∷ []) next)

-- a token that may stand
abbrev pub IsOptional : (Token → Bool) → Lang (Option Token)
IsOptional test next ts = next None ts ⊎ Is test (λ t. next (Some t)) ts

-- a clause after a separator and its first word, or none
abbrev pub IsClause : {A : Type 0} → (Token → Bool) → (Token → Bool) → Lang A → Lang (Option A)
IsClause sep word P next ts = next None ts ⊎ Is sep (λ _. Is word (λ _. P (λ a. next (Some a)))) ts
