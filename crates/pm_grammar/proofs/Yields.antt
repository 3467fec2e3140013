-- What holds of the values that phrases of a language have.
use Rattle.std.proofs.Common.{◌≡◌, ◌≤◌, ◌<◌, ◌⊎◌, ◌++◌, ℕ, zero, suc, Bool, true, List, [], ◌∷◌, length, arith, inl, inr}
use Rattle.std.specs.Prelude.{All}
use Rattle.std.proofs.lemmas.List.{length-append}
use Rattle.std.proofs.lemmas.List.Elements.{All-cons, All-nil, All-push}
use Rattle.pm_lexer.specs.declared.token.Token.{Token}
use Rattle.pm_grammar.specs.Language.{Lang, Is, IsMore, IsFurther, IsList, never}

-- the value of a phrase is so, and what was asked to follow does
abbrev pub Yields : {A : Type 0} → Lang A → (A → Type 0) → Type 1
Yields {A} L Q = (next : A → List Token → Type 0) (ts : List Token) → L next ts → (a : A) × (rest : List Token) × Q a × next a rest

abbrev pub Any : {A : Type 0} → A → Type 0
Any a = Unit {0}

pub token_then : {A : Type 0} (R : A → Type 0) (test : Token → Bool) (M : Token → Lang A) → ((t : Token) → test t ≡ true → Yields (M t) R) → Yields (λ next. Is test (λ t. M t next)) R
token_then R test M m next [] h = absurd h
token_then R test M m next (t ∷ ts) h = m t h.0 next ts h.1

pub then_yields : {A B : Type 0} (Q : A → Type 0) (R : B → Type 0) (L : Lang A) (M : A → Lang B) → Yields L Q → ((a : A) → Q a → Yields (M a) R) → Yields (λ next. L (λ a. M a next)) R
then_yields Q R L M l m next ts h = let a = l (λ a. M a next) ts h in m a.0 a.2 next a.1 a.3

pub only_yields : {A : Type 0} (R : A → Type 0) (a : A) → R a → Yields (λ next. next a) R
only_yields R a r next ts h = (a, ts, r, h)

pub or_yields : {A : Type 0} (R : A → Type 0) (L M : Lang A) → Yields L R → Yields M R → Yields (λ next ts. L next ts ⊎ M next ts) R
or_yields R L M l m next ts (inl h) = l next ts h
or_yields R L M l m next ts (inr h) = m next ts h

pub token_yields : (test : Token → Bool) → Yields (Is test) Any
token_yields test next [] h = absurd h
token_yields test next (t ∷ ts) h = (t, ts, tt, h.1)

-- within the limits a list of entries is short, and each of its entries is so
pub record IsShort {A : Type 0} (Q : A → Type 0) (limit : ℕ) (all : List A) : Type 0 where
  pub count : length all ≤ limit
  pub each : All Q all

more_yields : {A S : Type 0} (limit : ℕ) (Sep : Lang S) (P : S → Lang A) (Q : A → Type 0) → Yields Sep Any → ((s : S) → Yields (P s) Q)
    → (n : ℕ) (before : List A) → IsShort Q limit before → Yields (IsMore never limit Sep P n before) (IsShort Q limit)
unfolding IsMore
more_yields limit Sep P Q sep entry zero before short next ts h = (before, ts, short, h)
more_yields limit Sep P Q sep entry (suc n) before short next ts h =
    let s = sep _ ts h in
    let a = entry s.0 _ s.1 s.3.1 in
    let low : length before < limit = omega (arith, s.3.0) in
    more_yields limit Sep P Q sep entry n (before ++ a.0 ∷ []) (record {
      count = omega (arith, length-append before (a.0 ∷ []));
      each = All-push Q before a.0 short.each a.2;
    }) next a.1 a.3

pub further_yields : {A S : Type 0} (limit : ℕ) (Sep : Lang S) (P : S → Lang A) (Q : A → Type 0) → Yields Sep Any → ((s : S) → Yields (P s) Q)
    → (a : A) → 1 ≤ limit → Q a → Yields (IsFurther never limit Sep P (a ∷ [])) (IsShort Q limit)
further_yields limit Sep P Q sep entry a room holds next ts h =
    more_yields limit Sep P Q sep entry h.0 (a ∷ []) (record { count = omega (arith, room); each = All-cons Q a [] holds (All-nil Q) }) next ts h.1

pub list_yields : {A : Type 0} (limit : ℕ) (P : Lang A) (Q : A → Type 0) (sep : Token → Bool) → 1 ≤ limit → Yields P Q → Yields (IsList never limit P sep) (IsShort Q limit)
list_yields limit P Q sep room entry =
    then_yields Q (IsShort Q limit) P (λ a. IsFurther never limit (Is sep) (λ _. P) (a ∷ [])) entry
    (λ a holds. further_yields limit (Is sep) (λ _. P) Q (token_yields sep) (λ _. entry) a room holds)
