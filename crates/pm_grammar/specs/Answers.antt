-- What tokens call for: that they are a phrase, or why they are none.
use Rattle.std.specs.Prelude.{◌≡◌, ◌≤◌, ℕ, List, [], ◌∷◌, ◌++◌, Result, Ok, Err, length}
use Rattle.pm_lexer.specs.declared.token.Token.{Token}
use Rattle.pm_grammar.specs.Language.{Gate, never, always, Phrase}
use Rattle.pm_grammar.specs.Reading.{Stop, expected, too_deep, too_many, place_of}

-- where an entry past the limit of its list may begin: nowhere, in these last tokens, or anywhere
pub data Past : Type 0 where
  nowhere : Past
  within : List Token → Past
  anywhere : Past

abbrev pub gate_of : Past → Gate
gate_of nowhere = never
gate_of (within last) = λ ts. length ts ≤ length last
gate_of anywhere = always

-- all these tokens are a phrase of this value, at most d deep
abbrev pub IsWhole : {A : Type 0} → Phrase A → ℕ → Past → List Token → A → Type 0
IsWhole P d past tokens a = P d (gate_of past) (λ found rest. (found ≡ a) × (rest ≡ [])) tokens

-- a phrase begins with `front` and `tail`, and its entries past a limit begin with `tail` or after it
abbrev pub Begins : {A : Type 0} → Phrase A → ℕ → List Token → List Token → Type 0
Begins {A} P d front tail = (more : List Token) × (value : A) × IsWhole P d (within (tail ++ more)) (front ++ (tail ++ more)) value

-- the same first token, or none
abbrev pub BeginsLike : List Token → List Token → Type 0
BeginsLike [] w = w ≡ []
BeginsLike (t ∷ ts) [] = ⊥
BeginsLike (t ∷ ts) (u ∷ us) = u ≡ t

-- p is the place of the first token with which no phrase begins, of whatever depth and with lists of whatever length
pub record ExpectedIn {A : Type 0} (P : Phrase A) (d : ℕ) (tokens : List Token) (p : ℕ) : Type 0 where
  pub front : List Token
  pub rest : List Token
  pub is : tokens ≡ front ++ rest
  pub place : p ≡ place_of rest
  pub begins : Begins P d front []
  pub none : (e : ℕ) (past : Past) (w : List Token) (value : A) → BeginsLike rest w → IsWhole P e past (front ++ w) value → ⊥

-- p is the place of the first token with which a phrase begins only if it is deeper
pub record TooDeepIn {A : Type 0} (P : Phrase A) (d : ℕ) (tokens : List Token) (p : ℕ) : Type 0 where
  pub front : List Token
  pub token : Token
  pub rest : List Token
  pub is : tokens ≡ front ++ token ∷ rest
  pub place : p ≡ token.at
  pub begins : Begins P d front []
  pub none : (past : Past) (w : List Token) (value : A) → IsWhole P d past (front ++ token ∷ w) value → ⊥
  pub depth : ℕ
  pub deeper : Begins P depth front (token ∷ [])

-- p is the place of the first token with which a phrase begins only if an entry past the limit of its list may begin there
pub record TooManyIn {A : Type 0} (P : Phrase A) (d : ℕ) (tokens : List Token) (p : ℕ) : Type 0 where
  pub front : List Token
  pub token : Token
  pub rest : List Token
  pub is : tokens ≡ front ++ token ∷ rest
  pub place : p ≡ token.at
  pub begins : Begins P d front (token ∷ [])
  pub none : (past : Past) (w : List Token) (value : A) → (gate_of past (token ∷ w) → ⊥) → IsWhole P d past (front ++ token ∷ w) value → ⊥

-- the tokens call for this answer: for the phrase that they are within the limits, or for a refusal
abbrev pub CallsFor : {A : Type 0} → Phrase A → ℕ → List Token → Result A Stop → Type 0
CallsFor P d tokens (Ok a) = IsWhole P d nowhere tokens a
CallsFor P d tokens (Err (expected p)) = ExpectedIn P d tokens p
CallsFor P d tokens (Err (too_deep p)) = TooDeepIn P d tokens p
CallsFor P d tokens (Err (too_many p)) = TooManyIn P d tokens p
