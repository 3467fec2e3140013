-- What tokens are to a language: a phrase, the beginning of one, or where none goes on.
use Rattle.std.proofs.Common.{◌≡◌, ◌≤◌, ℕ, List, [], ◌∷◌, ◌++◌, length, Ok, Err, refl, arith, length-append}
use Rattle.pm_lexer.specs.declared.token.Token.{Token}
use Rattle.pm_grammar.specs.Language.{Gate}
pub use Rattle.pm_grammar.specs.Language.{Phrase}
use Rattle.pm_grammar.specs.Reading.{Stop, expected, too_deep, too_many, Read, place_of}
use Rattle.pm_grammar.specs.Answers.{BeginsLike}

abbrev pub Next : Type 0 → Type 1
Next A = A → List Token → Type 0

-- what follows begins with no token of this set
abbrev pub Avoids : {A : Type 0} → (Token → Type 0) → Next A → Type 0
Avoids {A} S next = (a : A) (t : Token) (ts : List Token) → S t → next a (t ∷ ts) → ⊥

-- two lists of tokens that begin alike
abbrev pub Heads : List Token → List Token → Type 0
Heads ts w = BeginsLike ts w

pub heads_under : (front rest w : List Token) → Heads rest w → Heads (front ++ rest) (front ++ w)
heads_under [] rest w h = h
heads_under (t ∷ front) rest w h = refl

pub heads_same : (ts : List Token) → Heads ts ts
heads_same [] = refl
heads_same (t ∷ ts) = refl

-- these tokens are a phrase of this value, and the only one where what follows begins like the rest
pub record Took {A : Type 0} (S : Token → Type 0) (P : Phrase A) (d : ℕ) (front rest : List Token) (a : A) : Type 1 where
  pub keeps : (d' : ℕ) (g : Gate) (next : Next A) (w : List Token) → d ≤ d' → next a w → P d' g next (front ++ w)
  pub only : (d' : ℕ) (g : Gate) (next : Next A) (w : List Token) → Avoids S next → Heads rest w → P d' g next (front ++ w) → next a w

-- the gate is open from where these tokens are left on
abbrev pub Open : Gate → List Token → Type 0
Open g rest = (ts : List Token) → length ts ≤ length rest → g ts

pub open_after : (g : Gate) (front rest : List Token) → Open g (front ++ rest) → Open g rest
open_after g front rest o ts h = o ts (omega (arith, length-append front rest))

-- these two begin a phrase, of which the entries past their limit may begin from the second on
pub record Began {A : Type 0} (P : Phrase A) (d : ℕ) (front tail : List Token) : Type 1 where
  pub more : List Token
  pub value : A
  pub ends : (d' : ℕ) (g : Gate) (next : Next A) (v : List Token) → d ≤ d' → Open g (tail ++ (more ++ v)) → next value v → P d' g next (front ++ (tail ++ (more ++ v)))

-- there is a phrase
abbrev pub Able : {A : Type 0} → Phrase A → ℕ → Type 1
Able P d = Began P d [] []

-- why no phrase goes on
pub data Cause : Type 0 where
  no_phrase : Cause
  deeper : Cause
  longer : Cause

abbrev pub stop_at : Cause → ℕ → Stop
stop_at no_phrase p = expected p
stop_at deeper p = too_deep p
stop_at longer p = too_many p

-- the limits within which none does, where these tokens are left
abbrev pub Where : Cause → ℕ → ℕ → Gate → List Token → Type 0
Where no_phrase d d' g rest = Unit {0}
Where deeper d d' g rest = d' ≡ d
Where longer d d' g rest = (ts : List Token) → length rest ≤ length ts → g ts → ⊥

-- with the next token a phrase begins whose limits are wider
pub record GoesOn {A : Type 0} (P : Phrase A) (front rest : List Token) (d : ℕ) : Type 1 where
  pub token : Token
  pub others : List Token
  pub is : rest ≡ token ∷ others
  pub began : Began P d front (token ∷ [])

abbrev pub Goes : {A : Type 0} → Phrase A → ℕ → List Token → List Token → Cause → Type 1
Goes P d front rest no_phrase = Unit {1}
Goes P d front rest deeper = (e : ℕ) × GoesOn P front rest e
Goes P d front rest longer = GoesOn P front rest d

-- these tokens begin a phrase, and with the next one they begin none within the limits
pub record Fault {A : Type 0} (S : Token → Type 0) (P : Phrase A) (d : ℕ) (front rest : List Token) (e : Stop) : Type 1 where
  pub cause : Cause
  pub place : e ≡ stop_at cause (place_of rest)
  pub dead : (d' : ℕ) (g : Gate) (next : Next A) (w : List Token) → Where cause d d' g w → Avoids S next → Heads rest w → P d' g next (front ++ w) → ⊥
  pub viable : Began P d front []
  pub goes : Goes P d front rest cause

pub record Taken {A : Type 0} (S : Token → Type 0) (P : Phrase A) (d : ℕ) (ts : List Token) (x : A × List Token) : Type 1 where
  pub front : List Token
  pub is : ts ≡ front ++ x.1
  pub took : Took S P d front x.1 x.0

pub record Faulted {A : Type 0} (S : Token → Type 0) (P : Phrase A) (d : ℕ) (ts : List Token) (e : Stop) : Type 1 where
  pub front : List Token
  pub rest : List Token
  pub is : ts ≡ front ++ rest
  pub fault : Fault S P d front rest e

-- what a reading answers is right
abbrev pub Law : {A : Type 0} → (Token → Type 0) → Phrase A → ℕ → List Token → Read A → Type 1
Law S P d ts (Ok x) = Taken S P d ts x
Law S P d ts (Err e) = Faulted S P d ts e

-- a reader of a language: it is right at all tokens, and the language has a phrase
pub record Reader {A : Type 0} (S : Token → Type 0) (P : Phrase A) (d : ℕ) (p : List Token → Read A) : Type 1 where
  pub law : (ts : List Token) → Law S P d ts (p ts)
  pub able : Able P d

abbrev pub Nothing : Token → Type 0
Nothing t = ⊥

-- no phrase begins like these tokens
abbrev pub NotOther : {A : Type 0} → (Token → Type 0) → Phrase A → List Token → Type 1
NotOther {A} S P ts = (d : ℕ) (g : Gate) (next : Next A) (w : List Token) → Avoids S next → Heads ts w → P d g next w → ⊥

pub weaker_began : {A : Type 0} {P : Phrase A} {d : ℕ} {front tail : List Token} (e : ℕ) → d ≤ e → Began P d front tail → Began P e front tail
weaker_began e le b = record { more = b.more; value = b.value; ends = λ d' g next v h o n. b.ends d' g next v (omega arith) o n }

-- what goes on in one language goes on in another
pub moved : {A B : Type 0} {P : Phrase A} {Q : Phrase B} {front second rest : List Token} {n m : ℕ} → ((tail : List Token) → Began P n front tail → Began Q m second tail)
    → GoesOn P front rest n → GoesOn Q second rest m
moved carry g = record { token = g.token; others = g.others; is = g.is; began = carry (g.token ∷ []) g.began }

pub goes_moved : {A B : Type 0} (P : Phrase A) (Q : Phrase B) (d e : ℕ) (front second rest : List Token) (cause : Cause) (up : ℕ → ℕ)
    → ((n : ℕ) (tail : List Token) → Began P n front tail → Began Q (up n) second tail) → ((tail : List Token) → Began P d front tail → Began Q e second tail)
    → Goes P d front rest cause → Goes Q e second rest cause
goes_moved P Q d e front second rest no_phrase up deep flat g = tt
goes_moved P Q d e front second rest deeper up deep flat g = (up g.0, moved (deep g.0) g.1)
goes_moved P Q d e front second rest longer up deep flat g = moved flat g

-- a fault that is met in another language
pub fault_moved : {A B : Type 0} {S T : Token → Type 0} {P : Phrase A} {Q : Phrase B} {d e : ℕ} {front second rest : List Token} {stop : Stop} (f : Fault S P d front rest stop) (up : ℕ → ℕ)
    → ((d' : ℕ) (g : Gate) (next : Next B) (w : List Token) → Where f.cause e d' g w → Avoids T next → Heads rest w → Q d' g next (second ++ w) → ⊥)
    → ((n : ℕ) (tail : List Token) → Began P n front tail → Began Q (up n) second tail) → ((tail : List Token) → Began P d front tail → Began Q e second tail)
    → Fault T Q e second rest stop
fault_moved {A} {B} {S} {T} {P} {Q} {d} {e} {front} {second} {rest} {stop} f up dead deep flat = record { cause = f.cause; place = f.place; dead = dead; viable = flat [] f.viable; goes = goes_moved P Q d e front second rest f.cause up deep flat f.goes }
