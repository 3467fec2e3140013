-- Readers that agree, a token that may stand, and what the first token of a longer phrase says.
use Rattle.std.proofs.Common.{◌≡◌, ◌+◌, ℕ, Bool, true, false, List, [], ◌∷◌, ◌++◌, Ok, Err, Option, Some, None, refl, inl, inr, if◌then◌else◌, arith}
use Rattle.pm_lexer.specs.declared.token.Token.{Token}
use Rattle.pm_grammar.specs.Language.{Is, IsOptional}
use Rattle.pm_grammar.specs.Reading.{expected, Read, ◌>>=◌, sees, token_at, optional_at}
use Rattle.pm_grammar.proofs.Phrases.{Phrase, Reader, Able, Began, open_after, fault_moved, moved, weaker_began}
use Rattle.pm_grammar.proofs.Readers.{Then, Clear, Or, Same, pure_reader, then_began, same_reader, same_began, token_reader}
use Rattle.pm_grammar.proofs.Lists.{Peek}
use Rattle.pm_grammar.proofs.Furthers.{choice_reader}
use Rattle.pm_grammar.proofs.Sets.{none_stops, none_other, begins_is}

-- readings that agree
pub read_same : {A : Type 0} {S : Token → Type 0} {P : Phrase A} {d : ℕ} (p q : List Token → Read A) → ((ts : List Token) → p ts ≡ q ts) → Reader S P d p → Reader S P d q
read_same {A} {S} {P} {d} p q same r = record { law = λ ts. rw same at (r.law ts); able = r.able }

-- a token that may stand
some_of : Token × List Token → Read (Option Token)
some_of t = Ok (Some t.0, t.1)

may_read : (Token → Bool) → List Token → Read (Option Token)
may_read test ts = if sees test ts then (token_at test ts >>= λ t. some_of t) else Ok (None, ts)

may_is : (test : Token → Bool) (ts : List Token) → may_read test ts ≡ Ok (optional_at test ts)
unfolding may_read some_of
may_is test [] = refl
may_is test (t ∷ ts) = elim (test t) as (λ b. (let r : Read Token = if b then Ok (t, ts) else Err (expected t.at) in let yes : Read (Option Token) = r >>= λ t. some_of t in let no' : Read (Option Token) = Ok (None, t ∷ ts) in if b then yes else no') ≡ Ok (if b then (Some t, ts) else (None, t ∷ ts))) [ true ↦ refl | false ↦ refl ]

pub maybe_reader : (S : Token → Type 0) (test : Token → Bool) (t₀ : Token) → test t₀ ≡ true → (d : ℕ) → ((t : Token) → test t ≡ true → S t) → Reader S (λ _ _. IsOptional test) d (λ ts. Ok (optional_at test ts))
unfolding may_read some_of
maybe_reader S test t₀ e₀ d inS =
    read_same (may_read test) _ (may_is test)
    (same_reader S (Or (λ _ _ next. Is test (λ t. next (Some t))) (λ _ _ next. next None)) (λ _ _. IsOptional test) d _
    (record { to = λ d g next ts h. elim h [ inl t ↦ inr t | inr n ↦ inl n ]; from = λ d g next ts h. elim h [ inl n ↦ inr n | inr t ↦ inl t ] })
    (choice_reader S (λ _ _ next. Is test (λ t. next (Some t))) (λ _ _ next. next None) test d _ (λ ts. Ok (None, ts))
    (token_reader S test t₀ e₀ _ d _ (λ t. pure_reader S d (Some t))) (pure_reader S d None)
    (none_stops S test None inS)
    (none_other S _ (λ t. test t ≡ true) test (λ d g next w h. begins_is test (λ t. next (Some t)) w h) (λ t e. e))))

-- a phrase begins with a token and what may stand after it
pub token_began : {B : Type 0} {Q : Token → Phrase B} (test : Token → Bool) (t : Token) → test t ≡ true → (d : ℕ) → Able (Q t) d → Began (Then (λ _ _. Is test) Q) d [] (t ∷ [])
token_began {B} {Q} test t e d q = record {
  more = q.more;
  value = q.value;
  ends = λ d' g next v le o h. (e, q.ends d' g next v le (open_after g (t ∷ []) (q.more ++ v) o) h);
}

-- what the first token of a phrase and more says
pub then_peek : {A B : Type 0} (S SP : Token → Type 0) (P : Phrase A) (Q : A → Phrase B) (d : ℕ) (peek : List Token → Read Token) → Peek SP P d peek → ((a : A) → Able (Q a) d) → Clear SP S Q → Peek S (Then P Q) d peek
then_peek {A} {B} S SP P Q d peek look able clear = record {
  stops = λ ts e is. let f = look.stops ts e is in fault_moved f (λ n. d + n)
      (λ d' g next w where' avoids heads h. f.dead d' g (λ a. Q a d' g next) w where' (λ a t us s n. clear a d' g next avoids t us s n) heads h)
      (λ n tail b. then_began (λ a. weaker_began (d + n) (omega arith) (able a)) (weaker_began (d + n) (omega arith) b))
      (λ tail b. then_began able b);
  goes = λ ts x is. moved (λ tail b. then_began able b) (look.goes ts x is);
}

pub same_peek : {A : Type 0} (S : Token → Type 0) (P Q : Phrase A) (d : ℕ) (peek : List Token → Read Token) → Same P Q → Peek S P d peek → Peek S Q d peek
same_peek S P Q d peek same look = record {
  stops = λ ts e is. let f = look.stops ts e is in fault_moved f (λ n. n) (λ d' g next w where' avoids heads h. f.dead d' g next w where' avoids heads (same.from d' g next w h))
      (λ n tail b. same_began P Q same b) (λ tail b. same_began P Q same b);
  goes = λ ts x is. moved (λ tail b. same_began P Q same b) (look.goes ts x is);
}
