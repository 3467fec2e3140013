-- Productions by combinators: a reader, with the symbols that its phrases begin with and those that may not follow one. What a
-- combinator asks of these sets is computed.
use Rattle.std.proofs.Common.{◌≡◌, ◌⊎◌, ℕ, Bool, true, false, List, [], ◌∷◌, ◌++◌, drop, Ok, Some, None, refl, sym, inl, inr, if◌then◌else◌, ◌&&◌}
use Rattle.pm_lexer.specs.declared.token.Token.{Token}
use Rattle.pm_lexer.specs.declared.symbol.Symbol.{Symbol}
use Rattle.pm_lexer.specs.declared.symbol.Symbol.TheVariants as symbol
use Rattle.pm_lexer.specs.Symbol.{same_symbol, is}
use Rattle.pm_grammar.specs.Language.{Gate, Is, IsList, IsOptional}
use Rattle.pm_grammar.specs.Reading.{Read, ◌>>=◌, sees, token_at, optional_at}
use Rattle.pm_grammar.specs.Steps.{list_at}
use Rattle.pm_grammar.proofs.Phrases.{Phrase, Next, Avoids, Reader, NotOther, Began}
use Rattle.pm_grammar.proofs.Readers.{Then, Or, Same, pure_reader, then_reader, map_reader, token_reader, same_reader, wider_reader}
use Rattle.pm_grammar.proofs.Lists.{Peek}
use Rattle.pm_grammar.proofs.Firsts.{FirstOf, BeginsWith}
use Rattle.pm_grammar.proofs.Furthers.{choice_reader, after_reader, list_reader, token_peek}
use Rattle.pm_grammar.proofs.Helpers.{maybe_reader}
use Rattle.pm_grammar.proofs.Sets.{AnyOf, member, subset, separate, apart, within, disjoint, widened, begins_is}
use Rattle.pm_grammar.proofs.Symbols.{sample, sample_is}

-- what a phrase begins with: one of these symbols, or what follows it where it may be empty
abbrev pub Leads : {A : Type 0} → Bool → List Symbol → Phrase A → Type 1
Leads {A} empty firsts P = (d : ℕ) (g : Gate) (next : Next A) (w : List Token) → P d g next w → FirstOf (AnyOf firsts) w ⊎ ((empty ≡ true) × ((a : A) × next a w))

pub record Production {A : Type 0} (empty : Bool) (firsts ends : List Symbol) (P : Phrase A) (d : ℕ) (p : List Token → Read A) : Type 1 where
  pub reads : Reader (AnyOf ends) P d p
  pub leads : Leads empty firsts P

-- b, if a
abbrev pub implied : Bool → Bool → Bool
implied true b = b
implied false b = true

implied_is : (e b : Bool) → implied e b ≡ true → e ≡ true → b ≡ true
implied_is true b h e = h
implied_is false b h e = absurd (cc e)

-- these and those
pub in_left : (xs ys : List Symbol) (t : Token) → AnyOf xs t → AnyOf (xs ++ ys) t
in_left [] ys t h = absurd h
in_left (x ∷ xs) ys t h = elim h [ inl e ↦ inl e | inr more ↦ inr (in_left xs ys t more) ]

pub in_right : (xs ys : List Symbol) (t : Token) → AnyOf ys t → AnyOf (xs ++ ys) t
in_right [] ys t h = h
in_right (x ∷ xs) ys t h = inr (in_right xs ys t h)

-- nothing, with a value
pub done : {A : Type 0} {ends : List Symbol} {d : ℕ} (a : A) → Production true [] ends (λ _ _ next. next a) d (λ r. Ok (a, r))
done {A} {ends} {d} a = record { reads = pure_reader (AnyOf ends) d a; leads = λ d g next w h. inr (refl, (a, h)) }

-- a token, and what follows it
pub token : {B : Type 0} {e : Bool} {second ends : List Symbol} {Q : Token → Phrase B} {d : ℕ} {q : Token × List Token → Read B} (test : Token → Bool) (firsts : List Symbol) (t₀ : Token) → test t₀ ≡ true
    → ((t : Token) → test t ≡ true → AnyOf firsts t) → ((t : Token) → Production e second ends (Q t) d (λ r. q (t, r))) → Production false firsts ends (Then (λ _ _. Is test) Q) d (λ ts. token_at test ts >>= q)
token {B} {e} {second} {ends} {Q} {d} {q} test firsts t₀ e₀ to follow = record {
  reads = token_reader (AnyOf ends) test t₀ e₀ Q d q (λ t. (follow t).reads);
  leads = λ d g next w h. inl (widened (λ t. test t ≡ true) (AnyOf firsts) to w (begins_is test (λ t. Q t d g next) w h));
}

pub symbol_then : {B : Type 0} {e : Bool} {second ends : List Symbol} {Q : Token → Phrase B} {d : ℕ} {q : Token × List Token → Read B} (s : Symbol) → same_symbol s symbol.Other ≡ false
    → ((t : Token) → Production e second ends (Q t) d (λ r. q (t, r))) → Production false (s ∷ []) ends (Then (λ _ _. Is (is s)) Q) d (λ ts. token_at (is s) ts >>= q)
symbol_then s e₀ follow = token (is s) (s ∷ []) (sample s) (sample_is s e₀) (λ t e. inl e) follow

-- the same phrases with another value
pub mapped : {A B : Type 0} {e : Bool} {firsts ends : List Symbol} {P : Phrase A} {d : ℕ} {p : List Token → Read A} (f : A → B) → Production e firsts ends P d p
    → Production e firsts ends (λ d g next. P d g (λ a. next (f a))) d (λ ts. p ts >>= λ x. Ok (f x.0, x.1))
mapped {A} {B} {e} {firsts} {ends} {P} {d} {p} f first = record {
  reads = map_reader (AnyOf ends) P f d p first.reads;
  leads = λ d g next w h. elim (first.leads d g (λ a. next (f a)) w h) [ inl b ↦ inl b | inr n ↦ inr (n.0, (f n.1.0, n.1.1)) ];
}

-- a phrase after a phrase
clear : {A B : Type 0} (e : Bool) (second first ends : List Symbol) (Q : A → Phrase B) → ((a : A) → Leads e second (Q a)) → separate first second ≡ true → implied e (subset first ends) ≡ true
    → (a : A) (d : ℕ) (g : Gate) (next : Next B) → Avoids (AnyOf ends) next → (t : Token) (ts : List Token) → AnyOf first t → Q a d g next (t ∷ ts) → ⊥
clear e second first ends Q leads sep imp a d g next avoids t ts s h = elim (leads a d g next (t ∷ ts) h) [
  | inl f ↦ disjoint first second sep t s f
  | inr n ↦ avoids n.1.0 t ts (within first ends (implied_is e (subset first ends) imp n.0) t s) n.1.1
]

pub followed : {A B : Type 0} {e : Bool} {firsts first_ends second ends : List Symbol} {P : Phrase A} {Q : A → Phrase B} {d : ℕ} {p : List Token → Read A} (q : A × List Token → Read B)
    → Production false firsts first_ends P d p → ((a : A) → Production e second ends (Q a) d (λ r. q (a, r))) → separate first_ends second ≡ true → implied e (subset first_ends ends) ≡ true
    → Production false firsts ends (Then P Q) d (λ ts. p ts >>= q)
followed {A} {B} {e} {firsts} {first_ends} {second} {ends} {P} {Q} {d} {p} q first follow sep imp = record {
  reads = then_reader (AnyOf ends) (AnyOf first_ends) P Q d p q first.reads (λ a. (follow a).reads) (clear e second first_ends ends Q (λ a. (follow a).leads) sep imp);
  leads = λ d g next w h. elim (first.leads d g (λ a. Q a d g next) w h) [ inl b ↦ inl b | inr n ↦ absurd (cc n.0) ];
}

-- after a phrase that may be empty
pub maybe_followed : {A B : Type 0} {e : Bool} {firsts first_ends second ends : List Symbol} {P : Phrase A} {Q : A → Phrase B} {d : ℕ} {p : List Token → Read A} (q : A × List Token → Read B)
    → Production true firsts first_ends P d p → ((a : A) → Production e second ends (Q a) d (λ r. q (a, r))) → separate first_ends second ≡ true → implied e (subset first_ends ends) ≡ true
    → Production e (firsts ++ second) ends (Then P Q) d (λ ts. p ts >>= q)
maybe_followed {A} {B} {e} {firsts} {first_ends} {second} {ends} {P} {Q} {d} {p} q first follow sep imp = record {
  reads = then_reader (AnyOf ends) (AnyOf first_ends) P Q d p q first.reads (λ a. (follow a).reads) (clear e second first_ends ends Q (λ a. (follow a).leads) sep imp);
  leads = λ d g next w h. elim (first.leads d g (λ a. Q a d g next) w h) [
    | inl b ↦ inl (widened (AnyOf firsts) (AnyOf (firsts ++ second)) (in_left firsts second) w b)
    | inr n ↦ elim ((follow n.1.0).leads d g next w n.1.1) [ inl f ↦ inl (widened (AnyOf second) (AnyOf (firsts ++ second)) (in_right firsts second) w f) | inr m ↦ inr m ]
  ];
}

-- more symbols that may not follow, or may begin a phrase
pub wider : {A : Type 0} {e : Bool} {firsts : List Symbol} {P : Phrase A} {d : ℕ} {p : List Token → Read A} (ends more : List Symbol) → subset ends more ≡ true → Production e firsts ends P d p → Production e firsts more P d p
wider {A} {e} {firsts} {P} {d} {p} ends more sub first = record { reads = wider_reader (AnyOf ends) (AnyOf more) P d p (within ends more sub) first.reads; leads = first.leads }

pub looser : {A : Type 0} {e : Bool} {ends : List Symbol} {P : Phrase A} {d : ℕ} {p : List Token → Read A} (firsts more : List Symbol) → subset firsts more ≡ true → Production e firsts ends P d p → Production true more ends P d p
looser {A} {e} firsts more sub first = record {
  reads = first.reads;
  leads = λ d g next w h. elim (first.leads d g next w h) [ inl b ↦ inl (widened (AnyOf firsts) (AnyOf more) (within firsts more sub) w b) | inr n ↦ inr (refl, n.1) ];
}

-- the same language
pub same : {A : Type 0} {e : Bool} {firsts ends : List Symbol} {P Q : Phrase A} {d : ℕ} {p : List Token → Read A} → Same P Q → Production e firsts ends P d p → Production e firsts ends Q d p
same {A} {e} {firsts} {ends} {P} {Q} {d} {p} alike first = record { reads = same_reader (AnyOf ends) P Q d p alike first.reads; leads = λ d g next w h. first.leads d g next w (alike.from d g next w h) }

-- no phrase that begins with other symbols begins like these tokens
bars : {A : Type 0} (e : Bool) (firsts ends : List Symbol) {P : Phrase A} (test : Token → Bool) (others : List Symbol) → Leads e firsts P → ((t : Token) → test t ≡ true → AnyOf others t) → separate others firsts ≡ true
    → implied e (subset others ends) ≡ true → (ts : List Token) → sees test ts ≡ true → NotOther (AnyOf ends) P ts
bars e firsts ends test others leads to sep imp [] seen d g next w avoids heads h = absurd (let bad : false ≡ true = seen in cc)
bars e firsts ends test others leads to sep imp (t ∷ ts) seen d g next [] avoids heads h = heads
bars e firsts ends test others leads to sep imp (t ∷ ts) seen d g next (u ∷ us) avoids heads h =
    let here : AnyOf others u = to u (rw (sym heads) at seen) in
    elim (leads d g next (u ∷ us) h) [ inl f ↦ disjoint others firsts sep u here f | inr n ↦ avoids n.1.0 u us (within others ends (implied_is e (subset others ends) imp n.0) u here) n.1.1 ]

-- nor a phrase that begins with a token of the test, where none comes next
lacks : {A : Type 0} (firsts : List Symbol) {P : Phrase A} (ends : List Symbol) (test : Token → Bool) → Leads false firsts P → ((t : Token) → AnyOf firsts t → test t ≡ true) → (ts : List Token) → sees test ts ≡ false → NotOther (AnyOf ends) P ts
lacks firsts ends test leads from [] unseen d g next [] avoids heads h = elim (leads d g next [] h) [ inl f ↦ f | inr n ↦ absurd (cc n.0) ]
lacks firsts ends test leads from [] unseen d g next (u ∷ us) avoids heads h = absurd (let bad : u ∷ us ≡ [] = heads in cc)
lacks firsts ends test leads from (t ∷ ts) unseen d g next [] avoids heads h = heads
lacks firsts ends test leads from (t ∷ ts) unseen d g next (u ∷ us) avoids heads h =
    let no' : test u ≡ false = rw (sym heads) at unseen in
    elim (leads d g next (u ∷ us) h) [ inl f ↦ let yes' : test u ≡ true = from u f in cc | inr n ↦ absurd (cc n.0) ]

-- one of two, by the first token
pub either : {A : Type 0} {e : Bool} {firsts second ends : List Symbol} {P Q : Phrase A} {d : ℕ} {p q : List Token → Read A} (test : Token → Bool) → ((t : Token) → test t ≡ true → AnyOf firsts t) → ((t : Token) → AnyOf firsts t → test t ≡ true)
    → Production false firsts ends P d p → Production e second ends Q d q → separate firsts second ≡ true → implied e (subset firsts ends) ≡ true → Production e (firsts ++ second) ends (Or P Q) d (λ ts. if sees test ts then p ts else q ts)
either {A} {e} {firsts} {second} {ends} {P} {Q} {d} {p} {q} test to from first other sep imp = record {
  reads = choice_reader (AnyOf ends) P Q test d p q first.reads other.reads (bars e second ends test firsts other.leads to sep imp) (lacks firsts ends test first.leads from);
  leads = λ d g next w h. elim h [
    | inl a ↦ elim (first.leads d g next w a) [ inl f ↦ inl (widened (AnyOf firsts) (AnyOf (firsts ++ second)) (in_left firsts second) w f) | inr n ↦ absurd (cc n.0) ]
    | inr b ↦ elim (other.leads d g next w b) [ inl f ↦ inl (widened (AnyOf second) (AnyOf (firsts ++ second)) (in_right firsts second) w f) | inr n ↦ inr n ]
  ];
}

pub choose : {A : Type 0} {e : Bool} {second ends : List Symbol} {P Q : Phrase A} {d : ℕ} {p q : List Token → Read A} (s : Symbol) → Production false (s ∷ []) ends P d p → Production e second ends Q d q
    → separate (s ∷ []) second ≡ true → implied e (subset (s ∷ []) ends) ≡ true → Production e (s ∷ second) ends (Or P Q) d (λ ts. if sees (is s) ts then p ts else q ts)
choose s first other sep imp = either (is s) (λ t e. inl e) (λ t h. elim h [ inl e ↦ e | inr none ↦ absurd none ]) first other sep imp

-- a phrase after this symbol, or else another
pub after : {A : Type 0} {e e' : Bool} {firsts second ends : List Symbol} {P Q : Phrase A} {d : ℕ} {p q : List Token → Read A} (s : Symbol) → same_symbol s symbol.Other ≡ false → Production e' firsts ends P d p → Production e second ends Q d q
    → separate (s ∷ []) second ≡ true → implied e (subset (s ∷ []) ends) ≡ true → Production e (s ∷ second) ends (Or (Then (λ _ _. Is (is s)) (λ _. P)) Q) d (λ ts. if sees (is s) ts then p (drop 1 ts) else q ts)
after {A} {e} {e'} {firsts} {second} {ends} {P} {Q} {d} {p} {q} s e₀ first other sep imp = record {
  reads = same_reader (AnyOf ends) (Or Q (Then (λ _ _. Is (is s)) (λ _. P))) _ d _
      (record { to = λ d g next ts h. elim h [ inl a ↦ inr a | inr b ↦ inl b ]; from = λ d g next ts h. elim h [ inl a ↦ inr a | inr b ↦ inl b ] })
      (after_reader (AnyOf ends) (is s) (sample s) (sample_is s e₀) P Q d p q first.reads other.reads (bars e second ends (is s) (s ∷ []) other.leads (λ t e. inl e) sep imp));
  leads = λ d g next w h. elim h [
    | inl a ↦ inl (widened (λ t. is s t ≡ true) (AnyOf (s ∷ second)) (λ t e. inl e) w (begins_is (is s) (λ _. P d g next) w a))
    | inr b ↦ elim (other.leads d g next w b) [ inl f ↦ inl (widened (AnyOf second) (AnyOf (s ∷ second)) (λ t h. inr h) w f) | inr n ↦ inr n ]
  ];
}

-- a phrase after this symbol, or nothing and this value
pub optional : {A : Type 0} {e : Bool} {firsts ends : List Symbol} {P : Phrase A} {d : ℕ} {p : List Token → Read A} (s : Symbol) → same_symbol s symbol.Other ≡ false → (a : A) → Production e firsts ends P d p → subset (s ∷ []) ends ≡ true
    → Production true (s ∷ []) ends (Or (λ _ _ next. next a) (Then (λ _ _. Is (is s)) (λ _. P))) d (λ ts. if sees (is s) ts then p (drop 1 ts) else Ok (a, ts))
optional {A} {e} {firsts} {ends} {P} {d} {p} s e₀ a first sub =
    same (record { to = λ d g next ts h. elim h [ inl a ↦ inr a | inr b ↦ inl b ]; from = λ d g next ts h. elim h [ inl a ↦ inr a | inr b ↦ inl b ] }) (after s e₀ first (done a) refl sub)

-- a symbol that may stand
pub may : {d : ℕ} (s : Symbol) → same_symbol s symbol.Other ≡ false → Production true (s ∷ []) (s ∷ []) (λ _ _. IsOptional (is s)) d (λ ts. Ok (optional_at (is s) ts))
may {d} s e₀ = record {
  reads = maybe_reader (AnyOf (s ∷ [])) (is s) (sample s) (sample_is s e₀) d (λ t e. inl e);
  leads = λ d g next w h. elim h [ inl n ↦ inr (refl, (None, n)) | inr t ↦ inl (widened (λ t. is s t ≡ true) (AnyOf (s ∷ [])) (λ t e. inl e) w (begins_is (is s) (λ t. next (Some t)) w t)) ];
}

-- a phrase after this symbol, where a fact holds, or else another
pub guarded : {A : Type 0} {e e' : Bool} {firsts second ends : List Symbol} {P Q : Phrase A} {d : ℕ} {p q : List Token → Read A} (holds : Bool) (s : Symbol) → same_symbol s symbol.Other ≡ false → Production e' firsts ends P d p
    → Production e second ends Q d q → separate (s ∷ []) second ≡ true → implied e (subset (s ∷ []) ends) ≡ true
    → Production e (s ∷ second) ends (λ d g next ts. Q d g next ts ⊎ ((holds ≡ true) × Then (λ _ _. Is (is s)) (λ _. P) d g next ts)) d (λ ts. if holds && sees (is s) ts then p (drop 1 ts) else q ts)
guarded {A} {e} {e'} {firsts} {second} {ends} {P} {Q} true s e₀ first other sep imp =
    same (record { to = λ d g next ts h. elim h [ inl a ↦ inr (refl, a) | inr b ↦ inl b ]; from = λ d g next ts h. elim h [ inl b ↦ inr b | inr a ↦ inl a.1 ] }) (after s e₀ first other sep imp)
guarded {A} {e} {e'} {firsts} {second} {ends} {P} {Q} false s e₀ first other sep imp = record {
  reads = same_reader (AnyOf ends) Q _ _ _ (record { to = λ d g next ts h. inl h; from = λ d g next ts h. elim h [ inl b ↦ b | inr a ↦ absurd (cc a.0) ] }) other.reads;
  leads = λ d g next w h. elim h [
    | inl b ↦ elim (other.leads d g next w b) [ inl f ↦ inl (widened (AnyOf second) (AnyOf (s ∷ second)) (λ t h. inr h) w f) | inr n ↦ inr n ]
    | inr a ↦ absurd (cc a.0)
  ];
}

-- what the first token of a phrase says, where each of its first symbols begins one
pub peeks : {A : Type 0} {firsts ends : List Symbol} {P : Phrase A} {d : ℕ} {p : List Token → Read A} (test : Token → Bool) → ((t : Token) → test t ≡ true → AnyOf firsts t) → ((t : Token) → AnyOf firsts t → test t ≡ true)
    → Production false firsts ends P d p → ((t : Token) → AnyOf firsts t → Began P d [] (t ∷ [])) → Peek (AnyOf ends) P d (token_at test)
peeks {A} {firsts} {ends} {P} {d} test to from first began = token_peek (AnyOf ends) P test d (lacks firsts ends test first.leads from) first.reads.able (λ t e. began t (to t e))

-- one or more with separators between
pub list : {A : Type 0} {firsts ends : List Symbol} {P : Phrase A} {d : ℕ} {p : List Token → Read A} {peek : List Token → Read Token} (sep : Symbol) → same_symbol sep symbol.Other ≡ false → (limit : ℕ) → Production false firsts ends P d p
    → Peek (AnyOf ends) P d peek → member sep ends ≡ false → Production false firsts (sep ∷ ends) (λ d g. IsList g limit (P d g) (is sep)) d (list_at (is sep) peek p limit)
list {A} {firsts} {ends} {P} {d} {p} {peek} sep e₀ limit first looks out = record {
  reads = list_reader (AnyOf (sep ∷ ends)) (AnyOf ends) P (is sep) (sample sep) (sample_is sep e₀) peek limit d p first.reads looks (λ t e. inl e) (λ t s e. apart sep ends out t e s) (λ t s. inr s);
  leads = λ d g next w h. elim (first.leads d g _ w h) [ inl f ↦ inl f | inr n ↦ absurd (cc n.0) ];
}

-- three alternatives in the other order
pub reversed : {A : Type 0} (P Q R : Phrase A) → Same (Or P (Or Q R)) (Or R (Or Q P))
reversed P Q R = record {
  to = λ d g next ts h. elim h [ inl p ↦ inr (inr p) | inr o ↦ elim o [ inl q ↦ inr (inl q) | inr r ↦ inl r ] ];
  from = λ d g next ts h. elim h [ inl r ↦ inr (inr r) | inr o ↦ elim o [ inl q ↦ inr (inl q) | inr p ↦ inl p ] ];
}

-- a phrase that is not empty begins with one of its first symbols
pub begins_of : {A : Type 0} (firsts : List Symbol) {P : Phrase A} → Leads false firsts P → BeginsWith P (AnyOf firsts)
begins_of firsts leads d g next w h = elim (leads d g next w h) [ inl f ↦ f | inr n ↦ absurd (cc n.0) ]
