-- Readers made of readers.
use Rattle.std.proofs.Common.{◌≡◌, ◌≤◌, ◌+◌, ◌⊎◌, ℕ, zero, suc, Bool, true, false, List, [], ◌∷◌, ◌++◌, Ok, Err, refl, inl, inr, arith, append_assoc, if◌then◌else◌}
use Rattle.pm_lexer.specs.declared.token.Token.{Token}
use Rattle.pm_grammar.specs.Language.{Gate, Is}
use Rattle.pm_grammar.specs.Reading.{expected, Read, ◌>>=◌, place_of, sees, token_at}
use Rattle.pm_grammar.proofs.Phrases.{Phrase, Next, Avoids, Heads, heads_under, Took, Able, Began, Cause, no_phrase, deeper, longer, Where, Fault, Taken, Law, Reader, Nothing, NotOther, Open, open_after, weaker_began, fault_moved}

-- nothing, with a value
pub pure_reader : {A : Type 0} (S : Token → Type 0) (d : ℕ) (a : A) → Reader S (λ _ _ next. next a) d (λ r. Ok (a, r))
pure_reader S d a = record {
  law = λ ts. record { front = []; is = refl; took = record { keeps = λ d' g next w le h. h; only = λ d' g next w avoids heads h. h } };
  able = record { more = []; value = a; ends = λ d' g next v le o h. h };
}

-- a fault at the first token: no phrase begins like these tokens
pub first_fault : {A : Type 0} (S : Token → Type 0) (P : Phrase A) (d : ℕ) (ts : List Token) → NotOther S P ts → Able P d → Fault S P d [] ts (expected (place_of ts))
first_fault S P d ts none able = record { cause = no_phrase; place = refl; dead = λ d' g next w _ avoids heads h. none d' g next w avoids heads h; viable = able; goes = tt }

-- a token
pub token_able : (test : Token → Bool) (t : Token) → test t ≡ true → (d : ℕ) → Able (λ _ _. Is test) d
token_able test t e d = record { more = t ∷ []; value = t; ends = λ d' g next v le o h. (e, h) }

pub not_seen : (test : Token → Bool) (ts w : List Token) (next : Next Token) → sees test ts ≡ false → Heads ts w → Is test next w → ⊥
not_seen test ts [] next e heads h = h
not_seen test [] (u ∷ us) next e heads h = absurd (let bad : u ∷ us ≡ [] = heads in cc)
not_seen test (t ∷ ts) (u ∷ us) next e heads h = let no : test u ≡ false = rw heads e in let yes : test u ≡ true = h.0 in cc

pub token_law : (test : Token → Bool) (t₀ : Token) → test t₀ ≡ true → (d : ℕ) (ts : List Token) → Law Nothing (λ _ _. Is test) d ts (token_at test ts)
token_law test t₀ e₀ d [] = record {
  front = [];
  rest = [];
  is = refl;
  fault = first_fault Nothing (λ _ _. Is test) d [] (λ d' g next w avoids heads h. not_seen test [] w next refl heads h) (token_able test t₀ e₀ d);
}
token_law test t₀ e₀ d (t ∷ ts) =
    elim (test t) as (λ b. test t ≡ b → Law Nothing (λ _ _. Is test) d (t ∷ ts) (if b then Ok (t, ts) else Err (expected t.at))) [
      | true ↦ λ e. record {
        front = t ∷ [];
        is = refl;
        took = record { keeps = λ d' g next w le h. (e, h); only = λ d' g next w avoids heads h. h.1 };
      }
      | false ↦ λ e. record {
        front = [];
        rest = t ∷ ts;
        is = refl;
        fault = first_fault Nothing (λ _ _. Is test) d (t ∷ ts) (λ d' g next w avoids heads h. not_seen test (t ∷ ts) w next e heads h) (token_able test t₀ e₀ d);
      }
    ] refl

pub one_token : (test : Token → Bool) (t₀ : Token) → test t₀ ≡ true → (d : ℕ) → Reader Nothing (λ _ _. Is test) d (token_at test)
one_token test t₀ e₀ d = record { law = token_law test t₀ e₀ d; able = token_able test t₀ e₀ d }

-- one after the other
abbrev pub Then : {A B : Type 0} → Phrase A → (A → Phrase B) → Phrase B
Then P Q d g next = P d g (λ a. Q a d g next)

-- what follows a phrase of P does not begin as one that P's reader would go on at
abbrev pub Clear : {A B : Type 0} → (Token → Type 0) → (Token → Type 0) → (A → Phrase B) → Type 1
Clear {A} {B} SP S Q = (a : A) (d' : ℕ) (g : Gate) (next : Next B) → Avoids S next → (t : Token) (ts : List Token) → SP t → Q a d' g next (t ∷ ts) → ⊥

-- what begins in one language begins in a wider one
pub began_moved : {A : Type 0} (P Q : Phrase A) {d : ℕ} {front tail : List Token} → ((d' : ℕ) (g : Gate) (next : Next A) (w : List Token) → P d' g next w → Q d' g next w) → Began P d front tail → Began Q d front tail
began_moved P Q to v = record { more = v.more; value = v.value; ends = λ d' g next w le o h. to d' g next _ (v.ends d' g next w le o h) }

-- what is right of one language is right of another, where their phrases that begin like these tokens are the same
pub law_moved : {A : Type 0} (S T : Token → Type 0) (P Q : Phrase A) (d : ℕ) (ts : List Token) (r : Read A) → ((d' : ℕ) (g : Gate) (next : Next A) (w : List Token) → P d' g next w → Q d' g next w)
    → ((d' : ℕ) (g : Gate) (next : Next A) (w : List Token) → Avoids T next → Heads ts w → Q d' g next w → P d' g next w) → ((t : Token) → S t → T t) → Law S P d ts r → Law T Q d ts r
law_moved S T P Q d ts (Ok x) to from sub l = record {
  front = l.front;
  is = l.is;
  took = record {
    keeps = λ d' g next w le h. to d' g next _ (l.took.keeps d' g next w le h);
    only = λ d' g next w avoids heads h. l.took.only d' g next w (λ a t us s n. avoids a t us (sub t s) n) heads (from d' g next _ avoids (rw l.is (heads_under l.front x.1 w heads)) h);
  };
}
law_moved S T P Q d ts (Err e) to from sub l = record {
  front = l.front;
  rest = l.rest;
  is = l.is;
  fault = fault_moved l.fault (λ n. n)
      (λ d' g next w where' avoids heads h. l.fault.dead d' g next w where' (λ a t us s n. avoids a t us (sub t s) n) heads (from d' g next _ avoids (rw l.is (heads_under l.front l.rest w heads)) h))
      (λ n tail b. began_moved P Q to b) (λ tail b. began_moved P Q to b);
}

-- the same language
pub record Same {A : Type 0} (P Q : Phrase A) : Type 1 where
  pub to : (d : ℕ) (g : Gate) (next : Next A) (ts : List Token) → P d g next ts → Q d g next ts
  pub from : (d : ℕ) (g : Gate) (next : Next A) (ts : List Token) → Q d g next ts → P d g next ts

pub same_began : {A : Type 0} (P Q : Phrase A) {d : ℕ} {front tail : List Token} → Same P Q → Began P d front tail → Began Q d front tail
same_began P Q same v = began_moved P Q same.to v

pub same_law : {A : Type 0} (S : Token → Type 0) (P Q : Phrase A) (d : ℕ) (ts : List Token) (r : Read A) → Same P Q → Law S P d ts r → Law S Q d ts r
same_law S P Q d ts r same l = law_moved S S P Q d ts r same.to (λ d' g next w avoids heads h. same.from d' g next w h) (λ t s. s) l

joined : (ts front rest second others : List Token) → ts ≡ front ++ rest → rest ≡ second ++ others → ts ≡ (front ++ second) ++ others
joined ts front rest second others e f = rw (e, f, append_assoc) refl

-- A phrase, and then one of several languages, which is chosen before the phrase.
abbrev pub Some : {A B I : Type 0} → (I → A → Phrase B) → A → Phrase B
Some {A} {B} {I} R a d g next ts = (i : I) × R i a d g next ts

abbrev pub ThenSome : {A B I : Type 0} → Phrase A → (I → A → Phrase B) → Phrase B
ThenSome {A} {B} {I} P R d g next ts = (i : I) × P d g (λ a. R i a d g next) ts

some_after : {A B I : Type 0} {SP : Token → Type 0} {P : Phrase A} (R : I → A → Phrase B) {d : ℕ} {front rest : List Token} {a : A} (e : ℕ) (second tail : List Token)
    → Took SP P d front rest a → d ≤ e → Began (Some R a) e second tail → Began (ThenSome P R) e (front ++ second) tail
some_after {A} {B} {I} {SP} {P} R {d} {front} {rest} {a} e second tail took le v = record {
  more = v.more;
  value = v.value;
  ends = λ d' g next w h o n. let r = v.ends d' g next w h o n in (r.0, rw append_assoc (took.keeps d' g (λ x. R r.0 x d' g next) (second ++ (tail ++ (v.more ++ w))) (omega arith) r.1));
}

some_began : {A B I : Type 0} {P : Phrase A} (R : I → A → Phrase B) {d : ℕ} {front tail : List Token} → ((a : A) → Able (Some R a) d) → Began P d front tail → Began (ThenSome P R) d front tail
some_began {A} {B} {I} {P} R {d} {front} {tail} q v = record {
  more = v.more ++ (q v.value).more;
  value = (q v.value).value;
  ends = λ d' g next w le o h.
      let o' : Open g (tail ++ (v.more ++ ((q v.value).more ++ w))) = rw append_assoc at o in
      let r = (q v.value).ends d' g next w le (open_after g v.more _ (open_after g tail _ o')) h in
      (r.0, rw append_assoc (v.ends d' g (λ a. R r.0 a d' g next) ((q v.value).more ++ w) le o' r.1));
}

some_dead : {A B I : Type 0} (S SP : Token → Type 0) (P : Phrase A) (R : I → A → Phrase B) {d : ℕ} {front rest : List Token} {a : A} → Took SP P d front rest a → Clear SP S (Some R)
    → (second others : List Token) → rest ≡ second ++ others → (d' : ℕ) (g : Gate) (next : Next B) (w : List Token) → Avoids S next → Heads others w → ThenSome P R d' g next ((front ++ second) ++ w) → Some R a d' g next (second ++ w)
some_dead {A} {B} {I} S SP P R {d} {front} {rest} {a} took clear second others is d' g next w avoids heads h =
    (h.0, took.only d' g (λ x. R h.0 x d' g next) (second ++ w) (λ x t ts s q. clear x d' g next avoids t ts s (h.0, q)) (rw is (heads_under second others w heads)) (rw append_assoc at h.1))

some_after_law : {A B I : Type 0} (S SP : Token → Type 0) (P : Phrase A) (R : I → A → Phrase B) {d : ℕ} {ts : List Token} (x : A × List Token) (r : Read B) → Taken SP P d ts x → Clear SP S (Some R)
    → Law S (Some R x.0) d x.1 r → Law S (ThenSome P R) d ts r
some_after_law {A} {B} {I} S SP P R {d} {ts} x (Ok y) t clear l = record {
  front = t.front ++ l.front;
  is = joined ts t.front x.1 l.front y.1 t.is l.is;
  took = record {
    keeps = λ d' g next w le h. let r = l.took.keeps d' g next w le h in (r.0, rw append_assoc (t.took.keeps d' g (λ a. R r.0 a d' g next) (l.front ++ w) le r.1));
    only = λ d' g next w avoids heads h. l.took.only d' g next w avoids heads (some_dead S SP P R t.took clear l.front y.1 l.is d' g next w avoids heads h);
  };
}
some_after_law {A} {B} {I} S SP P R {d} {ts} x (Err e) t clear l = record {
  front = t.front ++ l.front;
  rest = l.rest;
  is = joined ts t.front x.1 l.front l.rest t.is l.is;
  fault = fault_moved l.fault (λ n. d + n)
      (λ d' g next w where' avoids heads h. l.fault.dead d' g next w where' avoids heads (some_dead S SP P R t.took clear l.front l.rest l.is d' g next w avoids heads h))
      (λ n tail b. some_after R (d + n) l.front tail t.took (omega arith) (weaker_began (d + n) (omega arith) b))
      (λ tail b. some_after R d l.front tail t.took (omega arith) b);
}

pub some_law : {A B I : Type 0} (S SP : Token → Type 0) (P : Phrase A) (R : I → A → Phrase B) (d : ℕ) (ts : List Token) (p : Read A) (q : A × List Token → Read B) → Law SP P d ts p
    → ((a : A) (r : List Token) → p ≡ Ok (a, r) → Law S (Some R a) d r (q (a, r))) → ((a : A) → Able (Some R a) d) → Clear SP S (Some R) → Law S (ThenSome P R) d ts (p >>= q)
some_law {A} {B} {I} S SP P R d ts (Ok x) q lp lq able clear = some_after_law S SP P R x (q x) lp clear (lq x.0 x.1 refl)
some_law {A} {B} {I} S SP P R d ts (Err e) q lp lq able clear = record {
  front = lp.front;
  rest = lp.rest;
  is = lp.is;
  fault = fault_moved lp.fault (λ n. d + n)
      (λ d' g next w where' avoids heads h. lp.fault.dead d' g (λ a. R h.0 a d' g next) w where' (λ a t ts s n. clear a d' g next avoids t ts s (h.0, n)) heads h.1)
      (λ n tail b. some_began R (λ a. weaker_began (d + n) (omega arith) (able a)) (weaker_began (d + n) (omega arith) b))
      (λ tail b. some_began R able b);
}

-- one language needs no choice
some_able : {A B : Type 0} (Q : A → Phrase B) (a : A) (d : ℕ) → Able (Q a) d → Able (Some {I = Unit {0}} (λ _. Q) a) d
some_able Q a d able = began_moved (Q a) (Some {I = Unit {0}} (λ _. Q) a) (λ d' g next w h. (tt, h)) able

some_one : {A B : Type 0} (S : Token → Type 0) (Q : A → Phrase B) (a : A) (d : ℕ) (ts : List Token) (r : Read B) → Law S (Q a) d ts r → Law S (Some {I = Unit {0}} (λ _. Q) a) d ts r
some_one S Q a d ts r l = law_moved S S (Q a) (Some {I = Unit {0}} (λ _. Q) a) d ts r (λ d' g next w h. (tt, h)) (λ d' g next w avoids heads h. h.1) (λ t s. s) l

chosen : {A B : Type 0} (P : Phrase A) (Q : A → Phrase B) → Same (ThenSome {I = Unit {0}} P (λ _. Q)) (Then P Q)
chosen P Q = record { to = λ d g next ts h. h.1; from = λ d g next ts h. (tt, h) }

pub then_began : {A B : Type 0} {P : Phrase A} {Q : A → Phrase B} {d : ℕ} {front tail : List Token} → ((a : A) → Able (Q a) d) → Began P d front tail → Began (Then P Q) d front tail
then_began {A} {B} {P} {Q} {d} {front} {tail} q v = same_began _ (Then P Q) (chosen P Q) (some_began {I = Unit {0}} (λ _. Q) (λ a. some_able Q a d (q a)) v)

-- a reader after a reader
pub then_law : {A B : Type 0} (S SP : Token → Type 0) (P : Phrase A) (Q : A → Phrase B) (d : ℕ) (ts : List Token) (p : Read A) (q : A × List Token → Read B) → Law SP P d ts p
    → ((a : A) (r : List Token) → p ≡ Ok (a, r) → Law S (Q a) d r (q (a, r))) → ((a : A) → Able (Q a) d) → Clear SP S Q → Law S (Then P Q) d ts (p >>= q)
then_law S SP P Q d ts p q lp lq able clear =
    same_law S _ (Then P Q) d ts (p >>= q) (chosen P Q)
    (some_law {I = Unit {0}} S SP P (λ _. Q) d ts p q lp (λ a r e. some_one S Q a d r (q (a, r)) (lq a r e)) (λ a. some_able Q a d (able a)) (λ a d' g next avoids t us s h. clear a d' g next avoids t us s h.1))

pub then_reader : {A B : Type 0} (S SP : Token → Type 0) (P : Phrase A) (Q : A → Phrase B) (d : ℕ) (p : List Token → Read A) (q : A × List Token → Read B) → Reader SP P d p
    → ((a : A) → Reader S (Q a) d (λ r. q (a, r))) → Clear SP S Q → Reader S (Then P Q) d (λ ts. p ts >>= q)
then_reader S SP P Q d p q first second clear = record {
  law = λ ts. then_law S SP P Q d ts (p ts) q (first.law ts) (λ a r _. (second a).law r) (λ a. (second a).able) clear;
  able = then_began (λ a. (second a).able) first.able;
}

pub token_reader : {B : Type 0} (S : Token → Type 0) (test : Token → Bool) (t₀ : Token) → test t₀ ≡ true → (Q : Token → Phrase B) (d : ℕ) (q : Token × List Token → Read B) → ((t : Token) → Reader S (Q t) d (λ r. q (t, r)))
    → Reader S (Then (λ _ _. Is test) Q) d (λ ts. token_at test ts >>= q)
token_reader S test t₀ e₀ Q d q second = then_reader S Nothing (λ _ _. Is test) Q d (token_at test) q (one_token test t₀ e₀ d) second (λ a d' g next avoids t ts s h. s)

pub map_reader : {A B : Type 0} (S : Token → Type 0) (P : Phrase A) (f : A → B) (d : ℕ) (p : List Token → Read A) → Reader S P d p → Reader S (λ d g next. P d g (λ a. next (f a))) d (λ ts. p ts >>= λ x. Ok (f x.0, x.1))
map_reader S P f d p first = then_reader S S P (λ a _ _ next. next (f a)) d p (λ x. Ok (f x.0, x.1)) first (λ a. pure_reader S d (f a)) (λ a d' g next avoids t ts s h. avoids (f a) t ts s h)

pub same_reader : {A : Type 0} (S : Token → Type 0) (P Q : Phrase A) (d : ℕ) (p : List Token → Read A) → Same P Q → Reader S P d p → Reader S Q d p
same_reader S P Q d p same r = record { law = λ ts. same_law S P Q d ts (p ts) same (r.law ts); able = same_began P Q same r.able }

-- one of two languages, where no phrase of the other begins like these tokens
abbrev pub Or : {A : Type 0} → Phrase A → Phrase A → Phrase A
Or P Q d g next ts = P d g next ts ⊎ Q d g next ts

pub second_began : {A : Type 0} (P Q : Phrase A) {d : ℕ} {front tail : List Token} → Began Q d front tail → Began (Or P Q) d front tail
second_began P Q v = began_moved Q (Or P Q) (λ d' g next w h. inr h) v

pub first_began : {A : Type 0} (P Q : Phrase A) {d : ℕ} {front tail : List Token} → Began P d front tail → Began (Or P Q) d front tail
first_began P Q v = began_moved P (Or P Q) (λ d' g next w h. inl h) v

pub second_law : {A : Type 0} (S : Token → Type 0) (P Q : Phrase A) (d : ℕ) (ts : List Token) (r : Read A) → NotOther S P ts → Law S Q d ts r → Law S (Or P Q) d ts r
second_law S P Q d ts r other l =
    law_moved S S Q (Or P Q) d ts r (λ d' g next w h. inr h) (λ d' g next w avoids heads h. elim h [ inl p ↦ absurd (other d' g next w avoids heads p) | inr q ↦ q ]) (λ t s. s) l

pub first_law : {A : Type 0} (S : Token → Type 0) (P Q : Phrase A) (d : ℕ) (ts : List Token) (r : Read A) → NotOther S Q ts → Law S P d ts r → Law S (Or P Q) d ts r
first_law S P Q d ts r other l =
    law_moved S S P (Or P Q) d ts r (λ d' g next w h. inl h) (λ d' g next w avoids heads h. elim h [ inl p ↦ p | inr q ↦ absurd (other d' g next w avoids heads q) ]) (λ t s. s) l

-- one level deeper
abbrev pub Under : {A : Type 0} → Phrase A → Phrase A
Under P zero g next ts = ⊥
Under P (suc d) g next ts = P d g next ts

pub under_began : {A : Type 0} (P : Phrase A) {d : ℕ} {front tail : List Token} → Began P d front tail → Began (Under P) (suc d) front tail
under_began {A} P {d} {front} {tail} v = record {
  more = v.more;
  value = v.value;
  ends = λ d'. elim d' as (λ n. (g : Gate) (next : Next A) (w : List Token) → suc d ≤ n → Open g (tail ++ (v.more ++ w)) → next v.value w → Under P n g next (front ++ (tail ++ (v.more ++ w)))) [
    | zero ↦ λ g next w le o h. absurd (omega arith)
    | suc n ↦ λ g next w le o h. v.ends n g next w (omega arith) o h
  ];
}

where_under : (cause : Cause) (d n : ℕ) (g : Gate) (w : List Token) → Where cause (suc d) (suc n) g w → Where cause d n g w
where_under no_phrase d n g w h = tt
where_under deeper d n g w h = omega arith
where_under longer d n g w h = h

pub under_law : {A : Type 0} (S : Token → Type 0) (P : Phrase A) (d : ℕ) (ts : List Token) (r : Read A) → Law S P d ts r → Law S (Under P) (suc d) ts r
under_law {A} S P d ts (Ok x) l = record {
  front = l.front;
  is = l.is;
  took = record {
    keeps = λ d'. elim d' as (λ n. (g : Gate) (next : Next A) (w : List Token) → suc d ≤ n → next x.0 w → Under P n g next (l.front ++ w)) [
      | zero ↦ λ g next w le h. absurd (omega arith)
      | suc n ↦ λ g next w le h. l.took.keeps n g next w (omega arith) h
    ];
    only = λ d'. elim d' as (λ n. (g : Gate) (next : Next A) (w : List Token) → Avoids S next → Heads x.1 w → Under P n g next (l.front ++ w) → next x.0 w) [
      | zero ↦ λ g next w avoids heads h. absurd h
      | suc n ↦ λ g next w avoids heads h. l.took.only n g next w avoids heads h
    ];
  };
}
under_law {A} S P d ts (Err e) l = record {
  front = l.front;
  rest = l.rest;
  is = l.is;
  fault = fault_moved l.fault suc
      (λ d'. elim d' as (λ n. (g : Gate) (next : Next A) (w : List Token) → Where l.fault.cause (suc d) n g w → Avoids S next → Heads l.rest w → Under P n g next (l.front ++ w) → ⊥) [
        | zero ↦ λ g next w where' avoids heads h. h
        | suc n ↦ λ g next w where' avoids heads h. l.fault.dead n g next w (where_under l.fault.cause d n g w where') avoids heads h
      ])
      (λ n tail b. under_began P b) (λ tail b. under_began P b);
}

pub under_reader : {A : Type 0} (S : Token → Type 0) (P : Phrase A) (d : ℕ) (p : List Token → Read A) → Reader S P d p → Reader S (Under P) (suc d) p
under_reader S P d p r = record { law = λ ts. under_law S P d ts (p ts) (r.law ts); able = under_began P r.able }

-- the same reader, with more tokens that may not follow
pub wider_reader : {A : Type 0} (S W : Token → Type 0) (P : Phrase A) (d : ℕ) (p : List Token → Read A) → ((t : Token) → S t → W t) → Reader S P d p → Reader W P d p
wider_reader S W P d p sub r = record { law = λ ts. law_moved S W P P d ts (p ts) (λ d' g next w h. h) (λ d' g next w avoids heads h. h) sub (r.law ts); able = r.able }
