-- The reader of further entries after separators, and of a list.
use Rattle.std.proofs.Common.{◌≡◌, ◌≤◌, ◌<◌, ℕ, zero, suc, Bool, true, false, List, [], ◌∷◌, ◌++◌, drop, length, Ok, Err, refl, ap, arith, length-append, nat_le, if◌then◌else◌}
use Rattle.std.proofs.lemmas.Bool.Decides.{nat_tests}
use Rattle.pm_lexer.specs.declared.token.Token.{Token}
use Rattle.pm_grammar.specs.Language.{Gate, Is, IsMore, IsList}
use Rattle.pm_grammar.specs.Reading.{Stop, expected, too_many, Read, ◌>>=◌, place_of, sees, token_at, entry_at}
use Rattle.pm_grammar.specs.Steps.{more_at, list_at}
use Rattle.pm_grammar.proofs.Phrases.{Phrase, Next, Avoids, Heads, Able, Began, GoesOn, Fault, Taken, Law, Reader, Nothing, NotOther}
use Rattle.pm_grammar.proofs.Readers.{Then, Or, same_law, first_law, second_law, first_began, then_law, then_began, one_token, not_seen, pure_reader, first_fault}
use Rattle.pm_grammar.proofs.Lists.{Some, ThenSome, some_law, Peek, Further, More, Entry, None, further_same, further_able, entry_same, entry_able, more_clear, past_law}

-- no phrase begins like these tokens, whatever follows
abbrev pub NoEntry : {A : Type 0} → Phrase A → List Token → Type 1
NoEntry {A} P ts = (d : ℕ) (g : Gate) (next : Next A) (w : List Token) → Heads ts w → P d g next w → ⊥

-- What a list's reader needs to know of its separators and its entries.
pub record Parts {A S : Type 0} (T SP : Token → Type 0) (Sep : Phrase S) (P : S → Phrase A) (starts : Token → Bool) (sep : List Token → Read S) (peek : List Token → Read Token) (p : S → List Token → Read A) (d : ℕ) : Type 1 where
  pub reads_sep : Reader Nothing Sep d sep
  pub no_sep : (ts : List Token) → sees starts ts ≡ false → NoEntry Sep ts
  pub reads : (s : S) → Reader SP (P s) d (p s)
  pub looks : (s : S) → Peek SP (P s) d peek
  pub ends_list : (t : Token) → starts t ≡ true → T t
  pub apart : (d : ℕ) (g : Gate) (next : Next S) (t : Token) (ts : List Token) → SP t → Sep d g next (t ∷ ts) → ⊥
  pub within : (t : Token) → SP t → T t

pub seen_head : {A : Type 0} (T : Token → Type 0) (test : Token → Bool) (ts w : List Token) (next : Next A) (a : A) → sees test ts ≡ true → ((t : Token) → test t ≡ true → T t) → Avoids T next → Heads ts w → next a w → ⊥
seen_head T test [] w next a e inT avoids heads h = absurd (let bad : false ≡ true = e in cc)
seen_head T test (t ∷ ts) [] next a e inT avoids heads h = heads
seen_head T test (t ∷ ts) (u ∷ us) next a e inT avoids heads h = avoids a u us (rw heads (inT t e)) h

pub no_longer : {A : Type 0} {S : Token → Type 0} {P : Phrase A} {d : ℕ} (ts : List Token) (x : A × List Token) → Taken S P d ts x → length x.1 ≤ length ts
no_longer ts x t = rw t.is (omega (arith, length-append t.front x.1))

-- a phrase that is not empty leaves fewer tokens
pub shorter : {A : Type 0} {S : Token → Type 0} (P : Phrase A) (d : ℕ) → NoEntry P [] → (ts : List Token) (x : A × List Token) → Taken S P d ts x → length x.1 < length ts
shorter {A} {S} P d none ts x t = rw t.is (omega (arith, length-append t.front x.1, some t.front (λ e. empty e)))
  where
    empty : t.front ≡ [] → ⊥
    empty e =
        let next : Next A = λ _ _. Unit {0} in
        let h : P d (λ _. Unit {0}) next (t.front ++ []) = t.took.keeps d (λ _. Unit {0}) next [] (omega arith) tt in
        none d (λ _. Unit {0}) next [] refl (rw e at h)

    some : (front : List Token) → (front ≡ [] → ⊥) → 0 < length front
    some [] full = absurd (full refl)
    some (u ∷ us) full = omega arith

pub none_seen : (test : Token → Bool) (ts : List Token) → length ts ≤ 0 → sees test ts ≡ false
none_seen test [] le = refl
none_seen test (t ∷ ts) le = absurd (omega arith)

pub past : (limit n : ℕ) → nat_le limit n ≡ true → limit ≤ n
past limit n e = grind (arith, nat_tests)

pub not_past : (limit n : ℕ) → nat_le limit n ≡ false → n < limit
not_past limit n e = grind (arith, nat_tests)

-- what is refused is refused, whatever would be read after it
abbrev pub Refused : {A : Type 0} → Read Token → Stop → Read A
Refused r stop = r >>= λ _. Err stop

pub refused_bind : {A B : Type 0} (r : Read Token) (stop : Stop) (f : A × List Token → Read B) → (Refused {A = A} r stop >>= f) ≡ Refused {A = B} r stop
refused_bind (Ok x) stop f = refl
refused_bind (Err e) stop f = refl

-- the reader of further entries
module _ {A S : Type 0} {T SP : Token → Type 0} {Sep : Phrase S} {P : S → Phrase A} {starts : Token → Bool} {sep : List Token → Read S} {peek : List Token → Read Token} {p : S → List Token → Read A} {d : ℕ}
    (limit : ℕ) (k : Parts T SP Sep P starts sep peek p d) where
  stops_law : (before : List A) (ts : List Token) → sees starts ts ≡ false → Law T (Further limit Sep P before) d ts (Ok (before, ts))
  stops_law before ts e =
      same_law T _ _ d ts (Ok (before, ts)) (further_same limit Sep P before)
      (first_law T (None before) (ThenSome Sep (Entry limit Sep P before)) d ts (Ok (before, ts)) (λ d' g next w avoids heads h. k.no_sep ts e d' g _ w heads h.1) ((pure_reader T d before).law ts))

  -- a separator, and what is read after it
  goes_law : (before : List A) (ts : List Token) → sees starts ts ≡ true → (q : S × List Token → Read (List A)) → ((s : S) (r : List Token) → sep ts ≡ Ok (s, r) → Law T (Some (Entry limit Sep P before) s) d r (q (s, r)))
      → Law T (Further limit Sep P before) d ts (sep ts >>= q)
  goes_law before ts e q law =
      same_law T _ _ d ts (sep ts >>= q) (further_same limit Sep P before)
      (second_law T (None before) (ThenSome Sep (Entry limit Sep P before)) d ts (sep ts >>= q) (λ d' g next w avoids heads h. seen_head T starts ts w next before e k.ends_list avoids heads h)
      (some_law T Nothing Sep (Entry limit Sep P before) d ts (sep ts) q (k.reads_sep.law ts) law (λ s. entry_able limit Sep P before s d (k.reads s).able) (λ a d' g next avoids t us s h. s)))

  pub further_law : (m : ℕ) (before : List A) (ts : List Token) → length ts ≤ m → Law T (Further limit Sep P before) d ts (more_at starts sep peek p limit m before ts)
  unfolding more_at
  further_law zero before ts le = stops_law before ts (none_seen _ ts le)
  further_law (suc m) before ts le =
      let q : S × List Token → Read (List A) = λ s. (entry_at (nat_le limit (length before)) peek (p s.0) s.1 >>= λ a. more_at starts sep peek p limit m (before ++ a.0 ∷ []) a.1) in
      elim (sees starts ts) as (λ b. sees starts ts ≡ b → Law T (Further limit Sep P before) d ts (if b then (sep ts >>= q) else Ok (before, ts))) [
        | true ↦ λ e. goes_law before ts e q (λ s r er.
            let less = shorter Sep d (k.no_sep [] refl) ts (s, r) (rw er at (k.reads_sep.law ts)) in
            elim (nat_le limit (length before)) as (λ b. nat_le limit (length before) ≡ b → Law T (Some (Entry limit Sep P before) s) d r (entry_at b peek (p s) r >>= λ a. more_at starts sep peek p limit m (before ++ a.0 ∷ []) a.1)) [
              | true ↦ λ f. rw (refused_bind {A = A} (peek r) (too_many (place_of r)) (λ a. more_at starts sep peek p limit m (before ++ a.0 ∷ []) a.1)) (past_law T SP limit Sep P before s d peek k.within k.apart (k.looks s) (k.reads s).able (past limit (length before) f) r (peek r) refl)
              | false ↦ λ f. same_law T _ _ d r (p s r >>= λ a. more_at starts sep peek p limit m (before ++ a.0 ∷ []) a.1) (entry_same limit Sep P before s (not_past limit (length before) f))
                  (some_law T SP (P s) (More limit Sep P before) d r (p s r) (λ a. more_at starts sep peek p limit m (before ++ a.0 ∷ []) a.1) ((k.reads s).law r)
                  (λ a r' er'. further_law m (before ++ a ∷ []) r' (let shorter_still = no_longer r (a, r') (rw er' at ((k.reads s).law r)) in omega arith))
                  (λ a. further_able limit Sep P (before ++ a ∷ []) d)
                  (λ a d' g next avoids t us st h. more_clear T SP limit Sep P before k.within k.apart h.0 a d' g next avoids t us st h.1))
            ] refl)
        | false ↦ λ e. stops_law before ts e
      ] refl

-- the parts of a list whose separators are single tokens
pub list_parts : {A : Type 0} (T SP : Token → Type 0) (P : Phrase A) (sep : Token → Bool) (t₀ : Token) → sep t₀ ≡ true → (peek : List Token → Read Token) (d : ℕ) (p : List Token → Read A) → Reader SP P d p → Peek SP P d peek
    → ((t : Token) → sep t ≡ true → T t) → ((t : Token) → SP t → sep t ≡ true → ⊥) → ((t : Token) → SP t → T t) → Parts T SP (λ _ _. Is sep) (λ _. P) sep (token_at sep) peek (λ _. p) d
list_parts T SP P sep t₀ e₀ peek d p reads looks inT apart within = record {
  reads_sep = one_token sep t₀ e₀ d;
  no_sep = λ ts e d g next w heads h. not_seen sep ts w next e heads h;
  reads = λ _. reads;
  looks = λ _. looks;
  ends_list = inT;
  apart = λ d g next t ts s h. apart t s h.0;
  within = within;
}

list_clear : {A : Type 0} (T SP : Token → Type 0) (P : Phrase A) (sep : Token → Bool) (limit : ℕ) → ((t : Token) → SP t → sep t ≡ true → ⊥) → ((t : Token) → SP t → T t)
    → (a : A) (d : ℕ) (g : Gate) (next : Next (List A)) → Avoids T next → (t : Token) (ts : List Token) → SP t → (n : ℕ) → IsMore g limit (Is sep) (λ _. P d g) n (a ∷ []) next (t ∷ ts) → ⊥
unfolding IsMore
list_clear T SP P sep limit apart within a d g next avoids t ts s zero h = avoids (a ∷ []) t ts (within t s) h
list_clear T SP P sep limit apart within a d g next avoids t ts s (suc n) h = apart t s h.0

-- one or more entries with separators between
pub list_reader : {A : Type 0} (T SP : Token → Type 0) (P : Phrase A) (sep : Token → Bool) (t₀ : Token) → sep t₀ ≡ true → (peek : List Token → Read Token) (limit d : ℕ) (p : List Token → Read A) → Reader SP P d p → Peek SP P d peek
    → ((t : Token) → sep t ≡ true → T t) → ((t : Token) → SP t → sep t ≡ true → ⊥) → ((t : Token) → SP t → T t) → Reader T (λ d g. IsList g limit (P d g) sep) d (list_at sep peek p limit)
unfolding list_at
list_reader T SP P sep t₀ e₀ peek limit d p reads looks inT apart within =
    let k = list_parts T SP P sep t₀ e₀ peek d p reads looks inT apart within in
    record {
      law = λ ts. then_law T SP P (λ a. Further limit (λ _ _. Is sep) (λ _. P) (a ∷ [])) d ts (p ts) (λ first. more_at sep (token_at sep) peek (λ _. p) limit (length first.1) (first.0 ∷ []) first.1) (reads.law ts)
          (λ a r e. further_law limit k (length r) (a ∷ []) r (omega arith)) (λ a. further_able limit _ _ (a ∷ []) d)
          (λ a d' g next avoids t us s h. list_clear T SP P sep limit apart within a d' g next avoids t us s h.0 h.1);
      able = then_began (λ a. further_able limit (λ _ _. Is sep) (λ _. P) (a ∷ []) d) reads.able;
    }

-- what the first token of a phrase says, where every token that passes the test begins one
pub token_peek : {A : Type 0} (S : Token → Type 0) (P : Phrase A) (test : Token → Bool) (d : ℕ) → ((ts : List Token) → sees test ts ≡ false → NotOther S P ts) → Able P d
    → ((t : Token) → test t ≡ true → Began P d [] (t ∷ [])) → Peek S P d (token_at test)
token_peek {A} S P test d none able began = record { stops = stops; goes = goes }
  where
    err_same : {a b : Stop} → (let r : Read Token = Err a in r) ≡ Err b → a ≡ b
    err_same i = cc i

    stops : (ts : List Token) (e : Stop) → token_at test ts ≡ Err e → Fault S P d [] ts e
    stops [] e is = let same : expected 0 ≡ e = err_same is in rw (← same) (first_fault S P d [] (none [] refl) able)
    stops (t ∷ ts) e is = elim (test t) as (λ b. test t ≡ b → (let r : Read Token = if b then Ok (t, ts) else Err (expected t.at) in r) ≡ Err e → Fault S P d [] (t ∷ ts) e) [
      | true ↦ λ f i. absurd (let bad : Ok (t, ts) ≡ Err e = i in cc)
      | false ↦ λ f i. let same : expected t.at ≡ e = err_same i in rw (← same) (first_fault S P d (t ∷ ts) (none (t ∷ ts) f) able)
    ] refl is

    goes : (ts : List Token) (x : Token × List Token) → token_at test ts ≡ Ok x → GoesOn P [] ts d
    goes [] x is = absurd (let bad : Err (expected 0) ≡ Ok x = is in cc)
    goes (t ∷ ts) x is = elim (test t) as (λ b. test t ≡ b → (let r : Read Token = if b then Ok (t, ts) else Err (expected t.at) in r) ≡ Ok x → GoesOn P [] (t ∷ ts) d) [
      | true ↦ λ f i. record { token = t; others = ts; is = refl; began = began t f }
      | false ↦ λ f i. absurd (let bad : Err (expected t.at) ≡ Ok x = i in cc)
    ] refl is

-- a choice by the first token
pub choice_reader : {A : Type 0} (S : Token → Type 0) (P Q : Phrase A) (test : Token → Bool) (d : ℕ) (p q : List Token → Read A) → Reader S P d p → Reader S Q d q
    → ((ts : List Token) → sees test ts ≡ true → NotOther S Q ts) → ((ts : List Token) → sees test ts ≡ false → NotOther S P ts) → Reader S (Or P Q) d (λ ts. if sees test ts then p ts else q ts)
choice_reader {A} S P Q test d p q first second other none = record {
  law = λ ts. elim (sees test ts) as (λ b. sees test ts ≡ b → Law S (Or P Q) d ts (if b then p ts else q ts)) [
    | true ↦ λ e. first_law S P Q d ts (p ts) (other ts e) (first.law ts)
    | false ↦ λ e. second_law S P Q d ts (q ts) (none ts e) (second.law ts)
  ] refl;
  able = first_began P Q first.able;
}

-- after a token that was seen
pub seen_law : {A : Type 0} (S : Token → Type 0) (test : Token → Bool) (t : Token) (us : List Token) → test t ≡ true → (P : Phrase A) (d : ℕ) (r : Read A) → Able P d → Law S P d us r → Law S (Then (λ _ _. Is test) (λ _. P)) d (t ∷ us) r
seen_law S test t us e P d r able l =
    then_law S Nothing (λ _ _. Is test) (λ _. P) d (t ∷ us) (Ok (t, us)) (λ _. r)
    (record { front = t ∷ []; is = refl; took = record { keeps = λ d' g next w le h. (e, h); only = λ d' g next w avoids heads h. h.1 } })
    (λ a rest i. let same : us ≡ rest = rest_same rest a i in rw same at l) (λ _. able) (λ a d' g next avoids u ts s h. s)
  where
    after : Read Token → List Token
    after (Ok x) = x.1
    after (Err e) = []

    rest_same : (rest : List Token) (a : Token) → (let x : Read Token = Ok (t, us) in x) ≡ Ok (a, rest) → us ≡ rest
    rest_same rest a i = ap after i

-- a phrase after this token, or else another
pub after_reader : {A : Type 0} (S : Token → Type 0) (test : Token → Bool) (t₀ : Token) → test t₀ ≡ true → (P Q : Phrase A) (d : ℕ) (p q : List Token → Read A) → Reader S P d p → Reader S Q d q
    → ((ts : List Token) → sees test ts ≡ true → NotOther S Q ts) → Reader S (Or Q (Then (λ _ _. Is test) (λ _. P))) d (λ ts. if sees test ts then p (drop 1 ts) else q ts)
after_reader {A} S test t₀ e₀ P Q d p q first second other = record {
  law = λ ts. elim (sees test ts) as (λ b. sees test ts ≡ b → Law S (Or Q (Then (λ _ _. Is test) (λ _. P))) d ts (if b then p (drop 1 ts) else q ts)) [
    | true ↦ λ e. second_law S Q (Then (λ _ _. Is test) (λ _. P)) d ts (p (drop 1 ts)) (other ts e) (seen ts e)
    | false ↦ λ e. first_law S Q (Then (λ _ _. Is test) (λ _. P)) d ts (q ts) (λ d' g next w avoids heads h. not_seen test ts w _ e heads h) (second.law ts)
  ] refl;
  able = first_began Q (Then (λ _ _. Is test) (λ _. P)) second.able;
}
  where
    seen : (ts : List Token) → sees test ts ≡ true → Law S (Then (λ _ _. Is test) (λ _. P)) d ts (p (drop 1 ts))
    seen [] e = absurd (let bad : false ≡ true = e in cc)
    seen (t ∷ us) e = seen_law S test t us e P d (p us) first.able (first.law us)

-- a phrase after this token, or nothing and this value
pub optional_reader : {A : Type 0} (S : Token → Type 0) (test : Token → Bool) (t₀ : Token) → test t₀ ≡ true → (P : Phrase A) (a : A) (d : ℕ) (p : List Token → Read A) → Reader S P d p → ((t : Token) → test t ≡ true → S t)
    → Reader S (Or (λ _ _ next. next a) (Then (λ _ _. Is test) (λ _. P))) d (λ ts. if sees test ts then p (drop 1 ts) else Ok (a, ts))
optional_reader S test t₀ e₀ P a d p first inS =
    after_reader S test t₀ e₀ P (λ _ _ next. next a) d p (λ ts. Ok (a, ts)) first (pure_reader S d a) (λ ts e d' g next w avoids heads h. seen_head S test ts w next a e inS avoids heads h)
