-- Readers of clauses that begin with one separator, and of a list before them whose separator it is too.
use Rattle.std.proofs.Common.{◌≡◌, ◌≤◌, ◌<◌, ◌⊎◌, ℕ, zero, suc, Bool, true, false, List, [], ◌∷◌, ◌++◌, drop, length, Option, Some, None, Ok, Err, refl, sym, inl, inr, arith, nat_le, ◌&&◌, if◌then◌else◌}
use Rattle.pm_lexer.specs.declared.token.Token.{Token}
use Rattle.pm_grammar.specs.Language.{Gate, Is, IsMore, IsClause}
use Rattle.pm_grammar.specs.Reading.{too_many, Read, ◌>>=◌, place_of, sees, limited_at, clause_at}
use Rattle.pm_grammar.specs.Steps.{more_while}
use Rattle.pm_grammar.proofs.Phrases.{Phrase, Next, Avoids, Able, Began, Law, Reader, Nothing, longer}
use Rattle.pm_grammar.proofs.Readers.{Then, Or, Same, same_law, first_law, second_law, same_reader, then_law, then_reader, then_began, first_began, pure_reader, map_reader, not_seen}
use Rattle.pm_grammar.proofs.Lists.{Further, More, Entry, further_able, entry_began, ThenSome, some_law}
use Rattle.pm_grammar.proofs.Lists.{Some as SomeOf}
use Rattle.pm_grammar.proofs.Furthers.{after_reader, optional_reader, seen_head, past, not_past, no_longer}
use Rattle.pm_grammar.proofs.Firsts.{FirstOf, BeginsWith, bars, seen_law}
use Rattle.pm_grammar.proofs.Sets.{none_other, widened}
use Rattle.pm_grammar.proofs.Helpers.{read_same}
use Rattle.pm_grammar.proofs.Turns.{while_stops}
use Rattle.pm_lexer.specs.declared.token.TokenKind.TheVariants as kind

abbrev pub Only : {A : Type 0} → A → Phrase A
Only a _ _ next = next a

-- nothing, and this value, or the separator and a phrase of what may stand after it
abbrev pub Tailed : {A : Type 0} → (Token → Bool) → A → Phrase A → Phrase A
Tailed sep a B = Or (Only a) (Then (λ _ _. Is sep) (λ _. B))

-- What a reader of such a tail needs: what stands after the separator begins with a token of F.
pub record Tail {A : Type 0} (S : Token → Type 0) (sep : Token → Bool) (F : Token → Type 0) (Q : Phrase A) (d : ℕ) (q : List Token → Read A) : Type 1 where
  pub value : A
  pub After : Phrase A
  pub same : Same (Tailed sep value After) Q
  pub after : List Token → Read A
  pub reads : Reader S After d after
  pub begins : BeginsWith After F
  pub read : (ts : List Token) → q ts ≡ (if sees sep ts then after (drop 1 ts) else Ok (value, ts))

pub tail_reader : {A : Type 0} (S : Token → Type 0) (sep : Token → Bool) (t₀ : Token) → sep t₀ ≡ true → ((t : Token) → sep t ≡ true → S t) → (F : Token → Type 0) (Q : Phrase A) (d : ℕ) (q : List Token → Read A)
    → Tail S sep F Q d q → Reader S Q d q
tail_reader S sep t₀ e₀ inS F Q d q t =
    read_same _ q (λ ts. sym (t.read ts)) (same_reader S _ Q d _ t.same (optional_reader S sep t₀ e₀ t.After t.value d t.after t.reads inS))

abbrev said : {A B : Type 0} → (A → B) → A × List Token → Read B
said f v = Ok (f v.0, v.1)

-- the last clause
pub last_tail : {A B : Type 0} (S : Token → Type 0) (sep : Token → Bool) (F : Token → Type 0) (K : Phrase A) (a : A) (f : A → B) (d : ℕ) (k : List Token → Read A) → Reader S K d k → BeginsWith K F
    → Tail S sep F (λ d g next ts. next (f a) ts ⊎ Is sep (λ _. K d g (λ v. next (f v))) ts) d (λ ts. (if sees sep ts then k (drop 1 ts) else Ok (a, ts)) >>= said f)
last_tail {A} {B} S sep F K a f d k reads begins = record {
  value = f a;
  After = λ d g next. K d g (λ v. next (f v));
  same = record { to = λ d g next ts h. h; from = λ d g next ts h. h };
  after = λ ts. k ts >>= said f;
  reads = map_reader S K f d k reads;
  begins = λ d g next w h. begins d g (λ v. next (f v)) w h;
  read = λ ts. of ts (sees sep ts);
}
  where
    of : (ts : List Token) (b : Bool) → ((if b then k (drop 1 ts) else Ok (a, ts)) >>= said f) ≡ (if b then (k (drop 1 ts) >>= said f) else Ok (f a, ts))
    of ts true = refl
    of ts false = refl

-- a clause before others
abbrev pub Clause : {A : Type 0} → (Token → Bool) → (Token → Bool) → Phrase A → Phrase (Option A)
Clause sep word K d g = IsClause sep word (K d g)

clause_to : {A B : Type 0} (sep word : Token → Bool) (K : Phrase A) (Q : Option A → Phrase B) (C : Phrase B) (b : B) → Same (Tailed sep b C) (Q None)
    → (d : ℕ) (g : Gate) (next : Next B) (ts : List Token) → Tailed sep b (Or C (Then (λ _ _. Is word) (λ _. Then K (λ a. Q (Some a))))) d g next ts → Then (Clause sep word K) Q d g next ts
clause_to sep word K Q C b same d g next [] h = elim h [ inl none ↦ inl (same.to d g next [] (inl none)) | inr bad ↦ absurd bad ]
clause_to sep word K Q C b same d g next (t ∷ ts) h = elim h [
  | inl none ↦ inl (same.to d g next (t ∷ ts) (inl none))
  | inr on ↦ elim on.1 [ inl other ↦ inl (same.to d g next (t ∷ ts) (inr (on.0, other))) | inr this ↦ inr (on.0, this) ]
]

clause_from : {A B : Type 0} (sep word : Token → Bool) (K : Phrase A) (Q : Option A → Phrase B) (C : Phrase B) (b : B) → Same (Tailed sep b C) (Q None)
    → (d : ℕ) (g : Gate) (next : Next B) (ts : List Token) → Then (Clause sep word K) Q d g next ts → Tailed sep b (Or C (Then (λ _ _. Is word) (λ _. Then K (λ a. Q (Some a))))) d g next ts
clause_from sep word K Q C b same d g next [] h = elim h [ inl none ↦ elim (same.from d g next [] none) [ inl stop ↦ inl stop | inr bad ↦ absurd bad ] | inr bad ↦ absurd bad ]
clause_from sep word K Q C b same d g next (t ∷ ts) h = elim h [
  | inl none ↦ elim (same.from d g next (t ∷ ts) none) [ inl stop ↦ inl stop | inr on ↦ inr (on.0, inl on.1) ]
  | inr this ↦ inr (this.0, inr this.1)
]

clause_read : {A B : Type 0} (sep word : Token → Bool) (p : List Token → Read A) (q : Option A × List Token → Read B) (after : List Token → Read B) (b : B) (ts : List Token)
    → q (None, ts) ≡ (if sees sep ts then after (drop 1 ts) else Ok (b, ts))
    → (clause_at sep word p ts >>= q) ≡ (if sees sep ts then (if sees word (drop 1 ts) then (p (drop 1 (drop 1 ts)) >>= λ a. q (Some a.0, a.1)) else after (drop 1 ts)) else Ok (b, ts))
unfolding clause_at
clause_read {A} {B} sep word p q after b ts e = of (sees sep ts) (sees word (drop 1 ts)) e
  where
    bound : (r : Read A) → ((r >>= λ a. Ok (Some a.0, a.1)) >>= q) ≡ (r >>= λ a. q (Some a.0, a.1))
    bound (Ok x) = refl
    bound (Err stop) = refl

    of : (x y : Bool) → q (None, ts) ≡ (if x then after (drop 1 ts) else Ok (b, ts))
        → ((if x && y then (p (drop 1 (drop 1 ts)) >>= λ a. Ok (Some a.0, a.1)) else Ok (None, ts)) >>= q) ≡ (if x then (if y then (p (drop 1 (drop 1 ts)) >>= λ a. q (Some a.0, a.1)) else after (drop 1 ts)) else Ok (b, ts))
    of true true e = bound (p (drop 1 (drop 1 ts)))
    of true false e = e
    of false y e = e

pub clause_tail : {A B : Type 0} (S : Token → Type 0) (sep word : Token → Bool) (t₀ : Token) → word t₀ ≡ true → (F : Token → Type 0) (K : Phrase A) (Q : Option A → Phrase B) (d : ℕ) (p : List Token → Read A) (q : Option A × List Token → Read B)
    → Reader Nothing K d p → Tail S sep F (Q None) d (λ ts. q (None, ts)) → ((a : A) → Reader S (Q (Some a)) d (λ ts. q (Some a, ts))) → ((t : Token) → F t → word t ≡ true → ⊥)
    → Tail S sep (λ t. F t ⊎ (word t ≡ true)) (Then (Clause sep word K) Q) d (λ ts. clause_at sep word p ts >>= q)
clause_tail {A} {B} S sep word t₀ e₀ F K Q d p q clause none some apart = record {
  value = none.value;
  After = Or none.After (Then (λ _ _. Is word) (λ _. Then K (λ a. Q (Some a))));
  same = record { to = clause_to sep word K Q none.After none.value none.same; from = clause_from sep word K Q none.After none.value none.same };
  after = λ us. if sees word us then (p (drop 1 us) >>= λ a. q (Some a.0, a.1)) else none.after us;
  reads = after_reader S word t₀ e₀ (Then K (λ a. Q (Some a))) none.After d (λ us. p us >>= λ a. q (Some a.0, a.1)) none.after
      (then_reader S Nothing K (λ a. Q (Some a)) d p (λ a. q (Some a.0, a.1)) clause some (λ a d' g next avoids t ts s h. s)) none.reads
      (bars S none.After F word none.begins (λ t e f. apart t f e));
  begins = λ d g next w h. elim h [ inl other ↦ widened F _ (λ t f. inl f) w (none.begins d g next w other) | inr this ↦ seen_first (λ _. Then K (λ a. Q (Some a)) d g next) w this ];
  read = λ ts. clause_read sep word p q none.after none.value ts (none.read ts);
}
  where
    seen_first : (next : Next Token) (w : List Token) → Is word next w → FirstOf (λ t. F t ⊎ (word t ≡ true)) w
    seen_first next [] h = h
    seen_first next (t ∷ ts) h = inr h.0

abbrev Sep : (Token → Bool) → Phrase Token
Sep sep _ _ = Is sep

-- the list and its tail; a further entry, and the rest
abbrev pub Listed : {A B : Type 0} → ℕ → (Token → Bool) → Phrase A → (List A → Phrase B) → List A → Phrase B
Listed limit sep P Q before = Then (Further limit (Sep sep) (λ _. P) before) Q

abbrev Entered : {A B : Type 0} → ℕ → (Token → Bool) → Phrase A → (List A → Phrase B) → List A → Token → Phrase B
Entered limit sep P Q before s = Then (SomeOf (Entry limit (Sep sep) (λ _. P) before) s) Q

abbrev MoreThen : {A B : Type 0} → ℕ → (Token → Bool) → Phrase A → (List A → Phrase B) → List A → ℕ → A → Phrase B
MoreThen limit sep P Q before n a d g next = More limit (Sep sep) (λ _. P) before n a d g (λ l. Q l d g next)

module _ {A B : Type 0} (limit : ℕ) (sep : Token → Bool) (P : Phrase A) (Q : List A → Phrase B) (before : List A) where
  listed_to : (s : Token) (C : Phrase B) (b : B) → Same (Tailed sep b C) (Q before) → (d : ℕ) (g : Gate) (next : Next B) (ts : List Token) → Tailed sep b (Or C (Entered limit sep P Q before s)) d g next ts → Listed limit sep P Q before d g next ts
  unfolding IsMore
  listed_to s C b same d g next [] h = elim h [ inl none ↦ (0, same.to d g next [] (inl none)) | inr bad ↦ absurd bad ]
  listed_to s C b same d g next (t ∷ ts) h = elim h [
    | inl none ↦ (0, same.to d g next (t ∷ ts) (inl none))
    | inr on ↦ elim on.1 [ inl other ↦ (0, same.to d g next (t ∷ ts) (inr (on.0, other))) | inr entry ↦ (suc entry.0, (on.0, entry.1)) ]
  ]

  listed_from : (s : Token) (C : Phrase B) (b : B) → Same (Tailed sep b C) (Q before) → (d : ℕ) (g : Gate) (next : Next B) (ts : List Token) (n : ℕ) → IsMore g limit (Is sep) (λ _. P d g) n before (λ l. Q l d g next) ts
      → Tailed sep b (Or C (Entered limit sep P Q before s)) d g next ts
  unfolding IsMore
  listed_from s C b same d g next [] zero h = elim (same.from d g next [] h) [ inl none ↦ inl none | inr bad ↦ absurd bad ]
  listed_from s C b same d g next (t ∷ ts) zero h = elim (same.from d g next (t ∷ ts) h) [ inl none ↦ inl none | inr on ↦ inr (on.0, inl on.1) ]
  listed_from s C b same d g next [] (suc n) h = absurd h
  listed_from s C b same d g next (t ∷ ts) (suc n) h = inr (h.0, inr (n, h.1))

  listed_same : (s : Token) (C : Phrase B) (b : B) → Same (Tailed sep b C) (Q before) → Same (Tailed sep b (Or C (Entered limit sep P Q before s))) (Listed limit sep P Q before)
  listed_same s C b same = record { to = listed_to s C b same; from = λ d g next ts h. listed_from s C b same d g next ts h.0 h.1 }

  entered_same : (s : Token) → length before < limit → Same (ThenSome P (MoreThen limit sep P Q before)) (Entered limit sep P Q before s)
  entered_same s lt = record { to = λ d g next ts h. (h.0, (λ le. absurd (omega arith), h.1)); from = λ d g next ts h. (h.0, h.1.1) }

  entered_able : (s : Token) {d : ℕ} {tail : List Token} → ((l : List A) → Able (Q l) d) → Began P d [] tail → Began (Entered limit sep P Q before s) d [] tail
  entered_able s {d} {tail} able b = then_began able (entry_began limit (Sep sep) (λ _. P) before s d tail b)

  listed_able : (d : ℕ) → ((l : List A) → Able (Q l) d) → Able (Listed limit sep P Q before) d
  listed_able d able = then_began able (further_able limit (Sep sep) (λ _. P) before d)

-- What a list's reader needs, where such a tail follows it: an entry begins with a token of `starts`, and the tail after its separator with none.
pub record Entries {A B : Type 0} (S SP : Token → Type 0) (sep starts : Token → Bool) (F : Token → Type 0) (P : Phrase A) (Q : List A → Phrase B) (d : ℕ) (p : List Token → Read A) (q : List A × List Token → Read B) : Type 1 where
  pub reads : Reader SP P d p
  pub first : BeginsWith P (λ t. starts t ≡ true)
  pub began : (t : Token) → starts t ≡ true → Began P d [] (t ∷ [])
  pub tails : (l : List A) → Tail S sep F (Q l) d (λ ts. q (l, ts))
  pub able : (l : List A) → Able (Q l) d
  pub apart : (t : Token) → F t → starts t ≡ true → ⊥
  pub ends : (t : Token) → sep t ≡ true → S t
  pub within : (t : Token) → SP t → S t
  pub unlike : (t : Token) → SP t → sep t ≡ true → ⊥

module _ {A B : Type 0} (S SP : Token → Type 0) (sep starts : Token → Bool) (F : Token → Type 0) (P : Phrase A) (Q : List A → Phrase B) (limit d : ℕ) (p : List Token → Read A) (q : List A × List Token → Read B)
    (k : Entries S SP sep starts F P Q d p q) where
  -- an entry past the limit, where one begins
  past_entry : (before : List A) (s : Token) → limit ≤ length before → (us : List Token) → sees starts us ≡ true → Law S (Entered limit sep P Q before s) d us (Err (too_many (place_of us)))
  past_entry before s le [] e = absurd (let bad : false ≡ true = e in cc)
  past_entry before s le (t ∷ us) e = record {
    front = [];
    rest = t ∷ us;
    is = refl;
    fault = record {
      cause = longer;
      place = refl;
      dead = λ d' g next w where' avoids heads h. where' w (omega arith) (h.1.0 le);
      viable = entered_able limit sep P Q before s k.able k.reads.able;
      goes = record { token = t; others = us; is = refl; began = entered_able limit sep P Q before s k.able (k.began t e) };
    };
  }

  -- no token that may not follow an entry begins what follows it
  listed_clear : (before : List A) (n : ℕ) (a : A) (d' : ℕ) (g : Gate) (next : Next B) → Avoids S next → (t : Token) (ts : List Token) → SP t → MoreThen limit sep P Q before n a d' g next (t ∷ ts) → ⊥
  unfolding IsMore
  listed_clear before zero a d' g next avoids t ts s h = elim ((k.tails (before ++ a ∷ [])).same.from d' g next (t ∷ ts) h) [ inl none ↦ avoids _ t ts (k.within t s) none | inr on ↦ k.unlike t s on.0 ]
  listed_clear before (suc n) a d' g next avoids t ts s h = k.unlike t s h.0

  -- the list that goes on after an entry is read
  abbrev GoesOnRight : List A → List Token → (A × List Token → Read B) → Type 1
  GoesOnRight before us r = (a : A) (rest : List Token) → length rest ≤ length us → Law S (Listed limit sep P Q (before ++ a ∷ [])) d rest (r (a, rest))

  -- an entry and the rest, where one begins
  entered_law : (before : List A) (s : Token) (us : List Token) → sees starts us ≡ true → (r : A × List Token → Read B) → GoesOnRight before us r → Law S (Entered limit sep P Q before s) d us (limited_at (nat_le limit (length before)) p us >>= r)
  entered_law before s us e r law =
      elim (nat_le limit (length before)) as (λ b. nat_le limit (length before) ≡ b → Law S (Entered limit sep P Q before s) d us (limited_at b p us >>= r)) [
        | true ↦ λ f. past_entry before s (past limit (length before) f) us e
        | false ↦ λ f. same_law S _ _ d us (p us >>= r) (entered_same limit sep P Q before s (not_past limit (length before) f))
            (some_law S SP P (MoreThen limit sep P Q before) d us (p us) r (k.reads.law us)
            (λ a rest er. law a rest (no_longer us (a, rest) (rw er at (k.reads.law us))))
            (λ a. listed_able limit sep P Q (before ++ a ∷ []) d k.able)
            (λ a d' g next avoids t ts st h. listed_clear before h.0 a d' g next avoids t ts st h.1))
      ] refl

  -- what is read after the separator
  after_law : (before : List A) (s : Token) (us : List Token) (r : A × List Token → Read B) → GoesOnRight before us r
      → Law S (Or (k.tails before).After (Entered limit sep P Q before s)) d us (if sees starts us then (limited_at (nat_le limit (length before)) p us >>= r) else (k.tails before).after us)
  after_law before s us r law =
      let tail = k.tails before in
      elim (sees starts us) as (λ b. sees starts us ≡ b → Law S (Or tail.After (Entered limit sep P Q before s)) d us (if b then (limited_at (nat_le limit (length before)) p us >>= r) else tail.after us)) [
        | true ↦ λ e. second_law S tail.After (Entered limit sep P Q before s) d us _ (bars S tail.After F starts tail.begins (λ t st f. k.apart t f st) us e) (entered_law before s us e r law)
        | false ↦ λ e. first_law S tail.After (Entered limit sep P Q before s) d us _ (none_other S _ (λ t. starts t ≡ true) starts (λ d g next w h. k.first d g _ w h.1.1) (λ t st. st) us e) (tail.reads.law us)
      ] refl

  while_read : (m : ℕ) (before : List A) (t : Token) (us : List Token) (after : List Token → Read B) (b : B) → q (before, t ∷ us) ≡ (if sep t then after us else Ok (b, t ∷ us))
      → (more_while sep starts p limit (suc m) before (t ∷ us) >>= q)
      ≡ (if sep t then (if sees starts us then (limited_at (nat_le limit (length before)) p us >>= λ a. more_while sep starts p limit m (before ++ a.0 ∷ []) a.1 >>= q) else after us) else Ok (b, t ∷ us))
  unfolding more_while
  while_read m before t us after b e = of (sep t) (sees starts us) e
    where
      bound : (r : Read A) → ((r >>= λ a. more_while sep starts p limit m (before ++ a.0 ∷ []) a.1) >>= q) ≡ (r >>= λ a. more_while sep starts p limit m (before ++ a.0 ∷ []) a.1 >>= q)
      bound (Ok x) = refl
      bound (Err stop) = refl

      of : (x y : Bool) → q (before, t ∷ us) ≡ (if x then after us else Ok (b, t ∷ us))
          → ((if x && y then (limited_at (nat_le limit (length before)) p us >>= λ a. more_while sep starts p limit m (before ++ a.0 ∷ []) a.1) else Ok (before, t ∷ us)) >>= q)
          ≡ (if x then (if y then (limited_at (nat_le limit (length before)) p us >>= λ a. more_while sep starts p limit m (before ++ a.0 ∷ []) a.1 >>= q) else after us) else Ok (b, t ∷ us))
      of true true e = bound (limited_at (nat_le limit (length before)) p us)
      of true false e = e
      of false y e = e

  -- the list and its tail
  listed_law : (m : ℕ) (before : List A) (ts : List Token) → length ts ≤ m → Law S (Listed limit sep P Q before) d ts (more_while sep starts p limit m before ts >>= q)
  listed_law m before [] le =
      let tail = k.tails before in
      let s : Token = record { kind = kind.End; slice = []; at = 0 } in
      rw (while_stops sep starts p limit m before [] refl, tail.read [])
      (same_law S _ _ d [] (Ok (tail.value, [])) (listed_same limit sep P Q before s tail.After tail.value tail.same)
      (first_law S (Only tail.value) (Then (Sep sep) (λ _. Or tail.After (Entered limit sep P Q before s))) d [] (Ok (tail.value, [])) (λ d' g next w avoids heads h. not_seen sep [] w _ refl heads h) ((pure_reader S d tail.value).law [])))
  listed_law zero before (t ∷ us) le = absurd (omega arith)
  listed_law (suc m) before (t ∷ us) le =
      let tail = k.tails before in
      let r : A × List Token → Read B = λ a. more_while sep starts p limit m (before ++ a.0 ∷ []) a.1 >>= q in
      let after : Read B = if sees starts us then (limited_at (nat_le limit (length before)) p us >>= r) else tail.after us in
      let split = listed_same limit sep P Q before t tail.After tail.value tail.same in
      let After = Or tail.After (Entered limit sep P Q before t) in
      rw (while_read m before t us tail.after tail.value (tail.read (t ∷ us)))
      (elim (sep t) as (λ b. sep t ≡ b → Law S (Listed limit sep P Q before) d (t ∷ us) (if b then after else Ok (tail.value, t ∷ us))) [
        | true ↦ λ e. same_law S _ _ d (t ∷ us) after split
            (second_law S (Only tail.value) (Then (Sep sep) (λ _. After)) d (t ∷ us) after (λ d' g next w avoids heads h. seen_head S sep (t ∷ us) w next tail.value e k.ends avoids heads h)
            (seen_law S sep t us e After d after (first_began tail.After (Entered limit sep P Q before t) tail.reads.able)
            (after_law before t us r (λ a rest shorter. listed_law m (before ++ a ∷ []) rest (omega arith)))))
        | false ↦ λ e. same_law S _ _ d (t ∷ us) (Ok (tail.value, t ∷ us)) split
            (first_law S (Only tail.value) (Then (Sep sep) (λ _. After)) d (t ∷ us) (Ok (tail.value, t ∷ us)) (λ d' g next w avoids heads h. not_seen sep (t ∷ us) w _ e heads h) ((pure_reader S d tail.value).law (t ∷ us)))
      ] refl)

  -- the list from its first entry, which may have a form of its own
  pub listed_reader : (P₀ : Phrase A) (p₀ : List Token → Read A) → Reader SP P₀ d p₀ → Reader S (Then P₀ (λ a. Listed limit sep P Q (a ∷ []))) d (λ ts. p₀ ts >>= λ a. more_while sep starts p limit (length a.1) (a.0 ∷ []) a.1 >>= q)
  listed_reader P₀ p₀ first = record {
    law = λ ts. then_law S SP P₀ (λ a. Listed limit sep P Q (a ∷ [])) d ts (p₀ ts) (λ a. more_while sep starts p limit (length a.1) (a.0 ∷ []) a.1 >>= q) (first.law ts)
        (λ a r e. listed_law (length r) (a ∷ []) r (omega arith)) (λ a. listed_able limit sep P Q (a ∷ []) d k.able)
        (λ a d' g next avoids t ts s h. listed_clear [] h.0 a d' g next avoids t ts s h.1);
    able = then_began {Q = λ a. Listed limit sep P Q (a ∷ [])} (λ a. listed_able limit sep P Q (a ∷ []) d k.able) first.able;
  }
