-- What a list reads is one thing, and its steps give it.
use Rattle.std.specs.Prelude.{IfOk}
use Rattle.std.proofs.Common.{◌≡◌, ◌≤◌, ◌<◌, ℕ, zero, suc, Bool, true, false, ◌&&◌, List, [], ◌∷◌, ◌++◌, drop, length, Result, Ok, Err, refl, sym, ◌∙◌, ap, arith, nat_le, if◌then◌else◌}
use Rattle.pm_lexer.specs.declared.token.Token.{Token}
use Rattle.pm_grammar.specs.Reading.{Stop, expected, too_deep, too_many, Read, ◌>>=◌, sees, token_at, entry_at, limited_at, place_of}
use Rattle.pm_grammar.specs.Lists.{ReadsMore, ends, no_separator, no_entry, another, ReadsFurther, ReadsSeries, ReadsWhile, ReadsList, no_first, entries}
use Rattle.pm_grammar.specs.Steps.{more_at, more_while, list_at}
use Rattle.pm_grammar.specs.Outcome.{Fails, Gives, IsRefused, IsRead}
use Rattle.pm_grammar.specs.declared.fault.SynBad.{SynBad}
use Rattle.pm_grammar.specs.declared.fault.SynBad.TheVariants as bad
use Rattle.pm_grammar.proofs.Phrases.{Phrase, Reader}
use Rattle.pm_grammar.proofs.Furthers.{NoEntry, Parts, none_seen, no_longer, shorter}
use Rattle.pm_grammar.proofs.Turns.{seen}

-- what is read from later tokens, after more entries, is read from earlier ones
abbrev pub Continues : {A : Type 0} → (List A → List Token → Read (List A) → Type 0) → List A → List Token → List A → List Token → Type 0
Continues {A} reads later rest before ts = (read : Read (List A)) → reads later rest read → reads before ts read

-- what refuses a part refuses the whole
pub refused_by : {A B : Type 0} (e : SynBad) (r : Result B Stop) (reads : Result A Stop → Type 0) → ((stop : Stop) → r ≡ Err stop → reads (Err stop)) → Fails e r → IsRefused e reads
refused_by bad.Memory r reads h f = tt
refused_by (bad.Expected at) r reads h f = h (expected at) f
refused_by (bad.TooDeep at) r reads h f = h (too_deep at) f
refused_by (bad.TooMany at) r reads h f = h (too_many at) f

-- what is read in one way is read in another
pub read_through : {X A : Type 0} (view : X → A) (result : Result X SynBad) (reads others : Result A Stop → Type 0) → ((read : Result A Stop) → reads read → others read) → IsRead view result reads → IsRead view result others
read_through view (Ok x) reads others to h = to (Ok (view x)) h
read_through view (Err bad.Memory) reads others to h = tt
read_through view (Err (bad.Expected at)) reads others to h = to (Err (expected at)) h
read_through view (Err (bad.TooDeep at)) reads others to h = to (Err (too_deep at)) h
read_through view (Err (bad.TooMany at)) reads others to h = to (Err (too_many at)) h

-- what is read gives the one thing that can be read
pub given : {X A : Type 0} (view : X → A) (result : Result X SynBad) (reads : Result A Stop → Type 0) (read : Result A Stop) → ((x : Result A Stop) → reads x → read ≡ x) → IsRead view result reads → Gives view result read
given view (Ok x) reads read one h = one (Ok (view x)) h
given view (Err bad.Memory) reads read one h = tt
given view (Err (bad.Expected at)) reads read one h = one (Err (expected at)) h
given view (Err (bad.TooDeep at)) reads read one h = one (Err (too_deep at)) h
given view (Err (bad.TooMany at)) reads read one h = one (Err (too_many at)) h

-- a separator and its entry are a token at least
abbrev pub Shortens : {A S : Type 0} → (List Token → Read S) → (Bool → S → List Token → Read A) → Type 0
Shortens {A} {S} separate entry = (past : Bool) (ts next rest : List Token) (s : S) (a : A) → separate ts ≡ Ok (s, next) → entry past s next ≡ Ok (a, rest) → length rest < length ts

pub both : {X Y : Type 0} {x y : X} {r s : Y} → (let l : Result (X × Y) Stop = Ok (x, r) in l) ≡ Ok (y, s) → (x ≡ y) × (r ≡ s)
both {X} {Y} {x} {y} {r} {s} e =
    let one : X × Y = (x, r) in
    let other : X × Y = (y, s) in
    let same : one ≡ other = cc e in
    (ap (λ z. z.0) same, ap (λ z. z.1) same)

stop_same : {X : Type 0} {a b : Stop} → (let r : Result X Stop = Err a in r) ≡ Err b → a ≡ b
stop_same e = cc e

module _ {A S : Type 0} (begins : List Token → Bool) (separate : List Token → Read S) (entry : Bool → S → List Token → Read A) (limit : ℕ) where
  abbrev More : List A → List Token → Read (List A) → Type 0
  More = ReadsMore begins separate entry limit

  -- what is read where no separator begins, where one or its entry is refused, and where both are read
  stops_one : (before : List A) (ts : List Token) (x : Read (List A)) → More before ts x → begins ts ≡ false → Ok (before, ts) ≡ x
  stops_one _ _ _ (ends before ts none) e = refl
  stops_one _ _ _ (no_separator before ts stop is f) e = absurd (let b : true ≡ false = sym is ∙ e in cc)
  stops_one _ _ _ (no_entry before ts s next stop is f g) e = absurd (let b : true ≡ false = sym is ∙ e in cc)
  stops_one _ _ _ (another before ts s next a rest read is f g more) e = absurd (let b : true ≡ false = sym is ∙ e in cc)

  separator_one : (before : List A) (ts : List Token) (x : Read (List A)) (stop : Stop) → More before ts x → begins ts ≡ true → separate ts ≡ Err stop → Err stop ≡ x
  separator_one _ _ _ stop (ends before ts none) e f = absurd (let b : true ≡ false = sym e ∙ none in cc)
  separator_one _ _ _ stop (no_separator before ts other is g) e f = ap Err (stop_same (sym f ∙ g))
  separator_one _ _ _ stop (no_entry before ts s next other is g h) e f = absurd (cc (sym f ∙ g))
  separator_one _ _ _ stop (another before ts s next a rest read is g h more) e f = absurd (cc (sym f ∙ g))

  entry_one : (before : List A) (ts : List Token) (x : Read (List A)) (s : S) (next : List Token) (stop : Stop) → More before ts x → begins ts ≡ true → separate ts ≡ Ok (s, next)
      → entry (nat_le limit (length before)) s next ≡ Err stop → Err stop ≡ x
  entry_one _ _ _ s next stop (ends before ts none) e f g = absurd (let b : true ≡ false = sym e ∙ none in cc)
  entry_one _ _ _ s next stop (no_separator before ts other is h) e f g = absurd (cc (sym f ∙ h))
  entry_one _ _ _ s next stop (no_entry before ts s' next' other is h k) e f g =
      let same = both (sym h ∙ f) in
      ap Err (stop_same (sym g ∙ rw (same.0, same.1) at k))
  entry_one _ _ _ s next stop (another before ts s' next' a rest read is h k more) e f g =
      let same = both (sym h ∙ f) in
      absurd (cc (sym g ∙ rw (same.0, same.1) at k))

  goes_on : (before : List A) (ts : List Token) (x : Read (List A)) (s : S) (next : List Token) (a : A) (rest : List Token) → More before ts x → begins ts ≡ true → separate ts ≡ Ok (s, next)
      → entry (nat_le limit (length before)) s next ≡ Ok (a, rest) → More (before ++ a ∷ []) rest x
  goes_on _ _ _ s next a rest (ends before ts none) e f g = absurd (let b : true ≡ false = sym e ∙ none in cc)
  goes_on _ _ _ s next a rest (no_separator before ts other is h) e f g = absurd (cc (sym f ∙ h))
  goes_on _ _ _ s next a rest (no_entry before ts s' next' other is h k) e f g =
      let same = both (sym h ∙ f) in
      absurd (cc (sym g ∙ rw (same.0, same.1) at k))
  goes_on _ _ _ s next a rest (another before ts s' next' a' rest' read is h k more) e f g =
      let same = both (sym h ∙ f) in
      let alike = both (sym (rw (same.0, same.1) at k) ∙ g) in
      rw (alike.0, alike.1) at more

  -- the rest of a list reads one thing at most
  pub one : (before : List A) (ts : List Token) (x y : Read (List A)) → More before ts x → More before ts y → x ≡ y
  one _ _ _ y (ends before ts none) h = stops_one before ts y h none
  one _ _ _ y (no_separator before ts stop is e) h = separator_one before ts y stop h is e
  one _ _ _ y (no_entry before ts s next stop is e f) h = entry_one before ts y s next stop h is e f
  one _ _ _ y (another before ts s next a rest read is e f more) h = one (before ++ a ∷ []) rest read y more (goes_on before ts y s next a rest h is e f)

  -- a separator and an entry, where one begins, and then the rest
  turn : Shortens separate entry → (before : List A) (ts : List Token) (q : A × List Token → Read (List A)) → ((a : A) (rest : List Token) → length rest < length ts → More (before ++ a ∷ []) rest (q (a, rest)))
      → begins ts ≡ true → More before ts (separate ts >>= λ s. (entry (nat_le limit (length before)) s.0 s.1 >>= q))
  turn less before ts q more is = separated (separate ts) refl
    where
      entered : (s : S) (next : List Token) → separate ts ≡ Ok (s, next) → (r : Read A) → entry (nat_le limit (length before)) s next ≡ r → More before ts (r >>= q)
      entered s next e (Err stop) f = no_entry before ts s next stop is e f
      entered s next e (Ok x) f = another before ts s next x.0 x.1 (q x) is e f (more x.0 x.1 (less (nat_le limit (length before)) ts next x.1 s x.0 e f))

      separated : (r : Read S) → separate ts ≡ r → More before ts (r >>= λ s. (entry (nat_le limit (length before)) s.0 s.1 >>= q))
      separated (Err stop) e = no_separator before ts stop is e
      separated (Ok s) e = entered s.0 s.1 e (entry (nat_le limit (length before)) s.0 s.1) refl

-- enough steps read the rest of a list
pub more_reads : {A S : Type 0} (starts : Token → Bool) (sep : List Token → Read S) (peek : List Token → Read Token) (p : S → List Token → Read A) (limit : ℕ) → Shortens sep (λ past s. entry_at past peek (p s))
    → (m : ℕ) (before : List A) (ts : List Token) → length ts ≤ m → ReadsSeries starts sep peek p limit before ts (more_at starts sep peek p limit m before ts)
unfolding more_at
more_reads starts sep peek p limit less zero before ts le = ends before ts (none_seen starts ts le)
more_reads {A} starts sep peek p limit less (suc m) before ts le =
    let q : A × List Token → Read (List A) = λ a. more_at starts sep peek p limit m (before ++ a.0 ∷ []) a.1 in
    elim (sees starts ts) as (λ b. sees starts ts ≡ b → ReadsSeries starts sep peek p limit before ts (if b then (sep ts >>= λ s. (entry_at (nat_le limit (length before)) peek (p s.0) s.1 >>= q)) else Ok (before, ts))) [
      | true ↦ λ e. turn (sees starts) sep (λ past s. entry_at past peek (p s)) limit less before ts q (λ a rest short. more_reads starts sep peek p limit less m (before ++ a ∷ []) rest (omega arith)) e
      | false ↦ λ e. ends before ts e
    ] refl

and_both : (x y : Bool) → (x && y) ≡ true → (x ≡ true) × (y ≡ true)
and_both true true e = (refl, refl)
and_both true false e = absurd (cc e)
and_both false y e = absurd (cc e)

pub both_seen : (sep first : Token → Bool) (ts : List Token) → sees sep ts ≡ true → sees first (drop 1 ts) ≡ true → (sees sep ts && sees first (drop 1 ts)) ≡ true
both_seen sep first ts e f = rw (e, f) refl

pub and_first : (x y : Bool) → x ≡ false → (x && y) ≡ false
and_first x y e = rw e refl

pub and_second : (x y : Bool) → y ≡ false → (x && y) ≡ false
and_second true y e = e
and_second false y e = refl

pub while_reads : {A : Type 0} (sep first : Token → Bool) (p : List Token → Read A) (limit : ℕ) → Shortens (token_at sep) (λ past _. limited_at past p)
    → (m : ℕ) (before : List A) (ts : List Token) → length ts ≤ m → ReadsWhile sep first p limit before ts (more_while sep first p limit m before ts)
unfolding more_while
while_reads sep first p limit less zero before ts le = ends before ts (and_first (sees sep ts) (sees first (drop 1 ts)) (none_seen sep ts le))
while_reads {A} sep first p limit less (suc m) before ts le =
    let q : A × List Token → Read (List A) = λ a. more_while sep first p limit m (before ++ a.0 ∷ []) a.1 in
    let goes : Read (List A) = limited_at (nat_le limit (length before)) p (drop 1 ts) >>= q in
    elim (sees sep ts && sees first (drop 1 ts)) as (λ b. (sees sep ts && sees first (drop 1 ts)) ≡ b → ReadsWhile sep first p limit before ts (if b then goes else Ok (before, ts))) [
      | true ↦ λ e.
          let t = seen sep ts (and_both (sees sep ts) (sees first (drop 1 ts)) e).0 in
          let bind : (token_at sep ts >>= λ s. (limited_at (nat_le limit (length before)) p s.1 >>= q)) ≡ goes = rw t.1 refl in
          rw bind at (turn (λ us. sees sep us && sees first (drop 1 us)) (token_at sep) (λ past _. limited_at past p) limit less before ts q
          (λ a rest short. while_reads sep first p limit less m (before ++ a ∷ []) rest (omega arith)) e)
      | false ↦ λ e. ends before ts e
    ] refl

-- what shortens tokens
token_shorter : (test : Token → Bool) (ts next : List Token) (t : Token) → token_at test ts ≡ Ok (t, next) → length next < length ts
token_shorter test [] next t e = absurd (cc e)
token_shorter test (u ∷ us) next t e = elim (test u) as (λ b. (let r : Read Token = if b then Ok (u, us) else Err (expected u.at) in r) ≡ Ok (t, next) → length next < length (u ∷ us)) [
  | true ↦ λ f. let same : length us ≡ length next = ap length (both f).1 in omega (arith, same)
  | false ↦ λ f. absurd (cc f)
] e

-- after the separator that was seen
pub dropped : (test : Token → Bool) (ts : List Token) → sees test ts ≡ true → length (drop 1 ts) < length ts
dropped test [] e = absurd (cc e)
dropped test (t ∷ ts) e = omega arith

abbrev pub Keeps : {A : Type 0} → (List Token → Read A) → Type 0
Keeps {A} p = (ts rest : List Token) (a : A) → p ts ≡ Ok (a, rest) → length rest ≤ length ts

-- a reader's phrases leave a part of the tokens, and a smaller one where none is empty
pub keeps_of : {A : Type 0} {S : Token → Type 0} {P : Phrase A} {d : ℕ} (p : List Token → Read A) → Reader S P d p → Keeps p
keeps_of p reads ts rest a e = no_longer ts (a, rest) (rw e at (reads.law ts))

pub shorter_of : {A : Type 0} {S : Token → Type 0} {P : Phrase A} {d : ℕ} (p : List Token → Read A) → Reader S P d p → NoEntry P [] → (ts rest : List Token) (a : A) → p ts ≡ Ok (a, rest) → length rest < length ts
shorter_of {A} {S} {P} {d} p reads none ts rest a e = shorter P d none ts (a, rest) (rw e at (reads.law ts))

entry_read : {A : Type 0} (past : Bool) (peek : List Token → Read Token) (p : List Token → Read A) (ts rest : List Token) (a : A) → entry_at past peek p ts ≡ Ok (a, rest) → p ts ≡ Ok (a, rest)
entry_read {A} true peek p ts rest a e = absurd (of (peek ts) e)
  where
    of : (r : Read Token) → (let x : Read A = r >>= λ _. Err (too_many (place_of ts)) in x) ≡ Ok (a, rest) → ⊥
    of (Ok x) f = cc f
    of (Err stop) f = cc f
entry_read false peek p ts rest a e = e

limited_read : {A : Type 0} (past : Bool) (p : List Token → Read A) (ts rest : List Token) (a : A) → limited_at past p ts ≡ Ok (a, rest) → p ts ≡ Ok (a, rest)
limited_read true p ts rest a e = absurd (cc e)
limited_read false p ts rest a e = e

pub further_shortens : {A : Type 0} (sep : Token → Bool) (peek : List Token → Read Token) (p : List Token → Read A) → Keeps p → Shortens (token_at sep) (λ past _. entry_at past peek p)
further_shortens sep peek p keeps past ts next rest s a e f =
    let less = token_shorter sep ts next s e in
    let kept = keeps next rest a (entry_read past peek p next rest a f) in
    omega (arith, less, kept)

pub while_shortens : {A : Type 0} (sep : Token → Bool) (p : List Token → Read A) → Keeps p → Shortens (token_at sep) (λ past _. limited_at past p)
while_shortens sep p keeps past ts next rest s a e f =
    let less = token_shorter sep ts next s e in
    let kept = keeps next rest a (limited_read past p next rest a f) in
    omega (arith, less, kept)

abbrev pub Shortened : {A S : Type 0} → (List Token → Read S) → (S → List Token → Read A) → Type 0
Shortened {A} {S} separate p = (ts next rest : List Token) (s : S) (a : A) → separate ts ≡ Ok (s, next) → p s next ≡ Ok (a, rest) → length rest < length ts

pub parts_shorten : {A S : Type 0} {T SP : Token → Type 0} {Sep : Phrase S} {P : S → Phrase A} {starts : Token → Bool} {sep : List Token → Read S} {peek : List Token → Read Token} {p : S → List Token → Read A} {d : ℕ}
    → Parts T SP Sep P starts sep peek p d → Shortened sep p
parts_shorten {A} {S} {T} {SP} {Sep} {P} {starts} {sep} {peek} {p} k ts next rest s a e f =
    let less = shorter_of sep k.reads_sep (k.no_sep [] refl) ts next s e in
    let kept = keeps_of (p s) (k.reads s) next rest a f in
    omega (arith, less, kept)

pub series_shortens : {A S : Type 0} (separate : List Token → Read S) (peek : List Token → Read Token) (p : S → List Token → Read A) → Shortened separate p → Shortens separate (λ past s. entry_at past peek (p s))
series_shortens separate peek p shortens past ts next rest s a e f = shortens ts next rest s a e (entry_read past peek (p s) next rest a f)

-- a list reads one thing at most, and its steps give it
list_one : {A : Type 0} (sep : Token → Bool) (peek : List Token → Read Token) (p : List Token → Read A) (limit : ℕ) (ts : List Token) (x : Read (List A)) → Keeps p → ReadsList sep peek p limit ts x → list_at sep peek p limit ts ≡ x
unfolding list_at
list_one sep peek p limit _ _ keeps (no_first ts stop e) = rw e refl
list_one sep peek p limit _ _ keeps (entries ts a rest read e more) =
    rw e (one (sees sep) (token_at sep) (λ past _. entry_at past peek p) limit (a ∷ []) rest _ read
    (more_reads sep (token_at sep) peek (λ _. p) limit (further_shortens sep peek p keeps) (length rest) (a ∷ []) rest (omega arith)) more)

list_reads : {A : Type 0} (sep : Token → Bool) (peek : List Token → Read Token) (p : List Token → Read A) (limit : ℕ) (ts : List Token) → Keeps p → ReadsList sep peek p limit ts (list_at sep peek p limit ts)
unfolding list_at
list_reads {A} sep peek p limit ts keeps = of (p ts) refl
  where
    of : (r : Read A) → p ts ≡ r → ReadsList sep peek p limit ts (r >>= λ first. more_at sep (token_at sep) peek (λ _. p) limit (length first.1) (first.0 ∷ []) first.1)
    of (Err stop) e = no_first ts stop e
    of (Ok x) e = entries ts x.0 x.1 _ e (more_reads sep (token_at sep) peek (λ _. p) limit (further_shortens sep peek p keeps) (length x.1) (x.0 ∷ []) x.1 (omega arith))

first_refused : {A : Type 0} (sep : Token → Bool) (peek : List Token → Read Token) (p : List Token → Read A) (limit : ℕ) (ts : List Token) (x : Read (List A)) (stop : Stop) → ReadsList sep peek p limit ts x → p ts ≡ Err stop → Err stop ≡ x
first_refused sep peek p limit _ _ stop (no_first ts other e) f = ap Err (stop_same (sym f ∙ e))
first_refused sep peek p limit _ _ stop (entries ts a rest read e more) f = absurd (cc (sym f ∙ e))

first_read : {A : Type 0} (sep : Token → Bool) (peek : List Token → Read Token) (p : List Token → Read A) (limit : ℕ) (ts : List Token) (x : Read (List A)) (a : A) (rest : List Token)
    → ReadsList sep peek p limit ts x → p ts ≡ Ok (a, rest) → ReadsFurther sep peek p limit (a ∷ []) rest x
first_read sep peek p limit _ _ a rest (no_first ts other e) f = absurd (cc (sym f ∙ e))
first_read sep peek p limit _ _ a rest (entries ts a' rest' read e more) f =
    let same = both (sym e ∙ f) in
    rw (same.0, same.1) at more

-- lists and series read one thing each
pub list_decided : {A : Type 0} (sep : Token → Bool) (peek : List Token → Read Token) (p : List Token → Read A) (limit : ℕ) (ts : List Token) → Keeps p → (read : Read (List A)) × ReadsList sep peek p limit ts read
list_decided sep peek p limit ts keeps = (list_at sep peek p limit ts, list_reads sep peek p limit ts keeps)

pub list_same : {A : Type 0} (sep : Token → Bool) (peek : List Token → Read Token) (p : List Token → Read A) (limit : ℕ) (ts : List Token) (x y : Read (List A)) → ReadsList sep peek p limit ts x → ReadsList sep peek p limit ts y → x ≡ y
list_same sep peek p limit _ _ y (no_first ts stop e) h = first_refused sep peek p limit ts y stop h e
list_same sep peek p limit _ _ y (entries ts a rest read e more) h = one (sees sep) (token_at sep) (λ past _. entry_at past peek p) limit (a ∷ []) rest read y more (first_read sep peek p limit ts y a rest h e)

pub series_decided : {A S : Type 0} (starts : Token → Bool) (separate : List Token → Read S) (peek : List Token → Read Token) (p : S → List Token → Read A) (limit : ℕ) (before : List A) (ts : List Token) → Shortened separate p
    → (read : Read (List A)) × ReadsSeries starts separate peek p limit before ts read
series_decided starts separate peek p limit before ts shortens =
    (more_at starts separate peek p limit (length ts) before ts, more_reads starts separate peek p limit (series_shortens separate peek p shortens) (length ts) before ts (omega arith))

pub series_same : {A S : Type 0} (starts : Token → Bool) (separate : List Token → Read S) (peek : List Token → Read Token) (p : S → List Token → Read A) (limit : ℕ) (before : List A) (ts : List Token)
    → (x y : Read (List A)) → ReadsSeries starts separate peek p limit before ts x → ReadsSeries starts separate peek p limit before ts y → x ≡ y
series_same starts separate peek p limit before ts x y h k = one (sees starts) separate (λ past s. entry_at past peek (p s)) limit before ts x y h k

-- what callers' readers promise of what follows
pub follows : {X A : Type 0} (result : Result X SynBad) (view : X → A × List Token) (p : List Token → Read A) (ts : List Token) → Keeps p → Gives view result (p ts) → IfOk result (λ x. length (view x).1 ≤ length ts)
follows (Ok x) view p ts keeps h = keeps ts (view x).1 (view x).0 h
follows (Err e) view p ts keeps h = tt

pub follows_less : {X A : Type 0} (result : Result X SynBad) (view : X → A × List Token) (p : List Token → Read A) (ts : List Token) → ((ts rest : List Token) (a : A) → p ts ≡ Ok (a, rest) → length rest < length ts)
    → Gives view result (p ts) → IfOk result (λ x. length (view x).1 < length ts)
follows_less (Ok x) view p ts shorter h = shorter ts (view x).1 (view x).0 h
follows_less (Err e) view p ts shorter h = tt

-- what callers' reading functions make of what was read
module _ {X A : Type 0} (result : Result X SynBad) (view : X → List A × List Token) where
  pub gives_further : (sep : Token → Bool) (peek : List Token → Read Token) (p : List Token → Read A) (limit : ℕ) (before : List A) (ts : List Token) → Keeps p
      → IsRead view result (ReadsFurther sep peek p limit before ts) → Gives view result (more_at sep (token_at sep) peek (λ _. p) limit (length ts) before ts)
  gives_further sep peek p limit before ts keeps h =
      given view result _ _ (λ x r. one (sees sep) (token_at sep) (λ past _. entry_at past peek p) limit before ts _ x
      (more_reads sep (token_at sep) peek (λ _. p) limit (further_shortens sep peek p keeps) (length ts) before ts (omega arith)) r) h

  pub gives_series : {S : Type 0} (starts : Token → Bool) (separate : List Token → Read S) (peek : List Token → Read Token) (p : S → List Token → Read A) (limit : ℕ) (before : List A) (ts : List Token) → Shortened separate p
      → IsRead view result (ReadsSeries starts separate peek p limit before ts) → Gives view result (more_at starts separate peek p limit (length ts) before ts)
  gives_series starts separate peek p limit before ts shortens h =
      given view result _ _ (λ x r. one (sees starts) separate (λ past s. entry_at past peek (p s)) limit before ts _ x
      (more_reads starts separate peek p limit (series_shortens separate peek p shortens) (length ts) before ts (omega arith)) r) h

  pub gives_while : (sep first : Token → Bool) (p : List Token → Read A) (limit : ℕ) (before : List A) (ts : List Token) → Keeps p
      → IsRead view result (ReadsWhile sep first p limit before ts) → Gives view result (more_while sep first p limit (length ts) before ts)
  gives_while sep first p limit before ts keeps h =
      given view result _ _ (λ x r. one (λ us. sees sep us && sees first (drop 1 us)) (token_at sep) (λ past _. limited_at past p) limit before ts _ x
      (while_reads sep first p limit (while_shortens sep p keeps) (length ts) before ts (omega arith)) r) h

  pub gives_list : (sep : Token → Bool) (peek : List Token → Read Token) (p : List Token → Read A) (limit : ℕ) (ts : List Token) → Keeps p
      → IsRead view result (ReadsList sep peek p limit ts) → Gives view result (list_at sep peek p limit ts)
  gives_list sep peek p limit ts keeps h = given view result (ReadsList sep peek p limit ts) _ (λ x r. list_one sep peek p limit ts x keeps r) h
