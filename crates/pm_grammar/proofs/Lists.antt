-- Readers of lists, and of choices by the first token.
use Rattle.std.proofs.Common.{◌≡◌, ◌≤◌, ◌<◌, ℕ, zero, suc, List, [], ◌∷◌, ◌++◌, length, Ok, Err, refl, inl, inr, arith}
use Rattle.pm_lexer.specs.declared.token.Token.{Token}
use Rattle.pm_grammar.specs.Language.{Gate, Within, IsMore, IsFurther}
use Rattle.pm_grammar.specs.Reading.{Stop, too_many, Read, ◌>>=◌, place_of}
use Rattle.pm_grammar.proofs.Phrases.{Phrase, Next, Avoids, Able, Began, GoesOn, longer, Fault, Law, moved, fault_moved}
pub use Rattle.pm_grammar.proofs.Readers.{Some, ThenSome, some_law}
use Rattle.pm_grammar.proofs.Readers.{Or, Same}

-- what the first token of an entry past the limit says: there is no entry, or one begins
pub record Peek {A : Type 0} (S : Token → Type 0) (P : Phrase A) (d : ℕ) (peek : List Token → Read Token) : Type 1 where
  pub stops : (ts : List Token) (e : Stop) → peek ts ≡ Err e → Fault S P d [] ts e
  pub goes : (ts : List Token) (x : Token × List Token) → peek ts ≡ Ok x → GoesOn P [] ts d

-- further entries after separators
abbrev pub Further : {A S : Type 0} → ℕ → Phrase S → (S → Phrase A) → List A → Phrase (List A)
Further limit Sep P before d g = IsFurther g limit (Sep d g) (λ s. P s d g) before

abbrev pub More : {A S : Type 0} → ℕ → Phrase S → (S → Phrase A) → List A → ℕ → A → Phrase (List A)
More limit Sep P before n a d g = IsMore g limit (Sep d g) (λ s. P s d g) n (before ++ a ∷ [])

-- an entry after so many, and so many more
abbrev pub Entry : {A S : Type 0} → ℕ → Phrase S → (S → Phrase A) → List A → ℕ → S → Phrase (List A)
Entry limit Sep P before n s d g next = Within g limit (length before) (P s d g (λ a. More limit Sep P before n a d g next))

abbrev pub None : {A : Type 0} → List A → Phrase (List A)
None before d g next = next before

further_to : {A S : Type 0} (limit : ℕ) (Sep : Phrase S) (P : S → Phrase A) (before : List A) (d : ℕ) (g : Gate) (next : Next (List A)) (ts : List Token)
    → Or (None before) (ThenSome Sep (Entry limit Sep P before)) d g next ts → Further limit Sep P before d g next ts
unfolding IsMore
further_to limit Sep P before d g next ts h = elim h [ inl none ↦ (0, none) | inr goes ↦ (suc goes.0, goes.1) ]

further_from : {A S : Type 0} (limit : ℕ) (Sep : Phrase S) (P : S → Phrase A) (before : List A) (d : ℕ) (g : Gate) (next : Next (List A)) (ts : List Token) (n : ℕ)
    → IsMore g limit (Sep d g) (λ s. P s d g) n before next ts → Or (None before) (ThenSome Sep (Entry limit Sep P before)) d g next ts
unfolding IsMore
further_from limit Sep P before d g next ts zero h = inl h
further_from limit Sep P before d g next ts (suc n) h = inr (n, h)

pub further_same : {A S : Type 0} (limit : ℕ) (Sep : Phrase S) (P : S → Phrase A) (before : List A) → Same (Or (None before) (ThenSome Sep (Entry limit Sep P before))) (Further limit Sep P before)
further_same limit Sep P before = record { to = further_to limit Sep P before; from = λ d g next ts h. further_from limit Sep P before d g next ts h.0 h.1 }

pub further_able : {A S : Type 0} (limit : ℕ) (Sep : Phrase S) (P : S → Phrase A) (before : List A) (d : ℕ) → Able (Further limit Sep P before) d
unfolding IsMore
further_able limit Sep P before d = record { more = []; value = before; ends = λ d' g next v le o h. (0, h) }

-- within the limit an entry is as its phrase says
pub entry_same : {A S : Type 0} (limit : ℕ) (Sep : Phrase S) (P : S → Phrase A) (before : List A) (s : S) → length before < limit → Same (ThenSome (P s) (More limit Sep P before)) (Some (Entry limit Sep P before) s)
entry_same limit Sep P before s lt = record { to = λ d g next ts h. (h.0, (λ le. absurd (omega arith), h.1)); from = λ d g next ts h. (h.0, h.1.1) }

-- past it one begins where the gate is open
pub entry_began : {A S : Type 0} (limit : ℕ) (Sep : Phrase S) (P : S → Phrase A) (before : List A) (s : S) (n : ℕ) (tail : List Token) → Began (P s) n [] tail → Began (Some (Entry limit Sep P before) s) n [] tail
unfolding IsMore
entry_began limit Sep P before s n tail b = record {
  more = b.more;
  value = before ++ b.value ∷ [];
  ends = λ d' g next v le o h. (0, (λ _. o _ (omega arith), b.ends d' g (λ a. More limit Sep P before 0 a d' g next) v le o h));
}

pub entry_able : {A S : Type 0} (limit : ℕ) (Sep : Phrase S) (P : S → Phrase A) (before : List A) (s : S) (d : ℕ) → Able (P s) d → Able (Some (Entry limit Sep P before) s) d
entry_able limit Sep P before s d able = entry_began limit Sep P before s d [] able

pub more_clear : {A S : Type 0} (T SP : Token → Type 0) (limit : ℕ) (Sep : Phrase S) (P : S → Phrase A) (before : List A)
    → ((t : Token) → SP t → T t) → ((d : ℕ) (g : Gate) (next : Next S) (t : Token) (ts : List Token) → SP t → Sep d g next (t ∷ ts) → ⊥)
    → (n : ℕ) (a : A) (d : ℕ) (g : Gate) (next : Next (List A)) → Avoids T next → (t : Token) (ts : List Token) → SP t → More limit Sep P before n a d g next (t ∷ ts) → ⊥
unfolding IsMore
more_clear T SP limit Sep P before within apart zero a d g next avoids t ts s h = avoids (before ++ a ∷ []) t ts (within t s) h
more_clear T SP limit Sep P before within apart (suc n) a d g next avoids t ts s h = apart d g _ t ts s h

-- an entry past the limit is refused at its first token, and one within it is read
pub past_law : {A S : Type 0} (T SP : Token → Type 0) (limit : ℕ) (Sep : Phrase S) (P : S → Phrase A) (before : List A) (s : S) (d : ℕ) (peek : List Token → Read Token)
    → ((t : Token) → SP t → T t) → ((d : ℕ) (g : Gate) (next : Next S) (t : Token) (ts : List Token) → SP t → Sep d g next (t ∷ ts) → ⊥)
    → Peek SP (P s) d peek → Able (P s) d → limit ≤ length before → (ts : List Token) (r : Read Token) → peek ts ≡ r
    → Law T (Some (Entry limit Sep P before) s) d ts (r >>= λ _. Err (too_many (place_of ts)))
past_law {A} {S} T SP limit Sep P before s d peek within apart look able le ts (Err e) is = record {
  front = [];
  rest = ts;
  is = refl;
  fault = let f = look.stops ts e is in fault_moved f (λ n. n)
      (λ d' g next w where' avoids heads h. f.dead d' g (λ a. More limit Sep P before h.0 a d' g next) w where'
      (λ a t us st n. more_clear T SP limit Sep P before within apart h.0 a d' g next avoids t us st n) heads h.1.1)
      (λ n tail b. entry_began limit Sep P before s n tail b) (λ tail b. entry_began limit Sep P before s d tail b);
}
past_law {A} {S} T SP limit Sep P before s d peek within apart look able le ts (Ok x) is = record {
  front = [];
  rest = ts;
  is = refl;
  fault = record {
    cause = longer;
    place = refl;
    dead = λ d' g next w where' avoids heads h. where' w (omega arith) (h.1.0 le);
    viable = entry_able limit Sep P before s d able;
    goes = moved (λ tail b. entry_began limit Sep P before s d tail b) (look.goes ts x is);
  };
}
