-- What a right reading answers is what the tokens call for.
use Rattle.std.proofs.Common.{◌≡◌, ◌≤◌, ℕ, List, [], ◌∷◌, ◌++◌, length, Ok, Err, refl, arith, append-nil}
use Rattle.pm_lexer.specs.declared.token.Token.{Token}
use Rattle.pm_grammar.specs.Reading.{Stop, Read, place_of, whole}
use Rattle.pm_grammar.specs.Answers.{Past, nowhere, within, anywhere, gate_of, Begins, BeginsLike, CallsFor}
use Rattle.pm_grammar.proofs.Phrases.{Phrase, Next, Avoids, Heads, Began, Cause, no_phrase, deeper, longer, stop_at, Where, Goes, Taken, Faulted, Law, Nothing}

abbrev pub Ends : {A : Type 0} → A → Next A
Ends a found rest = (found ≡ a) × (rest ≡ [])

pub free : {A : Type 0} (next : Next A) → Avoids Nothing next
free next a t ts s h = s

-- a phrase that has begun ends somewhere
pub begins : {A : Type 0} (P : Phrase A) (d : ℕ) (front tail : List Token) → Began P d front tail → Begins P d front tail
begins P d front tail b =
    let more = b.more in
    (more, b.value, rw (append-nil more) at (b.ends d (gate_of (within (tail ++ more))) (Ends b.value) [] (omega arith) (λ ts h. rw (append-nil more) at h) (refl, refl)))

read_whole : {A : Type 0} (P : Phrase A) (d : ℕ) (ts : List Token) (a : A) → Taken Nothing P d ts (a, []) → CallsFor P d ts (Ok a)
read_whole P d ts a l = rw l.is (l.took.keeps d (gate_of nowhere) (Ends a) [] (omega arith) (refl, refl))

read_before : {A : Type 0} (P : Phrase A) (d : ℕ) (ts : List Token) (a : A) (u : Token) (us : List Token) → Taken Nothing P d ts (a, u ∷ us) → CallsFor P d ts (whole (Ok (a, u ∷ us)))
read_before {A} P d ts a u us l = record {
  front = l.front;
  rest = u ∷ us;
  is = l.is;
  place = refl;
  begins = ([], a, l.took.keeps d (gate_of (within [])) (Ends a) [] (omega arith) (refl, refl));
  none = λ e past w value like h. ends w like (l.took.only e (gate_of past) (Ends value) w (free (Ends value)) like h).1;
}
  where
    ends : (w : List Token) → BeginsLike (u ∷ us) w → w ≡ [] → ⊥
    ends [] like e = like
    ends (v ∷ vs) like e = cc e

abbrev Dead : {A : Type 0} → Phrase A → ℕ → List Token → List Token → Cause → Type 1
Dead {A} P d front rest cause = (d' : ℕ) (g : (List Token → Type 0)) (next : Next A) (w : List Token) → Where cause d d' g w → Avoids Nothing next → Heads rest w → P d' g next (front ++ w) → ⊥

first_like : (rest : List Token) (token : Token) (others w : List Token) → rest ≡ token ∷ others → Heads rest (token ∷ w)
first_like rest token others w e = rw e refl

-- where a gate that belongs to some last tokens is shut, it is shut before
shut_before : (past : Past) (w : List Token) → (gate_of past w → ⊥) → (ts : List Token) → length w ≤ length ts → gate_of past ts → ⊥
shut_before nowhere w shut ts le g = g
shut_before (within last) w shut ts le g = shut (omega arith)
shut_before anywhere w shut ts le g = shut tt

by_cause : {A : Type 0} (P : Phrase A) (d : ℕ) (ts front rest : List Token) (cause : Cause) → ts ≡ front ++ rest → Begins P d front [] → Dead P d front rest cause → Goes P d front rest cause
    → CallsFor P d ts (Err (stop_at cause (place_of rest)))
by_cause P d ts front rest no_phrase is b dead goes = record {
  front = front;
  rest = rest;
  is = is;
  place = refl;
  begins = b;
  none = λ e past w value like h. dead e (gate_of past) (Ends value) w tt (free (Ends value)) like h;
}
by_cause P d ts front rest deeper is b dead goes =
    let on = goes.1 in
    record {
      front = front;
      token = on.token;
      rest = on.others;
      is = rw on.is at is;
      place = rw on.is refl;
      begins = b;
      none = λ past w value h. dead d (gate_of past) (Ends value) (on.token ∷ w) refl (free (Ends value)) (first_like rest on.token on.others w on.is) h;
      depth = goes.0;
      deeper = begins P goes.0 front (on.token ∷ []) on.began;
    }
by_cause P d ts front rest longer is b dead goes = record {
  front = front;
  token = goes.token;
  rest = goes.others;
  is = rw goes.is at is;
  place = rw goes.is refl;
  begins = begins P d front (goes.token ∷ []) goes.began;
  none = λ past w value shut h. dead d (gate_of past) (Ends value) (goes.token ∷ w) (shut_before past (goes.token ∷ w) shut) (free (Ends value)) (first_like rest goes.token goes.others w goes.is) h;
}

fault_calls : {A : Type 0} (P : Phrase A) (d : ℕ) (ts : List Token) (stop : Stop) → Faulted Nothing P d ts stop → CallsFor P d ts (Err stop)
fault_calls P d ts stop l = let f = l.fault in rw f.place (by_cause P d ts l.front l.rest f.cause l.is (begins P d l.front [] f.viable) f.dead f.goes)

pub law_calls : {A : Type 0} (P : Phrase A) (d : ℕ) (ts : List Token) (r : Read A) → Law Nothing P d ts r → CallsFor P d ts (whole r)
law_calls P d ts (Ok (a, [])) l = read_whole P d ts a l
law_calls P d ts (Ok (a, u ∷ us)) l = read_before P d ts a u us l
law_calls P d ts (Err stop) l = fault_calls P d ts stop l
