-- Tokens call for one answer at most.
use Rattle.std.proofs.Common.{◌≡◌, ◌≤◌, ◌⊎◌, ℕ, List, [], ◌∷◌, ◌++◌, length, Result, Ok, Err, refl, sym, ◌∙◌, ap, inl, inr, arith, append_assoc, length-append}
use Rattle.pm_lexer.specs.declared.token.Token.{Token}
use Rattle.pm_grammar.specs.Reading.{Stop, expected, too_deep, too_many, Read}
use Rattle.pm_grammar.specs.Answers.{Past, nowhere, within, gate_of, IsWhole, Begins, ExpectedIn, TooDeepIn, TooManyIn, CallsFor}
use Rattle.pm_grammar.proofs.Phrases.{Phrase, heads_same, Law, Nothing}
use Rattle.pm_grammar.proofs.Called.{Ends, free, law_calls}

-- What refusals have in common: a phrase begins with the tokens before the place, and none with the one there too.
record Stands {A : Type 0} (P : Phrase A) (d : ℕ) (tokens front rest : List Token) : Type 0 where
  pub is : tokens ≡ front ++ rest
  pub begins : Begins P d front []
  pub none : (past : Past) (t : Token) (others w : List Token) (value : A) → rest ≡ t ∷ others → (gate_of past (t ∷ w) → ⊥) → IsWhole P d past (front ++ t ∷ w) value → ⊥

expected_stands : {A : Type 0} (P : Phrase A) (d : ℕ) (tokens : List Token) (p : ℕ) (x : ExpectedIn P d tokens p) → Stands P d tokens x.front x.rest
expected_stands P d tokens p x = record { is = x.is; begins = x.begins; none = λ past t others w value is shut h. x.none d past (t ∷ w) value (rw is refl) h }

deep_stands : {A : Type 0} (P : Phrase A) (d : ℕ) (tokens : List Token) (p : ℕ) (x : TooDeepIn P d tokens p) → Stands P d tokens x.front (x.token ∷ x.rest)
deep_stands P d tokens p x = record {
  is = x.is;
  begins = x.begins;
  none = λ past t others w value is shut h. let same : t ≡ x.token = cc is in x.none past w value (rw same at h);
}

many_stands : {A : Type 0} (P : Phrase A) (d : ℕ) (tokens : List Token) (p : ℕ) (x : TooManyIn P d tokens p) → Stands P d tokens x.front (x.token ∷ x.rest)
many_stands P d tokens p x = record {
  is = x.is;
  begins = (x.token ∷ x.begins.0, x.begins.1, x.begins.2);
  none = λ past t others w value is shut h. let same : t ≡ x.token = cc is in x.none past w value (rw same at shut) (rw same at h);
}

-- the second cut of a list lies after the first
abbrev Later : List Token → List Token → List Token → List Token → Type 0
Later front rest front' rest' = (t : Token) × (mid : List Token) × (front' ≡ front ++ t ∷ mid) × (rest ≡ t ∷ (mid ++ rest'))

after : (t : Token) (front rest front' rest' : List Token) → Later front rest front' rest' → Later (t ∷ front) rest (t ∷ front') rest'
after t front rest front' rest' l = (l.0, l.1, rw l.2 refl, l.3)

cuts : (front rest front' rest' : List Token) → front ++ rest ≡ front' ++ rest' → (Later front rest front' rest' ⊎ Later front' rest' front rest) ⊎ ((front ≡ front') × (rest ≡ rest'))
cuts [] rest [] rest' e = inr (refl, e)
cuts [] rest (u ∷ front') rest' e = inl (inl (u, front', refl, e))
cuts (t ∷ front) rest [] rest' e = inl (inr (t, front, refl, sym e))
cuts (t ∷ front) rest (u ∷ front') rest' e =
    let first : t ≡ u = cc e in
    let others : front ++ rest ≡ front' ++ rest' = cc e in
    rw first (elim (cuts front rest front' rest' others) [
      | inl (inl l) ↦ inl (inl (after u front rest front' rest' l))
      | inl (inr l) ↦ inl (inr (after u front' rest' front rest l))
      | inr same ↦ inr (rw same.0 refl, same.1)
    ])

not_later : {A : Type 0} (P : Phrase A) (d : ℕ) (tokens front rest front' rest' : List Token) → Stands P d tokens front rest → Stands P d tokens front' rest' → Later front rest front' rest' → ⊥
not_later P d tokens front rest front' rest' x y l =
    let more = y.begins.0 in
    let h : IsWhole P d (within more) ((front ++ l.0 ∷ l.1) ++ more) y.begins.1 = rw l.2 at y.begins.2 in
    x.none (within more) l.0 (l.1 ++ rest') (l.1 ++ more) y.begins.1 l.3 (λ g. longer l.0 l.1 more g) (rw append_assoc at h)
  where
    longer : (t : Token) (mid more : List Token) → length (t ∷ (mid ++ more)) ≤ length more → ⊥
    longer t mid more g = omega (arith, length-append mid more)

one_place : {A : Type 0} (P : Phrase A) (d : ℕ) (tokens front rest front' rest' : List Token) → Stands P d tokens front rest → Stands P d tokens front' rest' → (front ≡ front') × (rest ≡ rest')
one_place P d tokens front rest front' rest' x y = elim (cuts front rest front' rest' (sym x.is ∙ y.is)) [
  | inl (inl l) ↦ absurd (not_later P d tokens front rest front' rest' x y l)
  | inl (inr l) ↦ absurd (not_later P d tokens front' rest' front rest y x l)
  | inr same ↦ same
]

-- at one place the refusals exclude one another
not_begun : {A : Type 0} (P : Phrase A) (d : ℕ) (tokens : List Token) (p : ℕ) (x : ExpectedIn P d tokens p) (e : ℕ) (front : List Token) (t : Token) (others : List Token)
    → (x.front ≡ front) × (x.rest ≡ t ∷ others) → Begins P e front (t ∷ []) → ⊥
not_begun P d tokens p x e front t others same b = x.none e (within (t ∷ b.0)) (t ∷ b.0) b.1 (rw same.1 refl) (rw same.0 b.2)

expected_deep : {A : Type 0} (P : Phrase A) (d : ℕ) (tokens : List Token) (p q : ℕ) → ExpectedIn P d tokens p → TooDeepIn P d tokens q → ⊥
expected_deep P d tokens p q x y =
    not_begun P d tokens p x y.depth y.front y.token y.rest (one_place P d tokens x.front x.rest y.front (y.token ∷ y.rest) (expected_stands P d tokens p x) (deep_stands P d tokens q y)) y.deeper

expected_many : {A : Type 0} (P : Phrase A) (d : ℕ) (tokens : List Token) (p q : ℕ) → ExpectedIn P d tokens p → TooManyIn P d tokens q → ⊥
expected_many P d tokens p q x y =
    not_begun P d tokens p x d y.front y.token y.rest (one_place P d tokens x.front x.rest y.front (y.token ∷ y.rest) (expected_stands P d tokens p x) (many_stands P d tokens q y)) y.begins

deep_many : {A : Type 0} (P : Phrase A) (d : ℕ) (tokens : List Token) (p q : ℕ) → TooDeepIn P d tokens p → TooManyIn P d tokens q → ⊥
deep_many P d tokens p q x y =
    let same = one_place P d tokens x.front (x.token ∷ x.rest) y.front (y.token ∷ y.rest) (deep_stands P d tokens p x) (many_stands P d tokens q y) in
    let token : x.token ≡ y.token = cc same.1 in
    x.none (within (y.token ∷ y.begins.0)) y.begins.0 y.begins.1 (rw (same.0, token) y.begins.2)

pub refusals_same : {A : Type 0} (P : Phrase A) (d : ℕ) (tokens : List Token) (x y : Stop) → CallsFor P d tokens (Err x) → CallsFor P d tokens (Err y) → x ≡ y
refusals_same P d tokens (expected p) (expected q) x y =
    let same = one_place P d tokens x.front x.rest y.front y.rest (expected_stands P d tokens p x) (expected_stands P d tokens q y) in
    ap expected (x.place ∙ rw same.1 (sym y.place))
refusals_same P d tokens (expected p) (too_deep q) x y = absurd (expected_deep P d tokens p q x y)
refusals_same P d tokens (expected p) (too_many q) x y = absurd (expected_many P d tokens p q x y)
refusals_same P d tokens (too_deep p) (expected q) x y = absurd (expected_deep P d tokens q p y x)
refusals_same P d tokens (too_deep p) (too_deep q) x y =
    let same = one_place P d tokens x.front (x.token ∷ x.rest) y.front (y.token ∷ y.rest) (deep_stands P d tokens p x) (deep_stands P d tokens q y) in
    let token : x.token ≡ y.token = cc same.1 in
    ap too_deep (x.place ∙ rw token (sym y.place))
refusals_same P d tokens (too_deep p) (too_many q) x y = absurd (deep_many P d tokens p q x y)
refusals_same P d tokens (too_many p) (expected q) x y = absurd (expected_many P d tokens q p y x)
refusals_same P d tokens (too_many p) (too_deep q) x y = absurd (deep_many P d tokens q p y x)
refusals_same P d tokens (too_many p) (too_many q) x y =
    let same = one_place P d tokens x.front (x.token ∷ x.rest) y.front (y.token ∷ y.rest) (many_stands P d tokens p x) (many_stands P d tokens q y) in
    let token : x.token ≡ y.token = cc same.1 in
    ap too_many (x.place ∙ rw token (sym y.place))

-- and a reading excludes each refusal
pub not_read : {A : Type 0} (P : Phrase A) (d : ℕ) (tokens : List Token) (x : Stop) (a : A) → CallsFor P d tokens (Err x) → CallsFor P d tokens (Ok a) → ⊥
not_read P d tokens (expected p) a x h = x.none d nowhere x.rest a (heads_same x.rest) (rw x.is at h)
not_read P d tokens (too_deep p) a x h = x.none nowhere x.rest a (rw x.is at h)
not_read P d tokens (too_many p) a x h = x.none nowhere x.rest a (λ g. g) (rw x.is at h)

-- two readings are one, where a right reading is known
readings_same : {A : Type 0} (P : Phrase A) (d : ℕ) (tokens : List Token) (r : Read A) → Law Nothing P d tokens r → (a b : A) → CallsFor P d tokens (Ok a) → CallsFor P d tokens (Ok b) → a ≡ b
readings_same P d tokens (Ok (c, rest)) l a b x y =
    let one = l.took.only d (gate_of nowhere) (Ends a) rest (free (Ends a)) (heads_same rest) (rw l.is at x) in
    let two = l.took.only d (gate_of nowhere) (Ends b) rest (free (Ends b)) (heads_same rest) (rw l.is at y) in
    sym one.0 ∙ two.0
readings_same P d tokens (Err stop) l a b x y = absurd (not_read P d tokens stop a (law_calls P d tokens (Err stop) l) x)

-- the tokens call for one answer at most
pub answers_same : {A : Type 0} (P : Phrase A) (d : ℕ) (tokens : List Token) (r : Read A) → Law Nothing P d tokens r → (x y : Result A Stop) → CallsFor P d tokens x → CallsFor P d tokens y → x ≡ y
answers_same P d tokens r l (Ok a) (Ok b) x y = ap Ok (readings_same P d tokens r l a b x y)
answers_same P d tokens r l (Ok a) (Err e) x y = absurd (not_read P d tokens e a y x)
answers_same P d tokens r l (Err e) (Ok a) x y = absurd (not_read P d tokens e a x y)
answers_same P d tokens r l (Err e) (Err f) x y = ap Err (refusals_same P d tokens e f x y)
