-- Languages that give only valid values, of tokens that lexing gave.
use Rattle.std.proofs.Common.{◌≡◌, ◌⊎◌, ◌≤◌, ◌<◌, ℕ, suc, zero, Bool, true, List, [], ◌∷◌, ◌++◌, length, sym, ◌∙◌, ap, inl, inr, arith, length-append}
use Rattle.std.proofs.lemmas.List.{append_assoc, append-nil}
use Rattle.pm_lexer.specs.declared.token.Token.{Token}
use Rattle.pm_grammar.specs.Language.{Lang, Is, never, IsMore, IsFurther, IsList}
use Rattle.pm_canonical.proofs.Valid.{Every, ValidList}
use Rattle.pm_canonical.proofs.Formed.{IsFormed}

-- a valid value, and what follows
pub record Gave {A : Type 0} (V : A → Type 0) (next : A → List Token → Type 0) : Type 0 where
  pub value : A
  pub rest : List Token
  pub valid : V value
  pub formed : Every IsFormed rest
  pub follows : next value rest

abbrev pub Sound : {A : Type 0} → Lang A → (A → Type 0) → Type 1
Sound {A} P V = (next : A → List Token → Type 0) (ts : List Token) → Every IsFormed ts → P next ts → Gave V next

pub sound : {A : Type 0} (V : A → Type 0) (a : A) → V a → Sound (λ next. next a) V
sound V a valid next ts formed h = record { value = a; rest = ts; valid = valid; formed = formed; follows = h }

pub sound_token : (test : Token → Bool) → Sound (Is test) (λ t. IsFormed t × (test t ≡ true))
sound_token test next [] formed h = absurd h
sound_token test next (t ∷ ts) formed h = record { value = t; rest = ts; valid = (formed.0, h.0); formed = formed.1; follows = h.1 }

pub sound_bind : {A B : Type 0} (P : Lang A) (Q : A → Lang B) (V : A → Type 0) (W : B → Type 0) → Sound P V → ((a : A) → V a → Sound (Q a) W) → Sound (λ next. P (λ v. Q v next)) W
sound_bind P Q V W p q next ts formed h = let x = p (λ v. Q v next) ts formed h in q x.value x.valid next x.rest x.formed x.follows

pub sound_map : {A B : Type 0} (P : Lang A) (f : A → B) (V : A → Type 0) (W : B → Type 0) → Sound P V → ((a : A) → V a → W (f a)) → Sound (λ next. P (λ v. next (f v))) W
sound_map P f V W p up next ts formed h =
    let x = p (λ v. next (f v)) ts formed h in
    record { value = f x.value; rest = x.rest; valid = up x.value x.valid; formed = x.formed; follows = x.follows }

pub sound_better : {A : Type 0} (P : Lang A) (V W : A → Type 0) → ((a : A) → V a → W a) → Sound P V → Sound P W
sound_better P V W up p next ts formed h = let x = p next ts formed h in record { value = x.value; rest = x.rest; valid = up x.value x.valid; formed = x.formed; follows = x.follows }

-- a token, and then a phrase
pub sound_after : {B : Type 0} (test : Token → Bool) (Q : Token → Lang B) (W : B → Type 0) → ((t : Token) → IsFormed t → test t ≡ true → Sound (Q t) W) → Sound (λ next. Is test (λ t. Q t next)) W
sound_after test Q W q = sound_bind (Is test) Q (λ t. IsFormed t × (test t ≡ true)) W (sound_token test) (λ t v. q t v.0 v.1)

pub sound_or : {A : Type 0} (P Q : Lang A) (V : A → Type 0) → Sound P V → Sound Q V → Sound (λ next ts. P next ts ⊎ Q next ts) V
sound_or P Q V p q next ts formed h = elim h [ inl a ↦ p next ts formed a | inr b ↦ q next ts formed b ]

pub every_push : {A : Type 0} (V : A → Type 0) (xs : List A) (a : A) → Every V xs → V a → Every V (xs ++ a ∷ [])
every_push V [] a all here = (here, tt)
every_push V (x ∷ xs) a all here = (all.0, every_push V xs a all.1 here)

-- a list that goes on from another, within the limit
pub record Grown {A : Type 0} (limit : ℕ) (V : A → Type 0) (before xs : List A) : Type 0 where
  pub more : List A
  pub is : xs ≡ before ++ more
  pub within : length xs ≤ limit
  pub each : Every V xs

grown_more : {A : Type 0} (limit : ℕ) (V : A → Type 0) (before : List A) (a : A) (xs : List A) → Grown limit V (before ++ a ∷ []) xs → Grown limit V before xs
grown_more limit V before a xs g = record { more = a ∷ g.more; is = g.is ∙ append_assoc before (a ∷ []) g.more; within = g.within; each = g.each }

pub sound_more : {A S : Type 0} (limit : ℕ) (Sep : Lang S) (P : S → Lang A) (V : A → Type 0) → Sound Sep (λ _. Unit {0}) → ((s : S) → Sound (P s) V)
    → (n : ℕ) (before : List A) → Every V before → length before ≤ limit → Sound (IsMore never limit Sep P n before) (Grown limit V before)
unfolding IsMore
sound_more limit Sep P V sep entry zero before all fits next ts formed h = sound (Grown limit V before) before (record { more = []; is = sym (append-nil before); within = fits; each = all }) next ts formed h
sound_more limit Sep P V sep entry (suc n) before all fits next ts formed h =
    let s = sep (λ s ts. (limit ≤ length before → ⊥) × P s (λ a. IsMore never limit Sep P n (before ++ a ∷ []) next) ts) ts formed h in
    let a = entry s.value (λ a. IsMore never limit Sep P n (before ++ a ∷ []) next) s.rest s.formed s.follows.1 in
    let room : limit ≤ length before → ⊥ = s.follows.0 in
    let r = sound_more limit Sep P V sep entry n (before ++ a.value ∷ []) (every_push V before a.value all a.valid) (omega (arith, length-append before (a.value ∷ []), below limit (length before) room)) next a.rest a.formed a.follows in
    record { value = r.value; rest = r.rest; valid = grown_more limit V before a.value r.value r.valid; formed = r.formed; follows = r.follows }
  where
    below : (m n : ℕ) → (m ≤ n → ⊥) → n < m
    below m n h = grind arith

pub sound_further : {A S : Type 0} (limit : ℕ) (Sep : Lang S) (P : S → Lang A) (V : A → Type 0) → Sound Sep (λ _. Unit {0}) → ((s : S) → Sound (P s) V)
    → (before : List A) → Every V before → length before ≤ limit → Sound (IsFurther never limit Sep P before) (Grown limit V before)
sound_further limit Sep P V sep entry before all fits next ts formed h = sound_more limit Sep P V sep entry h.0 before all fits next ts formed h.1

-- a list with separators
pub sound_list : {A : Type 0} (limit : ℕ) (P : Lang A) (sep : Token → Bool) (V : A → Type 0) → 1 ≤ limit → Sound P V → Sound (IsList never limit P sep) (ValidList limit V)
sound_list limit P sep V one p =
    sound_bind P (λ a. IsFurther never limit (Is sep) (λ _. P) (a ∷ [])) V (ValidList limit V) p
    (λ a valid. sound_better (IsFurther never limit (Is sep) (λ _. P) (a ∷ [])) (Grown limit V (a ∷ [])) (ValidList limit V)
    (λ xs g. record { some = omega (arith, ap length g.is, length-append (a ∷ []) g.more); within = g.within; each = g.each })
    (sound_further limit (Is sep) (λ _. P) V (sound_better (Is sep) (λ t. IsFormed t × (sep t ≡ true)) (λ _. Unit {0}) (λ _ _. tt) (sound_token sep)) (λ _. p) (a ∷ []) (valid, tt) one))
