-- Languages that read tokens of given shapes.
use Rattle.std.proofs.Common.{◌≡◌, ◌⊎◌, ◌≤◌, ◌<◌, ◌+◌, ℕ, suc, zero, Bool, true, List, [], ◌∷◌, ◌++◌, length, map, refl, sym, ◌∙◌, ap, inl, inr, append_assoc, arith, length-append}
use Rattle.std.specs.List.{flat_map}
use Rattle.std.proofs.lemmas.List.{map-append, append-nil}
use Rattle.pm_lexer.specs.declared.token.Token.{Token}
use Rattle.pm_lexer.specs.declared.symbol.Symbol.{Symbol}
use Rattle.pm_lexer.specs.Symbol.{symbol_of, symbol_at, same_symbol, is}
use Rattle.pm_grammar.specs.Language.{Lang, Is, never, IsMore, IsFurther, IsList}
use Rattle.pm_canonical.proofs.Shapes.{Shape, shape_of, between}
use Rattle.pm_canonical.proofs.Valid.{Every}

-- a value, and nothing after it
abbrev pub Whole : {A : Type 0} → A → A → List Token → Type 0
Whole value found rest = (found ≡ value) × (rest ≡ [])

-- tokens that stand for two parts
pub record Split (front : List Token) (a b : List Shape) : Type 0 where
  pub first : List Token
  pub second : List Token
  pub is : front ≡ first ++ second
  pub first_is : map shape_of first ≡ a
  pub second_is : map shape_of second ≡ b

same_head : (s t : Shape) (ss ts : List Shape) → s ∷ ss ≡ t ∷ ts → s ≡ t
same_head s t ss ts e = cc

same_tail : (s t : Shape) (ss ts : List Shape) → s ∷ ss ≡ t ∷ ts → ss ≡ ts
same_tail s t ss ts e = cc

pub split : (front : List Token) (a b : List Shape) → map shape_of front ≡ a ++ b → Split front a b
split front [] b e = record { first = []; second = front; is = refl; first_is = refl; second_is = e }
split [] (s ∷ a) b e = absurd (cc e)
split (t ∷ front) (s ∷ a) b e =
    let r : Split front a b = split front a b (same_tail _ _ _ _ e) in
    let head : shape_of t ≡ s = same_head _ _ _ _ e in
    record { first = t ∷ r.first; second = r.second; is = ap (λ x. t ∷ x) r.is; first_is = ap (λ x. x ∷ map shape_of r.first) head ∙ ap (λ xs. s ∷ xs) r.first_is; second_is = r.second_is }

-- what these tokens are read as, whatever follows
pub record Found {A : Type 0} (P : Lang A) (Good : A → Type 0) (front : List Token) : Type 1 where
  pub value : A
  pub good : Good value
  pub reads : (next : A → List Token → Type 0) (w : List Token) → next value w → P next (front ++ w)

-- tokens of these shapes are read, as a good value
abbrev pub Reading : {A : Type 0} → Lang A → (A → Type 0) → List Shape → Type 1
Reading P Good shapes = (front : List Token) → map shape_of front ≡ shapes → Found P Good front

pub pure : {A : Type 0} (Good : A → Type 0) (a : A) → Good a → Reading (λ next. next a) Good []
pure Good a good [] e = record { value = a; good = good; reads = λ next w h. h }
pure Good a good (t ∷ ts) e = absurd (cc e)

pub shaped : {A : Type 0} (P : Lang A) (Good : A → Type 0) (a b : List Shape) → a ≡ b → Reading P Good a → Reading P Good b
shaped P Good a b e p front f = p front (f ∙ sym e)

pub better : {A : Type 0} (P : Lang A) (Good Better : A → Type 0) (a : List Shape) → ((x : A) → Good x → Better x) → Reading P Good a → Reading P Better a
better P Good Better a up p front f = let x = p front f in record { value = x.value; good = up x.value x.good; reads = x.reads }

pub token : (test : Token → Bool) (s : Shape) → ((t : Token) → shape_of t ≡ s → test t ≡ true) → Reading (Is test) (λ t. shape_of t ≡ s) (s ∷ [])
token test s passes [] e = absurd (cc e)
token test s passes (t ∷ []) e =
    let same : shape_of t ≡ s = same_head _ _ _ _ e in
    record { value = t; good = same; reads = λ next w h. (passes t same, h) }
token test s passes (t ∷ u ∷ ts) e = absurd (cc e)

bound : {A B : Type 0} (P : Lang A) (Q : A → Lang B) (Good : A → Type 0) (Better : B → Type 0) (first second front : List Token) → front ≡ first ++ second → (x : Found P Good first) → Found (Q x.value) Better second
    → Found (λ next. P (λ v. Q v next)) Better front
bound P Q Good Better first second front is x y = record {
  value = y.value;
  good = y.good;
  reads = λ next w h. rw (is, append_assoc first second w) (x.reads (λ v. Q v next) (second ++ w) (y.reads next w h));
}

pub bind : {A B : Type 0} (P : Lang A) (Q : A → Lang B) (Good : A → Type 0) (Better : B → Type 0) (a b : List Shape) → Reading P Good a → ((x : A) → Good x → Reading (Q x) Better b) → Reading (λ next. P (λ v. Q v next)) Better (a ++ b)
bind P Q Good Better a b p q front e =
    let s = split front a b e in
    let x = p s.first s.first_is in
    bound P Q Good Better s.first s.second front s.is x (q x.value x.good s.second s.second_is)

-- a phrase that is given another value
pub mapped : {A B : Type 0} (P : Lang A) (f : A → B) (Good : A → Type 0) (Better : B → Type 0) (a : List Shape) → Reading P Good a → ((x : A) → Good x → Better (f x)) → Reading (λ next. P (λ v. next (f v))) Better a
mapped P f Good Better a p up front e =
    let x = p front e in
    record { value = f x.value; good = up x.value x.good; reads = λ next w h. x.reads (λ v. next (f v)) w h }

pub left : {A : Type 0} (P Q : Lang A) (Good : A → Type 0) (a : List Shape) → Reading P Good a → Reading (λ next ts. P next ts ⊎ Q next ts) Good a
left P Q Good a p front e = let x = p front e in record { value = x.value; good = x.good; reads = λ next w h. inl (x.reads next w h) }

pub right : {A : Type 0} (P Q : Lang A) (Good : A → Type 0) (a : List Shape) → Reading Q Good a → Reading (λ next ts. P next ts ⊎ Q next ts) Good a
right P Q Good a p front e = let x = p front e in record { value = x.value; good = x.good; reads = λ next w h. inr (x.reads next w h) }

-- with a fact that is known
pub given : {A : Type 0} (P : Lang A) (Good : A → Type 0) (a : List Shape) (C : Type 0) → C → Reading P Good a → Reading (λ next ts. C × P next ts) Good a
given P Good a C c p front e = let x = p front e in record { value = x.value; good = x.good; reads = λ next w h. (c, x.reads next w h) }

-- tokens of this shape are this symbol
abbrev pub Stands : Symbol → Shape → Type 0
Stands s h = same_symbol (symbol_at h.kind h.slice) s ≡ true

pub passes : (s : Symbol) (h : Shape) → Stands s h → (t : Token) → shape_of t ≡ h → is s t ≡ true
unfolding symbol_of
passes s h stands t e = ap (λ x. same_symbol (symbol_at x.kind x.slice) s) e ∙ stands

pub symbol_token : (s : Symbol) (h : Shape) → Stands s h → Reading (Is (is s)) (λ t. shape_of t ≡ h) (h ∷ [])
symbol_token s h stands = token (is s) h (passes s h stands)

-- a symbol, and then a phrase
pub and_then : {B : Type 0} (s : Symbol) (h : Shape) → Stands s h → (Q : Token → Lang B) (Better : B → Type 0) (b : List Shape) → ((t : Token) → shape_of t ≡ h → Reading (Q t) Better b) → Reading (λ next. Is (is s) (λ t. Q t next)) Better (h ∷ b)
and_then s h stands Q Better b q = bind (Is (is s)) Q (λ t. shape_of t ≡ h) Better (h ∷ []) b (symbol_token s h stands) q

-- an entry with its separator, where the limit allows it
abbrev pub Entry : {A S : Type 0} → Lang S → (S → Lang A) → (A → Type 0) → List Shape → Type 1
Entry Sep P Good shapes = (C : Type 0) → C → Reading (λ next. Sep (λ s ts. C × P s next ts)) Good shapes

-- R is at hand for each
abbrev pub Each : {A : Type 0} → (A → Type 1) → List A → Type 1
Each R [] = Unit {1}
Each R (x ∷ xs) = R x × Each R xs

pub each : {A : Type 0} (V : A → Type 0) (R : A → Type 1) → ((x : A) → V x → R x) → (xs : List A) → Every V xs → Each R xs
each V R f [] all = tt
each V R f (x ∷ xs) all = (f x all.0, each V R f xs all.1)

-- further entries
pub more_read : {A B S : Type 0} (limit : ℕ) (Sep : Lang S) (P : S → Lang A) (u : A → B) (f : A → List Shape)
    → (before : List A) (xs : List A) → Each (λ x. Entry Sep P (λ y. u y ≡ u x) (f x)) xs → length before + length xs ≤ limit → (n : ℕ) → n ≡ length xs
    → (done : List B) → map u before ≡ done
    → Reading (IsMore never limit Sep P n before) (λ r. map u r ≡ done ++ map u xs) (flat_map f xs)
unfolding IsMore
more_read limit Sep P u f before [] all fits zero e done is = pure (λ r. map u r ≡ done ++ []) before (is ∙ sym (append-nil done))
more_read limit Sep P u f before [] all fits (suc n) e done is = absurd (omega arith)
more_read limit Sep P u f before (x ∷ xs) all fits zero e done is = absurd (omega arith)
more_read {A} {B} {S} limit Sep P u f before (x ∷ xs) all fits (suc n) e done is =
    bind (λ next. Sep (λ s ts. (limit ≤ length before → ⊥) × P s next ts)) (λ a. IsMore never limit Sep P n (before ++ a ∷ [])) (λ y. u y ≡ u x) (λ r. map u r ≡ done ++ map u (x ∷ xs)) (f x) (flat_map f xs)
    (all.0 (limit ≤ length before → ⊥) (λ le. omega arith))
    (λ a same. better _ (λ r. map u r ≡ (done ++ u x ∷ []) ++ map u xs) (λ r. map u r ≡ done ++ map u (x ∷ xs)) _ (λ r g. g ∙ append_assoc done (u x ∷ []) (map u xs))
    (more_read limit Sep P u f (before ++ a ∷ []) xs all.1 (omega (arith, length-append before (a ∷ []))) n (omega arith) (done ++ u x ∷ []) (map-append u before (a ∷ []) ∙ rw (is, same) refl)))

between_is : {A : Type 0} (sep : Shape) (f : A → List Shape) (x : A) (xs : List A) → between sep (map f (x ∷ xs)) ≡ f x ++ flat_map (λ y. sep ∷ f y) xs
between_is sep f x [] = sym (append-nil (f x))
between_is sep f x (y ∷ ys) = ap (λ t. f x ++ sep ∷ t) (between_is sep f y ys)

-- an entry after its separator
entry_after : {A B : Type 0} (P : Lang A) (s : Symbol) (h : Shape) → Stands s h → (u : A → B) (f : A → List Shape) (xs : List A) → Each (λ x. Reading P (λ y. u y ≡ u x) (f x)) xs
    → Each (λ x. Entry (Is (is s)) (λ _. P) (λ y. u y ≡ u x) (h ∷ f x)) xs
entry_after P s h stands u f [] all = tt
entry_after P s h stands u f (x ∷ xs) all =
    (λ C c. and_then s h stands (λ _ next ts. C × P next ts) (λ z. u z ≡ u x) (f x) (λ t _. given P (λ z. u z ≡ u x) (f x) C c all.0), entry_after P s h stands u f xs all.1)

-- a list with separators
pub list_read : {A B : Type 0} (limit : ℕ) (P : Lang A) (s : Symbol) (h : Shape) → Stands s h → (u : A → B) (f : A → List Shape) (xs : List A) → Each (λ x. Reading P (λ y. u y ≡ u x) (f x)) xs → 0 < length xs → length xs ≤ limit
    → Reading (IsList never limit P (is s)) (λ r. map u r ≡ map u xs) (between h (map f xs))
list_read limit P s h stands u f [] all some fits = absurd (omega arith)
list_read limit P s h stands u f (x ∷ xs) all some fits =
    shaped _ _ _ _ (sym (between_is h f x xs))
    (bind P (λ a. IsFurther never limit (Is (is s)) (λ _. P) (a ∷ [])) (λ y. u y ≡ u x) (λ r. map u r ≡ map u (x ∷ xs)) (f x) (flat_map (λ y. h ∷ f y) xs) all.0
    (λ a same front e.
    let r = more_read limit (Is (is s)) (λ _. P) u (λ y. h ∷ f y) (a ∷ []) xs (entry_after P s h stands u f xs all.1) (omega arith) (length xs) refl (u x ∷ []) (rw same refl) front e in
    record { value = r.value; good = r.good; reads = λ next w n. (length xs, r.reads next w n) }))

pub list_of : {A B : Type 0} (limit : ℕ) (P : Lang A) (s : Symbol) (h : Shape) → Stands s h → (u : A → B) (f : A → List Shape) (V : A → Type 0) → ((x : A) → V x → Reading P (λ y. u y ≡ u x) (f x))
    → (xs : List A) → 0 < length xs → length xs ≤ limit → Every V xs
    → Reading (IsList never limit P (is s)) (λ r. map u r ≡ map u xs) (between h (map f xs))
list_of limit P s h stands u f V entry xs some fits all = list_read limit P s h stands u f xs (each V (λ x. Reading P (λ y. u y ≡ u x) (f x)) entry xs all) some fits
