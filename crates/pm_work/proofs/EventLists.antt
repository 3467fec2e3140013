-- lists of events: their nodes, the rows of a node in them, those of some numbers, and where such a list is cut
use Rattle.std.proofs.Common.{◌≡◌, ◌≢◌, ℕ, ◌<◌, ◌≤◌, Bool, true, false, ◌&&◌, cond, eqb, List, [], ◌∷◌, ◌++◌, map, refl, sym, ap, ◌∙◌, ◌⊎◌, inl, inr, arith}
use Rattle.std.specs.Prelude.{nat_le, nat_lt}
use Rattle.std.specs.List.{flat_map, filter}
use Rattle.std.proofs.lemmas.Grind.{flat_map-append}
use Rattle.std.proofs.lemmas.List.{append-nil}
use Rattle.std.proofs.lemmas.List.Elements.{filter-append}
use Rattle.std.proofs.lemmas.Bool.Decides.{nat_tests}
use Rattle.pm_values.specs.Row.{Row}
use Rattle.pm_work.specs.Events.{Event, events_of, after, rows_at}

-- each event is of node n
abbrev pub Only : ℕ → List Event → Type 0
Only n [] = Unit {0}
Only n (e ∷ es) = (e.node ≡ n) × Only n es

-- each event is of a node from a up to below b
abbrev pub Within : ℕ → ℕ → List Event → Type 0
Within a b [] = Unit {0}
Within a b (e ∷ es) = (a ≤ e.node) × (e.node < b) × Within a b es

pub Within-append : (a b : ℕ) (xs ys : List Event) → Within a b xs → Within a b ys → Within a b (xs ++ ys)
Within-append a b [] ys p q = q
Within-append a b (x ∷ xs) ys p q = (p.0, p.1, Within-append a b xs ys p.2 q)

pub Within-wider : (a b c d : ℕ) (xs : List Event) → c ≤ a → b ≤ d → Within a b xs → Within c d xs
Within-wider a b c d [] l h p = tt
Within-wider a b c d (x ∷ xs) l h p = (omega arith, omega arith, Within-wider a b c d xs l h p.2)

pub Within-only : (n b : ℕ) (xs : List Event) → n < b → Only n xs → Within n b xs
Within-only n b [] l p = tt
Within-only n b (x ∷ xs) l p = (omega arith, omega arith, Within-only n b xs l p.1)

pub Only-events_of : (n : ℕ) (rows : List Row) → Only n (events_of n rows)
Only-events_of n [] = tt
Only-events_of n (r ∷ rows) = (refl, Only-events_of n rows)

pub Within-events_of : (n b : ℕ) (rows : List Row) → n < b → Within n b (events_of n rows)
Within-events_of n b rows l = Within-only n b (events_of n rows) l (Only-events_of n rows)

pub Only-first : (n : ℕ) (xs ys : List Event) → Only n (xs ++ ys) → Only n xs
Only-first n [] ys p = tt
Only-first n (x ∷ xs) ys p = (p.0, Only-first n xs ys p.1)

pub Within-first : (a b : ℕ) (xs ys : List Event) → Within a b (xs ++ ys) → Within a b xs
Within-first a b [] ys p = tt
Within-first a b (x ∷ xs) ys p = (p.0, p.1, Within-first a b xs ys p.2)

pub Within-last : (a b : ℕ) (xs ys : List Event) → Within a b (xs ++ ys) → Within a b ys
Within-last a b [] ys p = p
Within-last a b (x ∷ xs) ys p = Within-last a b xs ys p.2

pub Within-after : (a b c : ℕ) (called : Row → List Event) (es : List Event)
    → ((row : Row) → Within a b (called row)) → Within a b es → Within a b (after c called es)
Within-after a b c called [] m p = tt
Within-after a b c called (e ∷ es) m p = (
  p.0,
  p.1,
  Within-append a b (cond (eqb e.node c) (called e.row) []) (after c called es)
      (elim (eqb e.node c) as (λ t. Within a b (cond t (called e.row) [])) [ true ↦ m e.row | false ↦ tt ])
      (Within-after a b c called es m p.2),
)

-- ---- the events that pass a test

-- a test that passes none of the events that rows call for passes those of the events alone
pub filter-after : (p : Event → Bool) (c : ℕ) (called : Row → List Event) (es : List Event) → ((row : Row) → filter p (called row) ≡ [])
    → filter p (after c called es) ≡ filter p es
filter-after p c called [] none = refl
filter-after p c called (e ∷ es) none =
    let now : List Event = cond (eqb e.node c) (called e.row) [] in
    let gone : filter p now ≡ [] = elim (eqb e.node c) as (λ t. filter p (cond t (called e.row) []) ≡ []) [ true ↦ none e.row | false ↦ refl ] in
    let rest : filter p (now ++ after c called es) ≡ filter p es =
    filter-append p now (after c called es) ∙ ap (λ s. s ++ filter p (after c called es)) gone ∙ filter-after p c called es none in
    filter-append p (e ∷ []) (now ++ after c called es) ∙ ap (λ s. filter p (e ∷ []) ++ s) rest ∙ sym (filter-append p (e ∷ []) es)

-- ---- the rows of a node

pub rows_at-append : (n : ℕ) (xs ys : List Event) → rows_at n (xs ++ ys) ≡ rows_at n xs ++ rows_at n ys
rows_at-append n [] ys = refl
rows_at-append n (x ∷ xs) ys =
    elim (eqb x.node n) as (λ t. map (λ e. e.row) (cond t (x ∷ filter (λ e. eqb e.node n) (xs ++ ys)) (filter (λ e. eqb e.node n) (xs ++ ys))) ≡ map (λ e. e.row) (cond t (x ∷ filter (λ e. eqb e.node n) xs) (filter (λ e. eqb e.node n) xs)) ++ rows_at n ys)
    [ true ↦ ap (λ s. x.row ∷ s) (rows_at-append n xs ys) | false ↦ rows_at-append n xs ys ]

pub rows_at-cons : (m : ℕ) (e : Event) (es : List Event) → rows_at m (e ∷ es) ≡ rows_at m (e ∷ []) ++ rows_at m es
rows_at-cons m e es = rows_at-append m (e ∷ []) es

pub rows_at-events_of : (n : ℕ) (rows : List Row) → rows_at n (events_of n rows) ≡ rows
rows_at-events_of n [] = refl
rows_at-events_of n (r ∷ rows) = grind (arith, nat_tests, rows_at-events_of n rows)

pub rows_at-outside : (n a b : ℕ) (es : List Event) → Within a b es → (n < a) ⊎ (b ≤ n) → rows_at n es ≡ []
rows_at-outside n a b [] p o = refl
rows_at-outside n a b (e ∷ es) p o = grind (arith, nat_tests, rows_at-outside n a b es p.2 o)

pub rows_at-other : (n m : ℕ) (es : List Event) → Only n es → m ≢ n → rows_at m es ≡ []
rows_at-other n m [] p o = refl
rows_at-other n m (e ∷ es) p o = grind (arith, nat_tests, rows_at-other n m es p.1 o)

-- of one event
pub rows_at-one : (m : ℕ) (e : Event) → (e.node ≡ m → ⊥) → rows_at m (e ∷ []) ≡ []
rows_at-one m e o = rows_at-other e.node m (e ∷ []) (refl, tt) (λ z. o (sym z))

pub rows_at-own : (m : ℕ) (e : Event) → e.node ≡ m → rows_at m (e ∷ []) ≡ e.row ∷ []
rows_at-own m e h = grind (arith, nat_tests)

-- the rows that node m hands out right after those of c, where the events themselves are not of m
pub rows_at-after : (m c a b : ℕ) (called : Row → List Event) (f : Row → List Row) (es : List Event) → ((row : Row) → rows_at m (called row) ≡ f row)
    → Within a b es → (m < a) ⊎ (b ≤ m) → rows_at m (after c called es) ≡ flat_map f (rows_at c es)
rows_at-after m c a b called f [] own w o = refl
rows_at-after m c a b called f (e ∷ es) own w o =
    let now : List Event = cond (eqb e.node c) (called e.row) [] in
    let first : rows_at m now ≡ flat_map f (rows_at c (e ∷ [])) =
    elim (eqb e.node c) as (λ t. rows_at m (cond t (called e.row) []) ≡ flat_map f (map (λ x. x.row) (cond t (e ∷ []) [])))
    [ true ↦ own e.row ∙ sym (append-nil (f e.row)) | false ↦ refl ] in
    rows_at-cons m e (now ++ after c called es)
    ∙ ap (λ s. s ++ rows_at m (now ++ after c called es)) (rows_at-outside m a b (e ∷ []) (w.0, w.1, tt) o)
    ∙ rows_at-append m now (after c called es)
    ∙ ap (λ s. s ++ rows_at m (after c called es)) first
    ∙ ap (λ s. flat_map f (rows_at c (e ∷ [])) ++ s) (rows_at-after m c a b called f es own w.2 o)
    ∙ sym (flat_map-append f (rows_at c (e ∷ [])) (rows_at c es))
    ∙ ap (flat_map f) (sym (rows_at-cons c e es))

-- ---- the events of the nodes from a up to below b

abbrev pub is_within : ℕ → ℕ → Event → Bool
is_within a b e = nat_le a e.node && nat_lt e.node b

abbrev pub part : ℕ → ℕ → List Event → List Event
part a b es = filter (is_within a b) es

pub part-all : (a b : ℕ) (es : List Event) → Within a b es → part a b es ≡ es
part-all a b [] w = refl
part-all a b (e ∷ es) w = grind (arith, nat_tests, part-all a b es w.2)

pub part-none : (a b c d : ℕ) (es : List Event) → Within c d es → (d ≤ a) ⊎ (b ≤ c) → part a b es ≡ []
part-none a b c d [] w o = refl
part-none a b c d (e ∷ es) w o = grind (arith, nat_tests, part-none a b c d es w.2 o)

pub part-part : (a b c d : ℕ) (es : List Event) → c ≤ a → b ≤ d → part a b (part c d es) ≡ part a b es
part-part a b c d [] l h = refl
part-part a b c d (e ∷ es) l h = grind (arith, nat_tests, part-part a b c d es l h)

pub rows_at-part : (m a b : ℕ) (es : List Event) → a ≤ m → m < b → rows_at m (part a b es) ≡ rows_at m es
rows_at-part m a b [] l h = refl
rows_at-part m a b (e ∷ es) l h = grind (arith, nat_tests, rows_at-part m a b es l h)

-- ---- cuts

-- a join of two lists, cut somewhere else
pub record InFirst (done left a b : List Event) : Type 0 where
  pub rest : List Event
  pub a_is : done ++ rest ≡ a
  pub left_is : left ≡ rest ++ b

pub record InSecond (done left a b : List Event) : Type 0 where
  pub more : List Event
  pub done_is : done ≡ a ++ more
  pub b_is : more ++ left ≡ b

pub cut_of-append : (done left a b : List Event) → done ++ left ≡ a ++ b → InFirst done left a b ⊎ InSecond done left a b
cut_of-append [] left a b e = inl (record { rest = a; a_is = refl; left_is = e })
cut_of-append (d ∷ done) left [] b e = inr (record { more = d ∷ done; done_is = refl; b_is = e })
cut_of-append (d ∷ done) left (x ∷ a) b e =
    let tail : done ++ left ≡ a ++ b = cc in
    let head : d ≡ x = cc in
    elim (cut_of-append done left a b tail) [
      | inl i ↦ inl (record { rest = i.rest; a_is = cc; left_is = i.left_is })
      | inr i ↦ inr (record { more = i.more; done_is = cc; b_is = i.b_is })
    ]
