-- The row that a bound query selects from has what is selected and ordered by.
use Rattle.std.proofs.Common.{◌≡◌, ◌<◌, ◌+◌, ℕ, zero, suc, Bool, true, false, not, ◌||◌, cond, List, [], ◌∷◌, ◌++◌, length, map, filter, refl, ap, sym, ◌∙◌, subst, arith, nat_eq, get_or, length-append, zero-add}
use Rattle.std.specs.List.{flat_map, list_any, position_or_len, AllByRecursion}
use Rattle.std.proofs.lemmas.Bool.{eqb-true, eq-eqb}
use Rattle.std.proofs.lemmas.List.{length-map}
use Rattle.std.proofs.lemmas.List.Folds.{list_any-append}
use Rattle.pm_values.specs.declared.value.Kind.{Kind}
use Rattle.pm_values.specs.declared.value.Kind.TheVariants as kind
use Rattle.pm_values.specs.Keys.{once}
use Rattle.pm_plan.specs.declared.plan.Aggregate.{Aggregate}
use Rattle.pm_plan.specs.declared.plan.Aggregate.TheVariants as aggregate
use Rattle.pm_plan.specs.Kinds.{kind_at, kind_of_item}
use Rattle.pm_query.specs.Bound.{same_aggregate, aggregates_differ}
use Rattle.pm_names.specs.declared.fault.BindBad.TheVariants as bad
use Rattle.pm_names.specs.declared.terms.KnownColumn.{KnownColumn}
use Rattle.pm_names.specs.declared.terms.Term.{Term}
use Rattle.pm_names.specs.declared.terms.Term.TheVariants as term
use Rattle.pm_names.specs.declared.terms.PlacedTerm.{PlacedTerm}
use Rattle.pm_binder.specs.declared.terms.OrderTerm.{OrderTerm}
use Rattle.pm_names.specs.declared.terms.RowShape.{RowShape}
use Rattle.pm_names.specs.Names.{kinds_of, term_kind}
use Rattle.pm_names.specs.Conditions.{position_in}
use Rattle.pm_binder.specs.Grouping.{is_outside, ungrouped, calls_in, placed_calls, ordered_calls}
use Rattle.pm_binder.proofs.Few.{empty_left, empty_right}
use Rattle.pm_names.proofs.Once.{equal_aggregates}
use Rattle.pm_binder.proofs.BoundTables.{no_bad, not_false, position_below}
use Rattle.pm_binder.proofs.Typed.{and_left, and_right}

-- ---- an item with the same as one of these has its position

pub any_at : {A : Type 0} (p : A → Bool) (xs : List A) (d : A) → list_any p xs ≡ true → p (get_or xs (position_or_len p xs) d) ≡ true
any_at p [] d h = absurd (cc h)
any_at p (x ∷ xs) d h = of (any_at p xs d) (p x) refl h
  where
    of : (list_any p xs ≡ true → p (get_or xs (position_or_len p xs) d) ≡ true) → (b : Bool) → p x ≡ b → (b || list_any p xs) ≡ true → p (get_or (x ∷ xs) (cond (not b) (1 + position_or_len p xs) 0) d) ≡ true
    of rest true e h = e
    of rest false e h = let next : 1 + position_or_len p xs ≡ suc (position_or_len p xs) = omega arith in ap (λ n. p (get_or (x ∷ xs) n d)) next ∙ rest h

get_front : (xs ys : List Kind) (i : ℕ) (d : Kind) → i < length xs → get_or (xs ++ ys) i d ≡ get_or xs i d
get_front [] ys i d h = absurd (omega arith)
get_front (x ∷ xs) ys zero d h = refl
get_front (x ∷ xs) ys (suc i) d h = get_front xs ys i d (omega arith)

get_after : (xs ys : List Kind) (i : ℕ) (d : Kind) → get_or (xs ++ ys) (length xs + i) d ≡ get_or ys i d
get_after [] ys i d = ap (λ n. get_or ys n d) (zero-add i)
get_after (x ∷ xs) ys i d = let next : length (x ∷ xs) + i ≡ suc (length xs + i) = omega arith in ap (λ n. get_or (x ∷ (xs ++ ys)) n d) next ∙ get_after xs ys i d

get_mapped : {A : Type 0} (f : A → Kind) (xs : List A) (i : ℕ) (d : Kind) (a : A) → i < length xs → get_or (map f xs) i d ≡ f (get_or xs i a)
get_mapped f [] i d a h = absurd (omega arith)
get_mapped f (x ∷ xs) zero d a h = refl
get_mapped f (x ∷ xs) (suc i) d a h = get_mapped f xs i d a (omega arith)

-- ---- the row of keys and aggregates

module _ (known : List KnownColumn) (keys : List ℕ) (calls : List Aggregate) where
  abbrev pub grouped_kinds : List Kind
  grouped_kinds = map (kind_at (kinds_of known)) keys ++ map (kind_of_item (kinds_of known)) calls

  abbrev pub grouped_shape : RowShape
  grouped_shape = record { grouped = true; keys = keys; calls = calls }

  -- the term is one of the keys or of the aggregates
  abbrev pub is_there : Term → Bool
  is_there (term.Column column) = list_any (nat_eq column) keys
  is_there (term.Call call) = list_any (same_aggregate call) calls

  row_long : length grouped_kinds ≡ length keys + length calls
  row_long = length-append (map (kind_at (kinds_of known)) keys) (map (kind_of_item (kinds_of known)) calls) ∙ ap (λ n. n + length (map (kind_of_item (kinds_of known)) calls)) (length-map keys (kind_at (kinds_of known))) ∙ ap (λ n. length keys + n) (length-map calls (kind_of_item (kinds_of known)))

  pub there_below : (t : Term) → is_there t ≡ true → position_in grouped_shape t < length grouped_kinds
  there_below (term.Column column) h =
      let low : position_or_len (nat_eq column) keys < length keys = position_below (nat_eq column) keys h in
      let long : length grouped_kinds ≡ length keys + length calls = row_long in
      omega arith
  there_below (term.Call call) h =
      let low : position_or_len (same_aggregate call) calls < length calls = position_below (same_aggregate call) calls h in
      let long : length grouped_kinds ≡ length keys + length calls = row_long in
      omega arith

  pub there_kind : (t : Term) → is_there t ≡ true → kind_at grouped_kinds (position_in grouped_shape t) ≡ term_kind known t
  there_kind (term.Column column) h =
      let low : position_or_len (nat_eq column) keys < length keys = position_below (nat_eq column) keys h in
      let inner : position_or_len (nat_eq column) keys < length (map (kind_at (kinds_of known)) keys) = rw (length-map keys (kind_at (kinds_of known))) low in
      get_front (map (kind_at (kinds_of known)) keys) (map (kind_of_item (kinds_of known)) calls) (position_or_len (nat_eq column) keys) kind.Int inner
      ∙ get_mapped (kind_at (kinds_of known)) keys (position_or_len (nat_eq column) keys) kind.Int 0 low
      ∙ ap (kind_at (kinds_of known)) (sym (eqb-true column (get_or keys (position_or_len (nat_eq column) keys) 0) (any_at (nat_eq column) keys 0 h)))
  there_kind (term.Call call) h =
      let low : position_or_len (same_aggregate call) calls < length calls = position_below (same_aggregate call) calls h in
      ap (λ n. get_or grouped_kinds (n + position_or_len (same_aggregate call) calls) kind.Int) (sym (length-map keys (kind_at (kinds_of known))))
      ∙ get_after (map (kind_at (kinds_of known)) keys) (map (kind_of_item (kinds_of known)) calls) (position_or_len (same_aggregate call) calls) kind.Int
      ∙ get_mapped (kind_of_item (kinds_of known)) calls (position_or_len (same_aggregate call) calls) kind.Int aggregate.CountAll low
      ∙ ap (kind_of_item (kinds_of known)) (sym (equal_aggregates call (get_or calls (position_or_len (same_aggregate call) calls) aggregate.CountAll) (any_at (same_aggregate call) calls aggregate.CountAll h)))

-- ---- aggregates that are in a list are among the different ones

pub same_self : (a : Aggregate) → same_aggregate a a ≡ true
same_self aggregate.CountAll = refl
same_self (aggregate.Count a) = eq-eqb a a refl
same_self (aggregate.Sum a) = eq-eqb a a refl
same_self (aggregate.Min a) = eq-eqb a a refl
same_self (aggregate.Max a) = eq-eqb a a refl

kept_call : (p x : Aggregate) (zs : List Aggregate) → same_aggregate p x ≡ false → list_any (same_aggregate p) (filter (λ y. not (same_aggregate x y)) zs) ≡ list_any (same_aggregate p) zs
kept_call p x [] off = refl
kept_call p x (z ∷ zs) off = of (kept_call p x zs off) (same_aggregate x z) refl
  where
    of : list_any (same_aggregate p) (filter (λ y. not (same_aggregate x y)) zs) ≡ list_any (same_aggregate p) zs → (b : Bool) → same_aggregate x z ≡ b
        → list_any (same_aggregate p) (cond (not b) (z ∷ filter (λ y. not (same_aggregate x y)) zs) (filter (λ y. not (same_aggregate x y)) zs)) ≡ (same_aggregate p z || list_any (same_aggregate p) zs)
    of rest false e = ap (λ r. same_aggregate p z || r) rest
    of rest true e = let none : same_aggregate p z ≡ false = subst (λ w. same_aggregate p w ≡ false) (equal_aggregates x z e) off in rw none rest

once_call : (p : Aggregate) (xs : List Aggregate) → list_any (same_aggregate p) (once same_aggregate xs) ≡ list_any (same_aggregate p) xs
once_call p [] = refl
once_call p (x ∷ xs) = of (once_call p xs) (same_aggregate p x) refl
  where
    of : list_any (same_aggregate p) (once same_aggregate xs) ≡ list_any (same_aggregate p) xs → (b : Bool) → same_aggregate p x ≡ b
        → (b || list_any (same_aggregate p) (filter (λ y. not (same_aggregate x y)) (once same_aggregate xs))) ≡ (b || list_any (same_aggregate p) xs)
    of rest true e = refl
    of rest false e = kept_call p x (once same_aggregate xs) e ∙ rest

-- each of these is among the others
abbrev pub AreAmong : List Aggregate → List Aggregate → Type 0
AreAmong xs ws = (a : Aggregate) → list_any (same_aggregate a) xs ≡ true → list_any (same_aggregate a) ws ≡ true

or_first : (a b : Bool) → a ≡ true → (a || b) ≡ true
or_first a b h = rw h refl

or_second : (a b : Bool) → b ≡ true → (a || b) ≡ true
or_second true b h = refl
or_second false b h = h

pub among_first : (xs ys ws : List Aggregate) → AreAmong (xs ++ ys) ws → AreAmong xs ws
among_first xs ys ws h a e = h a (list_any-append (same_aggregate a) xs ys ∙ or_first (list_any (same_aggregate a) xs) (list_any (same_aggregate a) ys) e)

pub among_second : (xs ys ws : List Aggregate) → AreAmong (xs ++ ys) ws → AreAmong ys ws
among_second xs ys ws h a e = h a (list_any-append (same_aggregate a) xs ys ∙ or_second (list_any (same_aggregate a) xs) (list_any (same_aggregate a) ys) e)

pub among_once : (xs : List Aggregate) → AreAmong xs (once same_aggregate xs)
among_once xs a e = once_call a xs ∙ e

-- ---- no aggregate twice

dropped_call : (x : Aggregate) (zs : List Aggregate) → list_any (same_aggregate x) (filter (λ y. not (same_aggregate x y)) zs) ≡ false
dropped_call x [] = refl
dropped_call x (z ∷ zs) = of (dropped_call x zs) (same_aggregate x z) refl
  where
    of : list_any (same_aggregate x) (filter (λ y. not (same_aggregate x y)) zs) ≡ false → (b : Bool) → same_aggregate x z ≡ b
        → list_any (same_aggregate x) (cond (not b) (z ∷ filter (λ y. not (same_aggregate x y)) zs) (filter (λ y. not (same_aggregate x y)) zs)) ≡ false
    of rest true e = rest
    of rest false e = rw e rest

filtered_any : (q p : Aggregate → Bool) (zs : List Aggregate) → list_any q zs ≡ false → list_any q (filter p zs) ≡ false
filtered_any q p [] h = refl
filtered_any q p (z ∷ zs) h = of (filtered_any q p zs) (q z) refl h (p z)
  where
    of : (list_any q zs ≡ false → list_any q (filter p zs) ≡ false) → (c : Bool) → q z ≡ c → (c || list_any q zs) ≡ false → (b : Bool) → list_any q (cond b (z ∷ filter p zs) (filter p zs)) ≡ false
    of rest true e h b = absurd (cc h)
    of rest false e h true = rw e (rest h)
    of rest false e h false = rest h

differ_filtered : (p : Aggregate → Bool) (zs : List Aggregate) → aggregates_differ zs ≡ true → aggregates_differ (filter p zs) ≡ true
differ_filtered p [] h = refl
differ_filtered p (z ∷ zs) h =
    of (differ_filtered p zs (and_right (not (list_any (same_aggregate z) zs)) (aggregates_differ zs) h)) (filtered_any (same_aggregate z) p zs (opposite (list_any (same_aggregate z) zs) (and_left (not (list_any (same_aggregate z) zs)) (aggregates_differ zs) h))) (p z)
  where
    opposite : (b : Bool) → not b ≡ true → b ≡ false
    opposite true h = cc h
    opposite false h = refl

    of : aggregates_differ (filter p zs) ≡ true → list_any (same_aggregate z) (filter p zs) ≡ false → (b : Bool) → aggregates_differ (cond b (z ∷ filter p zs) (filter p zs)) ≡ true
    of rest off true = rw off rest
    of rest off false = rest

pub differ_once_calls : (xs : List Aggregate) → aggregates_differ (once same_aggregate xs) ≡ true
differ_once_calls [] = refl
differ_once_calls (x ∷ xs) = rw (dropped_call x (once same_aggregate xs)) (differ_filtered (λ y. not (same_aggregate x y)) (once same_aggregate xs) (differ_once_calls xs))

-- ---- what is grouped is there

module _ (keys : List ℕ) (calls : List Aggregate) (known : List KnownColumn) where
  term_there : (t : Term) → is_outside keys t ≡ false → AreAmong (calls_in t) calls → is_there known keys calls t ≡ true
  term_there (term.Column column) off among = not_false (list_any (nat_eq column) keys) off
  term_there (term.Call call) off among = among call (or_first (same_aggregate call call) false (same_self call))

  pub placed_there : (ps : List PlacedTerm) → flat_map (ungrouped keys) ps ≡ [] → AreAmong (placed_calls ps) calls → AllByRecursion (λ placed. is_there known keys calls placed.term ≡ true) ps
  placed_there [] none among = tt
  placed_there (p ∷ ps) none among = (
    term_there p.term (no_bad (is_outside keys p.term) (bad.NotGrouped p.at) (empty_left (ungrouped keys p) (flat_map (ungrouped keys) ps) none)) (among_first (calls_in p.term) (placed_calls ps) calls among),
    placed_there ps (empty_right (ungrouped keys p) (flat_map (ungrouped keys) ps) none) (among_second (calls_in p.term) (placed_calls ps) calls among),
  )

  pub ordered_there : (os : List OrderTerm) → AllByRecursion (λ order. is_outside keys order.term ≡ false) os → AreAmong (ordered_calls os) calls → AllByRecursion (λ order. is_there known keys calls order.term ≡ true) os
  ordered_there [] none among = tt
  ordered_there (o ∷ os) none among =
      (term_there o.term none.0 (among_first (calls_in o.term) (ordered_calls os) calls among), ordered_there os none.1 (among_second (calls_in o.term) (ordered_calls os) calls among))
