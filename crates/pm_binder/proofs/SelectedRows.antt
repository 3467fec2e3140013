-- What a bound query selects, orders by and tests in HAVING stands in the row that it selects from.
use Rattle.std.proofs.Common.{◌≡◌, ◌≢◌, ◌<◌, ◌==◌, ℕ, Bool, true, false, not, ◌&&◌, ◌||◌, List, [], ◌∷◌, ◌++◌, length, map, refl, ap, sym, ◌∙◌, subst, arith, nat_eq, nat_lt}
use Rattle.std.specs.List.{flat_map, list_any, list_all, range_with_len, AllByRecursion}
use Rattle.std.proofs.lemmas.Bool.{eqb-true, eq-eqb, or_parts}
use Rattle.std.proofs.lemmas.Bool.Decides.{nat_tests}
use Rattle.std.proofs.lemmas.List.{length-map}
use Rattle.std.proofs.lemmas.List.FromFn.{length-range_with_len}
use Rattle.pm_syntax.specs.declared.tree.ColumnName.{ColumnName}
use Rattle.pm_syntax.specs.declared.tree.Expr.{Expr}
use Rattle.pm_syntax.specs.declared.tree.Items.{Items}
use Rattle.pm_syntax.specs.declared.tree.Items.TheVariants as items
use Rattle.pm_syntax.specs.declared.tree.Test.{Test}
use Rattle.pm_values.specs.declared.value.Kind.{Kind}
use Rattle.pm_plan.specs.declared.plan.Aggregate.{Aggregate}
use Rattle.pm_plan.specs.Kinds.{kind_at, kind_of_item, condition_fits}
use Rattle.pm_plan.specs.Valid.{are_below}
use Rattle.pm_query.specs.Bound.{grouped_or}
use Rattle.pm_names.specs.declared.fault.BindBad.TheVariants as bad
use Rattle.pm_names.specs.declared.terms.KnownColumn.{KnownColumn}
use Rattle.pm_names.specs.declared.terms.Term.{Term}
use Rattle.pm_names.specs.declared.terms.Term.TheVariants as term
use Rattle.pm_names.specs.declared.terms.PlacedTerm.{PlacedTerm}
use Rattle.pm_binder.specs.declared.terms.OrderTerm.{OrderTerm}
use Rattle.pm_names.specs.declared.terms.RowShape.{RowShape}
use Rattle.pm_binder.specs.declared.terms.Terms.{Terms}
use Rattle.pm_names.specs.Breaches.{bad_if}
use Rattle.pm_names.specs.Names.{kinds_of, column_of, term_of, placed_term, name_breaches}
use Rattle.pm_names.specs.Kinds.{test_breaches}
use Rattle.pm_names.specs.Conditions.{position_in, cond_of, exprs_of}
use Rattle.pm_binder.specs.Grouping.{item_terms, item_head, heads_of, is_call, is_outside, same_term, is_selected, order_faults, calls_in, placed_calls, ordered_calls, key_columns}
use Rattle.pm_binder.specs.Bound.{groups_breaches, outputs_of, orders_of}
use Rattle.pm_binder.specs.Laws.{test_formed, HasItems}
use Rattle.pm_binder.proofs.Few.{empty_left, empty_right, below_once}
use Rattle.pm_names.proofs.Once.{equal_aggregates}
use Rattle.pm_binder.proofs.BoundTables.{no_bad, not_false}
use Rattle.pm_binder.proofs.Typed.{and_left, and_right, both_true, typed}
use Rattle.pm_binder.proofs.ReadColumns.{column_below}
use Rattle.pm_binder.proofs.SoundTerms.{term_fits, placed_fits, order_fits}
use Rattle.pm_binder.proofs.GroupedRows.{grouped_kinds, grouped_shape, is_there, there_below, there_kind}

-- ---- keys

groups_low : (known : List KnownColumn) (groups : List ColumnName) → groups_breaches known groups ≡ [] → AllByRecursion (λ x. x < length known) (map (column_of known) groups)
groups_low known [] none = tt
groups_low known (name ∷ groups) none =
    (column_below known name (empty_left (name_breaches known name) (groups_breaches known groups) none), groups_low known groups (empty_right (name_breaches known name) (groups_breaches known groups) none))

low_tests : (n : ℕ) (xs : List ℕ) → AllByRecursion (λ x. x < n) xs → are_below n xs ≡ true
low_tests n [] h = refl
low_tests n (x ∷ xs) h = let low : x < n = h.0 in both_true (nat_lt x n) (are_below n xs) (grind (arith, nat_tests)) (low_tests n xs h.1)

pub keys_below : (known : List KnownColumn) (groups : List ColumnName) → groups_breaches known groups ≡ [] → are_below (length (kinds_of known)) (key_columns known groups) ≡ true
keys_below known groups none =
    subst (λ n. are_below n (key_columns known groups) ≡ true) (sym (length-map known (λ column. column.kind))) (low_tests (length known) (key_columns known groups) (below_once (length known) (map (column_of known) groups) (groups_low known groups none)))

-- ---- the row that is selected from

abbrev pub row_of : List KnownColumn → Bool → List ℕ → List Aggregate → List Kind
row_of known grouped keys calls = grouped_or grouped (map (kind_at (kinds_of known)) keys ++ map (kind_of_item (kinds_of known)) calls) (kinds_of known)

abbrev pub shape_with : Bool → List ℕ → List Aggregate → RowShape
shape_with grouped keys calls = record { grouped = grouped; keys = keys; calls = calls }

module _ (known : List KnownColumn) (keys : List ℕ) (calls : List Aggregate) where
  -- a grouped row has each term that is there, and a plain row each column
  abbrev pub Stands : Bool → Term → Type 0
  Stands true t = is_there known keys calls t ≡ true
  Stands false (term.Column column) = nat_lt column (length (kinds_of known)) ≡ true
  Stands false (term.Call call) = ⊥

  stands_below : (g : Bool) (t : Term) → Stands g t → nat_lt (position_in (shape_with g keys calls) t) (length (row_of known g keys calls)) ≡ true
  stands_below true t h = let low : position_in (grouped_shape known keys calls) t < length (grouped_kinds known keys calls) = there_below known keys calls t h in grind (arith, nat_tests)
  stands_below false (term.Column column) h = h
  stands_below false (term.Call call) h = absurd h

  pub items_below : (g : Bool) (ps : List PlacedTerm) → AllByRecursion (λ placed. Stands g placed.term) ps → are_below (length (row_of known g keys calls)) (outputs_of (shape_with g keys calls) ps) ≡ true
  items_below g [] h = refl
  items_below g (p ∷ ps) h =
      both_true (nat_lt (position_in (shape_with g keys calls) p.term) (length (row_of known g keys calls))) (are_below (length (row_of known g keys calls)) (outputs_of (shape_with g keys calls) ps)) (stands_below g p.term h.0) (items_below g ps h.1)

  pub orders_below : (g : Bool) (os : List OrderTerm) → AllByRecursion (λ order. Stands g order.term) os → are_below (length (row_of known g keys calls)) (map (λ key. key.column) (orders_of (shape_with g keys calls) os)) ≡ true
  orders_below g [] h = refl
  orders_below g (o ∷ os) h =
      both_true (nat_lt (position_in (shape_with g keys calls) o.term) (length (row_of known g keys calls))) (are_below (length (row_of known g keys calls)) (map (λ key. key.column) (orders_of (shape_with g keys calls) os))) (stands_below g o.term h.0) (orders_below g os h.1)

  -- without grouping nothing is an aggregate
  plain_stands : (t : Term) → term_fits known t ≡ true → is_call t ≡ false → Stands false t
  plain_stands (term.Column column) h k = h
  plain_stands (term.Call call) h k = absurd (cc k)

  plain_terms : {A : Type 0} (f : A → Term) (xs : List A) → list_all (λ x. term_fits known (f x)) xs ≡ true → list_any (λ x. is_call (f x)) xs ≡ false → AllByRecursion (λ x. Stands false (f x)) xs
  plain_terms f [] h k = tt
  plain_terms f (x ∷ xs) h k =
      let calls = or_parts (is_call (f x)) (list_any (λ y. is_call (f y)) xs) k in
      let more = list_all (λ y. term_fits known (f y)) xs in
      (plain_stands (f x) (and_left (term_fits known (f x)) more h) calls.0, plain_terms f xs (and_right (term_fits known (f x)) more h) calls.1)

  pub plain_items : (ps : List PlacedTerm) → list_all (placed_fits known) ps ≡ true → list_any (λ placed. is_call placed.term) ps ≡ false → AllByRecursion (λ placed. Stands false placed.term) ps
  plain_items ps h k = plain_terms (λ placed. placed.term) ps h k

  pub plain_orders : (os : List OrderTerm) → list_all (order_fits known) os ≡ true → list_any (λ order. is_call order.term) os ≡ false → AllByRecursion (λ order. Stands false order.term) os
  plain_orders os h k = plain_terms (λ order. order.term) os h k

-- ---- heads

pub heads_long : (known : List KnownColumn) (s : Items) (shape : RowShape) → length (heads_of known s) ≡ length (outputs_of shape (item_terms known s))
heads_long known (items.All at) shape =
    length-map known (λ column. column.name)
    ∙ sym (length-map (item_terms known (items.All at)) (λ placed. position_in shape placed.term) ∙ length-map (range_with_len 0 (length known)) (λ column. record { term = term.Column column; at = at }) ∙ length-range_with_len 0 (length known))
heads_long known (items.List list) shape =
    length-map list item_head ∙ sym (length-map (item_terms known (items.List list)) (λ placed. position_in shape placed.term) ∙ length-map list (λ item. placed_term known item.expr))

-- something is selected
pub some_items : (known : List KnownColumn) (s : Items) (shape : RowShape) → 0 < length known → HasItems s → outputs_of shape (item_terms known s) ≢ []
some_items known (items.All at) shape wide h none =
    let long = sym (heads_long known (items.All at) shape) ∙ length-map known (λ column. column.name) in
    let empty : length (outputs_of shape (item_terms known (items.All at))) ≡ 0 = ap length none in
    let all : length (outputs_of shape (item_terms known (items.All at))) ≡ length known = long in
    absurd (omega arith)
some_items known (items.List []) shape wide h none = h refl
some_items known (items.List (item ∷ list)) shape wide h none = cc none

-- ---- ORDER BY beside DISTINCT

same_is : (t u : Term) → same_term t u ≡ true → t ≡ u
same_is (term.Column a) (term.Column b) h = ap term.Column (eqb-true a b h)
same_is (term.Column a) (term.Call b) h = absurd (cc h)
same_is (term.Call a) (term.Column b) h = absurd (cc h)
same_is (term.Call a) (term.Call b) h = ap term.Call (equal_aggregates a b h)

or_second : (a b : Bool) → b ≡ true → (a || b) ≡ true
or_second true b h = refl
or_second false b h = h

selected_at : (shape : RowShape) (t : Term) (ps : List PlacedTerm) → is_selected ps t ≡ true → list_any (nat_eq (position_in shape t)) (outputs_of shape ps) ≡ true
selected_at shape t [] h = absurd (cc h)
selected_at shape t (p ∷ ps) h = of (selected_at shape t ps) (same_term t p.term) refl h
  where
    of : (is_selected ps t ≡ true → list_any (nat_eq (position_in shape t)) (outputs_of shape ps) ≡ true) → (b : Bool) → same_term t p.term ≡ b → (b || is_selected ps t) ≡ true
        → (nat_eq (position_in shape t) (position_in shape p.term) || list_any (nat_eq (position_in shape t)) (outputs_of shape ps)) ≡ true
    of rest true e h = let same : position_in shape t ≡ position_in shape p.term = ap (position_in shape) (same_is t p.term e) in rw (eq-eqb (position_in shape t) (position_in shape p.term) same) refl
    of rest false e h = or_second (nat_eq (position_in shape t) (position_in shape p.term)) (list_any (nat_eq (position_in shape t)) (outputs_of shape ps)) (rest h)

pub all_selected : (shape : RowShape) (terms : Terms) (os : List OrderTerm) → terms.distinct ≡ true → flat_map (order_faults terms) os ≡ [] → list_all (λ key. list_any (nat_eq key.column) (outputs_of shape terms.items)) (orders_of shape os) ≡ true
all_selected shape terms [] d none = refl
all_selected shape terms (o ∷ os) d none =
    let here = empty_left (order_faults terms o) (flat_map (order_faults terms) os) none in
    let off = no_bad (terms.distinct && not (is_selected terms.items o.term)) (bad.NotSelected o.at) (empty_right (bad_if (terms.grouped && is_outside terms.keys o.term) (bad.NotGrouped o.at)) (bad_if (terms.distinct && not (is_selected terms.items o.term)) (bad.NotSelected o.at)) here) in
    let is = not_false (is_selected terms.items o.term) (sym (ap (λ b. b && not (is_selected terms.items o.term)) d) ∙ off) in
    both_true (list_any (nat_eq (position_in shape o.term)) (outputs_of shape terms.items)) (list_all (λ key. list_any (nat_eq key.column) (outputs_of shape terms.items)) (orders_of shape os)) (selected_at shape o.term terms.items is)
    (all_selected shape terms os d (empty_right (order_faults terms o) (flat_map (order_faults terms) os) none))

-- with grouping no entry of ORDER BY is outside the keys
pub orders_inside : (terms : Terms) (os : List OrderTerm) → terms.grouped ≡ true → flat_map (order_faults terms) os ≡ [] → AllByRecursion (λ order. is_outside terms.keys order.term ≡ false) os
orders_inside terms [] g none = tt
orders_inside terms (o ∷ os) g none =
    let here = empty_left (order_faults terms o) (flat_map (order_faults terms) os) none in
    let off = no_bad (terms.grouped && is_outside terms.keys o.term) (bad.NotGrouped o.at) (empty_left (bad_if (terms.grouped && is_outside terms.keys o.term) (bad.NotGrouped o.at)) (bad_if (terms.distinct && not (is_selected terms.items o.term)) (bad.NotSelected o.at)) here) in
    (sym (ap (λ b. b && is_outside terms.keys o.term) g) ∙ off, orders_inside terms os g (empty_right (order_faults terms o) (flat_map (order_faults terms) os) none))

-- ---- HAVING

pub there_exprs : (known : List KnownColumn) (keys : List ℕ) (calls : List Aggregate) (es : List Expr) → AllByRecursion (λ placed. is_there known keys calls placed.term ≡ true) (map (placed_term known) es) → AllByRecursion (λ e. is_there known keys calls (term_of known e) ≡ true) es
there_exprs known keys calls [] h = tt
there_exprs known keys calls (e ∷ es) h = (h.0, there_exprs known keys calls es h.1)

pub having_fits : (known : List KnownColumn) (keys : List ℕ) (calls : List Aggregate) (test : Test) → test_breaches known test ≡ [] → test_formed true test ≡ true
    → AllByRecursion (λ placed. is_there known keys calls placed.term ≡ true) (map (placed_term known) (exprs_of test)) → condition_fits (grouped_kinds known keys calls) (cond_of known (grouped_shape known keys calls) test) ≡ true
having_fits known keys calls test none formed there =
    typed true known (grouped_shape known keys calls) (grouped_kinds known keys calls) (λ e. is_there known keys calls (term_of known e) ≡ true)
    (λ e h _ _. record { below = there_below known keys calls (term_of known e) h; kind = there_kind known keys calls (term_of known e) h }) test none (there_exprs known keys calls (exprs_of test) there) formed

-- ---- without grouping

pub none_of : {A : Type 0} (xs : List A) → not (length xs == 0) ≡ false → xs ≡ []
none_of [] h = refl
none_of (x ∷ xs) h = absurd (some (not_false (length (x ∷ xs) == 0) h))
  where
    some : (length (x ∷ xs) == 0) ≡ true → ⊥
    some e = let same : length (x ∷ xs) ≡ 0 = eqb-true (length (x ∷ xs)) 0 e in omega arith

pub no_calls : (ps : List PlacedTerm) → list_any (λ placed. is_call placed.term) ps ≡ false → placed_calls ps ≡ []
no_calls [] h = refl
no_calls (p ∷ ps) h = of p.term (no_calls ps) h
  where
    of : (t : Term) → (list_any (λ placed. is_call placed.term) ps ≡ false → placed_calls ps ≡ []) → (is_call t || list_any (λ placed. is_call placed.term) ps) ≡ false → calls_in t ++ placed_calls ps ≡ []
    of (term.Column column) rest h = rest h
    of (term.Call call) rest h = absurd (cc h)

pub no_ordered_calls : (os : List OrderTerm) → list_any (λ order. is_call order.term) os ≡ false → ordered_calls os ≡ []
no_ordered_calls [] h = refl
no_ordered_calls (o ∷ os) h = of o.term (no_ordered_calls os) h
  where
    of : (t : Term) → (list_any (λ order. is_call order.term) os ≡ false → ordered_calls os ≡ []) → (is_call t || list_any (λ order. is_call order.term) os) ≡ false → calls_in t ++ ordered_calls os ≡ []
    of (term.Column column) rest h = rest h
    of (term.Call call) rest h = absurd (cc h)
