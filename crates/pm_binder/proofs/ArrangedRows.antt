-- What is selected of groups, sorted, is what is selected of the rows that stand for them.
use Rattle.std.proofs.Common.{◌≡◌, ◌<◌, ◌+◌, ℕ, Bool, true, false, not, cond, if◌then◌else◌, List, [], ◌∷◌, ◌++◌, length, map, get_or, drop, refl, ap, sym, ◌∙◌, subst, arith, nat_eq, append_assoc, length-append}
use Rattle.std.specs.List.{position_or_len, AllByRecursion}
use Rattle.std.specs.Ordering.{ordering_then}
use Rattle.std.proofs.lemmas.Bool.{eqb-true, eq-eqb}
use Rattle.std.proofs.lemmas.Bool.Decides.{nat_tests}
use Rattle.std.proofs.lemmas.List.{length-map}
use Rattle.std.proofs.Math.Seq.{drop-append_seam, get_or-append_seam}
use Rattle.pm_values.specs.declared.value.Value.TheVariants as value
use Rattle.pm_values.specs.Row.{Row, cell, pick}
use Rattle.pm_values.specs.Order.{value_cmp, is_less}
use Rattle.pm_values.specs.Equality.{same_values}
use Rattle.pm_values.specs.Keys.{once}
use Rattle.pm_plan.specs.declared.plan.Aggregate.{Aggregate}
use Rattle.pm_plan.specs.Sorting.{keys_cmp, is_before, sorted}
use Rattle.pm_query.specs.Answer.{position_of}
use Rattle.pm_query.specs.Bound.{same_aggregate}
use Rattle.pm_names.specs.declared.terms.KnownColumn.{KnownColumn}
use Rattle.pm_names.specs.declared.terms.PlacedTerm.{PlacedTerm}
use Rattle.pm_names.specs.declared.terms.Term.{Term}
use Rattle.pm_names.specs.declared.terms.Term.TheVariants as term
use Rattle.pm_names.specs.Conditions.{position_in}
use Rattle.pm_names.proofs.Once.{equal_aggregates}
use Rattle.pm_binder.specs.declared.terms.OrderTerm.{OrderTerm}
use Rattle.pm_binder.specs.declared.terms.Terms.{Terms}
use Rattle.pm_binder.specs.Grouping.{same_term}
use Rattle.pm_binder.specs.Bound.{outputs_of, orders_of}
use Rattle.pm_binder.specs.Meaning.{term_value, item_values, order_values, keys_from, selected_key, arranged}
use Rattle.pm_binder.proofs.BoundTables.{position_below}
use Rattle.pm_binder.proofs.GroupedRows.{any_at, same_self}
use Rattle.pm_binder.proofs.GroupedSelections.{Selection}
use Rattle.pm_binder.proofs.Images.{same_function, bool_iff, map_map, ordered, sorted_map}
use Rattle.pm_binder.proofs.SelectedRows.{shape_with, Stands}

-- ---- different expressions have different positions

same_place : (known : List KnownColumn) (g : Bool) (keys : List ℕ) (calls : List Aggregate) (t u : Term) → Stands known keys calls g t → Stands known keys calls g u
    → same_term t u ≡ nat_eq (position_in (shape_with g keys calls) t) (position_in (shape_with g keys calls) u)
same_place known false keys calls (term.Column a) (term.Column b) h k = refl
same_place known false keys calls (term.Column a) (term.Call b) h k = absurd k
same_place known false keys calls (term.Call a) u h k = absurd h
same_place known true keys calls (term.Column a) (term.Column b) h k =
    bool_iff (nat_eq a b) (nat_eq (position_or_len (nat_eq a) keys) (position_or_len (nat_eq b) keys))
    (λ e. eq-eqb (position_or_len (nat_eq a) keys) (position_or_len (nat_eq b) keys) (ap (λ c. position_or_len (nat_eq c) keys) (eqb-true a b e)))
    (λ e.
    let one : a ≡ get_or keys (position_or_len (nat_eq a) keys) 0 = eqb-true a (get_or keys (position_or_len (nat_eq a) keys) 0) (any_at (nat_eq a) keys 0 h) in
    let two : b ≡ get_or keys (position_or_len (nat_eq b) keys) 0 = eqb-true b (get_or keys (position_or_len (nat_eq b) keys) 0) (any_at (nat_eq b) keys 0 k) in
    eq-eqb a b (one ∙ ap (λ n. get_or keys n 0) (eqb-true (position_or_len (nat_eq a) keys) (position_or_len (nat_eq b) keys) e) ∙ sym two))
same_place known true keys calls (term.Column a) (term.Call b) h k =
    let low : position_or_len (nat_eq a) keys < length keys = position_below (nat_eq a) keys h in
    let off : nat_eq (position_or_len (nat_eq a) keys) (length keys + position_or_len (same_aggregate b) calls) ≡ false = grind (arith, nat_tests) in
    sym off
same_place known true keys calls (term.Call a) (term.Column b) h k =
    let low : position_or_len (nat_eq b) keys < length keys = position_below (nat_eq b) keys k in
    let off : nat_eq (length keys + position_or_len (same_aggregate a) calls) (position_or_len (nat_eq b) keys) ≡ false = grind (arith, nat_tests) in
    sym off
same_place known true keys calls (term.Call a) (term.Call b) h k =
    let p = position_or_len (same_aggregate a) calls in
    let q = position_or_len (same_aggregate b) calls in
    bool_iff (same_aggregate a b) (nat_eq (length keys + p) (length keys + q))
    (λ e. eq-eqb (length keys + p) (length keys + q) (ap (λ c. length keys + position_or_len (same_aggregate c) calls) (equal_aggregates a b e)))
    (λ e.
    let whole : length keys + p ≡ length keys + q = eqb-true (length keys + p) (length keys + q) e in
    let same : p ≡ q = omega arith in
    let one : a ≡ get_or calls p a = equal_aggregates a (get_or calls p a) (any_at (same_aggregate a) calls a h) in
    let two : b ≡ get_or calls q a = equal_aggregates b (get_or calls q a) (any_at (same_aggregate b) calls a k) in
    let alike : a ≡ b = one ∙ ap (λ n. get_or calls n a) same ∙ sym two in
    ap (same_aggregate a) (sym alike) ∙ same_self a)

module _ (known : List KnownColumn) (g : Bool) (keys : List ℕ) (calls : List Aggregate) where
  -- what each of these expressions is stands in the row
  abbrev AllStand : List PlacedTerm → Type 0
  AllStand items = AllByRecursion (λ placed. Stands known keys calls g placed.term) items

  abbrev AllOrdersStand : List OrderTerm → Type 0
  AllOrdersStand orders = AllByRecursion (λ order. Stands known keys calls g order.term) orders

  same_position : (t : Term) → Stands known keys calls g t → (items : List PlacedTerm) → AllStand items
      → position_or_len (λ placed. same_term t placed.term) items ≡ position_of (position_in (shape_with g keys calls) t) (outputs_of (shape_with g keys calls) items)
  same_position t h [] stand = refl
  same_position t h (p ∷ items) stand =
      let here = same_place known g keys calls t p.term h stand.0 in
      let rest = same_position t h items stand.1 in
      (λ i. cond (not (here i)) (1 + rest i) 0)
      ∙ turned (nat_eq (position_in (shape_with g keys calls) t) (position_in (shape_with g keys calls) p.term)) (1 + position_of (position_in (shape_with g keys calls) t) (outputs_of (shape_with g keys calls) items))
    where
      turned : (b : Bool) (n : ℕ) → cond (not b) n 0 ≡ (if b then 0 else n)
      turned true n = refl
      turned false n = refl

  selected_keys : (terms : Terms) (orders : List OrderTerm) → AllStand terms.items → AllOrdersStand orders
      → map (selected_key terms) orders ≡ map (λ key. record { column = position_of key.column (outputs_of (shape_with g keys calls) terms.items); descending = key.descending }) (orders_of (shape_with g keys calls) orders)
  selected_keys terms [] stand h = refl
  selected_keys terms (o ∷ orders) stand h =
      let here = same_position o.term h.0 terms.items stand in
      let rest = selected_keys terms orders stand h.1 in
      λ i. record { column = here i; descending = o.descending } ∷ rest i

  items_same : (s : Selection known g keys calls) (items : List PlacedTerm) → AllStand items → map (λ placed. term_value s.group placed.term) items ≡ pick (outputs_of (shape_with g keys calls) items) s.row
  items_same s [] h = refl
  items_same s (p ∷ items) h =
      let here = s.agree p.term h.0 in
      let rest = items_same s items h.1 in
      λ i. here i ∷ rest i

  -- ---- the order

  -- from this column on the row has the values of these expressions
  abbrev HasValues : ℕ → List OrderTerm → Row → Selection known g keys calls → Type 0
  HasValues i [] row s = Unit {0}
  HasValues i (o ∷ orders) row s = (cell row i ≡ cell s.row (position_in (shape_with g keys calls) o.term)) × HasValues (i + 1) orders row s

  has_values : (s : Selection known g keys calls) (orders : List OrderTerm) → AllOrdersStand orders → (front rest : Row) (i : ℕ) → length front ≡ i
      → HasValues i orders (front ++ (map (λ order. term_value s.group order.term) orders ++ rest)) s
  has_values s [] h front rest i long = tt
  has_values s (o ∷ orders) h front rest i long =
      let v = term_value s.group o.term in
      let more = map (λ order. term_value s.group order.term) orders ++ rest in
      let at : cell (front ++ (v ∷ more)) i ≡ v = subst (λ n. get_or (front ++ (v ∷ more)) n value.Null ≡ v) long (get_or-append_seam front v more value.Null) in
      let longer : length (front ++ v ∷ []) ≡ i + 1 = length-append front (v ∷ []) ∙ ap (λ n. n + 1) long in
      let moved : (front ++ v ∷ []) ++ more ≡ front ++ (v ∷ more) = append_assoc front (v ∷ []) more in
      (at ∙ s.agree o.term h.0, subst (λ row. HasValues (i + 1) orders row s) moved (has_values s orders h.1 (front ++ v ∷ []) rest (i + 1) longer))

  same_keys : (i : ℕ) (orders : List OrderTerm) (a b : Row) (s t : Selection known g keys calls) → HasValues i orders a s → HasValues i orders b t
      → keys_cmp (keys_from i orders) a b ≡ keys_cmp (orders_of (shape_with g keys calls) orders) s.row t.row
  same_keys i [] a b s t h k = refl
  same_keys i (o ∷ orders) a b s t h k =
      let left = h.0 in
      let right = k.0 in
      let rest = same_keys (i + 1) orders a b s t h.1 k.1 in
      λ j. ordering_then (if o.descending then value_cmp (right j) (left j) else value_cmp (left j) (right j)) (rest j)

  module _ (terms : Terms) (items : AllStand terms.items) (orders : AllOrdersStand terms.orders) (all : List (Selection known g keys calls)) where
    abbrev outputs : List ℕ
    outputs = outputs_of (shape_with g keys calls) terms.items

    selected_same : map (item_values terms) (map (λ s. s.group) all) ≡ map (pick outputs) (map (λ s. s.row) all)
    selected_same =
        map_map (item_values terms) (λ s. s.group) all
        ∙ ap (λ f. map f all) (same_function (λ s. item_values terms s.group) (λ s. pick outputs s.row) (λ s. items_same s terms.items items))
        ∙ sym (map_map (pick outputs) (λ s. s.row) all)

    different_same : sorted (map (selected_key terms) terms.orders) (once same_values (map (item_values terms) (map (λ s. s.group) all)))
        ≡ sorted (map (λ key. record { column = position_of key.column outputs; descending = key.descending }) (orders_of (shape_with g keys calls) terms.orders)) (once same_values (map (pick outputs) (map (λ s. s.row) all)))
    different_same =
        let keys_are = selected_keys terms terms.orders items orders in
        let rows_are = selected_same in
        λ i. sorted (keys_are i) (once same_values (rows_are i))

    -- the values of ORDER BY and of SELECT
    abbrev wide : Selection known g keys calls → Row
    wide s = order_values terms s.group ++ item_values terms s.group

    wide_before : (s t : Selection known g keys calls) → is_before (keys_from 0 terms.orders) (wide s) (wide t) ≡ is_before (orders_of (shape_with g keys calls) terms.orders) s.row t.row
    wide_before s t =
        ap is_less (same_keys 0 terms.orders (wide s) (wide t) s t
        (has_values s terms.orders orders [] (item_values terms s.group) 0 refl) (has_values t terms.orders orders [] (item_values terms t.group) 0 refl))

    narrow : (s : Selection known g keys calls) → drop (length terms.orders) (wide s) ≡ pick outputs s.row
    narrow s =
        ap (λ n. drop n (wide s)) (sym (length-map terms.orders (λ order. term_value s.group order.term)))
        ∙ drop-append_seam (order_values terms s.group) (item_values terms s.group) ∙ items_same s terms.items items

    all_same : map (drop (length terms.orders)) (sorted (keys_from 0 terms.orders) (map (λ rows. order_values terms rows ++ item_values terms rows) (map (λ s. s.group) all)))
        ≡ map (pick outputs) (sorted (orders_of (shape_with g keys calls) terms.orders) (map (λ s. s.row) all))
    all_same =
        let n = length terms.orders in
        let less = λ (s t : Selection known g keys calls). is_before (keys_from 0 terms.orders) (wide s) (wide t) in
        let fewer = λ (s t : Selection known g keys calls). is_before (orders_of (shape_with g keys calls) terms.orders) s.row t.row in
        let same : less ≡ fewer = (λ i. λ s t. wide_before s t i) in
        ap (λ rows. map (drop n) (sorted (keys_from 0 terms.orders) rows)) (map_map (λ rows. order_values terms rows ++ item_values terms rows) (λ s. s.group) all)
        ∙ ap (map (drop n)) (sorted_map (keys_from 0 terms.orders) wide all)
        ∙ map_map (drop n) wide (ordered less all)
        ∙ (λ i. map (λ s. narrow s i) (ordered (same i) all))
        ∙ sym (map_map (pick outputs) (λ s. s.row) (ordered fewer all))
        ∙ ap (map (pick outputs)) (sym (sorted_map (orders_of (shape_with g keys calls) terms.orders) (λ s. s.row) all))

    pub arranged_same : arranged terms (map (λ s. s.group) all)
        ≡ (if terms.distinct
        then sorted (map (λ key. record { column = position_of key.column outputs; descending = key.descending }) (orders_of (shape_with g keys calls) terms.orders)) (once same_values (map (pick outputs) (map (λ s. s.row) all)))
        else map (pick outputs) (sorted (orders_of (shape_with g keys calls) terms.orders) (map (λ s. s.row) all)))
    arranged_same = λ i. if terms.distinct then different_same i else all_same i
