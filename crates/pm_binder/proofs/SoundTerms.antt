-- The expressions of a statement without breaches mean columns and aggregates of the sources' columns.
use Rattle.std.proofs.Common.{◌≡◌, ◌<◌, ◌≤◌, ◌+◌, ℕ, zero, suc, Bool, true, false, not, ◌&&◌, ◌||◌, cond, List, [], ◌∷◌, ◌++◌, length, map, filter, Option, None, Some, refl, sym, ◌∙◌, subst, arith, nat_lt}
use Rattle.std.specs.List.{flat_map, list_any, list_all, count_by, find, range_with_len, AllByRecursion}
use Rattle.std.proofs.lemmas.Bool.Decides.{nat_tests}
use Rattle.std.proofs.lemmas.List.{length-map}
use Rattle.pm_syntax.specs.declared.tree.ColumnName.{ColumnName}
use Rattle.pm_syntax.specs.declared.tree.Func.TheVariants as func
use Rattle.pm_syntax.specs.declared.tree.Expr.{Expr}
use Rattle.pm_syntax.specs.declared.tree.Expr.TheVariants as expr
use Rattle.pm_syntax.specs.declared.tree.Atom.{Atom}
use Rattle.pm_syntax.specs.declared.tree.Atom.TheVariants as atom
use Rattle.pm_syntax.specs.declared.tree.Item.{Item}
use Rattle.pm_syntax.specs.declared.tree.Items.{Items}
use Rattle.pm_syntax.specs.declared.tree.Items.TheVariants as items
use Rattle.pm_syntax.specs.declared.tree.OrderItem.{OrderItem}
use Rattle.pm_syntax.specs.declared.tree.Test.{Test, roll-Test, map-Test}
use Rattle.pm_syntax.specs.declared.tree.Test.TheVariants as test
use Rattle.pm_syntax.specs.declared.tree.Test.TheOpen.{Test-F}
use Rattle.pm_syntax.specs.declared.tree.Test.TheOpen as layer
use Rattle.pm_syntax.specs.declared.tree.Test.TheFolds.{ind-Test}
use Rattle.pm_plan.specs.Kinds.{kind_at, is_number, item_fits}
use Rattle.pm_values.specs.Keys.{once}
use Rattle.pm_canonical.proofs.Folds.{fold_any, fold_all, fold_not, fold_compare, fold_null, fold_one_of, fold_between}
use Rattle.pm_names.specs.declared.fault.BindBad.{BindBad}
use Rattle.pm_names.specs.declared.fault.BindBad.TheVariants as bad
use Rattle.pm_names.specs.declared.terms.KnownColumn.{KnownColumn}
use Rattle.pm_names.specs.declared.terms.Term.{Term}
use Rattle.pm_names.specs.declared.terms.Term.TheVariants as term
use Rattle.pm_names.specs.declared.terms.PlacedTerm.{PlacedTerm}
use Rattle.pm_binder.specs.declared.terms.OrderTerm.{OrderTerm}
use Rattle.pm_names.specs.Names.{name_breaches, column_of, kinds_of, term_of, placed_term, is_sound, sum_breaches, expr_breaches}
use Rattle.pm_names.specs.Kinds.{atom_breaches, kind_breaches, breaches_layer, test_breaches}
use Rattle.pm_names.specs.Conditions.{atom_exprs, exprs_layer, exprs_of}
use Rattle.pm_binder.specs.Grouping.{item_list, item_terms, item_breaches, names_item, item_or, ordered_by, order_term, order_breaches, orders_breaches, having_terms, calls_in, placed_calls, ordered_calls}
use Rattle.pm_binder.specs.Bound.{test_breaches_if}
use Rattle.pm_binder.proofs.Few.{empty_left, empty_right}
use Rattle.pm_binder.proofs.BoundTables.{no_bad, not_false}
use Rattle.pm_binder.proofs.Typed.{and_left, and_right, both_true}
use Rattle.pm_binder.proofs.ReadColumns.{column_below, count_none}
use Rattle.pm_binder.proofs.OnRows.{list_append}

pub all_both : {A : Type 0} (P : A → Type 0) (xs ys : List A) → AllByRecursion P xs → AllByRecursion P ys → AllByRecursion P (xs ++ ys)
all_both P [] ys h k = k
all_both P (x ∷ xs) ys h k = (h.0, all_both P xs ys h.1 k)

-- ---- the expressions of a condition without breaches have none

module _ (known : List KnownColumn) where
  abbrev IsSound : Expr → Type 0
  IsSound e = expr_breaches known e ≡ []

  atom_sound : (a : Atom) → atom_breaches known a ≡ [] → AllByRecursion IsSound (atom_exprs a)
  atom_sound (atom.Expr e) h = (h, tt)
  atom_sound (atom.Literal l) h = tt

  abbrev AreSound : Test → Type 0
  AreSound t = test_breaches known t ≡ [] → AllByRecursion IsSound (exprs_of t)

  members_sound : (members : List ((t : Test) × AreSound t)) → flat_map (λ m. m) (map (test_breaches known) (map (λ e. e.0) members)) ≡ [] → AllByRecursion IsSound (flat_map (λ m. m) (map exprs_of (map (λ e. e.0) members)))
  members_sound [] none = tt
  members_sound (e ∷ es) none =
      let more = flat_map (λ m. m) (map (test_breaches known) (map (λ e. e.0) es)) in
      all_both IsSound (exprs_of e.0) (flat_map (λ m. m) (map exprs_of (map (λ e. e.0) es))) (e.1 (empty_left (test_breaches known e.0) more none)) (members_sound es (empty_right (test_breaches known e.0) more none))

  layer_sound : (y : Test-F ((t : Test) × AreSound t)) → AreSound (roll-Test (map-Test ((t : Test) × AreSound t) Test (λ e. e.0) y))
  layer_sound (layer.Any members) =
      let ts = map (λ e. e.0) members in
      rw (test.rolls-Any ts) (λ none. subst (AllByRecursion IsSound) (sym (fold_any exprs_layer ts)) (members_sound members (sym (fold_any (breaches_layer known) ts) ∙ none)))
  layer_sound (layer.All members) =
      let ts = map (λ e. e.0) members in
      rw (test.rolls-All ts) (λ none. subst (AllByRecursion IsSound) (sym (fold_all exprs_layer ts)) (members_sound members (sym (fold_all (breaches_layer known) ts) ∙ none)))
  layer_sound (layer.Not part) =
      rw (test.rolls-Not part.0) (λ none. subst (AllByRecursion IsSound) (sym (fold_not exprs_layer part.0)) (part.1 (sym (fold_not (breaches_layer known) part.0) ∙ none)))
  layer_sound (layer.Compare how left right at) =
      rw (test.rolls-Compare how left right at) (λ none.
      let n = sym (fold_compare (breaches_layer known) how left right at) ∙ none in
      let front = empty_left (atom_breaches known left ++ kind_breaches known left right at) (atom_breaches known right) n in
      subst (AllByRecursion IsSound) (sym (fold_compare exprs_layer how left right at))
      (all_both IsSound (atom_exprs left) (atom_exprs right) (atom_sound left (empty_left (atom_breaches known left) (kind_breaches known left right at) front))
      (atom_sound right (empty_right (atom_breaches known left ++ kind_breaches known left right at) (atom_breaches known right) n))))
  layer_sound (layer.IsNull of negated) =
      rw (test.rolls-IsNull of negated) (λ none. subst (AllByRecursion IsSound) (sym (fold_null exprs_layer of negated)) (atom_sound of (sym (fold_null (breaches_layer known) of negated) ∙ none)))
  layer_sound (layer.OneOf of list negated at) =
      rw (test.rolls-OneOf of list negated at) (λ none. subst (AllByRecursion IsSound) (sym (fold_one_of exprs_layer of list negated at))
      (atom_sound of (empty_left (atom_breaches known of) (flat_map (λ l. kind_breaches known of (atom.Literal l) at) list) (sym (fold_one_of (breaches_layer known) of list negated at) ∙ none))))
  layer_sound (layer.Between of low high negated at) =
      rw (test.rolls-Between of low high negated at) (λ none.
      let n = sym (fold_between (breaches_layer known) of low high negated at) ∙ none in
      let a = atom_breaches known of in
      let b = kind_breaches known of low at in
      let c = kind_breaches known of high at in
      let d = atom_breaches known low in
      let e = atom_breaches known high in
      let n4 = empty_left (a ++ b ++ c ++ d) e n in
      let n2 = empty_left (a ++ b) c (empty_left (a ++ b ++ c) d n4) in
      subst (AllByRecursion IsSound) (sym (fold_between exprs_layer of low high negated at))
      (all_both IsSound (atom_exprs of ++ atom_exprs low) (atom_exprs high)
      (all_both IsSound (atom_exprs of) (atom_exprs low) (atom_sound of (empty_left a b n2)) (atom_sound low (empty_right (a ++ b ++ c) d n4)))
      (atom_sound high (empty_right (a ++ b ++ c ++ d) e n))))

  pub sound_exprs : (t : Test) → test_breaches known t ≡ [] → AllByRecursion IsSound (exprs_of t)
  sound_exprs = ind-Test AreSound (λ x y is. subst (λ z. AreSound (roll-Test z)) is (layer_sound y))

  -- ---- what they mean are columns and aggregates of the row

  abbrev pub term_fits : Term → Bool
  term_fits (term.Column column) = nat_lt column (length (kinds_of known))
  term_fits (term.Call call) = item_fits (kinds_of known) call

  column_fits : (name : ColumnName) → name_breaches known name ≡ [] → nat_lt (column_of known name) (length (kinds_of known)) ≡ true
  column_fits name none =
      let low : column_of known name < length known = column_below known name none in
      let inner : column_of known name < length (kinds_of known) = rw (length-map known (λ column. column.kind)) low in
      grind (arith, nat_tests)

  summed : (name : ColumnName) (at : ℕ) → name_breaches known name ≡ [] → sum_breaches known func.Sum name at ≡ [] → is_number (kind_at (kinds_of known) (column_of known name)) ≡ true
  summed name at none h =
      let off = no_bad (is_sound (name_breaches known name) && not (is_number (kind_at (kinds_of known) (column_of known name)))) (bad.Kinds at) h in
      not_false (is_number (kind_at (kinds_of known) (column_of known name))) (of (name_breaches known name) (not (is_number (kind_at (kinds_of known) (column_of known name)))) none off)
    where
      of : (xs : List BindBad) (b : Bool) → xs ≡ [] → (is_sound xs && b) ≡ false → b ≡ false
      of [] b none off = off
      of (x ∷ xs) b none off = absurd (cc none)

  pub sound_term : (e : Expr) → expr_breaches known e ≡ [] → term_fits (term_of known e) ≡ true
  sound_term (expr.Column name) none = column_fits name none
  sound_term (expr.CountAll at) none = refl
  sound_term (expr.Call func.Count name at) none = column_fits name (empty_left (name_breaches known name) (sum_breaches known func.Count name at) none)
  sound_term (expr.Call func.Min name at) none = column_fits name (empty_left (name_breaches known name) (sum_breaches known func.Min name at) none)
  sound_term (expr.Call func.Max name at) none = column_fits name (empty_left (name_breaches known name) (sum_breaches known func.Max name at) none)
  sound_term (expr.Call func.Sum name at) none =
      let off = empty_left (name_breaches known name) (sum_breaches known func.Sum name at) none in
      both_true (nat_lt (column_of known name) (length (kinds_of known))) (is_number (kind_at (kinds_of known) (column_of known name))) (column_fits name off) (summed name at off (empty_right (name_breaches known name) (sum_breaches known func.Sum name at) none))

  abbrev pub placed_fits : PlacedTerm → Bool
  placed_fits placed = term_fits placed.term

  abbrev pub order_fits : OrderTerm → Bool
  order_fits order = term_fits order.term

  columns_fit : (at from count : ℕ) → from + count ≤ length (kinds_of known) → list_all placed_fits (map (λ column. record { term = term.Column column; at = at }) (range_with_len from count)) ≡ true
  columns_fit at from zero h = refl
  columns_fit at from (suc count) h =
      both_true (nat_lt from (length (kinds_of known))) (list_all placed_fits (map (λ column. record { term = term.Column column; at = at }) (range_with_len (from + 1) count))) (grind (arith, nat_tests)) (columns_fit at (from + 1) count (omega arith))

  list_fit : (list : List Item) → item_breaches known list ≡ [] → list_all placed_fits (map (λ item. placed_term known item.expr) list) ≡ true
  list_fit [] none = refl
  list_fit (item ∷ list) none =
      both_true (term_fits (term_of known item.expr)) (list_all placed_fits (map (λ item. placed_term known item.expr) list))
      (sound_term item.expr (empty_left (expr_breaches known item.expr) (item_breaches known list) none)) (list_fit list (empty_right (expr_breaches known item.expr) (item_breaches known list) none))

  pub items_fit : (s : Items) → item_breaches known (item_list s) ≡ [] → list_all placed_fits (item_terms known s) ≡ true
  items_fit (items.All at) none = let long : length (kinds_of known) ≡ length known = length-map known (λ column. column.kind) in columns_fit at 0 (length known) (omega arith)
  items_fit (items.List list) none = list_fit list none

  exprs_fit : (es : List Expr) → AllByRecursion IsSound es → list_all placed_fits (map (placed_term known) es) ≡ true
  exprs_fit [] h = refl
  exprs_fit (e ∷ es) h = both_true (term_fits (term_of known e)) (list_all placed_fits (map (placed_term known) es)) (sound_term e h.0) (exprs_fit es h.1)

  pub havings_fit : (having : Option Test) → test_breaches_if known having ≡ [] → list_all placed_fits (having_terms known having) ≡ true
  havings_fit None none = refl
  havings_fit (Some test) none = exprs_fit (exprs_of test) (sound_exprs test none)

  found_sound : (p : Item → Bool) (list : List Item) (item : Item) → item_breaches known list ≡ [] → find p list ≡ Some item → expr_breaches known item.expr ≡ []
  found_sound p [] item none e = absurd (cc e)
  found_sound p (x ∷ list) item none e = of (found_sound p list item (empty_right (expr_breaches known x.expr) (item_breaches known list) none)) (p x) e
    where
      of : (find p list ≡ Some item → expr_breaches known item.expr ≡ []) → (b : Bool) → cond b (Some x) (find p list) ≡ Some item → expr_breaches known item.expr ≡ []
      of rest true e = let same : x ≡ item = cc e in subst (λ i. expr_breaches known i.expr ≡ []) same (empty_left (expr_breaches known x.expr) (item_breaches known list) none)
      of rest false e = rest e

  none_found : (p : Item → Bool) (list : List Item) → find p list ≡ None → list_any p list ≡ false
  none_found p [] e = refl
  none_found p (x ∷ list) e = of (none_found p list) (p x) e
    where
      of : (find p list ≡ None → list_any p list ≡ false) → (b : Bool) → cond b (Some x) (find p list) ≡ None → (b || list_any p list) ≡ false
      of rest true e = absurd (cc e)
      of rest false e = rest e

  ordered_sound : (list : List Item) (key : OrderItem) → item_breaches known list ≡ [] → order_breaches known list key ≡ [] → expr_breaches known (ordered_by list key.expr) ≡ []
  ordered_sound list key none h = of (find (names_item key.expr) list) refl
    where
      of : (o : Option Item) → find (names_item key.expr) list ≡ o → expr_breaches known (item_or key.expr o) ≡ []
      of (Some item) e = found_sound (names_item key.expr) list item none e
      of None e = let unnamed : count_by (names_item key.expr) list ≡ 0 = count_none (names_item key.expr) list (none_found (names_item key.expr) list e) in rw unnamed at h

  pub orders_fit : (list : List Item) (keys : List OrderItem) → item_breaches known list ≡ [] → orders_breaches known list keys ≡ [] → list_all order_fits (map (order_term known list) keys) ≡ true
  orders_fit list [] none h = refl
  orders_fit list (key ∷ keys) none h =
      both_true (term_fits (term_of known (ordered_by list key.expr))) (list_all order_fits (map (order_term known list) keys))
      (sound_term (ordered_by list key.expr) (ordered_sound list key none (empty_left (order_breaches known list key) (orders_breaches known list keys) h)))
      (orders_fit list keys none (empty_right (order_breaches known list key) (orders_breaches known list keys) h))

  -- ---- the aggregates fit

  call_fits : (t : Term) → term_fits t ≡ true → list_all (item_fits (kinds_of known)) (calls_in t) ≡ true
  call_fits (term.Column column) h = refl
  call_fits (term.Call call) h = both_true (item_fits (kinds_of known) call) true h refl

  pub placed_calls_fit : (ps : List PlacedTerm) → list_all placed_fits ps ≡ true → list_all (item_fits (kinds_of known)) (placed_calls ps) ≡ true
  placed_calls_fit [] h = refl
  placed_calls_fit (p ∷ ps) h =
      list_append (item_fits (kinds_of known)) (calls_in p.term) (placed_calls ps) (call_fits p.term (and_left (placed_fits p) (list_all placed_fits ps) h)) (placed_calls_fit ps (and_right (placed_fits p) (list_all placed_fits ps) h))

  pub ordered_calls_fit : (os : List OrderTerm) → list_all order_fits os ≡ true → list_all (item_fits (kinds_of known)) (ordered_calls os) ≡ true
  ordered_calls_fit [] h = refl
  ordered_calls_fit (o ∷ os) h =
      list_append (item_fits (kinds_of known)) (calls_in o.term) (ordered_calls os) (call_fits o.term (and_left (order_fits o) (list_all order_fits os) h)) (ordered_calls_fit os (and_right (order_fits o) (list_all order_fits os) h))

-- what holds of each holds of the different ones
filter_keeps : {A : Type 0} (q p : A → Bool) (xs : List A) → list_all q xs ≡ true → list_all q (filter p xs) ≡ true
filter_keeps q p [] h = refl
filter_keeps q p (x ∷ xs) h = of (filter_keeps q p xs (and_right (q x) (list_all q xs) h)) (p x)
  where
    of : list_all q (filter p xs) ≡ true → (b : Bool) → list_all q (cond b (x ∷ filter p xs) (filter p xs)) ≡ true
    of rest true = both_true (q x) (list_all q (filter p xs)) (and_left (q x) (list_all q xs) h) rest
    of rest false = rest

pub once_keeps : {A : Type 0} (q : A → Bool) (same : A → A → Bool) (xs : List A) → list_all q xs ≡ true → list_all q (once same xs) ≡ true
once_keeps q same [] h = refl
once_keeps q same (x ∷ xs) h =
    both_true (q x) (list_all q (filter (λ y. not (same x y)) (once same xs))) (and_left (q x) (list_all q xs) h) (filter_keeps q (λ y. not (same x y)) (once same xs) (once_keeps q same xs (and_right (q x) (list_all q xs) h)))
