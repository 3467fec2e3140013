-- A breach of a rule of binding is no want of memory.
use Rattle.std.proofs.Common.{◌≡◌, ◌≢◌, ◌+◌, ◌==◌, ◌&&◌, ℕ, Bool, true, false, not, cond, nat_lt, List, [], ◌∷◌, ◌++◌, length, map, take, Option, Some, None, Err, sym, subst}
use Rattle.std.specs.List.{flat_map, AllByRecursion, count_by, list_any}
use Rattle.pm_syntax.specs.declared.tree.ColumnName.{ColumnName}
use Rattle.pm_syntax.specs.declared.tree.Expr.{Expr}
use Rattle.pm_syntax.specs.declared.tree.Expr.TheVariants as expr
use Rattle.pm_syntax.specs.declared.tree.Atom.{Atom}
use Rattle.pm_syntax.specs.declared.tree.Atom.TheVariants as atom
use Rattle.pm_syntax.specs.declared.tree.Item.{Item}
use Rattle.pm_syntax.specs.declared.tree.OrderItem.{OrderItem}
use Rattle.pm_syntax.specs.declared.tree.Source.{Source}
use Rattle.pm_syntax.specs.declared.tree.Select.{Select}
use Rattle.pm_syntax.specs.declared.tree.Test.{Test, roll-Test, map-Test}
use Rattle.pm_syntax.specs.declared.tree.Test.TheVariants as test
use Rattle.pm_syntax.specs.declared.tree.Test.TheOpen.{Test-F}
use Rattle.pm_syntax.specs.declared.tree.Test.TheOpen as layer
use Rattle.pm_syntax.specs.declared.tree.Test.TheFolds.{ind-Test}
use Rattle.pm_canonical.proofs.Folds.{fold_any, fold_all, fold_not, fold_compare, fold_null, fold_one_of, fold_between}
use Rattle.pm_values.specs.Table.{Declaration}
use Rattle.pm_query.specs.declared.query.Conjunct.{Conjunct}
use Rattle.pm_names.specs.declared.fault.BindBad.{BindBad}
use Rattle.pm_names.specs.declared.fault.BindBad.TheVariants as bad
use Rattle.pm_names.specs.declared.terms.KnownColumn.{KnownColumn}
use Rattle.pm_names.specs.declared.terms.PlacedTerm.{PlacedTerm}
use Rattle.pm_names.specs.Breaches.{bad_if, outcome, each_from}
use Rattle.pm_names.specs.Sources.{is_named, has_alias, alias_of, from_breaches, source_breaches, known_columns, known_at}
use Rattle.pm_names.specs.Names.{means, name_at as column_at, name_breaches, sum_breaches, expr_breaches, expr_at}
use Rattle.pm_names.specs.Kinds.{atom_breaches, kind_breaches, breaches_layer, test_breaches}
use Rattle.pm_binder.specs.declared.terms.OrderTerm.{OrderTerm}
use Rattle.pm_binder.specs.declared.terms.Terms.{Terms}
use Rattle.pm_binder.specs.Bound.{test_breaches_if, on_breaches, ons_breaches, groups_breaches, text_breaches, resolved, further_breaches, breaches, query, bound}
use Rattle.pm_binder.specs.Conjuncts.{is_pair, is_stray, conjuncts, joined_breaches, later_breaches, join_breaches}
use Rattle.pm_binder.specs.Grouping.{is_outside, is_selected, item_list, item_breaches, names_item, order_breaches, orders_breaches, ungrouped, order_faults, item_faults, group_faults, grouping_breaches}

abbrev AreReal : List BindBad → Type 0
AreReal = AllByRecursion (λ (e : BindBad). e ≢ bad.Memory)

real_both : (xs ys : List BindBad) → AreReal xs → AreReal ys → AreReal (xs ++ ys)
real_both [] ys h k = k
real_both (x ∷ xs) ys h k = (h.0, real_both xs ys h.1 k)

real_if : (b : Bool) (e : BindBad) → e ≢ bad.Memory → AreReal (bad_if b e)
real_if true e h = (h, tt)
real_if false e h = tt

real_two : (b c : Bool) (x y : BindBad) → x ≢ bad.Memory → y ≢ bad.Memory → AreReal (bad_if b x ++ bad_if c y)
real_two b c x y h k = real_both (bad_if b x) (bad_if c y) (real_if b x h) (real_if c y k)

real_of : (b : Bool) (xs ys : List BindBad) → AreReal xs → AreReal ys → AreReal (cond b xs ys)
real_of true xs ys h k = h
real_of false xs ys h k = k

real_flat : {A : Type 0} (f : A → List BindBad) → ((x : A) → AreReal (f x)) → (xs : List A) → AreReal (flat_map f xs)
real_flat f each [] = tt
real_flat f each (x ∷ xs) = real_both (f x) (flat_map f xs) (each x) (real_flat f each xs)

real_each : {A : Type 0} (f : ℕ → A → List BindBad) → ((i : ℕ) (x : A) → AreReal (f i x)) → (i : ℕ) (xs : List A) → AreReal (each_from f i xs)
real_each f each i [] = tt
real_each f each i (x ∷ xs) = real_both (f i x) (each_from f (i + 1) xs) (each i x) (real_each f each (i + 1) xs)

source_real : (schema : List Declaration) (sources : List Source) (i : ℕ) (source : Source) → AreReal (source_breaches schema sources i source)
source_real schema sources i source =
    let ninth : Bool = i == 8 in
    let unknown : Bool = not (list_any (is_named source.table.text) schema) in
    let double : Bool = has_alias (take i sources) (alias_of source).text in
    real_both (bad_if ninth (bad.TooManyTables source.table.at) ++ bad_if unknown (bad.NoTable source.table.at)) (bad_if double (bad.DoubleAlias (alias_of source).at))
    (real_two ninth unknown (bad.TooManyTables source.table.at) (bad.NoTable source.table.at) (λ e. cc e) (λ e. cc e)) (real_if double (bad.DoubleAlias (alias_of source).at) (λ e. cc e))

module _ (known : List KnownColumn) where
  names_real : (name : ColumnName) → AreReal (name_breaches known name)
  unfolding name_breaches
  names_real name =
      let meant : ℕ = count_by (means name) known in
      real_two (meant == 0) (nat_lt 1 meant) (bad.NoColumn (column_at name)) (bad.TwoColumns (column_at name)) (λ e. cc e) (λ e. cc e)

  expr_real : (e : Expr) → AreReal (expr_breaches known e)
  expr_real (expr.Column name) = names_real name
  expr_real (expr.CountAll at) = tt
  expr_real (expr.Call f name at) = real_both (name_breaches known name) (sum_breaches known f name at) (names_real name) (real_if _ (bad.Kinds at) (λ e. cc e))

  atom_real : (a : Atom) → AreReal (atom_breaches known a)
  atom_real (atom.Expr e) = expr_real e
  atom_real (atom.Literal l) = tt

  kind_real : (left right : Atom) (at : ℕ) → AreReal (kind_breaches known left right at)
  kind_real left right at = real_if _ (bad.Kinds at) (λ e. cc e)

  abbrev TestReal : Test → Type 0
  TestReal t = AreReal (test_breaches known t)

  members_real : (members : List ((t : Test) × TestReal t)) → AreReal (flat_map (λ m. m) (map (test_breaches known) (map (λ e. e.0) members)))
  members_real [] = tt
  members_real (e ∷ es) = real_both (test_breaches known e.0) (flat_map (λ m. m) (map (test_breaches known) (map (λ e. e.0) es))) e.1 (members_real es)

  layer_real : (y : Test-F ((t : Test) × TestReal t)) → TestReal (roll-Test (map-Test ((t : Test) × TestReal t) Test (λ e. e.0) y))
  layer_real (layer.Any members) = let ts = map (λ e. e.0) members in rw (test.rolls-Any ts) (subst AreReal (sym (fold_any (breaches_layer known) ts)) (members_real members))
  layer_real (layer.All members) = let ts = map (λ e. e.0) members in rw (test.rolls-All ts) (subst AreReal (sym (fold_all (breaches_layer known) ts)) (members_real members))
  layer_real (layer.Not part) = rw (test.rolls-Not part.0) (subst AreReal (sym (fold_not (breaches_layer known) part.0)) part.1)
  layer_real (layer.Compare how left right at) =
      rw (test.rolls-Compare how left right at) (subst AreReal (sym (fold_compare (breaches_layer known) how left right at))
      (real_both (atom_breaches known left ++ kind_breaches known left right at) (atom_breaches known right)
      (real_both (atom_breaches known left) (kind_breaches known left right at) (atom_real left) (kind_real left right at)) (atom_real right)))
  layer_real (layer.IsNull of negated) = rw (test.rolls-IsNull of negated) (subst AreReal (sym (fold_null (breaches_layer known) of negated)) (atom_real of))
  layer_real (layer.OneOf of list negated at) =
      rw (test.rolls-OneOf of list negated at) (subst AreReal (sym (fold_one_of (breaches_layer known) of list negated at))
      (real_both (atom_breaches known of) (flat_map (λ l. kind_breaches known of (atom.Literal l) at) list) (atom_real of) (real_flat (λ l. kind_breaches known of (atom.Literal l) at) (λ l. kind_real of (atom.Literal l) at) list)))
  layer_real (layer.Between of low high negated at) =
      let a = atom_breaches known of in
      let b = kind_breaches known of low at in
      let c = kind_breaches known of high at in
      let d = atom_breaches known low in
      rw (test.rolls-Between of low high negated at) (subst AreReal (sym (fold_between (breaches_layer known) of low high negated at))
      (real_both (a ++ b ++ c ++ d) (atom_breaches known high)
      (real_both (a ++ b ++ c) d (real_both (a ++ b) c (real_both a b (atom_real of) (kind_real of low at)) (kind_real of high at)) (atom_real low)) (atom_real high)))

  pub test_real : (t : Test) → TestReal t
  test_real = ind-Test TestReal (λ x y is. subst (λ z. TestReal (roll-Test z)) is (layer_real y))

  if_real : (t : Option Test) → AreReal (test_breaches_if known t)
  if_real None = tt
  if_real (Some t) = test_real t

  order_real : (list : List Item) (key : OrderItem) → AreReal (order_breaches known list key)
  order_real list key =
      let named : ℕ = count_by (names_item key.expr) list in
      real_of (named == 0) (expr_breaches known key.expr) (bad_if (nat_lt 1 named) (bad.TwoColumns (expr_at key.expr))) (expr_real key.expr) (real_if (nat_lt 1 named) (bad.TwoColumns (expr_at key.expr)) (λ e. cc e))

text_real : (schema : List Declaration) (select : Select) → AreReal (text_breaches schema select)
text_real schema select =
    let known = known_columns schema select.sources in
    let list = item_list select.items in
    let a = item_breaches known list in
    let b = ons_breaches schema select.sources in
    let c = test_breaches_if known select.filter in
    let d = groups_breaches known select.groups in
    let e = test_breaches_if known select.having in
    real_both (a ++ b ++ c ++ d ++ e) (orders_breaches known list select.orders)
    (real_both (a ++ b ++ c ++ d) e
    (real_both (a ++ b ++ c) d
    (real_both (a ++ b) c
    (real_both a b (real_flat (λ (item : Item). expr_breaches known item.expr) (λ item. expr_real known item.expr) list)
    (real_each (on_breaches schema select.sources) (λ i source. if_real (known_at schema select.sources i) source.on) 0 select.sources))
    (if_real known select.filter)) (real_flat (name_breaches known) (names_real known) select.groups)) (if_real known select.having))
    (real_flat (order_breaches known list) (order_real known list) select.orders)

ungrouped_real : (keys : List ℕ) (placed : PlacedTerm) → AreReal (ungrouped keys placed)
ungrouped_real keys placed = real_if _ (bad.NotGrouped placed.at) (λ e. cc e)

items_real : (terms : Terms) (star : Option ℕ) → AreReal (item_faults terms star)
items_real terms (Some at) = ((λ e. cc e), tt)
items_real terms None = real_flat (ungrouped terms.keys) (ungrouped_real terms.keys) terms.items

faults_real : (terms : Terms) (order : OrderTerm) → AreReal (order_faults terms order)
faults_real terms order =
    real_two (terms.grouped && is_outside terms.keys order.term) (terms.distinct && not (is_selected terms.items order.term)) (bad.NotGrouped order.at) (bad.NotSelected order.at) (λ e. cc e) (λ e. cc e)

grouping_real : (terms : Terms) → AreReal (grouping_breaches terms)
grouping_real terms =
    real_both (group_faults terms) (flat_map (order_faults terms) terms.orders)
    (real_of terms.grouped (item_faults terms terms.star ++ flat_map (ungrouped terms.keys) terms.havings) []
    (real_both (item_faults terms terms.star) (flat_map (ungrouped terms.keys) terms.havings) (items_real terms terms.star) (real_flat (ungrouped terms.keys) (ungrouped_real terms.keys) terms.havings)) tt)
    (real_flat (order_faults terms) (faults_real terms) terms.orders)

later_real : (schema : List Declaration) (sources : List Source) (found : List Conjunct) (i : ℕ) (source : Source) → AreReal (later_breaches schema sources found i source)
later_real schema sources found i source =
    let from : ℕ = length (known_columns schema (take i sources)) in
    let to : ℕ = length (known_at schema sources i) in
    real_of (i == 0) [] (joined_breaches source i from to found) tt
    (real_two (not (list_any (is_pair source.left i from to) found)) (source.left && list_any (is_stray i from to) found) (bad.NoJoinKey source.table.at) (bad.LeftOn source.table.at) (λ e. cc e) (λ e. cc e))

all_real : (schema : List Declaration) (select : Select) → AreReal (breaches schema select)
all_real schema select =
    let found = conjuncts schema select.sources select.filter in
    let text = text_breaches schema select in
    let grouping = grouping_breaches (resolved schema select) in
    real_both (from_breaches schema select.sources) (further_breaches schema select) (real_each (source_breaches schema select.sources) (source_real schema select.sources) 0 select.sources)
    (real_both (text ++ grouping) (join_breaches schema select.sources found) (real_both text grouping (text_real schema select) (grouping_real (resolved schema select)))
    (real_each (later_breaches schema select.sources found) (later_real schema select.sources found) 0 select.sources))

outcome_real : {A : Type 0} (xs : List BindBad) (value : A) → AreReal xs → outcome xs value ≢ Err bad.Memory
outcome_real [] value real is = cc is
outcome_real (x ∷ xs) value real is = let same : x ≡ bad.Memory = cc is in real.0 same

pub bound_real : (select : Select) (schema : List Declaration) → bound select schema ≢ Err bad.Memory
bound_real select schema is = outcome_real (breaches schema select) (query schema select) (all_real schema select) is
