-- The query that a statement is bound to is a bound one.
use Rattle.std.proofs.Common.{◌≡◌, ◌<◌, ◌+◌, ◌==◌, ℕ, zero, suc, Bool, true, false, not, ◌&&◌, ◌||◌, List, [], ◌∷◌, ◌++◌, length, map, Option, None, Some, is_some, Ok, refl, sym, ◌∙◌, ap, subst, arith, nat_eq, length-append, append-nil}
use Rattle.std.specs.Prelude.{if◌then◌else◌}
use Rattle.std.specs.List.{flat_map, list_any, list_all, find, AllByRecursion}
use Rattle.std.proofs.lemmas.Bool.{or_parts}
use Rattle.std.proofs.lemmas.List.{length-map}
use Rattle.std.proofs.lemmas.List.Folds.{find_at}
use Rattle.pm_syntax.specs.declared.tree.Source.{Source}
use Rattle.pm_syntax.specs.declared.tree.Test.{Test}
use Rattle.pm_syntax.specs.declared.tree.Select.{Select}
use Rattle.pm_values.specs.declared.condition.Cond.{Cond}
use Rattle.pm_values.specs.Keys.{once}
use Rattle.pm_values.specs.Table.{Declaration}
use Rattle.pm_plan.specs.declared.plan.Aggregate.{Aggregate}
use Rattle.pm_plan.specs.Kinds.{columns_or_none, table_width, kind_at, kind_of_item, condition_fits, condition_fits_if, item_fits}
use Rattle.pm_plan.specs.Valid.{are_below}
use Rattle.pm_query.specs.declared.query.Query.{Query}
use Rattle.pm_query.specs.Build.{numbers_from}
use Rattle.pm_query.specs.Bound.{differ, names_once, same_aggregate, source_kinds, grouped_or, row_kinds, SourcesFit, AreJoined, on_fits, is_plain, IsBound}
use Rattle.pm_names.specs.declared.fault.BindBad.{BindBad}
use Rattle.pm_names.specs.declared.terms.KnownColumn.{KnownColumn}
use Rattle.pm_binder.specs.declared.terms.Terms.{Terms}
use Rattle.pm_names.specs.Breaches.{outcome, each_from}
use Rattle.pm_names.specs.Sources.{alias_of, is_named, place_in, from_breaches, known_column, source_columns, known_columns, table_places, query_source}
use Rattle.pm_names.specs.Names.{kinds_of, column_of, placed_term}
use Rattle.pm_names.specs.Conditions.{cond_of, exprs_of}
use Rattle.pm_binder.specs.Conjuncts.{conjuncts, later_breaches, join_breaches}
use Rattle.pm_binder.specs.Grouping.{item_list, item_breaches, orders_breaches, having_terms, key_columns, is_call, item_faults, group_faults, ungrouped, order_faults, grouping_breaches, placed_calls, ordered_calls, calls_of, terms_of, shape_of}
use Rattle.pm_binder.specs.Bound.{test_breaches_if, ons_breaches, groups_breaches, text_breaches, further_breaches, breaches, resolved, having_of, outputs_of, orders_of, query, bound}
use Rattle.pm_binder.specs.Laws.{formed_if, StandsAlone, IsFormed, has_columns, AreTables}
use Rattle.pm_binder.proofs.Few.{empty_left, empty_right, few_sources}
use Rattle.pm_binder.proofs.BoundTables.{HasColumns, columns_bound, decls_bound, source_kinds_bound, places_below, table_places_below, one_table}
use Rattle.pm_binder.proofs.OnRows.{fitting, all_fitting, list_append}
use Rattle.pm_binder.proofs.JoinedSources.{are_joined}
use Rattle.pm_binder.proofs.Ranks.{differ_once, table_numbers, places_of_tables, decls_keep, got_all}
use Rattle.pm_binder.proofs.SoundTerms.{items_fit, havings_fit, orders_fit, placed_calls_fit, ordered_calls_fit, once_keeps}
use Rattle.pm_binder.proofs.GroupedRows.{is_there, AreAmong, among_first, among_second, among_once, differ_once_calls, placed_there, ordered_there}
use Rattle.pm_binder.proofs.SelectedRows.{keys_below, row_of, shape_with, Stands, items_below, orders_below, plain_items, plain_orders, heads_long, some_items, all_selected, orders_inside, having_fits, none_of, no_calls, no_ordered_calls}

-- a query is bound where no rule is broken
pub record IsKept (select : Select) (schema : List Declaration) (found : Query) : Type 0 where
  pub from : from_breaches schema select.sources ≡ []
  pub text : text_breaches schema select ≡ []
  pub grouping : grouping_breaches (resolved schema select) ≡ []
  pub joins : join_breaches schema select.sources (conjuncts schema select.sources select.filter) ≡ []
  pub is : found ≡ query schema select

answered : {A : Type 0} (xs : List BindBad) (value found : A) → outcome xs value ≡ Ok found → (xs ≡ []) × (found ≡ value)
answered [] value found h = (refl, cc h)
answered (x ∷ xs) value found h = absurd (cc h)

pub kept : (select : Select) (schema : List Declaration) (found : Query) → bound select schema ≡ Ok found → IsKept select schema found
kept select schema found h =
    let x = answered (breaches schema select) (query schema select) found h in
    let further = empty_right (from_breaches schema select.sources) (further_breaches schema select) x.0 in
    let grouping = grouping_breaches (resolved schema select) in
    let joins = join_breaches schema select.sources (conjuncts schema select.sources select.filter) in
    let two = empty_left (text_breaches schema select ++ grouping) joins further in
    record {
      from = empty_left (from_breaches schema select.sources) (further_breaches schema select) x.0;
      text = empty_left (text_breaches schema select) grouping two;
      grouping = empty_right (text_breaches schema select) grouping two;
      joins = empty_right (text_breaches schema select ++ grouping) joins further;
      is = x.1;
    }

-- the parts of the rules of names and kinds
pub record TextKept (schema : List Declaration) (select : Select) : Type 0 where
  pub items : item_breaches (known_columns schema select.sources) (item_list select.items) ≡ []
  pub ons : ons_breaches schema select.sources ≡ []
  pub filter : test_breaches_if (known_columns schema select.sources) select.filter ≡ []
  pub groups : groups_breaches (known_columns schema select.sources) select.groups ≡ []
  pub having : test_breaches_if (known_columns schema select.sources) select.having ≡ []
  pub orders : orders_breaches (known_columns schema select.sources) (item_list select.items) select.orders ≡ []

pub text_kept : (schema : List Declaration) (select : Select) → text_breaches schema select ≡ [] → TextKept schema select
text_kept schema select none =
    let known = known_columns schema select.sources in
    let a = item_breaches known (item_list select.items) in
    let b = ons_breaches schema select.sources in
    let c = test_breaches_if known select.filter in
    let d = groups_breaches known select.groups in
    let e = test_breaches_if known select.having in
    let f = orders_breaches known (item_list select.items) select.orders in
    let n5 = empty_left (a ++ b ++ c ++ d ++ e) f none in
    let n4 = empty_left (a ++ b ++ c ++ d) e n5 in
    let n3 = empty_left (a ++ b ++ c) d n4 in
    let n2 = empty_left (a ++ b) c n3 in
    record {
      items = empty_left a b n2;
      ons = empty_right a b n2;
      filter = empty_right (a ++ b) c n3;
      groups = empty_right (a ++ b ++ c) d n4;
      having = empty_right (a ++ b ++ c ++ d) e n5;
      orders = empty_right (a ++ b ++ c ++ d ++ e) f none;
    }

-- ---- sources

sources_fit : (select : Select) (schema : List Declaration) (sources : List Source) → select.sources ≡ sources → StandsAlone sources → list_all (λ source. formed_if false source.on) select.sources ≡ true
    → ons_breaches schema select.sources ≡ [] → AllByRecursion (HasColumns schema select.sources) sources → each_from (later_breaches schema select.sources (conjuncts schema select.sources select.filter)) 0 sources ≡ []
    → SourcesFit (query schema select) (map (query_source schema (table_places schema select.sources)) sources)
sources_fit select schema [] is alone formed off has none = absurd alone
sources_fit select schema (first ∷ rest) is alone formed off has none =
    let one : known_columns schema (first ∷ []) ≡ source_columns schema first = append-nil (source_columns schema first) in
    let wide : length (known_columns schema (first ∷ [])) ≡ table_width (decls_bound schema select.sources) (query_source schema (table_places schema select.sources) first).table =
    ap length one ∙ length-map (columns_or_none (find (is_named first.table.text) schema)) (known_column (alias_of first).text) ∙ sym (ap length has.0) in (
      alone.1,
      subst (λ from. AreJoined (query schema select) (map (query_source schema (table_places schema select.sources)) rest) 1 from) wide
          (are_joined schema select formed off (first ∷ []) rest is (λ e. absurd (omega (arith, e))) has.1 (empty_right (later_breaches schema select.sources (conjuncts schema select.sources select.filter) 0 first) (each_from (later_breaches schema select.sources (conjuncts schema select.sources select.filter)) 1 rest) none)),
    )

conditions_fit : (schema : List Declaration) (sources : List Source) (filter : Option Test) → StandsAlone sources → ons_breaches schema sources ≡ [] → list_all (λ source. formed_if false source.on) sources ≡ true
    → test_breaches_if (known_columns schema sources) filter ≡ [] → formed_if false filter ≡ true → list_all (fitting schema sources) (conjuncts schema sources filter) ≡ true
conditions_fit schema [] filter alone none formed off is = absurd alone
conditions_fit schema (first ∷ rest) filter alone none formed off is = all_fitting schema first rest filter alone.0 none formed off is

-- some column is known
wide_enough : (schema : List Declaration) (sources : List Source) → StandsAlone sources → list_all has_columns schema ≡ true → from_breaches schema sources ≡ [] → 0 < length (known_columns schema sources)
wide_enough schema [] alone some none = absurd alone
wide_enough schema (first ∷ rest) alone some none =
    let one = one_table schema (place_in schema first) (places_below schema (first ∷ rest) none).0 in
    let at : find (is_named first.table.text) schema ≡ Some one.0 = find_at (is_named first.table.text) schema ∙ one.1 in
    let has : not (length one.0.columns == 0) ≡ true = got_all has_columns schema (place_in schema first) one.0 some one.1 in
    let long : length (source_columns schema first) ≡ length one.0.columns =
    length-map (columns_or_none (find (is_named first.table.text) schema)) (known_column (alias_of first).text) ∙ ap (λ o. length (columns_or_none o)) at in
    let whole : length (known_columns schema (first ∷ rest)) ≡ length (source_columns schema first) + length (known_columns schema rest) = length-append (source_columns schema first) (known_columns schema rest) in
    let there : 0 < length one.0.columns = positive (length one.0.columns) has in
    omega arith
  where
    positive : (n : ℕ) → not (n == 0) ≡ true → 0 < n
    positive zero h = absurd (cc h)
    positive (suc n) h = omega arith

-- ---- what is selected

no_having : (having : Option Test) → is_some having ≡ false → having ≡ None
no_having None h = refl
no_having (Some test) h = absurd (cc h)

grouped_by : (a b c : Bool) → b ≡ true → (a || (b || c)) ≡ true
grouped_by true b c h = refl
grouped_by false b c h = rw h refl

inside : (terms : Terms) (star : Option ℕ) → item_faults terms star ≡ [] → flat_map (ungrouped terms.keys) terms.items ≡ []
inside terms (Some at) h = absurd (cc h)
inside terms None h = h

module _ (known : List KnownColumn) (select : Select) (items_none : item_breaches known (item_list select.items) ≡ []) (having_none : test_breaches_if known select.having ≡ [])
    (orders_none : orders_breaches known (item_list select.items) select.orders ≡ []) (grouping_none : grouping_breaches (terms_of known select) ≡ []) (formed : formed_if true select.having ≡ true) where
  abbrev pub T : Terms
  T = terms_of known select

  abbrev pub C : List Aggregate
  C = calls_of T

  groups_off : group_faults T ≡ []
  groups_off = empty_left (group_faults T) (flat_map (order_faults T) T.orders) grouping_none

  orders_off : flat_map (order_faults T) T.orders ≡ []
  orders_off = empty_right (group_faults T) (flat_map (order_faults T) T.orders) grouping_none

  faults_of : T.grouped ≡ true → item_faults T T.star ++ flat_map (ungrouped T.keys) T.havings ≡ []
  faults_of g = sym (ap (λ b. if b then item_faults T T.star ++ flat_map (ungrouped T.keys) T.havings else []) g) ∙ groups_off

  calls_among : AreAmong (placed_calls T.items ++ placed_calls T.havings ++ ordered_calls T.orders) C
  calls_among = among_once (placed_calls T.items ++ placed_calls T.havings ++ ordered_calls T.orders)

  placed_among : AreAmong (placed_calls T.items ++ placed_calls T.havings) C
  placed_among = among_first (placed_calls T.items ++ placed_calls T.havings) (ordered_calls T.orders) C calls_among

  no_aggregate : T.grouped ≡ false → (list_any (λ placed. is_call placed.term) T.items || list_any (λ order. is_call order.term) T.orders) ≡ false
  no_aggregate g = (or_parts (is_some select.having) (list_any (λ placed. is_call placed.term) T.items || list_any (λ order. is_call order.term) T.orders) ((or_parts (not (length select.groups == 0)) (is_some select.having || (list_any (λ placed. is_call placed.term) T.items || list_any (λ order. is_call order.term) T.orders)) g).1)).1

  pub items_stand : (g : Bool) → T.grouped ≡ g → AllByRecursion (λ placed. Stands known T.keys C g placed.term) T.items
  items_stand true g =
      placed_there T.keys C known T.items (inside T T.star (empty_left (item_faults T T.star) (flat_map (ungrouped T.keys) T.havings) (faults_of g))) (among_first (placed_calls T.items) (placed_calls T.havings) C placed_among)
  items_stand false g =
      plain_items known T.keys C T.items (items_fit known select.items items_none)
      ((or_parts (list_any (λ placed. is_call placed.term) T.items) (list_any (λ order. is_call order.term) T.orders) (no_aggregate g)).0)

  pub orders_stand : (g : Bool) → T.grouped ≡ g → AllByRecursion (λ order. Stands known T.keys C g order.term) T.orders
  orders_stand true g = ordered_there T.keys C known T.orders (orders_inside T T.orders g orders_off) (among_second (placed_calls T.items ++ placed_calls T.havings) (ordered_calls T.orders) C calls_among)
  orders_stand false g =
      plain_orders known T.keys C T.orders (orders_fit known (item_list select.items) select.orders items_none orders_none)
      ((or_parts (list_any (λ placed. is_call placed.term) T.items) (list_any (λ order. is_call order.term) T.orders) (no_aggregate g)).1)

  outputs_right : are_below (length (row_of known T.grouped T.keys C)) (outputs_of (shape_of T) T.items) ≡ true
  outputs_right = items_below known T.keys C T.grouped T.items (items_stand T.grouped refl)

  orders_right : are_below (length (row_of known T.grouped T.keys C)) (map (λ key. key.column) (orders_of (shape_of T) T.orders)) ≡ true
  orders_right = orders_below known T.keys C T.grouped T.orders (orders_stand T.grouped refl)

  calls_fit : list_all (item_fits (kinds_of known)) C ≡ true
  calls_fit =
      once_keeps (item_fits (kinds_of known)) same_aggregate (placed_calls T.items ++ placed_calls T.havings ++ ordered_calls T.orders)
      (list_append (item_fits (kinds_of known)) (placed_calls T.items ++ placed_calls T.havings) (ordered_calls T.orders)
      (list_append (item_fits (kinds_of known)) (placed_calls T.items) (placed_calls T.havings) (placed_calls_fit known T.items (items_fit known select.items items_none)) (placed_calls_fit known T.havings (havings_fit known select.having having_none)))
      (ordered_calls_fit known T.orders (orders_fit known (item_list select.items) select.orders items_none orders_none)))

  plain_right : (g : Bool) → T.grouped ≡ g → is_plain g T.keys C (having_of known (shape_of T) select.having) ≡ true
  plain_right true g = refl
  plain_right false g =
      let groups : select.groups ≡ [] = none_of select.groups ((or_parts (not (length select.groups == 0)) (is_some select.having || (list_any (λ placed. is_call placed.term) T.items || list_any (λ order. is_call order.term) T.orders)) g).0) in
      let having : select.having ≡ None =
      no_having select.having ((or_parts (is_some select.having) (list_any (λ placed. is_call placed.term) T.items || list_any (λ order. is_call order.term) T.orders) ((or_parts (not (length select.groups == 0)) (is_some select.having || (list_any (λ placed. is_call placed.term) T.items || list_any (λ order. is_call order.term) T.orders)) g).1)).0) in
      let keys : T.keys ≡ [] = ap (key_columns known) groups in
      let items : placed_calls T.items ≡ [] = no_calls T.items ((or_parts (list_any (λ placed. is_call placed.term) T.items) (list_any (λ order. is_call order.term) T.orders) (no_aggregate g)).0) in
      let havings : placed_calls T.havings ≡ [] = ap (λ h. placed_calls (having_terms known h)) having in
      let orders : ordered_calls T.orders ≡ [] = no_ordered_calls T.orders ((or_parts (list_any (λ placed. is_call placed.term) T.items) (list_any (λ order. is_call order.term) T.orders) (no_aggregate g)).1) in
      let calls : C ≡ [] = ap (once same_aggregate) (joined items havings orders) in
      all_plain T.keys C (having_of known (shape_of T) select.having) keys calls (ap (having_of known (shape_of T)) having)
    where
      joined : {xs ys zs : List Aggregate} → xs ≡ [] → ys ≡ [] → zs ≡ [] → xs ++ ys ++ zs ≡ []
      joined a b c = rw (a, b, c) refl

      all_plain : (keys : List ℕ) (calls : List Aggregate) (having : Option Cond) → keys ≡ [] → calls ≡ [] → having ≡ None → is_plain false keys calls having ≡ true
      all_plain keys calls having a b c = rw (a, b, c) refl

  -- what HAVING reads is one of the keys or of the aggregates
  pub having_there : (test : Test) → select.having ≡ Some test → AllByRecursion (λ placed. is_there known T.keys C placed.term ≡ true) (map (placed_term known) (exprs_of test))
  having_there test is =
      let some : is_some select.having ≡ true = ap is_some is in
      let g : T.grouped ≡ true = grouped_by (not (length select.groups == 0)) (is_some select.having) (list_any (λ placed. is_call placed.term) T.items || list_any (λ order. is_call order.term) T.orders) some in
      let terms : T.havings ≡ map (placed_term known) (exprs_of test) = ap (having_terms known) is in
      let there = placed_there T.keys C known T.havings (empty_right (item_faults T T.star) (flat_map (ungrouped T.keys) T.havings) (faults_of g)) (among_second (placed_calls T.items) (placed_calls T.havings) C placed_among) in
      subst (AllByRecursion (λ placed. is_there known T.keys C placed.term ≡ true)) terms there

  having_right : condition_fits_if (row_of known T.grouped T.keys C) (having_of known (shape_of T) select.having) ≡ true
  having_right = of select.having refl
    where
      of : (h : Option Test) → select.having ≡ h → condition_fits_if (row_of known T.grouped T.keys C) (having_of known (shape_of T) h) ≡ true
      of None is = refl
      of (Some test) is =
          let some : is_some select.having ≡ true = ap is_some is in
          let g : T.grouped ≡ true = grouped_by (not (length select.groups == 0)) (is_some select.having) (list_any (λ placed. is_call placed.term) T.items || list_any (λ order. is_call order.term) T.orders) some in
          let fits = having_fits known T.keys C test (sym (ap (test_breaches_if known) is) ∙ having_none) (sym (ap (formed_if true) is) ∙ formed) (having_there test is) in
          subst (λ b. condition_fits (row_of known b T.keys C) (cond_of known (shape_with b T.keys C) test) ≡ true) (sym g) fits

  selected_right : (b : Bool) → select.distinct ≡ b → (not b || list_all (λ key. list_any (nat_eq key.column) (outputs_of (shape_of T) T.items)) (orders_of (shape_of T) T.orders)) ≡ true
  selected_right false d = refl
  selected_right true d = all_selected (shape_of T) T T.orders d orders_off

-- ---- all of it

pub bound_is : (select : Select) (schema : List Declaration) → IsFormed select → AreTables schema → IsKept select schema (query schema select) → IsBound (query schema select)
bound_is select schema formed tables keeps =
    let sources = select.sources in
    let known = known_columns schema sources in
    let t = text_kept schema select keeps.text in
    let terms = terms_of known select in
    let found = query schema select in
    let places = table_places schema sources in
    let below = table_places_below schema sources keeps.from in
    let kinds : source_kinds found ≡ kinds_of known = source_kinds_bound schema sources keeps.from in
    let row : row_kinds found ≡ row_of known terms.grouped terms.keys (calls_of terms) =
    ap (λ ks. grouped_or terms.grouped (map (kind_at ks) terms.keys ++ map (kind_of_item ks) (calls_of terms)) ks) kinds in
    let long : length found.sources ≡ length sources = length-map sources (query_source schema places) in
    record {
      few = rw long (few_sources schema sources keeps.from);
      sources = sources_fit select schema sources refl formed.first formed.ons t.ons (columns_bound schema sources keeps.from) keeps.joins;
      tables = table_numbers schema sources ∙ ap (numbers_from 0) (sym (places_of_tables schema places below));
      places = ap differ (places_of_tables schema places below) ∙ differ_once (map (place_in schema) sources);
      named_once = decls_keep names_once schema places tables.named_once below;
      conjuncts =
          subst (λ n. list_all (λ conjunct. on_fits n conjunct.on && condition_fits (source_kinds found) conjunct.cond) found.conjuncts ≡ true) (sym long)
          (subst (λ ks. list_all (λ conjunct. on_fits (length sources) conjunct.on && condition_fits ks conjunct.cond) found.conjuncts ≡ true) (sym kinds)
          (conditions_fit schema sources select.filter formed.first t.ons formed.ons t.filter formed.filter));
      keys = subst (λ ks. are_below (length ks) terms.keys ≡ true) (sym kinds) (keys_below known select.groups t.groups);
      keys_once = differ_once (map (column_of known) select.groups);
      items = subst (λ ks. list_all (item_fits ks) (calls_of terms) ≡ true) (sym kinds) (calls_fit known select t.items t.having t.orders keeps.grouping formed.having);
      items_once = differ_once_calls (placed_calls terms.items ++ placed_calls terms.havings ++ ordered_calls terms.orders);
      plain = plain_right known select t.items t.having t.orders keeps.grouping formed.having terms.grouped refl;
      having = subst (λ ks. condition_fits_if ks found.having ≡ true) (sym row) (having_right known select t.items t.having t.orders keeps.grouping formed.having);
      some = some_items known select.items (shape_of terms) (wide_enough schema sources formed.first tables.columns keeps.from) formed.items;
      outputs = subst (λ ks. are_below (length ks) found.outputs ≡ true) (sym row) (outputs_right known select t.items t.having t.orders keeps.grouping formed.having);
      heads = heads_long known select.items (shape_of terms);
      orders = subst (λ ks. are_below (length ks) (map (λ key. key.column) found.orders) ≡ true) (sym row) (orders_right known select t.items t.having t.orders keeps.grouping formed.having);
      selected = selected_right known select t.items t.having t.orders keeps.grouping formed.having select.distinct refl;
    }

pub queries_are_bound : (select : Select) (schema : List Declaration) (found : Query) → IsFormed select → AreTables schema → bound select schema ≡ Ok found → IsBound found
queries_are_bound select schema found formed tables h =
    let k = kept select schema found h in
    subst IsBound (sym k.is) (bound_is select schema formed tables (record { from = k.from; text = k.text; grouping = k.grouping; joins = k.joins; is = refl }))
