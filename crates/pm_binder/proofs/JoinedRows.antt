-- The rows of FROM and WHERE are the combinations of the bound query's sources that meet its conjuncts.
use Rattle.std.proofs.Common.{◌≡◌, ◌<◌, ◌≤◌, ◌+◌, ℕ, Bool, true, false, not, cond, ◌&&◌, ◌||◌, if◌then◌else◌, List, [], ◌∷◌, ◌++◌, length, map, filter, Option, None, Some, refl, ap, sym, ◌∙◌, subst, arith, suc, nat_eq, append_assoc, append-nil}
use Rattle.std.specs.Prelude.{slice_get}
use Rattle.std.specs.List.{flat_map, list_all, find, position_or_len, AllByRecursion}
use Rattle.std.proofs.lemmas.Bool.{eqb-true, eq-eqb}
use Rattle.std.proofs.lemmas.Bool.Decides.{nat_tests}
use Rattle.std.proofs.lemmas.List.{length-map}
use Rattle.std.proofs.lemmas.List.Elements.{filter-append}
use Rattle.std.proofs.lemmas.List.Folds.{find_at, list_all-map}
use Rattle.std.proofs.lemmas.Slice.Eq.{bytes_eq-Decides}
use Rattle.pm_syntax.specs.declared.tree.Expr.{Expr}
use Rattle.pm_syntax.specs.declared.tree.Expr.TheVariants as expr
use Rattle.pm_syntax.specs.declared.tree.Source.{Source}
use Rattle.pm_syntax.specs.declared.tree.Test.{Test}
use Rattle.pm_syntax.specs.declared.tree.Select.{Select}
use Rattle.pm_values.specs.declared.condition.Truth.{Truth}
use Rattle.pm_values.specs.declared.condition.Truth.TheVariants.{Yes, No, Unknown}
use Rattle.pm_values.specs.declared.condition.Cond.{Cond}
use Rattle.pm_values.specs.declared.condition.Cond.TheVariants as node
use Rattle.pm_values.specs.Condition.{both, all_of, is_yes, truth_layer, truth, keeps}
use Rattle.pm_values.specs.Row.{Row, cell}
use Rattle.pm_values.specs.Table.{Declaration}
use Rattle.pm_values.proofs.Folds.{fold_all as cond_all}
use Rattle.pm_plan.specs.Joins.{or_padded}
use Rattle.pm_plan.specs.Kinds.{columns_or_none, table_width}
use Rattle.pm_plan.specs.Rows.{Db, rows_or_none, table_rows, decls_of}
use Rattle.pm_query.specs.declared.query.Conjunct.{Conjunct}
use Rattle.pm_query.specs.Answer.{same_source, meets, stands_in, conditions_in, entered, combinations, combined}
use Rattle.pm_names.specs.declared.terms.KnownColumn.{KnownColumn}
use Rattle.pm_names.specs.Breaches.{each_from}
use Rattle.pm_names.specs.Sources.{alias_of, is_named, from_breaches, place_in, table_places, table_if, tables_at, query_source, known_column, source_columns, known_columns, known_at}
use Rattle.pm_names.specs.Names.{term_of}
use Rattle.pm_names.specs.Conditions.{whole_row, position_in, exprs_of}
use Rattle.pm_binder.specs.Conjuncts.{test_conjuncts, conjuncts_if, on_conjuncts, conjuncts}
use Rattle.pm_binder.specs.Bound.{query}
use Rattle.pm_binder.specs.Laws.{is_column, test_formed, formed_if}
use Rattle.pm_binder.specs.Meaning.{term_value, test_truth, meets_if, rows_named, joined_with, joined_from, joined_rows}
use Rattle.pm_binder.proofs.BoundTables.{HasColumns, columns_bound, decls_bound, places_below, one_table}
use Rattle.pm_binder.proofs.Images.{same_function, bool_iff, once_all}
use Rattle.pm_binder.proofs.OnRows.{Any, all_any}
use Rattle.pm_binder.proofs.ReadColumns.{conjuncts_pass}
use Rattle.pm_binder.proofs.TestTruths.{truth_same}
use Rattle.pm_binder.proofs.Typed.{and_left, and_right}

-- ---- a condition is true on a row exactly where each of its conjuncts is

yes_both : (a b : Truth) → is_yes (both a b) ≡ (is_yes a && is_yes b)
yes_both Yes b = refl
yes_both No b = refl
yes_both Unknown Yes = refl
yes_both Unknown No = refl
yes_both Unknown Unknown = refl

yes_all : (row : Row) (cs : List Cond) → is_yes (all_of (map (truth row) cs)) ≡ list_all (λ m. m) (map (λ c. keeps c row) cs)
yes_all row [] = refl
yes_all row (c ∷ cs) = yes_both (truth row c) (all_of (map (truth row) cs)) ∙ ap (λ b. keeps c row && b) (yes_all row cs)

keeps_all : (row : Row) (cs : List Cond) → keeps (node.All cs) row ≡ list_all (λ m. m) (map (λ c. keeps c row) cs)
keeps_all row cs = ap is_yes (cond_all (truth_layer row) cs) ∙ yes_all row cs

column_same : (known : List KnownColumn) (row : Row) (e : Expr) → Any e → (false || is_column e) ≡ true → term_value (row ∷ []) (term_of known e) ≡ cell row (position_in whole_row (term_of known e))
column_same known row (expr.Column name) any formed = refl
column_same known row (expr.CountAll at) any formed = absurd (cc formed)
column_same known row (expr.Call f name at) any formed = absurd (cc formed)

parts_meet : (known : List KnownColumn) (on : Option ℕ) (row : Row) (t : Test) → test_formed false t ≡ true → meets (map (λ conjunct. conjunct.cond) (test_conjuncts known on t)) row ≡ is_yes (test_truth known (row ∷ []) t)
parts_meet known on row t formed =
    list_all-map (λ c. keeps c row) (λ (conjunct : Conjunct). conjunct.cond) (test_conjuncts known on t)
    ∙ conjuncts_pass (λ c. keeps c row) (keeps_all row) known on t
    ∙ ap is_yes (sym (truth_same false known whole_row (row ∷ []) row Any (column_same known row) t (all_any (exprs_of t)) formed))

if_meets : (known : List KnownColumn) (on : Option ℕ) (test : Option Test) (row : Row) → formed_if false test ≡ true → meets (map (λ conjunct. conjunct.cond) (conjuncts_if known on test)) row ≡ meets_if known test (row ∷ [])
if_meets known on None row formed = refl
if_meets known on (Some test) row formed = parts_meet known on row test formed

-- ---- which conjuncts stand where

module _ (o on : Option ℕ) where
  all_stand : same_source o on ≡ true → (cs : List Cond) → filter (stands_in o) (map (λ c. record { on = on; cond = c }) cs) ≡ map (λ c. record { on = on; cond = c }) cs
  all_stand e [] = refl
  all_stand e (c ∷ cs) = rw e (ap (λ more. record { on = on; cond = c } ∷ more) (all_stand e cs))

  none_stand : same_source o on ≡ false → (cs : List Cond) → filter (stands_in o) (map (λ c. record { on = on; cond = c }) cs) ≡ []
  none_stand e [] = refl
  none_stand e (c ∷ cs) = rw e (none_stand e cs)

  all_if : same_source o on ≡ true → (known : List KnownColumn) (test : Option Test) → filter (stands_in o) (conjuncts_if known on test) ≡ conjuncts_if known on test
  all_if e known None = refl
  all_if e known (Some test) = all_stand e _

  none_if : same_source o on ≡ false → (known : List KnownColumn) (test : Option Test) → filter (stands_in o) (conjuncts_if known on test) ≡ []
  none_if e known None = refl
  none_if e known (Some test) = none_stand e _

module _ (schema : List Declaration) (sources : List Source) where
  -- those of the ONs from a position on
  abbrev ons_from : ℕ → List Source → List Conjunct
  ons_from i xs = each_from (on_conjuncts schema sources) i xs

  own_on : (i : ℕ) (x : Source) → filter (stands_in (Some i)) (on_conjuncts schema sources i x) ≡ on_conjuncts schema sources i x
  own_on i x = all_if (Some i) (Some i) (eq-eqb i i refl) (known_at schema sources i) x.on

  other_on : (p i : ℕ) → nat_eq p i ≡ false → (x : Source) → filter (stands_in (Some p)) (on_conjuncts schema sources i x) ≡ []
  other_on p i off x = none_if (Some p) (Some i) off (known_at schema sources i) x.on

  later_ons : (p i : ℕ) → p < i → (xs : List Source) → filter (stands_in (Some p)) (ons_from i xs) ≡ []
  later_ons p i low [] = refl
  later_ons p i low (x ∷ xs) =
      let off : nat_eq p i ≡ false = grind (arith, nat_tests) in
      let here = other_on p i off x in
      let rest = later_ons p (i + 1) (omega arith) xs in
      filter-append (stands_in (Some p)) (on_conjuncts schema sources i x) (ons_from (i + 1) xs) ∙ (λ k. here k ++ rest k)

  no_on : (i : ℕ) (xs : List Source) → filter (stands_in None) (ons_from i xs) ≡ []
  no_on i [] = refl
  no_on i (x ∷ xs) =
      let here = none_if None (Some i) refl (known_at schema sources i) x.on in
      let rest = no_on (i + 1) xs in
      filter-append (stands_in None) (on_conjuncts schema sources i x) (ons_from (i + 1) xs) ∙ (λ k. here k ++ rest k)

  -- among all of them stand those of each source's ON
  abbrev HasConditions : List Conjunct → ℕ → List Source → Type 0
  HasConditions all i [] = Unit {0}
  HasConditions all i (x ∷ xs) = (filter (stands_in (Some i)) all ≡ on_conjuncts schema sources i x) × HasConditions all (i + 1) xs

  conditions_from : (all front back : List Conjunct) (i : ℕ) (xs : List Source) → ((p : ℕ) → i ≤ p → filter (stands_in (Some p)) front ≡ []) → ((p : ℕ) → filter (stands_in (Some p)) back ≡ [])
      → all ≡ front ++ (ons_from i xs ++ back) → HasConditions all i xs
  conditions_from all front back i [] before after is = tt
  conditions_from all front back i (x ∷ xs) before after is =
      let own = on_conjuncts schema sources i x in
      let rest = ons_from (i + 1) xs in
      let none_front : filter (stands_in (Some i)) front ≡ [] = before i (omega arith) in
      let none_rest = later_ons i (i + 1) (omega arith) xs in
      let kept = own_on i x in
      let none_back = after i in
      let apart : filter (stands_in (Some i)) (front ++ ((own ++ rest) ++ back)) ≡ filter (stands_in (Some i)) front ++ ((filter (stands_in (Some i)) own ++ filter (stands_in (Some i)) rest) ++ filter (stands_in (Some i)) back) =
      filter-append (stands_in (Some i)) front ((own ++ rest) ++ back)
      ∙ ap (λ ys. filter (stands_in (Some i)) front ++ ys) (filter-append (stands_in (Some i)) (own ++ rest) back ∙ ap (λ ys. ys ++ filter (stands_in (Some i)) back) (filter-append (stands_in (Some i)) own rest)) in
      let regrouped : front ++ ((own ++ rest) ++ back) ≡ (front ++ own) ++ (rest ++ back) = ap (λ ys. front ++ ys) (append_assoc own rest back) ∙ sym (append_assoc front own (rest ++ back)) in (
        ap (filter (stands_in (Some i))) is ∙ apart ∙ (λ k. none_front k ++ ((kept k ++ none_rest k) ++ none_back k)) ∙ append-nil (own ++ []) ∙ append-nil own,
        conditions_from all (front ++ own) back (i + 1) xs
            (λ p high.
            let off : nat_eq p i ≡ false = grind (arith, nat_tests) in
            let gone = before p (omega arith) in
            let other = other_on p i off x in
            filter-append (stands_in (Some p)) front own ∙ (λ k. gone k ++ other k))
            after (is ∙ regrouped),
      )

  has_conditions : (filter : Option Test) → HasConditions (conjuncts schema sources filter) 0 sources
  has_conditions filter =
      conditions_from (conjuncts schema sources filter) [] (conjuncts_if (known_columns schema sources) None filter) 0 sources (λ p low. refl)
      (λ p. none_if (Some p) None refl (known_columns schema sources) filter) refl

  where_conditions : (test : Option Test) → filter (stands_in None) (conjuncts schema sources test) ≡ conjuncts_if (known_columns schema sources) None test
  where_conditions test =
      let none = no_on 0 sources in
      let own = all_if None None refl (known_columns schema sources) test in
      filter-append (stands_in None) (ons_from 0 sources) (conjuncts_if (known_columns schema sources) None test) ∙ (λ k. none k ++ own k)

-- ---- the table of a name

found_passes : {A : Type 0} (p : A → Bool) (xs : List A) (a : A) → slice_get xs (position_or_len p xs) ≡ Some a → p a ≡ true
found_passes p [] a h = absurd (cc h)
found_passes p (x ∷ xs) a h = of (found_passes p xs a) (p x) refl h
  where
    of : (slice_get xs (position_or_len p xs) ≡ Some a → p a ≡ true) → (b : Bool) → p x ≡ b → slice_get (x ∷ xs) (cond (not b) (1 + position_or_len p xs) 0) ≡ Some a → p a ≡ true
    of rest true e h = let same : x ≡ a = cc h in subst (λ y. p y ≡ true) same e
    of rest false e h = let next : 1 + position_or_len p xs ≡ suc (position_or_len p xs) = omega arith in rest (sym (ap (slice_get (x ∷ xs)) next) ∙ h)

position_map : {A B : Type 0} (p : B → Bool) (f : A → B) (xs : List A) → position_or_len p (map f xs) ≡ position_or_len (λ x. p (f x)) xs
position_map p f [] = refl
position_map p f (x ∷ xs) = ap (λ n. cond (not (p (f x))) (1 + n) 0) (position_map p f xs)

module _ (schema : List Declaration) where
  -- the first place of a name
  abbrev IsFirst : ℕ → Type 0
  IsFirst q = (decl : Declaration) × (slice_get schema q ≡ Some decl) × (position_or_len (is_named decl.name) schema ≡ q)

  first_of : (x : Source) → place_in schema x < length schema → IsFirst (place_in schema x)
  first_of x low =
      let one = one_table schema (place_in schema x) low in
      let named : one.0.name ≡ x.table.text = (bytes_eq-Decides one.0.name x.table.text).0 (found_passes (is_named x.table.text) schema one.0 one.1) in
      (one.0, one.1, ap (λ text. position_or_len (is_named text) schema) named)

  firsts_of : (xs : List Source) → AllByRecursion (λ x. place_in schema x < length schema) xs → AllByRecursion IsFirst (map (place_in schema) xs)
  firsts_of [] h = tt
  firsts_of (x ∷ xs) h = (first_of x h.0, firsts_of xs h.1)

  same_test : (x : Source) (q : ℕ) (f : IsFirst q) → is_named x.table.text f.0 ≡ nat_eq (place_in schema x) q
  same_test x q f =
      bool_iff (is_named x.table.text f.0) (nat_eq (place_in schema x) q)
      (λ e. eq-eqb (place_in schema x) q (sym (ap (λ text. position_or_len (is_named text) schema) ((bytes_eq-Decides f.0.name x.table.text).0 e)) ∙ f.2))
      (λ e. found_passes (is_named x.table.text) schema f.0 (ap (slice_get schema) (eqb-true (place_in schema x) q e) ∙ f.1))

  named_position : (x : Source) (places : List ℕ) → AllByRecursion IsFirst places
      → position_or_len (is_named x.table.text) (map (λ table. table.decl) (tables_at schema places)) ≡ position_or_len (nat_eq (place_in schema x)) places
  named_position x [] h = refl
  named_position x (q ∷ places) h =
      let test = same_test x q h.0 in
      let rest = named_position x places h.1 in
      ap (λ o. position_or_len (is_named x.table.text) (map (λ table. table.decl) (table_if q o ++ tables_at schema places))) h.0.1 ∙ (λ k. cond (not (test k)) (1 + rest k) 0)

-- ---- all combinations

module _ (schema : List Declaration) (select : Select) (db : Db) (none : from_breaches schema select.sources ≡ []) (declared : decls_of db ≡ decls_bound schema select.sources) where
  abbrev places : List ℕ
  places = table_places schema select.sources

  abbrev bound_source : Source → ℕ
  bound_source x = (query_source schema places x).table

  rows_found : (x : Source) → rows_named db x.table.text ≡ table_rows db (bound_source x)
  rows_found x =
      let firsts = once_all (IsFirst schema) nat_eq (map (place_in schema) select.sources) (firsts_of schema select.sources (places_below schema select.sources none)) in
      let at : position_or_len (λ table. is_named x.table.text table.decl) db ≡ bound_source x =
      sym (position_map (is_named x.table.text) (λ table. table.decl) db) ∙ ap (position_or_len (is_named x.table.text)) declared ∙ named_position schema x places firsts in
      ap rows_or_none (find_at (λ table. is_named x.table.text table.decl) db ∙ ap (slice_get db) at)

  width_found : (x : Source) → HasColumns schema select.sources x → length (source_columns schema x) ≡ table_width (decls_of db) (bound_source x)
  width_found x has =
      length-map (columns_or_none (find (is_named x.table.text) schema)) (known_column (alias_of x).text) ∙ sym (ap length has) ∙ ap (λ decls. table_width decls (bound_source x)) (sym declared)

  abbrev all : List Conjunct
  all = conjuncts schema select.sources select.filter

  entered_same : (i : ℕ) (x : Source) (l : Row) → filter (stands_in (Some i)) all ≡ on_conjuncts schema select.sources i x → HasColumns schema select.sources x → formed_if false x.on ≡ true
      → joined_with schema select.sources db i x l ≡ entered db (query_source schema places x) (conditions_in (Some i) (query schema select)) l
  entered_same i x l own has formed =
      let known = known_at schema select.sources i in
      let rows = rows_found x in
      let wide = width_found x has in
      let test : (λ row. meets_if known x.on (row ∷ [])) ≡ meets (conditions_in (Some i) (query schema select)) =
      same_function (λ row. meets_if known x.on (row ∷ [])) (meets (conditions_in (Some i) (query schema select)))
      (λ row. sym (ap (λ cs. meets (map (λ conjunct. conjunct.cond) cs) row) own ∙ if_meets known (Some i) x.on row formed)) in
      λ k. if x.left then or_padded (wide k) l (filter (test k) (map (λ r. l ++ r) (rows k))) else filter (test k) (map (λ r. l ++ r) (rows k))

  combined_from : (i : ℕ) (rows : List Row) (xs : List Source) → HasConditions schema select.sources all i xs → AllByRecursion (HasColumns schema select.sources) xs → list_all (λ source. formed_if false source.on) xs ≡ true
      → joined_from schema select.sources db i rows xs ≡ combinations (query schema select) db i rows (map (query_source schema places) xs)
  combined_from i rows [] own has formed = refl
  combined_from i rows (x ∷ xs) own has formed =
      let conds = conditions_in (Some i) (query schema select) in
      let step : joined_with schema select.sources db i x ≡ entered db (query_source schema places x) conds =
      same_function (joined_with schema select.sources db i x) (entered db (query_source schema places x) conds)
      (λ l. entered_same i x l own.0 has.0 (and_left (formed_if false x.on) (list_all (λ source. formed_if false source.on) xs) formed)) in
      ap (λ f. joined_from schema select.sources db (i + 1) (flat_map f rows) xs) step
      ∙ combined_from (i + 1) (flat_map (entered db (query_source schema places x) conds) rows) xs own.1 has.1 (and_right (formed_if false x.on) (list_all (λ source. formed_if false source.on) xs) formed)

  pub joined_same : list_all (λ source. formed_if false source.on) select.sources ≡ true → formed_if false select.filter ≡ true → joined_rows schema select db ≡ combined (query schema select) db
  joined_same ons formed =
      let known = known_columns schema select.sources in
      let rows = combined_from 0 ([] ∷ []) select.sources (has_conditions schema select.sources select.filter) (columns_bound schema select.sources none) ons in
      let test : (λ row. meets_if known select.filter (row ∷ [])) ≡ meets (conditions_in None (query schema select)) =
      same_function (λ row. meets_if known select.filter (row ∷ [])) (meets (conditions_in None (query schema select)))
      (λ row. sym (ap (λ cs. meets (map (λ conjunct. conjunct.cond) cs) row) (where_conditions schema select.sources select.filter) ∙ if_meets known None select.filter row formed)) in
      λ k. filter (test k) (rows k)
