-- The rows that a statement asks for are those that its query asks for.
use Rattle.std.proofs.Common.{◌≡◌, ℕ, Bool, true, false, if◌then◌else◌, List, map, filter, Option, None, Some, Ok, refl, ap, sym, ◌∙◌}
use Rattle.std.specs.List.{AllByRecursion}
use Rattle.pm_syntax.specs.declared.tree.Test.{Test}
use Rattle.pm_syntax.specs.declared.tree.Select.{Select}
use Rattle.pm_values.specs.Condition.{is_yes}
use Rattle.pm_values.specs.Equality.{same_values}
use Rattle.pm_values.specs.Keys.{once}
use Rattle.pm_values.specs.Row.{Row, pick}
use Rattle.pm_values.specs.Table.{Declaration}
use Rattle.pm_plan.specs.declared.plan.Aggregate.{Aggregate}
use Rattle.pm_plan.specs.Grouping.{grouped}
use Rattle.pm_plan.specs.Outputs.{keeps_if}
use Rattle.pm_plan.specs.Rows.{Db, decls_of}
use Rattle.pm_plan.specs.Sorting.{sorted}
use Rattle.pm_query.specs.declared.query.Query.{Query}
use Rattle.pm_query.specs.Answer.{combined, selected_orders, answer}
use Rattle.pm_query.specs.Build.{decls_in}
use Rattle.pm_names.specs.declared.terms.KnownColumn.{KnownColumn}
use Rattle.pm_names.specs.Sources.{known_columns}
use Rattle.pm_names.specs.Names.{term_of}
use Rattle.pm_names.specs.Conditions.{exprs_of}
use Rattle.pm_binder.specs.declared.terms.Terms.{Terms}
use Rattle.pm_binder.specs.Grouping.{key_columns, terms_of, calls_of}
use Rattle.pm_binder.specs.Bound.{having_of, query, bound}
use Rattle.pm_binder.specs.Laws.{formed_if, IsFormed, AsksForRowsOf}
use Rattle.pm_binder.specs.Meaning.{meets_if, selected_from, arranged, select_rows}
use Rattle.pm_binder.proofs.ArrangedRows.{arranged_same}
use Rattle.pm_binder.proofs.BoundQueries.{IsKept, kept, text_kept, items_stand, orders_stand, having_there}
use Rattle.pm_binder.proofs.GroupedRows.{is_there}
use Rattle.pm_binder.proofs.GroupedSelections.{Selection, Selections, selected_alone, alone_groups, alone_rows, grouped_selections}
use Rattle.pm_binder.proofs.Images.{same_function, filter_map}
use Rattle.pm_binder.proofs.JoinedRows.{joined_same}
use Rattle.pm_binder.proofs.SelectedRows.{shape_with, there_exprs}
use Rattle.pm_binder.proofs.TestTruths.{truth_same}

module _ (known : List KnownColumn) (keys : List ℕ) (calls : List Aggregate) where
  -- HAVING is the same of a group and of the row that stands for it
  having_same : (having : Option Test) → formed_if true having ≡ true → ((test : Test) → having ≡ Some test → AllByRecursion (λ e. is_there known keys calls (term_of known e) ≡ true) (exprs_of test))
      → (s : Selection known true keys calls) → meets_if known having s.group ≡ keeps_if (having_of known (shape_with true keys calls) having) s.row
  having_same None formed there s = refl
  having_same (Some test) formed there s =
      ap is_yes (truth_same true known (shape_with true keys calls) s.group s.row (λ e. is_there known keys calls (term_of known e) ≡ true) (λ e h any. s.agree (term_of known e) h) test (there test refl) formed)

module _ (known : List KnownColumn) (select : Select) (calls : List Aggregate) (formed : formed_if true select.having ≡ true)
    (there : (test : Test) → select.having ≡ Some test → AllByRecursion (λ e. is_there known (key_columns known select.groups) calls (term_of known e) ≡ true) (exprs_of test)) (rows : List Row) where
  abbrev keys : List ℕ
  keys = key_columns known select.groups

  abbrev having : Bool → Row → Bool
  having g row = keeps_if (having_of known (shape_with g keys calls) select.having) row

  selections_of : (g : Bool) → Selections known g keys calls (selected_from known select g rows) (if g then filter (having g) (grouped keys calls rows) else rows)
  selections_of false = record { all = selected_alone known keys calls rows; groups_are = alone_groups known keys calls rows; rows_are = alone_rows known keys calls rows }
  selections_of true =
      let found = grouped_selections known select.groups calls rows in
      let test : (λ (s : Selection known true keys calls). meets_if known select.having s.group) ≡ (λ s. having true s.row) =
      same_function (λ (s : Selection known true keys calls). meets_if known select.having s.group) (λ s. having true s.row) (having_same known keys calls select.having formed there) in
      record {
        all = filter (λ s. meets_if known select.having s.group) found.all;
        groups_are = sym (filter_map (meets_if known select.having) (λ (s : Selection known true keys calls). s.group) found.all) ∙ ap (filter (meets_if known select.having)) found.groups_are;
        rows_are =
            ap (λ p. map (λ (s : Selection known true keys calls). s.row) (filter p found.all)) test
            ∙ sym (filter_map (having true) (λ (s : Selection known true keys calls). s.row) found.all) ∙ ap (filter (having true)) found.rows_are;
      }

pub query_rows : (select : Select) (schema : List Declaration) (db : Db) → IsFormed select → IsKept select schema (query schema select) → decls_of db ≡ decls_in (query schema select)
    → select_rows select schema db ≡ answer (query schema select) db
query_rows select schema db formed keeps declared =
    let known = known_columns schema select.sources in
    let t = text_kept schema select keeps.text in
    let terms : Terms = terms_of known select in
    let calls = calls_of terms in
    let found = query schema select in
    let joined = joined_same schema select db keeps.from declared formed.ons formed.filter in
    let items = items_stand known select t.items t.having t.orders keeps.grouping formed.having terms.grouped refl in
    let orders = orders_stand known select t.items t.having t.orders keeps.grouping formed.having terms.grouped refl in
    let selected =
    selections_of known select calls formed.having
    (λ test is. there_exprs known terms.keys calls (exprs_of test) (having_there known select t.items t.having t.orders keeps.grouping formed.having test is)) (combined found db) terms.grouped in
    ap (λ rows. arranged terms (selected_from known select terms.grouped rows)) joined
    ∙ ap (arranged terms) (sym selected.groups_are)
    ∙ arranged_same known terms.grouped terms.keys calls terms items orders selected.all
    ∙ ap (λ rows. if terms.distinct then sorted (selected_orders found) (once same_values (map (pick found.outputs) rows)) else map (pick found.outputs) (sorted found.orders rows)) selected.rows_are

pub rows_are_answers : (select : Select) (schema : List Declaration) (found : Query) → IsFormed select → bound select schema ≡ Ok found → AsksForRowsOf select schema found
rows_are_answers select schema found formed is db declared =
    let k = kept select schema found is in
    query_rows select schema db formed (record { from = k.from; text = k.text; grouping = k.grouping; joins = k.joins; is = refl }) (declared ∙ ap decls_in k.is) ∙ ap (λ q. answer q db) (sym k.is)
