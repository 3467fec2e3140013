-- the rows of the built tree are the query's: groups, orders and DISTINCT above the joined sources
use Rattle.std.proofs.Common.{◌≡◌, ℕ, suc, ◌+◌, true, false, List, [], ◌∷◌, ◌++◌, length, map, refl, sym, ap, ◌∙◌, arith, length-append}
use Rattle.std.specs.Prelude.{◌≢◌, if◌then◌else◌}
use Rattle.std.specs.List.{filter, All}
use Rattle.std.proofs.lemmas.List.{append-nil, get_or_at, append_assoc, length-map}
use Rattle.std.proofs.lemmas.List.Elements.{All-map, All-head, All-tail, All-weaker}
use Rattle.pm_values.specs.declared.value.Value.TheVariants as value
use Rattle.pm_values.specs.declared.table.ColumnDecl.{ColumnDecl}
use Rattle.pm_values.specs.Table.{FitsColumns, IsRelation}
use Rattle.pm_values.specs.Row.{Row, cell, pick}
use Rattle.pm_values.specs.Equality.{same_values}
use Rattle.pm_values.specs.Keys.{once}
use Rattle.pm_plan.specs.declared.plan.SortKey.{SortKey}
use Rattle.pm_plan.specs.Rows.{Db, decls_of}
use Rattle.pm_plan.specs.Sorting.{inserted, sorted}
use Rattle.pm_plan.specs.Grouping.{grouped}
use Rattle.pm_plan.specs.Tree.{Project, Group, Tree, Over}
use Rattle.pm_plan.specs.Preorder.{tree_of}
use Rattle.pm_plan.proofs.Preorders.{tree_of-nodes_of}
use Rattle.pm_plan.specs.Outputs.{output, keeps_if}
use Rattle.pm_work.specs.First.{Sizes}
use Rattle.pm_query.specs.declared.query.Query.{Query}
use Rattle.pm_query.specs.declared.query.Choice.{Choice}
use Rattle.pm_query.specs.Answer.{combined, rows_of, selected_orders, answer}
use Rattle.pm_query.specs.Build.{decls_in, filtered, join_tree, sort_if, group_if, numbers_from, tree_for, plan_for}
use Rattle.pm_query.specs.Bound.{IsBound}
use Rattle.pm_answers.specs.Databases.{IsWide, IsDatabaseOf}
use Rattle.pm_answers.proofs.Joins.{HasLength, output-filtered}
use Rattle.pm_answers.proofs.Combined.{join_tree-rows}

group_if-rows : (query : Query) (db : Db) (tree : Tree) → output db tree ≡ combined query db → output db (group_if query tree) ≡ rows_of query db
group_if-rows query db tree same =
    elim query.grouped as (λ g. output db (if g then filtered query.having (Over (Group query.keys query.aggregates) tree) else tree)
    ≡ (if g then filter (keeps_if query.having) (grouped query.keys query.aggregates (combined query db)) else combined query db)) [
      | true ↦ output-filtered db query.having (Over (Group query.keys query.aggregates) tree) ∙ ap (λ rows. filter (keeps_if query.having) (grouped query.keys query.aggregates rows)) same
      | false ↦ same
    ]

sorted-none : (rows : List Row) → sorted [] rows ≡ rows
sorted-none [] = refl
sorted-none (row ∷ rows) = ap (inserted [] row) (sorted-none rows) ∙ first row rows
  where
    first : (row : Row) (rows : List Row) → inserted [] row rows ≡ row ∷ rows
    first row [] = refl
    first row (next ∷ rows) = refl

sort_if-rows : (keys : List SortKey) (db : Db) (tree : Tree) → output db (sort_if keys tree) ≡ sorted keys (output db tree)
sort_if-rows [] db tree = sym (sorted-none (output db tree))
sort_if-rows (key ∷ keys) db tree = refl

-- the columns of a row from a position on, one after the other, are what stands there
pick-numbers : (columns : List ℕ) (row before : Row) → length row ≡ length columns → map (λ k. cell (before ++ row) k) (numbers_from (length before) columns) ≡ row
pick-numbers [] [] before long = refl
pick-numbers [] (v ∷ row) before long = absurd (omega (arith, long))
pick-numbers (column ∷ columns) [] before long = absurd (omega (arith, long))
pick-numbers (column ∷ columns) (v ∷ row) before long =
    let here : cell (before ++ v ∷ row) (length before) ≡ v = get_or_at before v row value.Null (length before) refl in
    let position : length (before ++ v ∷ []) ≡ length before + 1 = length-append before (v ∷ []) ∙ omega arith in
    let there : map (λ k. cell (before ++ v ∷ row) k) (numbers_from (length before + 1) columns) ≡ row =
    ap (λ n. map (λ k. cell (before ++ v ∷ row) k) (numbers_from n columns)) (sym position)
    ∙ ap (λ x. map (λ k. cell x k) (numbers_from (length (before ++ v ∷ [])) columns)) (sym (append_assoc before (v ∷ []) row))
    ∙ pick-numbers columns row (before ++ v ∷ []) (omega (arith, long)) in
    ap (λ x. x ∷ map (λ k. cell (before ++ v ∷ row) k) (numbers_from (length before + 1) columns)) here ∙ ap (λ s. v ∷ s) there

map-same : (f : Row → Row) (Q : Row → Type 0) (same : (row : Row) → Q row → f row ≡ row) (rows : List Row) → All Q rows → map f rows ≡ rows
map-same f Q same [] all = refl
map-same f Q same (row ∷ rows) all =
    ap (λ x. x ∷ map f rows) (same row (All-head Q row rows all)) ∙ ap (λ s. row ∷ s) (map-same f Q same rows (All-tail Q row rows all))

map-append_nil : (rows : List Row) → map (λ row. row ++ []) rows ≡ rows
map-append_nil [] = refl
map-append_nil (row ∷ rows) = ap (λ x. x ∷ map (λ row. row ++ []) rows) (append-nil row) ∙ ap (λ s. row ∷ s) (map-append_nil rows)

-- a group by all columns that computes nothing keeps each different row once
distinct-rows : (columns : List ℕ) (rows : List Row) → columns ≢ [] → All (HasLength (length columns)) rows → grouped (numbers_from 0 columns) [] rows ≡ once same_values rows
distinct-rows [] rows some long = absurd (some refl)
distinct-rows (column ∷ columns) rows some long =
    map-append_nil (once same_values (map (pick (numbers_from 0 (column ∷ columns))) rows))
    ∙ ap (once same_values) (map-same (pick (numbers_from 0 (column ∷ columns))) (HasLength (length (column ∷ columns))) (λ row h. pick-numbers (column ∷ columns) row [] h) rows long)

picked_long : (columns : List ℕ) (rows : List Row) → All (HasLength (length columns)) (map (pick columns) rows)
picked_long columns rows = All-map (HasLength (length columns)) (pick columns) rows (λ k d l. length-map columns _)

-- the rows that the built tree hands out are those that the query asks for, however its sources are joined
pub built-rows : (query : Query) (sizes : Sizes) (c : Choice) (db : Db) → IsBound query → IsDatabaseOf query db → output db (tree_for query sizes c) ≡ answer query db
built-rows query sizes c db bound of =
    let joined : Tree = join_tree c (decls_in query) sizes query.conjuncts query.sources in
    let tree : Tree = group_if query joined in
    let same : output db tree ≡ rows_of query db = group_if-rows query db joined (join_tree-rows query db bound of c sizes) in
    elim query.distinct as (λ d. output db (if d then sort_if (selected_orders query) (Over (Group (numbers_from 0 query.outputs) []) (Over (Project query.outputs) tree)) else Over (Project query.outputs) (sort_if query.orders tree))
    ≡ (if d then sorted (selected_orders query) (once same_values (map (pick query.outputs) (rows_of query db))) else map (pick query.outputs) (sorted query.orders (rows_of query db)))) [
      | true ↦
          sort_if-rows (selected_orders query) db (Over (Group (numbers_from 0 query.outputs) []) (Over (Project query.outputs) tree))
          ∙ ap (sorted (selected_orders query)) (distinct-rows query.outputs (map (pick query.outputs) (output db tree)) bound.some (picked_long query.outputs (output db tree)))
          ∙ ap (λ rows. sorted (selected_orders query) (once same_values (map (pick query.outputs) rows))) same
      | false ↦
          ap (map (pick query.outputs)) (sort_if-rows query.orders db tree ∙ ap (sorted query.orders) same)
    ]

pub plan-rows : (query : Query) (sizes : Sizes) (c : Choice) (db : Db) → IsBound query → IsDatabaseOf query db → output db (tree_of (plan_for query sizes c).nodes) ≡ answer query db
plan-rows query sizes c db bound of = ap (output db) (tree_of-nodes_of (tree_for query sizes c)) ∙ built-rows query sizes c db bound of

pub same-rows : (query : Query) (sizes : Sizes) (a b : Choice) (db : Db) → IsBound query → IsDatabaseOf query db → output db (tree_for query sizes a) ≡ output db (tree_for query sizes b)
same-rows query sizes a b db bound of = built-rows query sizes a db bound of ∙ sym (built-rows query sizes b db bound of)

-- ---- tables that are what their declarations say

columns-wide : (columns : List ColumnDecl) (row : Row) → FitsColumns columns row → length row ≡ length columns
columns-wide [] [] fit = refl
columns-wide [] (v ∷ row) fit = absurd fit
columns-wide (column ∷ columns) [] fit = absurd fit
columns-wide (column ∷ columns) (v ∷ row) fit = ap suc (columns-wide columns row fit.1)

pub relations-wide : (query : Query) (db : Db) → decls_of db ≡ decls_in query → All IsRelation db → IsDatabaseOf query db
relations-wide query db declared tables =
    record {
      declared = declared;
      wide = All-weaker IsRelation IsWide (λ t r. All-weaker (FitsColumns t.decl.columns) (λ row. length row ≡ length t.decl.columns) (columns-wide t.decl.columns) t.rows r.fit) db tables;
    }
