-- the rows that a statement asks for, over its own tree: names are looked up among the columns of its sources, and conditions are whole tests
use Rattle.std.specs.Prelude.{ℕ, ◌+◌, Bool, true, false, if◌then◌else◌, List, [], ◌∷◌, ◌++◌, map, filter, length, drop, Option, None, Some}
use Rattle.std.specs.List.{flat_map, find, position_or_len}
use Rattle.std.specs.Str.{bytes_eq}
use Rattle.pm_syntax.specs.declared.tree.ColumnName.{ColumnName}
use Rattle.pm_syntax.specs.declared.tree.Source.{Source}
use Rattle.pm_syntax.specs.declared.tree.Literal.{Literal}
use Rattle.pm_syntax.specs.declared.tree.Literal.TheVariants as literal
use Rattle.pm_syntax.specs.declared.tree.Atom.{Atom}
use Rattle.pm_syntax.specs.declared.tree.Atom.TheVariants as atom
use Rattle.pm_syntax.specs.declared.tree.Test.{Test, fold-Test}
use Rattle.pm_syntax.specs.declared.tree.Test.TheOpen.{Test-F}
use Rattle.pm_syntax.specs.declared.tree.Test.TheOpen as layer
use Rattle.pm_syntax.specs.declared.tree.Select.{Select}
use Rattle.pm_values.specs.declared.value.Value.{Value}
use Rattle.pm_values.specs.declared.value.Value.TheVariants as value
use Rattle.pm_values.specs.declared.condition.Comparison.{Comparison}
use Rattle.pm_values.specs.declared.condition.Comparison.TheVariants as comparison
use Rattle.pm_values.specs.declared.condition.Truth.{Truth}
use Rattle.pm_values.specs.Condition.{truth_of, negated, both, all_of, any_of, is_yes, compared}
use Rattle.pm_values.specs.Equality.{is_null, same_values}
use Rattle.pm_values.specs.Keys.{once, different_keys}
use Rattle.pm_values.specs.Row.{Row, cell}
use Rattle.pm_values.specs.Table.{Declaration}
use Rattle.pm_plan.specs.declared.plan.SortKey.{SortKey}
use Rattle.pm_plan.specs.Grouping.{aggregate_of}
use Rattle.pm_plan.specs.Joins.{or_padded}
use Rattle.pm_plan.specs.Kinds.{scale_of}
use Rattle.pm_plan.specs.Rows.{Db, rows_or_none}
use Rattle.pm_plan.specs.Sorting.{sorted}
use Rattle.pm_names.specs.declared.terms.KnownColumn.{KnownColumn}
use Rattle.pm_names.specs.declared.terms.Term.{Term}
use Rattle.pm_names.specs.declared.terms.Term.TheVariants as term
use Rattle.pm_binder.specs.declared.terms.OrderTerm.{OrderTerm}
use Rattle.pm_binder.specs.declared.terms.Terms.{Terms}
use Rattle.pm_names.specs.Sources.{source_columns, known_columns, known_at}
use Rattle.pm_names.specs.Names.{column_of, term_of, term_kind}
use Rattle.pm_binder.specs.Grouping.{same_term}
use Rattle.pm_binder.specs.Bound.{resolved}

-- ---- expressions, on a group of rows; a row alone is a group of one

abbrev pub first_row : List Row → Row
first_row [] = []
first_row (row ∷ rows) = row

-- a column has the value of the group's first row, and an aggregate is taken over all
abbrev pub term_value : List Row → Term → Value
term_value rows (term.Column column) = cell (first_row rows) column
term_value rows (term.Call call) = aggregate_of rows call

abbrev pub literal_value : Literal → Value
literal_value literal.Null = value.Null
literal_value (literal.Number n decimals) = value.Int n
literal_value (literal.Text text) = value.Text text

abbrev pub literal_scale : Literal → ℕ
literal_scale literal.Null = 0
literal_scale (literal.Number n decimals) = decimals
literal_scale (literal.Text text) = 0

abbrev pub atom_value : List KnownColumn → List Row → Atom → Value
atom_value known rows (atom.Expr e) = term_value rows (term_of known e)
atom_value known rows (atom.Literal l) = literal_value l

abbrev pub atom_scale : List KnownColumn → Atom → ℕ
atom_scale known (atom.Expr e) = scale_of (term_kind known (term_of known e))
atom_scale known (atom.Literal l) = literal_scale l

-- ---- conditions

abbrev pub negated_when : Bool → Truth → Truth
negated_when true t = negated t
negated_when false t = t

abbrev pub atoms_compared : List KnownColumn → List Row → Comparison → Atom → Atom → Truth
atoms_compared known rows how left right = compared how (atom_scale known left) (atom_scale known right) (atom_value known rows left) (atom_value known rows right)

-- IN is true where one of the literals is equal, and BETWEEN where both ends are kept
abbrev pub test_layer : List KnownColumn → List Row → Test-F Truth → Truth
test_layer known rows (layer.Any members) = any_of members
test_layer known rows (layer.All members) = all_of members
test_layer known rows (layer.Not part) = negated part
test_layer known rows (layer.Compare how left right at) = atoms_compared known rows how left right
test_layer known rows (layer.IsNull of not) = negated_when not (truth_of (is_null (atom_value known rows of)))
test_layer known rows (layer.OneOf of list not at) = negated_when not (any_of (map (λ l. atoms_compared known rows comparison.Equal of (atom.Literal l)) list))
test_layer known rows (layer.Between of low high not at) =
    negated_when not (both (atoms_compared known rows comparison.AtLeast of low) (atoms_compared known rows comparison.AtMost of high))

abbrev pub test_truth : List KnownColumn → List Row → Test → Truth
test_truth known rows = fold-Test Truth (test_layer known rows)

-- the condition is true on the group, or there is none
abbrev pub meets_if : List KnownColumn → Option Test → List Row → Bool
meets_if known None rows = true
meets_if known (Some test) rows = is_yes (test_truth known rows test)

-- ---- FROM and WHERE

-- the rows of the table of this name
abbrev pub rows_named : Db → List ℕ → List Row
rows_named db text = rows_or_none (find (λ table. bytes_eq table.decl.name text) db)

-- a row so far, followed by each row of the source on which its ON is true; after LEFT JOIN by NULLs, once, where there is none
abbrev pub joined_with : List Declaration → List Source → Db → ℕ → Source → Row → List Row
joined_with schema sources db i source l =
    let found = filter (λ row. meets_if (known_at schema sources i) source.on (row ∷ [])) (map (λ r. l ++ r) (rows_named db source.table.text)) in
    if source.left then or_padded (length (source_columns schema source)) l found else found

-- source by source; the first of these has the position i
abbrev pub joined_from : List Declaration → List Source → Db → ℕ → List Row → List Source → List Row
joined_from schema sources db i rows [] = rows
joined_from schema sources db i rows (source ∷ rest) = joined_from schema sources db (i + 1) (flat_map (joined_with schema sources db i source) rows) rest

abbrev pub joined_rows : List Declaration → Select → Db → List Row
joined_rows schema select db =
    filter (λ row. meets_if (known_columns schema select.sources) select.filter (row ∷ [])) (joined_from schema select.sources db 0 ([] ∷ []) select.sources)

-- ---- GROUP BY and HAVING

abbrev pub key_values : List KnownColumn → List ColumnName → Row → Row
key_values known groups row = map (λ name. cell row (column_of known name)) groups

-- the rows that agree in these, by first appearance; all rows where there are none
abbrev pub groups_of : List KnownColumn → List ColumnName → List Row → List (List Row)
groups_of known [] rows = rows ∷ []
groups_of known (name ∷ groups) rows =
    map (λ key. filter (λ row. same_values key (key_values known (name ∷ groups) row)) rows) (different_keys (map (key_values known (name ∷ groups)) rows))

-- what is selected from: the groups that HAVING keeps, or each row alone
abbrev pub selected_from : List KnownColumn → Select → Bool → List Row → List (List Row)
selected_from known select true rows = filter (meets_if known select.having) (groups_of known select.groups rows)
selected_from known select false rows = map (λ row. row ∷ []) rows

-- ---- SELECT and ORDER BY

abbrev pub item_values : Terms → List Row → Row
item_values terms rows = map (λ placed. term_value rows placed.term) terms.items

abbrev pub order_values : Terms → List Row → Row
order_values terms rows = map (λ order. term_value rows order.term) terms.orders

-- the i-th and further entries of ORDER BY, as the columns from i on
abbrev pub keys_from : ℕ → List OrderTerm → List SortKey
keys_from i [] = []
keys_from i (order ∷ orders) = record { column = i; descending = order.descending } ∷ keys_from (i + 1) orders

-- an entry of ORDER BY beside DISTINCT is a selected expression
abbrev pub selected_key : Terms → OrderTerm → SortKey
selected_key terms order = record { column = position_or_len (λ placed. same_term order.term placed.term) terms.items; descending = order.descending }

-- without DISTINCT sorted by the values of ORDER BY; with DISTINCT each different row once, and then sorted
abbrev pub arranged : Terms → List (List Row) → List Row
arranged terms groups =
    if terms.distinct
    then sorted (map (selected_key terms) terms.orders) (once same_values (map (item_values terms) groups))
    else map (drop (length terms.orders)) (sorted (keys_from 0 terms.orders) (map (λ rows. order_values terms rows ++ item_values terms rows) groups))

-- the rows that the statement asks for, of a database of tables of the schema
abbrev pub select_rows : Select → List Declaration → Db → List Row
select_rows select schema db =
    let terms = resolved schema select in
    arranged terms (selected_from (known_columns schema select.sources) select terms.grouped (joined_rows schema select db))
