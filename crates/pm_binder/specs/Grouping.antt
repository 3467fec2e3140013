-- SELECT, GROUP BY, HAVING and ORDER BY with their names resolved, and the rules of grouping
use Rattle.std.specs.Prelude.{ℕ, ◌==◌, Bool, true, false, not, nat_eq, nat_lt, ◌&&◌, ◌||◌, is_some, List, [], ◌∷◌, ◌++◌, map, length, Option, None, Some, if◌then◌else◌}
use Rattle.std.specs.List.{flat_map, list_any, count_by, find, range_with_len}
use Rattle.std.specs.Str.{bytes_eq}
use Rattle.pm_grammar.specs.declared.names.PlacedName.{PlacedName}
use Rattle.pm_syntax.specs.declared.tree.ColumnName.{ColumnName}
use Rattle.pm_syntax.specs.declared.tree.Expr.{Expr}
use Rattle.pm_syntax.specs.declared.tree.Expr.TheVariants as expr
use Rattle.pm_syntax.specs.declared.tree.Item.{Item}
use Rattle.pm_syntax.specs.declared.tree.Items.{Items}
use Rattle.pm_syntax.specs.declared.tree.Items.TheVariants as items
use Rattle.pm_syntax.specs.declared.tree.OrderItem.{OrderItem}
use Rattle.pm_syntax.specs.declared.tree.Test.{Test}
use Rattle.pm_syntax.specs.declared.tree.Select.{Select}
use Rattle.pm_values.specs.Keys.{once}
use Rattle.pm_plan.specs.declared.plan.Aggregate.{Aggregate}
use Rattle.pm_query.specs.Bound.{same_aggregate}
use Rattle.pm_canonical.specs.Canon.{canon_expr}
use Rattle.pm_names.specs.declared.fault.BindBad.{BindBad}
use Rattle.pm_names.specs.declared.fault.BindBad.TheVariants as bad
use Rattle.pm_names.specs.declared.terms.KnownColumn.{KnownColumn}
use Rattle.pm_names.specs.declared.terms.Term.{Term}
use Rattle.pm_names.specs.declared.terms.Term.TheVariants as term
use Rattle.pm_names.specs.declared.terms.PlacedTerm.{PlacedTerm}
use Rattle.pm_binder.specs.declared.terms.OrderTerm.{OrderTerm}
use Rattle.pm_binder.specs.declared.terms.Terms.{Terms}
use Rattle.pm_names.specs.declared.terms.RowShape.{RowShape}
use Rattle.pm_names.specs.Breaches.{bad_if}
use Rattle.pm_names.specs.Names.{column_of, expr_at, term_of, placed_term, expr_breaches}
use Rattle.pm_names.specs.Conditions.{exprs_of}

-- ---- SELECT

abbrev pub item_list : Items → List Item
item_list (items.All at) = []
item_list (items.List list) = list

abbrev pub star_of : Items → Option ℕ
star_of (items.All at) = Some at
star_of (items.List list) = None

-- `*` stands for all columns
abbrev pub all_terms : ℕ → ℕ → List PlacedTerm
all_terms columns at = map (λ column. record { term = term.Column column; at = at }) (range_with_len 0 columns)

abbrev pub list_terms : List KnownColumn → List Item → List PlacedTerm
list_terms known list = map (λ item. placed_term known item.expr) list

abbrev pub item_terms : List KnownColumn → Items → List PlacedTerm
item_terms known (items.All at) = all_terms (length known) at
item_terms known (items.List list) = list_terms known list

abbrev pub item_breaches : List KnownColumn → List Item → List BindBad
item_breaches known list = flat_map (λ item. expr_breaches known item.expr) list

-- an aggregate's name is its canonical text
abbrev pub expr_head : Expr → List ℕ
expr_head (expr.Column name) = name.name.text
expr_head (expr.CountAll at) = canon_expr (expr.CountAll at)
expr_head (expr.Call f name at) = canon_expr (expr.Call f name at)

abbrev pub head_or : List ℕ → Option PlacedName → List ℕ
head_or text None = text
head_or text (Some given) = given.text

abbrev pub item_head : Item → List ℕ
item_head item = head_or (expr_head item.expr) item.given

abbrev pub heads_of : List KnownColumn → Items → List (List ℕ)
heads_of known (items.All at) = map (λ column. column.name) known
heads_of known (items.List list) = map item_head list

-- ---- ORDER BY

abbrev pub is_given : List ℕ → Option PlacedName → Bool
is_given text None = false
is_given text (Some given) = bytes_eq given.text text

-- an expression that is one name without alias may be the AS name of a selected one
abbrev pub names_item : Expr → Item → Bool
names_item (expr.Column name) item = not (is_some name.alias) && is_given name.name.text item.given
names_item (expr.CountAll at) item = false
names_item (expr.Call f name at) item = false

abbrev pub item_or : Expr → Option Item → Expr
item_or e None = e
item_or e (Some item) = item.expr

-- what an entry of ORDER BY stands for: the selected expression whose AS name it is, before any column
abbrev pub ordered_by : List Item → Expr → Expr
ordered_by list e = item_or e (find (names_item e) list)

abbrev pub order_term : List KnownColumn → List Item → OrderItem → OrderTerm
order_term known list key = record { term = term_of known (ordered_by list key.expr); at = expr_at key.expr; descending = key.descending }

-- it is the AS name of two, or no AS name and has a breach as an expression
abbrev pub order_breaches : List KnownColumn → List Item → OrderItem → List BindBad
order_breaches known list key =
    let named = count_by (names_item key.expr) list in
    if named == 0 then expr_breaches known key.expr else bad_if (nat_lt 1 named) (bad.TwoColumns (expr_at key.expr))

abbrev pub orders_breaches : List KnownColumn → List Item → List OrderItem → List BindBad
orders_breaches known list keys = flat_map (order_breaches known list) keys

-- ---- grouping

abbrev pub is_call : Term → Bool
is_call (term.Column column) = false
is_call (term.Call call) = true

abbrev pub having_terms : List KnownColumn → Option Test → List PlacedTerm
having_terms known None = []
having_terms known (Some test) = map (placed_term known) (exprs_of test)

abbrev pub key_columns : List KnownColumn → List ColumnName → List ℕ
key_columns known groups = once nat_eq (map (column_of known) groups)

-- GROUP BY, HAVING, or an aggregate in SELECT or ORDER BY
abbrev pub is_grouped : Select → List PlacedTerm → List OrderTerm → Bool
is_grouped select items orders =
    not (length select.groups == 0) || (is_some select.having || (list_any (λ placed. is_call placed.term) items || list_any (λ order. is_call order.term) orders))

abbrev pub terms_of : List KnownColumn → Select → Terms
terms_of known select =
    let items = item_terms known select.items in
    let orders = map (order_term known (item_list select.items)) select.orders in
    record {
      distinct = select.distinct;
      grouped = is_grouped select items orders;
      star = star_of select.items;
      items = items;
      keys = key_columns known select.groups;
      havings = having_terms known select.having;
      orders = orders;
    }

-- a column that is none of the keys
abbrev pub is_outside : List ℕ → Term → Bool
is_outside keys (term.Column column) = not (list_any (nat_eq column) keys)
is_outside keys (term.Call call) = false

abbrev pub ungrouped : List ℕ → PlacedTerm → List BindBad
ungrouped keys placed = bad_if (is_outside keys placed.term) (bad.NotGrouped placed.at)

abbrev pub same_term : Term → Term → Bool
same_term (term.Column a) (term.Column b) = nat_eq a b
same_term (term.Call a) (term.Call b) = same_aggregate a b
same_term (term.Column a) (term.Call b) = false
same_term (term.Call a) (term.Column b) = false

abbrev pub is_selected : List PlacedTerm → Term → Bool
is_selected items t = list_any (λ placed. same_term t placed.term) items

-- an entry of ORDER BY: it is not grouped, or with DISTINCT not selected
abbrev pub order_faults : Terms → OrderTerm → List BindBad
order_faults terms order =
    bad_if (terms.grouped && is_outside terms.keys order.term) (bad.NotGrouped order.at)
    ++ bad_if (terms.distinct && not (is_selected terms.items order.term)) (bad.NotSelected order.at)

-- `*` cannot be grouped
abbrev pub item_faults : Terms → Option ℕ → List BindBad
item_faults terms (Some at) = bad.NotGrouped at ∷ []
item_faults terms None = flat_map (ungrouped terms.keys) terms.items

abbrev pub group_faults : Terms → List BindBad
group_faults terms = if terms.grouped then item_faults terms terms.star ++ flat_map (ungrouped terms.keys) terms.havings else []

abbrev pub grouping_breaches : Terms → List BindBad
grouping_breaches terms = group_faults terms ++ flat_map (order_faults terms) terms.orders

-- ---- the row that is selected from

abbrev pub calls_in : Term → List Aggregate
calls_in (term.Column column) = []
calls_in (term.Call call) = call ∷ []

abbrev pub placed_calls : List PlacedTerm → List Aggregate
placed_calls terms = flat_map (λ placed. calls_in placed.term) terms

abbrev pub ordered_calls : List OrderTerm → List Aggregate
ordered_calls orders = flat_map (λ order. calls_in order.term) orders

-- the different aggregates of SELECT, HAVING and ORDER BY, in the order of the text
abbrev pub calls_of : Terms → List Aggregate
calls_of terms = once same_aggregate (placed_calls terms.items ++ placed_calls terms.havings ++ ordered_calls terms.orders)

abbrev pub shape_of : Terms → RowShape
shape_of terms = record { grouped = terms.grouped; keys = terms.keys; calls = calls_of terms }
