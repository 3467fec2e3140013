-- The columns of a grouped row are few.
use Rattle.std.proofs.Common.{◌≤◌, ◌<◌, ◌+◌, ◌*◌, ◌^◌, ℕ, zero, suc, List, [], ◌∷◌, ◌++◌, length, map, Option, None, Some, arith}
use Rattle.std.specs.List.{AllByRecursion, range_with_len}
use Rattle.pm_syntax.specs.declared.tree.ColumnName.{ColumnName}
use Rattle.pm_syntax.specs.declared.tree.Func.TheVariants as func
use Rattle.pm_syntax.specs.declared.tree.Expr.{Expr}
use Rattle.pm_syntax.specs.declared.tree.Expr.TheVariants as expr
use Rattle.pm_syntax.specs.declared.tree.Item.{Item}
use Rattle.pm_syntax.specs.declared.tree.Items.{Items}
use Rattle.pm_syntax.specs.declared.tree.Items.TheVariants as items
use Rattle.pm_syntax.specs.declared.tree.OrderItem.{OrderItem}
use Rattle.pm_syntax.specs.declared.tree.Test.{Test}
use Rattle.pm_syntax.specs.declared.tree.Select.{Select}
use Rattle.pm_plan.specs.declared.plan.Aggregate.{Aggregate}
use Rattle.pm_names.specs.declared.terms.KnownColumn.{KnownColumn}
use Rattle.pm_names.specs.declared.terms.Term.TheVariants as term
use Rattle.pm_names.specs.Names.{means, column_of, term_of, placed_term}
use Rattle.pm_names.specs.Conditions.{exprs_of}
use Rattle.pm_binder.specs.Grouping.{item_list, item_terms, having_terms, order_term, ordered_by, calls_in, placed_calls, ordered_calls, terms_of, shape_of}
use Rattle.pm_names.proofs.Positions.{position_within}
use Rattle.pm_binder.proofs.Few.{number_of, few_once, few_calls}

-- the numbers of these aggregates are below the bound
abbrev AreLow : ℕ → List Aggregate → Type 0
AreLow n calls = AllByRecursion (λ x. x < n) (map number_of calls)

low_append : (n : ℕ) (xs ys : List Aggregate) → AreLow n xs → AreLow n ys → AreLow n (xs ++ ys)
low_append n [] ys h k = k
low_append n (x ∷ xs) ys h k = (h.0, low_append n xs ys h.1 k)

abbrev bound_of : List KnownColumn → ℕ
bound_of known = 5 * length known + 5

column_low : (known : List KnownColumn) (name : ColumnName) → column_of known name ≤ length known
column_low known name = position_within (means name) known

low_expr : (known : List KnownColumn) (e : Expr) → AreLow (bound_of known) (calls_in (term_of known e))
low_expr known (expr.Column name) = tt
low_expr known (expr.CountAll at) = (omega arith, tt)
low_expr known (expr.Call func.Count name at) = let low : column_of known name ≤ length known = column_low known name in (omega arith, tt)
low_expr known (expr.Call func.Sum name at) = let low : column_of known name ≤ length known = column_low known name in (omega arith, tt)
low_expr known (expr.Call func.Min name at) = let low : column_of known name ≤ length known = column_low known name in (omega arith, tt)
low_expr known (expr.Call func.Max name at) = let low : column_of known name ≤ length known = column_low known name in (omega arith, tt)

low_columns : (n at from count : ℕ) → AreLow n (placed_calls (map (λ column. record { term = term.Column column; at = at }) (range_with_len from count)))
low_columns n at from zero = tt
low_columns n at from (suc count) = low_columns n at (from + 1) count

low_exprs : (known : List KnownColumn) (es : List Expr) → AreLow (bound_of known) (placed_calls (map (placed_term known) es))
low_exprs known [] = tt
low_exprs known (e ∷ es) = low_append (bound_of known) (calls_in (term_of known e)) (placed_calls (map (placed_term known) es)) (low_expr known e) (low_exprs known es)

low_list : (known : List KnownColumn) (list : List Item) → AreLow (bound_of known) (placed_calls (map (λ item. placed_term known item.expr) list))
low_list known [] = tt
low_list known (item ∷ list) =
    low_append (bound_of known) (calls_in (term_of known item.expr)) (placed_calls (map (λ item. placed_term known item.expr) list)) (low_expr known item.expr) (low_list known list)

low_items : (known : List KnownColumn) (s : Items) → AreLow (bound_of known) (placed_calls (item_terms known s))
low_items known (items.All at) = low_columns (bound_of known) at 0 (length known)
low_items known (items.List list) = low_list known list

low_havings : (known : List KnownColumn) (having : Option Test) → AreLow (bound_of known) (placed_calls (having_terms known having))
low_havings known None = tt
low_havings known (Some test) = low_exprs known (exprs_of test)

low_orders : (known : List KnownColumn) (list : List Item) (keys : List OrderItem) → AreLow (bound_of known) (ordered_calls (map (order_term known list) keys))
low_orders known list [] = tt
low_orders known list (key ∷ keys) =
    low_append (bound_of known) (calls_in (term_of known (ordered_by list key.expr))) (ordered_calls (map (order_term known list) keys)) (low_expr known (ordered_by list key.expr)) (low_orders known list keys)

low_keys : (known : List KnownColumn) (groups : List ColumnName) → AllByRecursion (λ x. x < length known + 1) (map (column_of known) groups)
low_keys known [] = tt
low_keys known (name ∷ groups) = let low : column_of known name ≤ length known = column_low known name in (omega arith, low_keys known groups)

pub few_columns : (known : List KnownColumn) (select : Select) → length known ≤ 512
    → length (shape_of (terms_of known select)).keys + length (shape_of (terms_of known select)).calls < 2 ^ 32
few_columns known select narrow =
    let found = terms_of known select in
    let keys : length (shape_of found).keys ≤ length known + 1 = few_once (length known + 1) (map (column_of known) select.groups) (low_keys known select.groups) in
    let calls : length (shape_of found).calls ≤ 5 * length known + 5 =
    few_calls (5 * length known + 5) (placed_calls found.items ++ placed_calls found.havings ++ ordered_calls found.orders)
    (low_append (bound_of known) (placed_calls found.items ++ placed_calls found.havings) (ordered_calls found.orders)
    (low_append (bound_of known) (placed_calls found.items) (placed_calls found.havings) (low_items known select.items) (low_havings known select.having))
    (low_orders known (item_list select.items) select.orders)) in
    omega arith
