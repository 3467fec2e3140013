-- the rows of each operator have values of the kinds of its columns, and so its width
use Rattle.std.proofs.Common.{◌≡◌, ℕ, zero, suc, Bool, true, false, cond, List, [], ◌∷◌, ◌++◌, length, map, replicate, ℤ, refl, ap}
use Rattle.std.specs.Prelude.{All}
use Rattle.std.specs.List.{filter}
use Rattle.std.proofs.lemmas.List.Elements.{All-nil, All-cons, All-head, All-tail, All-filter, All-map, All-weaker}
use Rattle.pm_values.specs.declared.value.Value.{Value}
use Rattle.pm_values.specs.declared.value.Value.TheVariants as value
use Rattle.pm_values.specs.declared.value.Kind.{Kind}
use Rattle.pm_values.specs.declared.value.Kind.TheVariants as kind
use Rattle.pm_values.specs.declared.table.ColumnDecl.{ColumnDecl}
use Rattle.pm_values.specs.Row.{Row, cell, pick}
use Rattle.pm_values.specs.Order.{value_cmp, is_less}
use Rattle.pm_values.specs.Equality.{is_null, same_values}
use Rattle.pm_values.specs.Keys.{different_keys}
use Rattle.pm_values.specs.Condition.{keeps}
use Rattle.pm_values.specs.Table.{Relation, IsOfKind, FitsColumn, FitsColumns, IsValidKind, HasValidKind, IsRelation}
use Rattle.pm_values.specs.ValueText.{HasText}
use Rattle.pm_plan.specs.declared.plan.Aggregate.{Aggregate}
use Rattle.pm_plan.specs.declared.plan.Aggregate.TheVariants as aggregate
use Rattle.pm_plan.specs.declared.plan.Pair.{Pair}
use Rattle.pm_plan.specs.Rows.{Db, rows_or_none, table_rows, decls_of}
use Rattle.pm_plan.specs.Joins.{keys_of, joined_by}
use Rattle.pm_plan.specs.Grouping.{column_values, plus, lesser, greater, folded, aggregate_of, group_row, grouped}
use Rattle.pm_plan.specs.Kinds.{columns_or_none, table_kinds, kinds_of, width, kinds_over, kind_at, kind_of_item}
use Rattle.pm_plan.specs.Tree.{Unary, Filter, Project, Sort, Group, Method, Merge, Tree, Scan, Over, Join, Index}
use Rattle.pm_plan.specs.Outputs.{output, rows_over, keeps_if}
use Rattle.pm_work.proofs.RowLists.{All-sorted, All-once, All-joined}
use Rattle.pm_work.proofs.Tables.{at_place}

-- one value for each kind, NULL or one of the kind
abbrev pub FitsKinds : List Kind → Row → Type 0
FitsKinds [] [] = Unit {0}
FitsKinds (k ∷ kinds) (v ∷ row) = HasText k v × FitsKinds kinds row
FitsKinds [] (v ∷ row) = ⊥
FitsKinds (k ∷ kinds) [] = ⊥

pub fits_width : (kinds : List Kind) (row : Row) → FitsKinds kinds row → length row ≡ length kinds
fits_width [] [] fits = refl
fits_width (k ∷ kinds) (v ∷ row) fits = ap suc (fits_width kinds row fits.1)
fits_width [] (v ∷ row) fits = absurd fits
fits_width (k ∷ kinds) [] fits = absurd fits

null_kind : (k : Kind) → HasText k value.Null
null_kind kind.Int = tt
null_kind (kind.Num scale) = tt
null_kind kind.Text = tt

pub cell_kind : (kinds : List Kind) (row : Row) (column : ℕ) → FitsKinds kinds row → HasText (kind_at kinds column) (cell row column)
cell_kind [] [] column fits = tt
cell_kind (k ∷ kinds) (v ∷ row) zero fits = fits.0
cell_kind (k ∷ kinds) (v ∷ row) (suc column) fits = cell_kind kinds row column fits.1
cell_kind [] (v ∷ row) column fits = absurd fits
cell_kind (k ∷ kinds) [] column fits = absurd fits

pub pick_kinds : (kinds : List Kind) (row : Row) (columns : List ℕ) → FitsKinds kinds row → FitsKinds (map (kind_at kinds) columns) (pick columns row)
pick_kinds kinds row [] fits = tt
pick_kinds kinds row (c ∷ columns) fits = (cell_kind kinds row c fits, pick_kinds kinds row columns fits)

pub append_kinds : (ks ls : List Kind) (a b : Row) → FitsKinds ks a → FitsKinds ls b → FitsKinds (ks ++ ls) (a ++ b)
append_kinds [] ls [] b f g = g
append_kinds (k ∷ ks) ls (v ∷ a) b f g = (f.0, append_kinds ks ls a b f.1 g)
append_kinds [] ls (v ∷ a) b f g = absurd f
append_kinds (k ∷ ks) ls [] b f g = absurd f

pub null_kinds : (kinds : List Kind) → FitsKinds kinds (replicate (length kinds) value.Null)
null_kinds [] = tt
null_kinds (k ∷ kinds) = (null_kind k, null_kinds kinds)

-- ---- tables

number_kind : (k : Kind) (n : ℤ) → IsValidKind k → IsOfKind k (value.Int n) → HasText k (value.Int n)
number_kind kind.Int n scale is = tt
number_kind (kind.Num s) n scale is = scale
number_kind kind.Text n scale is = absurd is

text_kind : (k : Kind) (t : List ℕ) → IsOfKind k (value.Text t) → HasText k (value.Text t)
text_kind kind.Int t is = absurd is
text_kind (kind.Num s) t is = absurd is
text_kind kind.Text t is = tt

column_kind : (column : ColumnDecl) (v : Value) → HasValidKind column → FitsColumn column v → HasText column.kind v
column_kind column value.Null scale fits = null_kind column.kind
column_kind column (value.Int n) scale fits = number_kind column.kind n scale fits
column_kind column (value.Text t) scale fits = text_kind column.kind t fits

columns_kind : (columns : List ColumnDecl) (row : Row) → All HasValidKind columns → FitsColumns columns row → FitsKinds (map (λ column. column.kind) columns) row
columns_kind [] [] scales fits = tt
columns_kind (c ∷ columns) (v ∷ row) scales fits =
    (column_kind c v (All-head HasValidKind c columns scales) fits.0, columns_kind columns row (All-tail HasValidKind c columns scales) fits.1)
columns_kind [] (v ∷ row) scales fits = absurd fits
columns_kind (c ∷ columns) [] scales fits = absurd fits

abbrev TableFits : List Kind → List Row → Type 0
TableFits kinds rows = All (FitsKinds kinds) rows

relation_kinds : (table : Relation) → IsRelation table → TableFits (map (λ column. column.kind) table.decl.columns) table.rows
relation_kinds table is =
    All-weaker (FitsColumns table.decl.columns) (FitsKinds (map (λ column. column.kind) table.decl.columns)) (λ row f. columns_kind table.decl.columns row is.declared.scales f) table.rows is.fit

-- ---- groups
plus_kind : (k : Kind) (a b : Value) → HasText k a → HasText k b → HasText k (plus a b)
plus_kind k value.Null b f g = g
plus_kind k (value.Text a) b f g = g
plus_kind k (value.Int m) value.Null f g = f
plus_kind k (value.Int m) (value.Text b) f g = f
plus_kind kind.Int (value.Int m) (value.Int n) f g = tt
plus_kind (kind.Num s) (value.Int m) (value.Int n) f g = f
plus_kind kind.Text (value.Int m) (value.Int n) f g = absurd f

one_of : (k : Kind) (t : Bool) (a b : Value) → HasText k a → HasText k b → HasText k (cond t a b)
one_of k true a b f g = f
one_of k false a b f g = g

lesser_kind : (k : Kind) (a b : Value) → HasText k a → HasText k b → HasText k (lesser a b)
lesser_kind k a b f g =
    one_of k (is_null a) b _ g (one_of k (is_null b) a _ f (one_of k (is_less (value_cmp b a)) b a g f))

greater_kind : (k : Kind) (a b : Value) → HasText k a → HasText k b → HasText k (greater a b)
greater_kind k a b f g =
    one_of k (is_null a) b _ g (one_of k (is_null b) a _ f (one_of k (is_less (value_cmp a b)) b a g f))

folded_kind : (k : Kind) (f : Value → Value → Value) → ((a b : Value) → HasText k a → HasText k b → HasText k (f a b))
    → (column : ℕ) (rows : List Row) → All (λ row. HasText k (cell row column)) rows → HasText k (folded f (column_values column rows))
folded_kind k f step column [] all = null_kind k
folded_kind k f step column (row ∷ rows) all =
    step (cell row column) (folded f (column_values column rows)) (All-head (λ row. HasText k (cell row column)) row rows all)
    (folded_kind k f step column rows (All-tail (λ row. HasText k (cell row column)) row rows all))

cells_kind : (kinds : List Kind) (column : ℕ) (rows : List Row) → All (FitsKinds kinds) rows → All (λ row. HasText (kind_at kinds column) (cell row column)) rows
cells_kind kinds column rows = All-weaker (FitsKinds kinds) (λ row. HasText (kind_at kinds column) (cell row column)) (λ row f. cell_kind kinds row column f) rows

item_kind : (kinds : List Kind) (rows : List Row) (item : Aggregate) → All (FitsKinds kinds) rows → HasText (kind_of_item kinds item) (aggregate_of rows item)
item_kind kinds rows aggregate.CountAll fits = tt
item_kind kinds rows (aggregate.Count column) fits = tt
item_kind kinds rows (aggregate.Sum column) fits = folded_kind (kind_at kinds column) plus (plus_kind (kind_at kinds column)) column rows (cells_kind kinds column rows fits)
item_kind kinds rows (aggregate.Min column) fits = folded_kind (kind_at kinds column) lesser (lesser_kind (kind_at kinds column)) column rows (cells_kind kinds column rows fits)
item_kind kinds rows (aggregate.Max column) fits = folded_kind (kind_at kinds column) greater (greater_kind (kind_at kinds column)) column rows (cells_kind kinds column rows fits)

items_kind : (kinds : List Kind) (rows : List Row) (items : List Aggregate) → All (FitsKinds kinds) rows → FitsKinds (map (kind_of_item kinds) items) (map (aggregate_of rows) items)
items_kind kinds rows [] fits = tt
items_kind kinds rows (item ∷ items) fits = (item_kind kinds rows item fits, items_kind kinds rows items fits)

module _ (kinds : List Kind) (keys : List ℕ) (items : List Aggregate) (rows : List Row) (fits : All (FitsKinds kinds) rows) where
  group_row_kinds : (key : Row) → FitsKinds (map (kind_at kinds) keys) key → FitsKinds (map (kind_at kinds) keys ++ map (kind_of_item kinds) items) (group_row keys items rows key)
  group_row_kinds key f =
      let own : List Row = filter (λ row. same_values key (pick keys row)) rows in
      append_kinds (map (kind_at kinds) keys) (map (kind_of_item kinds) items) key (map (aggregate_of own) items) f
      (items_kind kinds own items (All-filter (λ row. same_values key (pick keys row)) (FitsKinds kinds) rows fits))

  keys_kinds : All (FitsKinds (map (kind_at kinds) keys)) (different_keys (keys_of keys rows))
  keys_kinds =
      All-once (FitsKinds (map (kind_at kinds) keys)) same_values (map (pick keys) rows)
      (All-map (FitsKinds (map (kind_at kinds) keys)) (pick keys) rows
      (All-weaker (FitsKinds kinds) (λ row. FitsKinds (map (kind_at kinds) keys) (pick keys row)) (λ row f. pick_kinds kinds row keys f) rows fits))

  keyed_kinds : All (FitsKinds (map (kind_at kinds) keys ++ map (kind_of_item kinds) items)) (map (group_row keys items rows) (different_keys (keys_of keys rows)))
  keyed_kinds =
      All-map (FitsKinds (map (kind_at kinds) keys ++ map (kind_of_item kinds) items)) (group_row keys items rows) (different_keys (keys_of keys rows))
      (All-weaker (FitsKinds (map (kind_at kinds) keys)) (λ key. FitsKinds (map (kind_at kinds) keys ++ map (kind_of_item kinds) items) (group_row keys items rows key)) group_row_kinds (different_keys (keys_of keys rows)) keys_kinds)

grouped_kinds : (kinds : List Kind) (keys : List ℕ) (items : List Aggregate) (rows : List Row) → All (FitsKinds kinds) rows
    → All (FitsKinds (map (kind_at kinds) keys ++ map (kind_of_item kinds) items)) (grouped keys items rows)
grouped_kinds kinds [] items rows fits =
    All-cons (FitsKinds (map (kind_of_item kinds) items)) (map (aggregate_of rows) items) [] (items_kind kinds rows items fits) (All-nil (FitsKinds (map (kind_of_item kinds) items)))
grouped_kinds kinds (key ∷ keys) items rows fits = keyed_kinds kinds (key ∷ keys) items rows fits

over_fits : (op : Unary) (kinds : List Kind) (rows : List Row) → All (FitsKinds kinds) rows → All (FitsKinds (kinds_over op kinds)) (rows_over op rows)
over_fits (Filter c) kinds rows fits = All-filter (keeps c) (FitsKinds kinds) rows fits
over_fits (Project columns) kinds rows fits =
    All-map (FitsKinds (map (kind_at kinds) columns)) (pick columns) rows
    (All-weaker (FitsKinds kinds) (λ row. FitsKinds (map (kind_at kinds) columns) (pick columns row)) (λ row f. pick_kinds kinds row columns f) rows fits)
over_fits (Sort keys) kinds rows fits = All-sorted (FitsKinds kinds) keys rows fits
over_fits (Group keys items) kinds rows fits = grouped_kinds kinds keys items rows fits

module _ (db : Db) (sound : All IsRelation db) where
  pub table_fits : (table : ℕ) → All (FitsKinds (table_kinds (decls_of db) table)) (table_rows db table)
  table_fits table =
      at_place (λ t d. TableFits (map (λ column. column.kind) (columns_or_none d)) (rows_or_none t)) (All-nil (FitsKinds [])) relation_kinds db sound table

  pub joined_fits : (method : Method) (left right : List Kind) (pairs : List Pair) (ls rs : List Row) → All (FitsKinds left) ls → All (FitsKinds right) rs
      → All (FitsKinds (left ++ right)) (joined_by method pairs (length right) ls rs)
  joined_fits method left right pairs ls rs fl fr =
      All-joined (FitsKinds left) (FitsKinds right) (FitsKinds (left ++ right)) (append_kinds left right) (length right)
      method (λ pad l f. append_kinds left right l (replicate (length right) value.Null) f (null_kinds right)) pairs ls rs fl fr

  -- a row of any operator has one value for each kind of the tree, NULL or one of the kind
  pub output_fits : (t : Tree) → All (FitsKinds (kinds_of (decls_of db) t)) (output db t)
  output_fits (Scan table label) = table_fits table
  output_fits (Over op child) = over_fits op (kinds_of (decls_of db) child) (output db child) (output_fits child)
  output_fits (Join method on left right) =
      joined_fits method (kinds_of (decls_of db) left) (kinds_of (decls_of db) right) on.pairs (output db left) (output db right) (output_fits left) (output_fits right)
  output_fits (Index left seek c) =
      let kinds : List Kind = kinds_of (decls_of db) left ++ table_kinds (decls_of db) seek.table in
      All-filter (keeps_if c) (FitsKinds kinds) (joined_by Merge seek.on.pairs (length (table_kinds (decls_of db) seek.table)) (output db left) (table_rows db seek.table))
      (joined_fits Merge (kinds_of (decls_of db) left) (table_kinds (decls_of db) seek.table) seek.on.pairs (output db left) (table_rows db seek.table) (output_fits left) (table_fits seek.table))

  pub wide_output : (t : Tree) → All (λ row. length row ≡ width (decls_of db) t) (output db t)
  wide_output t =
      All-weaker (FitsKinds (kinds_of (decls_of db) t)) (λ row. length row ≡ width (decls_of db) t) (fits_width (kinds_of (decls_of db) t)) (output db t) (output_fits t)
