-- without a group below it, an operator's numbers have 64 bits, and what a group adds up is small
use Rattle.std.proofs.Common.{◌≡◌, ℕ, zero, suc, Bool, true, false, List, [], ◌∷◌, replicate, sym, subst, inl, inr}
use Rattle.std.specs.Prelude.{All}
use Rattle.std.specs.List.{filter}
use Rattle.std.proofs.lemmas.Bool.{cases_Bool}
use Rattle.std.proofs.lemmas.List.Elements.{All-nil, All-cons, All-head, All-tail, All-append, All-filter, All-map, All-replicate, All-weaker}
use Rattle.pm_values.specs.declared.value.Value.{Value}
use Rattle.pm_values.specs.declared.value.Value.TheVariants as value
use Rattle.pm_values.specs.declared.value.Kind.{Kind}
use Rattle.pm_values.specs.declared.value.Kind.TheVariants as kind
use Rattle.pm_values.specs.declared.table.ColumnDecl.{ColumnDecl}
use Rattle.pm_values.specs.Row.{Row, cell, pick}
use Rattle.pm_values.specs.Condition.{keeps}
use Rattle.pm_values.specs.Table.{IsOfKind, FitsColumn, FitsColumns, IsRelation}
use Rattle.pm_plan.specs.declared.plan.Aggregate.{Aggregate}
use Rattle.pm_plan.specs.declared.plan.Aggregate.TheVariants as aggregate
use Rattle.pm_plan.specs.declared.plan.Pair.{Pair}
use Rattle.pm_plan.specs.Kinds.{width}
use Rattle.pm_plan.specs.Rows.{Db, rows_or_none, table_rows, decls_of}
use Rattle.pm_plan.specs.Joins.{joined_by}
use Rattle.pm_plan.specs.Tree.{Unary, Filter, Project, Sort, Group, Method, Merge, Tree, Scan, Over, Join, Index}
use Rattle.pm_plan.specs.Valid.{is_group, has_group}
use Rattle.pm_plan.specs.Outputs.{output, rows_over, keeps_if}
use Rattle.pm_work.specs.Evaluation.{IsSmall, IsSummable}
use Rattle.pm_work.proofs.Ascending.{or_false}
use Rattle.pm_work.proofs.Tables.{at_place}
use Rattle.pm_work.proofs.RowLists.{All-sorted, All-joined}

-- each number of the row has 64 bits
abbrev pub SmallRow : Row → Type 0
SmallRow row = All IsSmall row

small_number : (k : Kind) (v : Value) → IsOfKind k v → IsSmall v
small_number kind.Int (value.Int n) is = is
small_number (kind.Num s) (value.Int n) is = is
small_number kind.Text (value.Int n) is = absurd is
small_number k (value.Text t) is = tt
small_number k value.Null is = tt

small_value : (column : ColumnDecl) (v : Value) → FitsColumn column v → IsSmall v
small_value column value.Null fits = tt
small_value column (value.Int n) fits = small_number column.kind (value.Int n) fits
small_value column (value.Text t) fits = tt

small_columns : (columns : List ColumnDecl) (row : Row) → FitsColumns columns row → SmallRow row
small_columns [] [] fits = All-nil IsSmall
small_columns (c ∷ columns) (v ∷ row) fits = All-cons IsSmall v row (small_value c v fits.0) (small_columns columns row fits.1)
small_columns [] (v ∷ row) fits = absurd fits
small_columns (c ∷ columns) [] fits = absurd fits

small_cell : (row : Row) (column : ℕ) → SmallRow row → IsSmall (cell row column)
small_cell [] column small = tt
small_cell (v ∷ row) zero small = All-head IsSmall v row small
small_cell (v ∷ row) (suc column) small = small_cell row column (All-tail IsSmall v row small)

small_pick : (columns : List ℕ) (row : Row) → SmallRow row → SmallRow (pick columns row)
small_pick [] row small = All-nil IsSmall
small_pick (c ∷ columns) row small = All-cons IsSmall (cell row c) (pick columns row) (small_cell row c small) (small_pick columns row small)

module _ (db : Db) (sound : All IsRelation db) where
  small_table : (table : ℕ) → All SmallRow (table_rows db table)
  small_table table =
      at_place (λ t d. All SmallRow (rows_or_none t)) (All-nil SmallRow)
      (λ t r. All-weaker (FitsColumns t.decl.columns) SmallRow (small_columns t.decl.columns) t.rows r.fit) db sound table

  small_joined : (method : Method) (w : ℕ) (pairs : List Pair) (ls rs : List Row) → All SmallRow ls → All SmallRow rs → All SmallRow (joined_by method pairs w ls rs)
  small_joined method w pairs ls rs a b =
      All-joined SmallRow SmallRow SmallRow (All-append IsSmall) w method (λ pad l small. All-append IsSmall l (replicate w value.Null) small (All-replicate IsSmall w value.Null tt)) pairs ls rs a b

  small_over : (op : Unary) (rows : List Row) → is_group op ≡ false → All SmallRow rows → All SmallRow (rows_over op rows)
  small_over (Filter c) rows none small = All-filter (keeps c) SmallRow rows small
  small_over (Project columns) rows none small =
      All-map SmallRow (pick columns) rows (All-weaker SmallRow (λ row. SmallRow (pick columns row)) (small_pick columns) rows small)
  small_over (Sort keys) rows none small = All-sorted SmallRow keys rows small
  small_over (Group keys items) rows none small = absurd cc

  -- the numbers of an operator without a group below it have 64 bits
  small_output : (t : Tree) → has_group t ≡ false → All SmallRow (output db t)
  small_output (Scan table label) none = small_table table
  small_output (Over op child) none =
      let p = or_false (is_group op) (has_group child) none in small_over op (output db child) p.0 (small_output child p.1)
  small_output (Join method on left right) none =
      let p = or_false (has_group left) (has_group right) none in
      small_joined method (width (decls_of db) right) on.pairs (output db left) (output db right) (small_output left p.0) (small_output right p.1)
  small_output (Index left seek c) none =
      All-filter (keeps_if c) SmallRow (joined_by Merge seek.on.pairs 0 (output db left) (table_rows db seek.table))
      (small_joined Merge 0 seek.on.pairs (output db left) (table_rows db seek.table) (small_output left none) (small_table seek.table))

  -- what a group that has items only over no other group adds up is small
  pub summable_output : (child : Tree) (items : List Aggregate) → (has_group child ≡ true → items ≡ []) → All (IsSummable (output db child)) items
  summable_output child items sole =
      elim (cases_Bool (has_group child)) [
        | inl e ↦ subst (All (IsSummable (output db child))) (sym (sole e)) (All-nil (IsSummable (output db child)))
        | inr e ↦ each_summable (output db child) (small_output child e) items
      ]
    where
      one_summable : (rows : List Row) → All SmallRow rows → (item : Aggregate) → IsSummable rows item
      one_summable rows small aggregate.CountAll = tt
      one_summable rows small (aggregate.Count column) = tt
      one_summable rows small (aggregate.Sum column) = All-weaker SmallRow (λ row. IsSmall (cell row column)) (λ row s. small_cell row column s) rows small
      one_summable rows small (aggregate.Min column) = tt
      one_summable rows small (aggregate.Max column) = tt

      each_summable : (rows : List Row) → All SmallRow rows → (items : List Aggregate) → All (IsSummable rows) items
      each_summable rows small [] = All-nil (IsSummable rows)
      each_summable rows small (item ∷ items) = All-cons (IsSummable rows) item items (one_summable rows small item) (each_summable rows small items)

-- fewer rows are summable too
pub summable_filter : (p : Row → Bool) (rows : List Row) (items : List Aggregate) → All (IsSummable rows) items → All (IsSummable (filter p rows)) items
summable_filter p rows items all = All-weaker (IsSummable rows) (IsSummable (filter p rows)) fewer items all
  where
    fewer : (item : Aggregate) → IsSummable rows item → IsSummable (filter p rows) item
    fewer aggregate.CountAll s = tt
    fewer (aggregate.Count column) s = tt
    fewer (aggregate.Sum column) s = All-filter p (λ row. IsSmall (cell row column)) rows s
    fewer (aggregate.Min column) s = tt
    fewer (aggregate.Max column) s = tt
