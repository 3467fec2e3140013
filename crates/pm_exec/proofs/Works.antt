-- the events of a plan that is run can be counted in 128 bits
use Rattle.std.proofs.Common.{ℕ, ◌<◌, ◌≤◌, ◌^◌, length, arith, ◌≡◌, Bool, true, false, ◌||◌, List, [], ◌∷◌, refl}
use Rattle.std.specs.Prelude.{All, nat_lt}
use Rattle.pm_values.specs.Table.{IsRelation}
use Rattle.pm_plan.specs.declared.plan.Plan.{Plan}
use Rattle.pm_plan.specs.Rows.{Db, decls_of}
use Rattle.pm_plan.specs.Tree.{Tree, Seek, Unary, Filter, Project, Sort, Group, Scan, Over, Join, Index, Each}
-- the events of a plan that is run can be counted in 128 bits, and its groups read few enough rows
use Rattle.std.specs.List.{list_all, list_any}
use Rattle.std.proofs.lemmas.List.Elements.{All-nil, All-cons, All-head, All-tail}
use Rattle.pm_values.specs.declared.value.Value.{Value}
use Rattle.pm_values.specs.declared.value.Value.TheVariants as value
use Rattle.pm_values.specs.declared.value.Kind.{Kind}
use Rattle.pm_values.specs.declared.value.Kind.TheVariants as kind
use Rattle.pm_values.specs.Row.{Row, cell}
use Rattle.pm_values.specs.ValueText.{HasText}
use Rattle.pm_values.proofs.Keys.{both_true}
use Rattle.pm_plan.specs.declared.plan.Aggregate.{Aggregate}
use Rattle.pm_plan.specs.declared.plan.Aggregate.TheVariants as aggregate
use Rattle.pm_plan.specs.Kinds.{kinds_of, kind_at, item_fits, is_number}
use Rattle.pm_plan.specs.Valid.{IsValidOver, IsValidTree, has_group}
use Rattle.pm_plan.specs.Preorder.{tree_of}
use Rattle.pm_plan.specs.Outputs.{output, sought}
use Rattle.pm_plan.proofs.Walks.{Each-EachAt, Each-root, sum_at-le, sum_at-sum_in}
use Rattle.pm_work.specs.Events.{events}
use Rattle.pm_work.specs.Fits.{Fits, IsSound, sizes_of}
use Rattle.pm_work.specs.Formulas.{exact}
use Rattle.pm_work.specs.First.{first_hi, first_seek, first_sum, has_sum, is_sum, most_summed, most_work}
use Rattle.pm_work.specs.Evaluation.{IsSmall, IsSummable as IsSmallSum}
use Rattle.pm_work.proofs.Counting.{length-events}
use Rattle.pm_work.proofs.Flags.{flags}
use Rattle.pm_work.proofs.FirstBounds.{all_within_first}
use Rattle.pm_work.proofs.Narrow.{SumsAreNarrow, narrow}
use Rattle.pm_work.proofs.RowKinds.{FitsKinds, cell_kind, output_fits}
use Rattle.pm_work.proofs.Summable.{summable_output}
use Rattle.pm_blocks.specs.Limits.{IsShort, IsSummable}
use Rattle.pm_flows.specs.Plan.{GroupsReadFew, reads_few}

pub sound_of : (plan : Plan) (db : Db) → Fits plan db → All IsRelation db → IsSound db (tree_of plan.nodes)
sound_of plan db fits tables = record { tables = tables; operators = fits.valid.operators; references = fits.references }

pub events_few : (plan : Plan) (db : Db) → Fits plan db → All IsRelation db → length (events db (tree_of plan.nodes) 1) < 2 ^ 128
events_few plan db fits tables =
    let tree : Tree = tree_of plan.nodes in
    let sound : IsSound db tree = sound_of plan db fits tables in
    let rows : Tree → ℕ → ℕ = λ t m. length (output db t) in
    let seek_rows : Tree → Seek → ℕ → ℕ = λ left seek m. length (sought db seek (output db left)) in
    let hi : Tree → ℕ → ℕ = λ t m. first_hi exact (sizes_of db) t in
    let seek_hi : Tree → Seek → ℕ → ℕ = λ left seek m. first_seek exact (sizes_of db) seek (first_hi exact (sizes_of db) left) in
    let le = sum_at-le rows hi seek_rows seek_hi tree 1
    (Each-EachAt (λ u. length (output db u) ≤ first_hi exact (sizes_of db) u) (λ left seek. length (sought db seek (output db left)) ≤ first_seek exact (sizes_of db) seek (first_hi exact (sizes_of db) left)) tree 1
    (all_within_first db tree (flags db tree sound))) in
    omega (
      arith,
      length-events db tree 1,
      sum_at-sum_in (λ t. length (output db t)) (λ left seek. length (sought db seek (output db left))) tree 1,
      sum_at-sum_in (λ t. first_hi exact (sizes_of db) t) (λ left seek. first_seek exact (sizes_of db) seek (first_hi exact (sizes_of db) left)) tree 1,
      le,
      (narrow (sizes_of db) tree fits.narrow).sum,
    )

-- ---- groups

small_number : (k : Kind) (v : Value) → is_number k ≡ true → HasText k v → IsSmall v → IsShort v
small_number k value.Null number text small = tt
small_number k (value.Int n) number text small = small
small_number kind.Int (value.Text t) number text small = absurd text
small_number (kind.Num scale) (value.Text t) number text small = absurd text
small_number kind.Text (value.Text t) number text small = absurd cc

module _ (kinds : List Kind) where
  short : (column : ℕ) (rows : List Row) → is_number (kind_at kinds column) ≡ true → All (FitsKinds kinds) rows → All (λ row. IsSmall (cell row column)) rows
      → All (λ row. IsShort (cell row column)) rows
  short column [] number fits small = All-nil (λ row. IsShort (cell row column))
  short column (row ∷ rows) number fits small =
      All-cons (λ row. IsShort (cell row column)) row rows
      (small_number (kind_at kinds column) (cell row column) number (cell_kind kinds row column (All-head (FitsKinds kinds) row rows fits)) (All-head (λ row. IsSmall (cell row column)) row rows small))
      (short column rows number (All-tail (FitsKinds kinds) row rows fits) (All-tail (λ row. IsSmall (cell row column)) row rows small))

  module _ (rows : List Row) (fits : All (FitsKinds kinds) rows) where
    summable : (item : Aggregate) → item_fits kinds item ≡ true → IsSmallSum rows item → (is_sum item ≡ true → length rows ≤ most_summed) → IsSummable rows item
    summable aggregate.CountAll fit small few = tt
    summable (aggregate.Count column) fit small few = tt
    summable (aggregate.Sum column) fit small few =
        (few refl, short column rows (both_true (nat_lt column (length kinds)) (is_number (kind_at kinds column)) fit).1 fits small)
    summable (aggregate.Min column) fit small few = tt
    summable (aggregate.Max column) fit small few = tt

    all_summable : (items : List Aggregate) → list_all (item_fits kinds) items ≡ true → All (IsSmallSum rows) items → (list_any is_sum items ≡ true → length rows ≤ most_summed)
        → All (IsSummable rows) items
    all_summable [] fit small few = All-nil (IsSummable rows)
    all_summable (item ∷ items) fit small few =
        let p = both_true (item_fits kinds item) (list_all (item_fits kinds) items) fit in
        All-cons (IsSummable rows) item items
        (summable item p.0 (All-head (IsSmallSum rows) item items small) (λ e. few (first (is_sum item) (list_any is_sum items) e)))
        (all_summable items p.1 (All-tail (IsSmallSum rows) item items small) (λ e. few (second (is_sum item) (list_any is_sum items) e)))
      where
        first : (a b : Bool) → a ≡ true → (a || b) ≡ true
        first true b e = refl
        first false b e = absurd cc

        second : (a b : Bool) → b ≡ true → (a || b) ≡ true
        second true b e = refl
        second false b e = e

module _ (db : Db) (tables : All IsRelation db) where
  abbrev bounded : Tree → Type 0
  bounded u = length (output db u) ≤ first_hi exact (sizes_of db) u

  abbrev bounded_seek : Tree → Seek → Type 0
  bounded_seek left seek = length (sought db seek (output db left)) ≤ first_seek exact (sizes_of db) seek (first_hi exact (sizes_of db) left)

  root_le : (t : Tree) → first_hi exact (sizes_of db) t ≤ first_sum (sizes_of db) t
  root_le (Scan table label) = omega arith
  root_le (Over op child) = omega arith
  root_le (Join method on left right) = omega arith
  root_le (Index left seek cond) = omega arith

  read_few : (t : Tree) → IsValidTree (decls_of db) t → first_sum (sizes_of db) t ≤ most_work → SumsAreNarrow (sizes_of db) t → Each bounded bounded_seek t → GroupsReadFew db t
  read_few (Scan table label) valid sum sums within = tt
  read_few (Over op child) valid sum sums within = (by op valid.0.0 sums.0, read_few child valid.1 (omega (arith, sum)) sums.1 within.1)
    where
      rows_le : length (output db child) ≤ first_hi exact (sizes_of db) child
      rows_le = Each-root bounded bounded_seek child within.1

      by : (o : Unary) → IsValidOver (kinds_of (decls_of db) child) (has_group child) o → (has_sum o ≡ true → first_hi exact (sizes_of db) child ≤ most_summed)
          → reads_few o (output db child)
      by (Filter c) v few = tt
      by (Project columns) v few = tt
      by (Sort keys) v few = tt
      by (Group keys items) v few = record {
        few = omega (arith, sum, rows_le, root_le child);
        summable = all_summable (kinds_of (decls_of db) child) (output db child) (output_fits db tables child) items v.fit (summable_output db tables child items v.alone)
            (λ e. omega (arith, few e, rows_le));
      }
  read_few (Join method on left right) valid sum sums within =
      (tt, read_few left valid.1 (omega (arith, sum)) sums.1 within.1, read_few right valid.2 (omega (arith, sum)) sums.2 within.2)
  read_few (Index left seek cond) valid sum sums within = (tt, tt, read_few left valid.2 (omega (arith, sum)) sums.2 within.2)

pub groups_read_few : (plan : Plan) (db : Db) → Fits plan db → All IsRelation db → GroupsReadFew db (tree_of plan.nodes)
groups_read_few plan db fits tables =
    let n = narrow (sizes_of db) (tree_of plan.nodes) fits.narrow in
    read_few db tables (tree_of plan.nodes) fits.valid.operators n.sum n.sums (all_within_first db (tree_of plan.nodes) (flags db (tree_of plan.nodes) (sound_of plan db fits tables)))
