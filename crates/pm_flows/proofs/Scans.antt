-- the row at hand of a scan
use Rattle.std.proofs.Common.{◌≡◌, ℕ, zero, suc, ◌+◌, ◌-◌, ◌<◌, ◌≤◌, true, List, [], ◌∷◌, length, drop, map, get_or, refl, ap, arith, drop-cons, add-one, sub-one, sym, ◌∙◌}
use Rattle.std.specs.Prelude.{slice_get, Some}
use Rattle.std.proofs.lemmas.Option.{get_or_from_slice_get}
use Rattle.std.proofs.lemmas.List.{length-map}
use Rattle.std.proofs.lemmas.List.Elements.{All-get_or}
use Rattle.pm_values.specs.declared.value.Value.TheVariants.{Null}
use Rattle.pm_values.specs.declared.table.ColumnDecl.{ColumnDecl}
use Rattle.pm_values.specs.Row.{Row, cell}
use Rattle.pm_values.specs.Table.{Relation, FitsColumns, IsRelation}
use Rattle.pm_flows.specs.Coming.{taken_by, rows_by}
use Rattle.pm_flows.specs.ScanFlow.{nulls, last_of}

pub length_fits : (columns : List ColumnDecl) (row : Row) → FitsColumns columns row → length row ≡ length columns
length_fits [] [] f = refl
length_fits [] (v ∷ row) f = absurd f
length_fits (column ∷ columns) [] f = absurd f
length_fits (column ∷ columns) (v ∷ row) f = ap suc (length_fits columns row f.1)

-- it is as wide as the table
pub last-width : (k : ℕ) (table : Relation) → IsRelation table → k ≤ length table.rows → length (last_of k table) ≡ length table.decl.columns
last-width zero table is l = length-map table.decl.columns (λ column. Null)
last-width (suc k) table is l =
    length_fits table.decl.columns (get_or table.rows k (nulls table))
    (All-get_or (FitsColumns table.decl.columns) table.rows k (nulls table) (omega arith) is.fit)

pub last-steady : (j k : ℕ) (table : Relation) → IsRelation table → j ≤ length table.rows → k ≤ length table.rows
    → length (last_of j table) ≡ length (last_of k table)
last-steady j k table is m l = last-width j table is m ∙ sym (last-width k table is l)

nulls-cell_of : (columns : List ColumnDecl) (at : ℕ) → cell (map (λ column. Null) columns) at ≡ Null
nulls-cell_of [] at = refl
nulls-cell_of (column ∷ columns) zero = refl
nulls-cell_of (column ∷ columns) (suc at) = nulls-cell_of columns at

-- before the first row
pub nulls-cell : (table : Relation) (at : ℕ) → cell (nulls table) at ≡ Null
nulls-cell table at = nulls-cell_of table.decl.columns at

pub rows-next : (n k : ℕ) (table : Relation) → k < length table.rows
    → rows_by n true (drop k table.rows) ≡ record { taken = taken_by n; row = last_of (k + 1) table; free = true } ∷ rows_by n true (drop (k + 1) table.rows)
rows-next n k table l = rw add-one (ap (rows_by n true) (drop-cons table.rows k (nulls table) l))

pub last_of-before : (k : ℕ) (table : Relation) (rows : List Row) (row : Row) → (k ≡ 0 → ⊥) → rows ≡ table.rows → slice_get rows (k - 1) ≡ Some row
    → last_of k table ≡ row
last_of-before zero table rows row some same is = absurd (some refl)
last_of-before (suc k) table rows row some same is =
    get_or_from_slice_get table.rows k row (nulls table) (ap (λ r. slice_get r k) (sym same) ∙ (rw sub-one at is))

-- the row that comes next
pub next_row : (k : ℕ) (table : Relation) (rows : List Row) (row : Row) → rows ≡ table.rows → slice_get rows k ≡ Some row → last_of (k + 1) table ≡ row
next_row k table rows row same is = rw add-one (get_or_from_slice_get table.rows k row (nulls table) (ap (λ r. slice_get r k) (sym same) ∙ is))
