-- rows that records write fit the columns
use Rattle.std.proofs.Common.{◌≡◌, ◌≤◌, ◌+◌, ◌-◌, ℕ, ℤ, zero, suc, List, [], ◌∷◌, length, drop, refl, ap, arith, length-drop, slice_range}
use Rattle.std.proofs.lemmas.List.{length-take-le}
use Rattle.std.specs.Prelude.{All}
use Rattle.pm_values.specs.declared.value.Value.{Value}
use Rattle.pm_values.specs.declared.value.Value.TheVariants as value
use Rattle.pm_values.specs.declared.value.Kind.{Kind}
use Rattle.pm_values.specs.declared.value.Kind.TheVariants as kind
use Rattle.pm_values.specs.declared.table.ColumnDecl.{ColumnDecl}
use Rattle.pm_values.specs.Table.{FitsColumn, FitsColumns, IsOfKind}
use Rattle.pm_tables.specs.Field.{HasValue, Writes}
use Rattle.pm_tables.specs.Typing.{WritesRow, WritesRows}

int_fits : (k : Kind) (field : List ℕ) (n : ℤ) → Writes k field (value.Int n) → IsOfKind k (value.Int n)
int_fits kind.Int field n h = h.1
int_fits (kind.Num scale) field n h = h.3
int_fits kind.Text field n h = h

text_fits : (k : Kind) (field t : List ℕ) → Writes k field (value.Text t) → IsOfKind k (value.Text t)
text_fits kind.Int field t h = h
text_fits (kind.Num scale) field t h = h
text_fits kind.Text field t h = tt

null_writes : (k : Kind) (field : List ℕ) → Writes k field value.Null → ⊥
null_writes kind.Int field h = h
null_writes (kind.Num scale) field h = h
null_writes kind.Text field h = h

value_fits : (column : ColumnDecl) (field : List ℕ) (v : Value) → HasValue column field v → FitsColumn column v
value_fits column [] value.Null h = h
value_fits column [] (value.Int n) h = absurd h
value_fits column [] (value.Text t) h = rw h.1 tt
value_fits column (b ∷ field) value.Null h = absurd (null_writes column.kind (b ∷ field) h)
value_fits column (b ∷ field) (value.Int n) h = int_fits column.kind (b ∷ field) n h
value_fits column (b ∷ field) (value.Text t) h = text_fits column.kind (b ∷ field) t h

row_fits : (columns : List ColumnDecl) (fields : List (List ℕ)) (row : List Value) → WritesRow columns fields row → FitsColumns columns row
row_fits [] [] [] h = tt
row_fits [] [] (v ∷ row) h = absurd h
row_fits [] (f ∷ fields) row h = absurd h
row_fits (c ∷ columns) [] row h = absurd h
row_fits (c ∷ columns) (f ∷ fields) [] h = absurd h
row_fits (c ∷ columns) (f ∷ fields) (v ∷ row) h = (value_fits c f v h.0, row_fits columns fields row h.1)

pub rows_fit : (columns : List ColumnDecl) (records : List (List (List ℕ))) (rows : List (List Value)) → WritesRows columns records rows → All (FitsColumns columns) rows
rows_fit columns [] [] h k d lt = absurd (omega arith)
rows_fit columns [] (r ∷ rows) h k d lt = absurd h
rows_fit columns (f ∷ records) [] h k d lt = absurd h
rows_fit columns (f ∷ records) (r ∷ rows) h zero d lt = row_fits columns f r h.0
rows_fit columns (f ∷ records) (r ∷ rows) h (suc k) d lt = rows_fit columns records rows h.1 k d (omega arith)

pub rows_count : (columns : List ColumnDecl) (records : List (List (List ℕ))) (rows : List (List Value)) → WritesRows columns records rows → length rows ≡ length records
rows_count columns [] [] h = refl
rows_count columns [] (r ∷ rows) h = absurd h
rows_count columns (f ∷ records) [] h = absurd h
rows_count columns (f ∷ records) (r ∷ rows) h = ap suc (rows_count columns records rows h.1)

pub range_count : (columns : List ColumnDecl) (records : List (List (List ℕ))) (rows : List (List Value)) (from to : ℕ) → from ≤ to → to ≤ length records
    → WritesRows columns (slice_range records from to) rows → length rows + from ≡ to
range_count columns records rows from to low high h =
    let room : to - from ≤ length (drop from records) = omega (arith, length-drop from records) in
    omega (arith, rows_count columns (slice_range records from to) rows h, length-take-le (to - from) (drop from records) room)
