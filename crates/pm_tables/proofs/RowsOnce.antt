-- records write one list of rows, or have one first fault
use Rattle.std.proofs.Common.{◌≡◌, ◌≢◌, ◌∙◌, ◌≤◌, ◌<◌, ◌+◌, ◌-◌, ◌⊎◌, ℕ, zero, suc, List, [], ◌∷◌, length, get_or, take, refl, sym, ap, subst, arith, inl, inr, slice_range}
use Rattle.std.proofs.lemmas.Bool.{cases_order}
use Rattle.std.proofs.lemmas.List.{get_or-take, length-take-le}
use Rattle.std.specs.Str.Parse.{signed_digits_value, without_leading_sign}
use Rattle.pm_values.specs.declared.value.Value.{Value}
use Rattle.pm_values.specs.declared.value.Value.TheVariants as value
use Rattle.pm_values.specs.declared.value.Kind.{Kind}
use Rattle.pm_values.specs.declared.value.Kind.TheVariants as kind
use Rattle.pm_values.specs.declared.table.ColumnDecl.{ColumnDecl}
use Rattle.pm_tables.specs.declared.fault.DataBad.{DataBad}
use Rattle.pm_tables.specs.declared.fault.DataBad.TheVariants as bad
use Rattle.pm_tables.specs.Field.{HasValue, IsEmptyValue, Writes, point_of, with_sign_of}
use Rattle.pm_tables.specs.Typing.{FaultsFirst, FaultsRecord, LacksFirst, WritesRow, WritesRows}
use Rattle.pm_tables.proofs.Decimals.{scaled_once}

empty_once : (column : ColumnDecl) (v w : Value) → IsEmptyValue column v → IsEmptyValue column w → v ≡ w
empty_once column value.Null value.Null h k = refl
empty_once column value.Null (value.Int n) h k = absurd k
empty_once column value.Null (value.Text t) h k = absurd (k.0 h)
empty_once column (value.Int n) w h k = absurd h
empty_once column (value.Text s) value.Null h k = absurd (h.0 k)
empty_once column (value.Text s) (value.Int n) h k = absurd k
empty_once column (value.Text s) (value.Text t) h k = ap value.Text (h.2 ∙ sym k.2)

int_is : (field : List ℕ) (v : Value) → Writes kind.Int field v → v ≡ value.Int (signed_digits_value 10 field)
int_is field value.Null h = absurd h
int_is field (value.Int n) h = ap value.Int h.2
int_is field (value.Text t) h = absurd h

text_is : (field : List ℕ) (v : Value) → Writes kind.Text field v → v ≡ value.Text field
text_is field value.Null h = absurd h
text_is field (value.Int n) h = absurd h
text_is field (value.Text t) h = ap value.Text h

num_once : (scale : ℕ) (field : List ℕ) (v w : Value) → Writes (kind.Num scale) field v → Writes (kind.Num scale) field w → v ≡ w
num_once scale field value.Null w h k = absurd h
num_once scale field (value.Text t) w h k = absurd h
num_once scale field (value.Int m) value.Null h k = absurd k
num_once scale field (value.Int m) (value.Text t) h k = absurd k
num_once scale field (value.Int m) (value.Int n) h k =
    let digits = without_leading_sign field in
    let same = scaled_once scale digits (point_of digits) h.0 k.0 h.1 k.1 in
    ap value.Int (h.2 ∙ ap (with_sign_of field) same ∙ sym k.2)

writes_once : (k : Kind) (field : List ℕ) (v w : Value) → Writes k field v → Writes k field w → v ≡ w
writes_once kind.Int field v w h i = int_is field v h ∙ sym (int_is field w i)
writes_once (kind.Num scale) field v w h i = num_once scale field v w h i
writes_once kind.Text field v w h i = text_is field v h ∙ sym (text_is field w i)

-- a field has one value
pub value_once : (column : ColumnDecl) (field : List ℕ) (v w : Value) → HasValue column field v → HasValue column field w → v ≡ w
value_once column [] v w h k = empty_once column v w h k
value_once column (b ∷ field) v w h k = writes_once column.kind (b ∷ field) v w h k

cons_once : {A : Type 0} (x y : A) (xs ys : List A) → x ≡ y → xs ≡ ys → x ∷ xs ≡ y ∷ ys
cons_once x y xs ys e f = ap (λ z. z ∷ xs) e ∙ ap (λ zs. y ∷ zs) f

-- a record writes one row
pub row_once : (columns : List ColumnDecl) (fields : List (List ℕ)) (a b : List Value) → WritesRow columns fields a → WritesRow columns fields b → a ≡ b
row_once [] [] [] [] h k = refl
row_once [] [] [] (w ∷ b) h k = absurd k
row_once [] [] (v ∷ a) b h k = absurd h
row_once [] (f ∷ fields) a b h k = absurd h
row_once (c ∷ columns) [] a b h k = absurd h
row_once (c ∷ columns) (f ∷ fields) [] b h k = absurd h
row_once (c ∷ columns) (f ∷ fields) (v ∷ a) [] h k = absurd k
row_once (c ∷ columns) (f ∷ fields) (v ∷ a) (w ∷ b) h k = cons_once v w a b (value_once c f v w h.0 k.0) (row_once columns fields a b h.1 k.1)

-- records write one list of rows
pub rows_once : (columns : List ColumnDecl) (records : List (List (List ℕ))) (a b : List (List Value)) → WritesRows columns records a → WritesRows columns records b → a ≡ b
rows_once columns [] [] [] h k = refl
rows_once columns [] [] (r ∷ b) h k = absurd k
rows_once columns [] (r ∷ a) b h k = absurd h
rows_once columns (f ∷ records) [] b h k = absurd h
rows_once columns (f ∷ records) (r ∷ a) [] h k = absurd k
rows_once columns (f ∷ records) (r ∷ a) (s ∷ b) h k = cons_once r s a b (row_once columns f r s h.0 k.0) (rows_once columns records a b h.1 k.1)

lacks_once : (columns : List ColumnDecl) (fields : List (List ℕ)) (i j : ℕ) → LacksFirst columns fields i → LacksFirst columns fields j → i ≡ j
lacks_once [] fields i j h k = absurd h
lacks_once (c ∷ columns) [] i j h k = absurd h
lacks_once (c ∷ columns) (f ∷ fields) zero zero h k = refl
lacks_once (c ∷ columns) (f ∷ fields) zero (suc j) h k = absurd (h k.0 k.1)
lacks_once (c ∷ columns) (f ∷ fields) (suc i) zero h k = absurd (k h.0 h.1)
lacks_once (c ∷ columns) (f ∷ fields) (suc i) (suc j) h k = ap suc (lacks_once columns fields i j h.2 k.2)

row_lacks : (columns : List ColumnDecl) (fields : List (List ℕ)) (row : List Value) (i : ℕ) → WritesRow columns fields row → LacksFirst columns fields i → ⊥
row_lacks [] fields row i h k = k
row_lacks (c ∷ columns) [] row i h k = k
row_lacks (c ∷ columns) (f ∷ fields) [] i h k = h
row_lacks (c ∷ columns) (f ∷ fields) (v ∷ row) zero h k = k v h.0
row_lacks (c ∷ columns) (f ∷ fields) (v ∷ row) (suc i) h k = row_lacks columns fields row i h.1 k.2

row_width : (columns : List ColumnDecl) (fields : List (List ℕ)) (row : List Value) → WritesRow columns fields row → length fields ≡ length columns
row_width [] [] row h = refl
row_width [] (f ∷ fields) row h = absurd h
row_width (c ∷ columns) [] row h = absurd h
row_width (c ∷ columns) (f ∷ fields) [] h = absurd h
row_width (c ∷ columns) (f ∷ fields) (v ∷ row) h = ap suc (row_width columns fields row h.1)

-- the two faults of a record
abbrev IsWidth : List ColumnDecl → List (List ℕ) → ℕ → DataBad → Type 0
IsWidth columns fields r e = (e ≡ bad.Width r) × (length fields ≢ length columns)

abbrev IsField : List ColumnDecl → List (List ℕ) → ℕ → DataBad → Type 0
IsField columns fields r e = (position : ℕ) × (e ≡ bad.Field r (position + 1)) × (length fields ≡ length columns) × LacksFirst columns fields position

record_is : (columns : List ColumnDecl) (fields : List (List ℕ)) (r : ℕ) (e : DataBad) → e ≢ bad.Memory → FaultsRecord columns fields r e
    → IsWidth columns fields r e ⊎ IsField columns fields r e
record_is columns fields r (bad.Width at) ne h = inl (ap bad.Width h.0, h.1)
record_is columns fields r (bad.Field at column) ne h = inr (h.2, ap (λ z. bad.Field z column) h.0 ∙ ap (bad.Field r) h.3, h.1, h.4)
record_is columns fields r bad.Memory ne h = absurd (ne refl)
record_is columns fields r bad.TooLong ne h = absurd h
record_is columns fields r (bad.NotText n) ne h = absurd h
record_is columns fields r bad.NoHeader ne h = absurd h
record_is columns fields r (bad.Header c) ne h = absurd h
record_is columns fields r bad.TooManyRows ne h = absurd h
record_is columns fields r (bad.DoubleKey a b) ne h = absurd h
record_is columns fields r (bad.OutOfOrder at) ne h = absurd h
record_is columns fields r (bad.NoTarget at number) ne h = absurd h

record_once : (columns : List ColumnDecl) (fields : List (List ℕ)) (r : ℕ) (e f : DataBad) → e ≢ bad.Memory → f ≢ bad.Memory
    → FaultsRecord columns fields r e → FaultsRecord columns fields r f → e ≡ f
record_once columns fields r e f ne nf h k = elim (record_is columns fields r e ne h) [
  | inl w ↦ elim (record_is columns fields r f nf k) [ inl x ↦ w.0 ∙ sym x.0 | inr y ↦ absurd (w.1 y.2) ]
  | inr y ↦ elim (record_is columns fields r f nf k) [
    | inl x ↦ absurd (x.1 y.2)
    | inr z ↦ y.1 ∙ ap (λ p. bad.Field r (p + 1)) (lacks_once columns fields y.0 z.0 y.3 z.3) ∙ sym z.1
  ]
]

row_faults : (columns : List ColumnDecl) (fields : List (List ℕ)) (row : List Value) (r : ℕ) (e : DataBad) → e ≢ bad.Memory
    → WritesRow columns fields row → FaultsRecord columns fields r e → ⊥
row_faults columns fields row r e ne h k = elim (record_is columns fields r e ne k) [
  | inl w ↦ w.1 (row_width columns fields row h)
  | inr y ↦ row_lacks columns fields row y.0 h y.3
]

-- the row of one of the records
row_of : (columns : List ColumnDecl) (records : List (List (List ℕ))) (rows : List (List Value)) (at : ℕ) → WritesRows columns records rows → at < length records
    → (row : List Value) × WritesRow columns (get_or records at []) row
row_of columns [] rows at h lt = absurd (omega arith)
row_of columns (f ∷ records) [] at h lt = absurd h
row_of columns (f ∷ records) (r ∷ rows) zero h lt = (r, h.0)
row_of columns (f ∷ records) (r ∷ rows) (suc at) h lt = row_of columns records rows at h.1 (omega arith)

-- where records write their rows none of them is at fault
pub rows_fault : (columns : List ColumnDecl) (records : List (List (List ℕ))) (rows : List (List Value)) (to : ℕ) (e : DataBad) → e ≢ bad.Memory
    → to ≤ length records → WritesRows columns records rows → FaultsFirst columns records 0 to e → ⊥
rows_fault columns records rows to e ne room h (inl memory) = ne memory
rows_fault columns records rows to e ne room h (inr k) =
    let row = row_of columns records rows k.0 h (omega (arith, k.2)) in
    row_faults columns (get_or records k.0 []) row.0 (k.0 + 1) e ne row.1 k.4

-- of two records at fault, with all before each sound, none is before the other
not_before : (columns : List ColumnDecl) (records : List (List (List ℕ))) (rows : List (List Value)) (i j r : ℕ) (e : DataBad) → e ≢ bad.Memory
    → j < length records → i < j → WritesRows columns (slice_range records 0 j) rows → FaultsRecord columns (get_or records i []) r e → ⊥
not_before columns records rows i j r e ne within low h k =
    let room : j ≤ length records = omega arith in
    let all : j - 0 ≡ j = omega arith in
    let front : WritesRows columns (take j records) rows = rw all at h in
    let row = row_of columns (take j records) rows i front (omega (arith, length-take-le j records room)) in
    row_faults columns (get_or records i []) row.0 r e ne (rw (get_or-take j records i [] low) at row.1) k

-- records have one first fault
pub first_once : (columns : List ColumnDecl) (records : List (List (List ℕ))) (e f : DataBad) → e ≢ bad.Memory → f ≢ bad.Memory
    → FaultsFirst columns records 0 (length records) e → FaultsFirst columns records 0 (length records) f → e ≡ f
first_once columns records e f ne nf (inl memory) k = absurd (ne memory)
first_once columns records e f ne nf (inr h) (inl memory) = absurd (nf memory)
first_once columns records e f ne nf (inr h) (inr k) = elim (cases_order h.0 k.0) [
  | inl same ↦
      let there : FaultsRecord columns (get_or records h.0 []) (h.0 + 1) f = subst (λ at. FaultsRecord columns (get_or records at []) (at + 1) f) (sym same) k.4 in
      record_once columns (get_or records h.0 []) (h.0 + 1) e f ne nf h.4 there
  | inr other ↦ elim other [
    | inl low ↦ absurd (not_before columns records k.3.0 h.0 k.0 (h.0 + 1) e ne k.2 low k.3.1 h.4)
    | inr low ↦ absurd (not_before columns records h.3.0 k.0 h.0 (k.0 + 1) f nf h.2 low h.3.1 k.4)
  ]
]
