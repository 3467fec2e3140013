-- bytes call for one answer
use Rattle.std.proofs.Common.{◌≡◌, ◌≢◌, ◌∙◌, ◌≤◌, ◌<◌, ◌+◌, ◌⊎◌, ℕ, zero, suc, Option, Some, List, [], ◌∷◌, length, take, refl, sym, ap, subst, arith, inl, inr, slice_get}
use Rattle.std.proofs.lemmas.Bool.{cases_order}
use Rattle.std.proofs.lemmas.Str.{utf8_valid_len-IsValidUpTo}
use Rattle.std.specs.Prelude.{IsUtf8}
use Rattle.std.specs.Str.{IsValidUpTo}
use Rattle.pm_values.specs.declared.value.Value.{Value}
use Rattle.pm_values.specs.declared.table.ColumnDecl.{ColumnDecl}
use Rattle.pm_values.specs.Table.{Declaration}
use Rattle.pm_values.specs.Order.{KeyHolds, IsKey, Ascends, OrderHolds}
use Rattle.pm_tables.specs.declared.fault.DataBad.{DataBad}
use Rattle.pm_tables.specs.declared.fault.DataBad.TheVariants as bad
use Rattle.pm_tables.specs.Reading.{DiffersAt, FaultsFile, IsList, names_of, records_of}
use Rattle.pm_tables.specs.Table.{FallsFirst, FaultsTable, RepeatsFirst}
use Rattle.pm_tables.specs.Loading.{Answer, Rows, Refused, CallsFor, Faults, FaultsRecords, FaultsRows, IsTable, WritesTable}
use Rattle.pm_tables.proofs.RowsOnce.{first_once, rows_fault, rows_once}

get_take : (xs : List (List ℕ)) (n i : ℕ) → i < n → slice_get (take n xs) i ≡ slice_get xs i
get_take xs zero i lt = absurd (omega arith)
get_take [] (suc n) i lt = refl
get_take (x ∷ xs) (suc n) zero lt = refl
get_take (x ∷ xs) (suc n) (suc i) lt = get_take xs n i (omega arith)

-- lists that agree up to a position differ at none before it
agree_before : (xs ys : List (List ℕ)) (i n : ℕ) → i < n → take n xs ≡ take n ys → slice_get xs i ≡ slice_get ys i
agree_before xs ys i n lt same = sym (get_take xs n i lt) ∙ ap (λ zs. slice_get zs i) same ∙ get_take ys n i lt

differs_once : (xs ys : List (List ℕ)) (i j : ℕ) → DiffersAt xs ys i → DiffersAt xs ys j → i ≡ j
differs_once xs ys i j h k = elim (cases_order i j) [
  | inl same ↦ same
  | inr other ↦ elim other [
    | inl low ↦ absurd (h.1 (agree_before xs ys i j low k.0))
    | inr low ↦ absurd (k.1 (agree_before xs ys j i low h.0))
  ]
]

-- why these records, of a text, are no list under the header
abbrev FaultsAll : List ColumnDecl → ℕ → List (List (List ℕ)) → DataBad → Type 0
FaultsAll columns most [] e = e ≡ bad.NoHeader
FaultsAll columns most (header ∷ list) e =
    ((position : ℕ) × (e ≡ bad.Header (position + 1)) × DiffersAt header (names_of columns) position)
    ⊎ ((e ≡ bad.TooManyRows) × (header ≡ names_of columns) × (most < length list))

abbrev IsNotText : List ℕ → DataBad → Type 0
IsNotText bytes e = (n : ℕ) × (e ≡ bad.NotText n) × ¬ (IsUtf8 bytes) × IsValidUpTo bytes n

file_is : (columns : List ColumnDecl) (bytes : List ℕ) (most : ℕ) (e : DataBad) → e ≢ bad.Memory → FaultsFile columns bytes most e
    → IsNotText bytes e ⊎ (IsUtf8 bytes × FaultsAll columns most (records_of bytes) e)
file_is columns bytes most (bad.NotText n) ne h = inl (n, refl, h.0, h.1)
file_is columns bytes most bad.NoHeader ne h = inr (h.0, rw h.1 refl)
file_is columns bytes most (bad.Header c) ne h = inr (h.0, rw h.3 (inl (h.4, ap bad.Header h.5, h.6)))
file_is columns bytes most bad.TooManyRows ne h = inr (h.0, rw h.2 (inr (refl, refl, h.3)))
file_is columns bytes most bad.Memory ne h = absurd (ne refl)
file_is columns bytes most bad.TooLong ne h = absurd h
file_is columns bytes most (bad.Width at) ne h = absurd h
file_is columns bytes most (bad.Field at column) ne h = absurd h
file_is columns bytes most (bad.DoubleKey a b) ne h = absurd h
file_is columns bytes most (bad.OutOfOrder at) ne h = absurd h
file_is columns bytes most (bad.NoTarget r number) ne h = absurd h

all_once : (columns : List ColumnDecl) (most : ℕ) (records : List (List (List ℕ))) (e f : DataBad)
    → FaultsAll columns most records e → FaultsAll columns most records f → e ≡ f
all_once columns most [] e f h k = h ∙ sym k
all_once columns most (header ∷ list) e f (inl h) (inl k) =
    h.1 ∙ ap (λ p. bad.Header (p + 1)) (differs_once header (names_of columns) h.0 k.0 h.2 k.2) ∙ sym k.1
all_once columns most (header ∷ list) e f (inl h) (inr k) = absurd (h.2.1 (ap (λ xs. slice_get xs h.0) k.1))
all_once columns most (header ∷ list) e f (inr h) (inl k) = absurd (k.2.1 (ap (λ xs. slice_get xs k.0) h.1))
all_once columns most (header ∷ list) e f (inr h) (inr k) = h.0 ∙ sym k.0

file_once : (columns : List ColumnDecl) (bytes : List ℕ) (most : ℕ) (e f : DataBad) → e ≢ bad.Memory → f ≢ bad.Memory
    → FaultsFile columns bytes most e → FaultsFile columns bytes most f → e ≡ f
file_once columns bytes most e f ne nf h k = elim (file_is columns bytes most e ne h) [
  | inl a ↦ elim (file_is columns bytes most f nf k) [
    | inl b ↦ a.1 ∙ ap bad.NotText (sym (utf8_valid_len-IsValidUpTo bytes a.0 a.3) ∙ utf8_valid_len-IsValidUpTo bytes b.0 b.3) ∙ sym b.1
    | inr b ↦ absurd (a.2 b.0)
  ]
  | inr a ↦ elim (file_is columns bytes most f nf k) [
    | inl b ↦ absurd (b.2 a.0)
    | inr b ↦ all_once columns most (records_of bytes) e f a.1 b.1
  ]
]

list_faults : (columns : List ColumnDecl) (most : ℕ) (records list : List (List (List ℕ))) (e : DataBad)
    → records ≡ names_of columns ∷ list → length list ≤ most → FaultsAll columns most records e → ⊥
list_faults columns most [] list e is few h = cc is
list_faults columns most (header ∷ all) list e is few (inl h) = let same : header ≡ names_of columns = cc is in h.2.1 (ap (λ xs. slice_get xs h.0) same)
list_faults columns most (header ∷ all) list e is few (inr h) = let same : all ≡ list = cc is in omega (arith, ap length same, few, h.2)

-- a list of records has no fault of a file
file_not : (columns : List ColumnDecl) (bytes : List ℕ) (most : ℕ) (list : List (List (List ℕ))) (e : DataBad) → e ≢ bad.Memory
    → IsList columns bytes most list → FaultsFile columns bytes most e → ⊥
file_not columns bytes most list e ne h k = elim (file_is columns bytes most e ne k) [
  | inl a ↦ a.2 h.0
  | inr a ↦ list_faults columns most (records_of bytes) list e h.1 h.2 a.1
]

list_once : (columns : List ColumnDecl) (bytes : List ℕ) (most : ℕ) (a b : List (List (List ℕ))) → IsList columns bytes most a → IsList columns bytes most b → a ≡ b
list_once columns bytes most a b h k = let both = sym h.1 ∙ k.1 in cc both

repeats_once : (columns : List ℕ) (rows : List (List Value)) (h i j k : ℕ) → RepeatsFirst columns rows h i → RepeatsFirst columns rows j k → (h ≡ j) × (i ≡ k)
repeats_once columns rows h i j k a b = elim (cases_order i k) [
  | inl same ↦ (
    elim (cases_order h j) [
      | inl is ↦ is
      | inr other ↦ elim other [
        | inl low ↦ absurd (b.least h low (rw same at a.same))
        | inr low ↦ absurd (a.least j low (rw (← same) at b.same))
      ]
    ],
    same,
  )
  | inr other ↦ elim other [
    | inl low ↦ absurd (b.first h i a.order low a.same)
    | inr low ↦ absurd (a.first j k b.order low b.same)
  ]
]

falls_once : (columns : List ℕ) (rows : List (List Value)) (i j : ℕ) → FallsFirst columns rows i → FallsFirst columns rows j → i ≡ j
falls_once columns rows i j a b = elim (cases_order i j) [
  | inl same ↦ same
  | inr other ↦ elim other [ inl low ↦ absurd (b.first i low a.falls) | inr low ↦ absurd (a.first j low b.falls) ]
]

abbrev IsRepeat : Declaration → List (List Value) → DataBad → Type 0
IsRepeat decl rows e = (columns : List ℕ) × (decl.key ≡ Some columns) × (i : ℕ) × (j : ℕ) × (e ≡ bad.DoubleKey (i + 1) (j + 1)) × RepeatsFirst columns rows i j

abbrev IsFall : Declaration → List (List Value) → DataBad → Type 0
IsFall decl rows e = KeyHolds decl.key rows × (columns : List ℕ) × (decl.order ≡ Some columns) × (i : ℕ) × (e ≡ bad.OutOfOrder (i + 2)) × FallsFirst columns rows i

table_is : (decl : Declaration) (rows : List (List Value)) (e : DataBad) → e ≢ bad.Memory → FaultsTable decl rows e → IsRepeat decl rows e ⊎ IsFall decl rows e
table_is decl rows (bad.DoubleKey a b) ne h = inl (h.0, h.1, h.2, h.3, ap (λ z. bad.DoubleKey z b) h.4 ∙ ap (bad.DoubleKey (h.2 + 1)) h.5, h.6)
table_is decl rows (bad.OutOfOrder r) ne h = inr (h.0, h.1, h.2, h.3, ap bad.OutOfOrder h.4, h.5)
table_is decl rows bad.Memory ne h = absurd (ne refl)
table_is decl rows bad.TooLong ne h = absurd h
table_is decl rows (bad.NotText n) ne h = absurd h
table_is decl rows bad.NoHeader ne h = absurd h
table_is decl rows (bad.Header c) ne h = absurd h
table_is decl rows bad.TooManyRows ne h = absurd h
table_is decl rows (bad.Width at) ne h = absurd h
table_is decl rows (bad.Field at column) ne h = absurd h
table_is decl rows (bad.NoTarget r number) ne h = absurd h

some_once : {A : Type 0} (o : Option A) (x y : A) → o ≡ Some x → o ≡ Some y → x ≡ y
some_once o x y e f = let both = sym e ∙ f in cc both

key_repeats : (decl : Declaration) (rows : List (List Value)) (e : DataBad) → KeyHolds decl.key rows → IsRepeat decl rows e → ⊥
key_repeats decl rows e holds h =
    let key : IsKey h.0 rows = rw h.1 at holds in
    key h.2 h.3 h.5.order h.5.within h.5.same

order_falls : (decl : Declaration) (rows : List (List Value)) (e : DataBad) → OrderHolds decl.order rows → IsFall decl rows e → ⊥
order_falls decl rows e holds h =
    let ascends : Ascends h.1 rows = rw h.2 at holds in
    ascends h.3 h.5.within h.5.falls

repeat_once : (decl : Declaration) (rows : List (List Value)) (e f : DataBad) → IsRepeat decl rows e → IsRepeat decl rows f → e ≡ f
repeat_once decl rows e f h k =
    let columns = some_once decl.key h.0 k.0 h.1 k.1 in
    let same = repeats_once k.0 rows h.2 h.3 k.2 k.3 (subst (λ z. RepeatsFirst z rows h.2 h.3) columns h.5) k.5 in
    h.4 ∙ ap (λ z. bad.DoubleKey (z + 1) (h.3 + 1)) same.0 ∙ ap (λ z. bad.DoubleKey (k.2 + 1) (z + 1)) same.1 ∙ sym k.4

fall_once : (decl : Declaration) (rows : List (List Value)) (e f : DataBad) → IsFall decl rows e → IsFall decl rows f → e ≡ f
fall_once decl rows e f h k =
    let columns = some_once decl.order h.1 k.1 h.2 k.2 in
    let same = falls_once k.1 rows h.3 k.3 (subst (λ z. FallsFirst z rows h.3) columns h.5) k.5 in
    h.4 ∙ ap (λ z. bad.OutOfOrder (z + 2)) same ∙ sym k.4

order_once : (decl : Declaration) (rows : List (List Value)) (e f : DataBad) → e ≢ bad.Memory → f ≢ bad.Memory
    → FaultsTable decl rows e → FaultsTable decl rows f → e ≡ f
order_once decl rows e f ne nf h k = elim (table_is decl rows e ne h) [
  | inl a ↦ elim (table_is decl rows f nf k) [ inl b ↦ repeat_once decl rows e f a b | inr b ↦ absurd (key_repeats decl rows e b.0 a) ]
  | inr a ↦ elim (table_is decl rows f nf k) [ inl b ↦ absurd (key_repeats decl rows f a.0 b) | inr b ↦ fall_once decl rows e f a b ]
]

table_not : (decl : Declaration) (rows : List (List Value)) (e : DataBad) → e ≢ bad.Memory → KeyHolds decl.key rows → OrderHolds decl.order rows
    → FaultsTable decl rows e → ⊥
table_not decl rows e ne keyed ordered h = elim (table_is decl rows e ne h) [ inl a ↦ key_repeats decl rows e keyed a | inr a ↦ order_falls decl rows e ordered a ]

-- where the bytes write rows no record is at fault
written_not : (decl : Declaration) (bytes : List ℕ) (most : ℕ) (rows : List (List Value)) (e : DataBad) → e ≢ bad.Memory
    → WritesTable decl bytes most rows → FaultsRecords decl bytes most e → ⊥
written_not decl bytes most rows e ne h k =
    let same = list_once decl.columns bytes most h.list k.list h.listed k.listed in
    rows_fault decl.columns k.list rows (length k.list) e ne (omega arith) (rw same at h.typed) k.first

records_once : (decl : Declaration) (bytes : List ℕ) (most : ℕ) (e f : DataBad) → e ≢ bad.Memory → f ≢ bad.Memory
    → FaultsRecords decl bytes most e → FaultsRecords decl bytes most f → e ≡ f
records_once decl bytes most e f ne nf h k =
    let same = list_once decl.columns bytes most h.list k.list h.listed k.listed in
    first_once decl.columns k.list e f ne nf (rw same at h.first) k.first

written_once : (decl : Declaration) (bytes : List ℕ) (most : ℕ) (a b : List (List Value)) → WritesTable decl bytes most a → WritesTable decl bytes most b → a ≡ b
written_once decl bytes most a b h k =
    let same = list_once decl.columns bytes most h.list k.list h.listed k.listed in
    rows_once decl.columns k.list a b (rw same at h.typed) k.typed

-- bytes are one table
pub table_once : (decl : Declaration) (bytes : List ℕ) (most : ℕ) (a b : List (List Value)) → IsTable decl bytes most a → IsTable decl bytes most b → a ≡ b
table_once decl bytes most a b h k = written_once decl bytes most a b h.written k.written

-- a table has no fault
pub table_faults : (decl : Declaration) (bytes : List ℕ) (most : ℕ) (rows : List (List Value)) (e : DataBad) → IsTable decl bytes most rows → Faults decl bytes most e → ⊥
table_faults decl bytes most rows e h k = elim k.1 [
  | inl a ↦ file_not decl.columns bytes most h.written.list e k.0 h.written.listed a
  | inr other ↦ elim other [
    | inl a ↦ written_not decl bytes most rows e k.0 h.written a
    | inr a ↦
        let same = written_once decl bytes most rows a.rows h.written a.written in
        table_not decl a.rows e k.0 (rw same at h.keyed) (rw same at h.ordered) a.first
  ]
]

abbrev AnyFault : Declaration → List ℕ → ℕ → DataBad → Type 0
AnyFault decl bytes most e = FaultsFile decl.columns bytes most e ⊎ FaultsRecords decl bytes most e ⊎ FaultsRows decl bytes most e

rows_fault_once : (decl : Declaration) (bytes : List ℕ) (most : ℕ) (e f : DataBad) → e ≢ bad.Memory → f ≢ bad.Memory
    → FaultsRows decl bytes most e → FaultsRows decl bytes most f → e ≡ f
rows_fault_once decl bytes most e f ne nf h k =
    let same = written_once decl bytes most h.rows k.rows h.written k.written in
    order_once decl k.rows e f ne nf (rw same at h.first) k.first

any_once : (decl : Declaration) (bytes : List ℕ) (most : ℕ) (e f : DataBad) → e ≢ bad.Memory → f ≢ bad.Memory
    → AnyFault decl bytes most e → AnyFault decl bytes most f → e ≡ f
any_once decl bytes most e f ne nf (inl h) (inl k) = file_once decl.columns bytes most e f ne nf h k
any_once decl bytes most e f ne nf (inl h) (inr (inl k)) = absurd (file_not decl.columns bytes most k.list e ne k.listed h)
any_once decl bytes most e f ne nf (inl h) (inr (inr k)) = absurd (file_not decl.columns bytes most k.written.list e ne k.written.listed h)
any_once decl bytes most e f ne nf (inr (inl h)) (inl k) = absurd (file_not decl.columns bytes most h.list f nf h.listed k)
any_once decl bytes most e f ne nf (inr (inl h)) (inr (inl k)) = records_once decl bytes most e f ne nf h k
any_once decl bytes most e f ne nf (inr (inl h)) (inr (inr k)) = absurd (written_not decl bytes most k.rows e ne k.written h)
any_once decl bytes most e f ne nf (inr (inr h)) (inl k) = absurd (file_not decl.columns bytes most h.written.list f nf h.written.listed k)
any_once decl bytes most e f ne nf (inr (inr h)) (inr (inl k)) = absurd (written_not decl bytes most h.rows f nf h.written k)
any_once decl bytes most e f ne nf (inr (inr h)) (inr (inr k)) = rows_fault_once decl bytes most e f ne nf h k

-- bytes have one fault
pub fault_once : (decl : Declaration) (bytes : List ℕ) (most : ℕ) (e f : DataBad) → Faults decl bytes most e → Faults decl bytes most f → e ≡ f
fault_once decl bytes most e f h k = any_once decl bytes most e f h.0 k.0 h.1 k.1

-- bytes call for one answer
pub calls_once : (decl : Declaration) (bytes : List ℕ) (most : ℕ) (a b : Answer) → CallsFor decl bytes most a → CallsFor decl bytes most b → a ≡ b
calls_once decl bytes most (Rows a) (Rows b) h k = ap Rows (table_once decl bytes most a b h k)
calls_once decl bytes most (Rows a) (Refused f) h k = absurd (table_faults decl bytes most a f h k)
calls_once decl bytes most (Refused e) (Rows b) h k = absurd (table_faults decl bytes most b e k h)
calls_once decl bytes most (Refused e) (Refused f) h k = ap Refused (fault_once decl bytes most e f h k)
