-- the rows that records write, as far as they are read
use Rattle.std.proofs.Common.{◌≡◌, ◌∙◌, ◌≤◌, ◌<◌, ◌+◌, ◌-◌, ◌++◌, ℕ, zero, suc, List, [], ◌∷◌, length, get_or, take, drop, ap, arith, add-one, slice_range}
use Rattle.std.proofs.Math.Seq.{take-length, take-suc}
use Rattle.std.proofs.lemmas.List.{get_or-drop, length-drop}
use Rattle.pm_values.specs.declared.value.Value.{Value}
use Rattle.pm_values.specs.declared.table.ColumnDecl.{ColumnDecl}
use Rattle.pm_tables.specs.Field.{HasValue, HasNoValue}
use Rattle.pm_tables.specs.Typing.{LacksFirst, WritesRow, WritesRows}

writes_suc : (columns : List ColumnDecl) (fields : List (List ℕ)) (row : List Value) (i : ℕ) (column : ColumnDecl) (v : Value)
    → WritesRow (take i columns) (take i fields) row → i < length columns → i < length fields
    → column ≡ get_or columns i column → HasValue column (get_or fields i []) v
    → WritesRow (take (suc i) columns) (take (suc i) fields) (row ++ v ∷ [])
writes_suc [] fields row i column v read here there is has = absurd (omega arith)
writes_suc (c ∷ columns) [] row i column v read here there is has = absurd (omega arith)
writes_suc (c ∷ columns) (f ∷ fields) [] zero column v read here there is has = (rw (← is) has, tt)
writes_suc (c ∷ columns) (f ∷ fields) (w ∷ row) zero column v read here there is has = absurd read
writes_suc (c ∷ columns) (f ∷ fields) [] (suc i) column v read here there is has = absurd read
writes_suc (c ∷ columns) (f ∷ fields) (w ∷ row) (suc i) column v read here there is has =
    (read.0, writes_suc columns fields row i column v read.1 (omega arith) (omega arith) is has)

-- one more field with its value
pub writes_more : (columns : List ColumnDecl) (fields : List (List ℕ)) (row : List Value) (i : ℕ) (column : ColumnDecl) (v : Value)
    → WritesRow (take i columns) (take i fields) row → i < length columns → i < length fields
    → column ≡ get_or columns i column → HasValue column (get_or fields i []) v
    → WritesRow (take (i + 1) columns) (take (i + 1) fields) (row ++ v ∷ [])
writes_more columns fields row i column v read here there is has =
    rw add-one (writes_suc columns fields row i column v read here there is has)

-- the first field that has no value
pub lacks_here : (columns : List ColumnDecl) (fields : List (List ℕ)) (row : List Value) (i : ℕ) (column : ColumnDecl)
    → WritesRow (take i columns) (take i fields) row → i < length columns → i < length fields
    → column ≡ get_or columns i column → HasNoValue column (get_or fields i []) → LacksFirst columns fields i
lacks_here [] fields row i column read here there is none = absurd (omega arith)
lacks_here (c ∷ columns) [] row i column read here there is none = absurd (omega arith)
lacks_here (c ∷ columns) (f ∷ fields) row zero column read here there is none = rw (← is) none
lacks_here (c ∷ columns) (f ∷ fields) [] (suc i) column read here there is none = absurd read
lacks_here (c ∷ columns) (f ∷ fields) (w ∷ row) (suc i) column read here there is none =
    (w, read.0, lacks_here columns fields row i column read.1 (omega arith) (omega arith) is none)

-- all fields are read
pub writes_all : (columns : List ColumnDecl) (fields : List (List ℕ)) (row : List Value) (i : ℕ)
    → i ≡ length columns → length fields ≡ length columns → WritesRow (take i columns) (take i fields) row → WritesRow columns fields row
writes_all columns fields row i all width read =
    let also : i ≡ length fields = omega arith in
    let left : take i columns ≡ columns = rw all (take-length columns) in
    let right : take i fields ≡ fields = rw also (take-length fields) in
    rw (left, right) at read

pub rows_suc : (columns : List ColumnDecl) (records : List (List (List ℕ))) (rows : List (List Value)) (fields : List (List ℕ)) (row : List Value)
    → WritesRows columns records rows → WritesRow columns fields row → WritesRows columns (records ++ fields ∷ []) (rows ++ row ∷ [])
rows_suc columns [] [] fields row read one = (one, tt)
rows_suc columns [] (r ∷ rows) fields row read one = absurd read
rows_suc columns (f ∷ records) [] fields row read one = absurd read
rows_suc columns (f ∷ records) (r ∷ rows) fields row read one = (read.0, rows_suc columns records rows fields row read.1 one)

-- one more record
range_more : (records : List (List (List ℕ))) (from at : ℕ) → from ≤ at → at < length records
    → slice_range records from (at + 1) ≡ slice_range records from at ++ get_or records at [] ∷ []
range_more records from at low high =
    let count : at + 1 - from ≡ suc (at - from) = omega arith in
    let within : at - from < length (drop from records) = omega (arith, length-drop from records) in
    let position : from + (at - from) ≡ at = omega arith in
    rw count (take-suc (drop from records) (at - from) [] within
    ∙ ap (λ f. take (at - from) (drop from records) ++ f ∷ []) (get_or-drop from records (at - from) [] ∙ ap (λ k. get_or records k []) position))

pub rows_more : (columns : List ColumnDecl) (records : List (List (List ℕ))) (rows : List (List Value)) (from at : ℕ) (row : List Value)
    → WritesRows columns (slice_range records from at) rows → from ≤ at → at < length records → WritesRow columns (get_or records at []) row
    → WritesRows columns (slice_range records from (at + 1)) (rows ++ row ∷ [])
rows_more columns records rows from at row read low high one =
    rw (range_more records from at low high) (rows_suc columns (slice_range records from at) rows (get_or records at []) row read one)
