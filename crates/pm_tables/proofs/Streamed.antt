-- rows that are typed as their records are read
use Rattle.std.proofs.Common.{◌≡◌, ◌≤◌, ◌<◌, ◌+◌, ◌-◌, ◌⊎◌, ◌++◌, ℕ, List, [], ◌∷◌, length, get_or, append_assoc, arith, inl, inr, slice_range}
use Rattle.std.proofs.Math.Seq.{get_or-append_seam, take-append_seam}
use Rattle.std.proofs.lemmas.List.{length-append}
use Rattle.std.specs.Prelude.{All, Result, Ok, Err, IfErr, IfOk, IsUtf8}
use Rattle.csv.specs.Reading.{strip_bom}
use Rattle.pm_values.specs.declared.value.Value.{Value}
use Rattle.pm_values.specs.declared.table.ColumnDecl.{ColumnDecl}
use Rattle.pm_values.specs.Table.{Declaration, FitsColumns}
use Rattle.pm_tables.specs.declared.fault.DataBad.{DataBad}
use Rattle.pm_tables.specs.declared.fault.DataBad.TheVariants as bad
use Rattle.pm_tables.specs.HasRead.{HasMore}
use Rattle.pm_tables.specs.Loading.{FaultsBehind, FaultsRecords, WritesBehind, WritesTable}
use Rattle.pm_tables.specs.Reading.{FaultsFile, names_of}
use Rattle.pm_tables.specs.Typing.{FaultsRecord, WritesRows}
use Rattle.pm_tables.proofs.Fitting.{rows_count, rows_fit}

-- the records behind a fault are too many
pub late_behind : (columns : List ColumnDecl) (text : List ℕ) (header : List (List ℕ)) (list : List (List (List ℕ))) (taken : List (List ℕ)) (most left : ℕ) (e : DataBad)
    → length list + 1 + left ≡ most
    → (e ≡ bad.Memory) ⊎ ((e ≡ bad.TooManyRows) × HasMore text (header ∷ (list ++ taken ∷ [])) (λ count. left < count))
    → FaultsBehind columns text header most e
late_behind columns text header list taken most left e size (inl memory) = inl (inl memory)
late_behind columns text header list taken most left e size (inr late) =
    inl (inr (
      late.0,
      (list ++ taken ∷ []) ++ late.1.0,
      late.1.1,
      omega (arith, size, late.1.2, length-append list (taken ∷ []), length-append (list ++ taken ∷ []) late.1.0),
    ))

-- the first record that writes no row, and not too many behind it
pub fault_behind : (columns : List ColumnDecl) (text : List ℕ) (header : List (List ℕ)) (list : List (List (List ℕ))) (taken : List (List ℕ)) (most left : ℕ)
    (rows : List (List Value)) (e : DataBad) → length list + 1 + left ≡ most → WritesRows columns list rows → FaultsRecord columns taken (length list + 1) e
    → HasMore text (header ∷ (list ++ taken ∷ [])) (λ count. count ≤ left) → FaultsBehind columns text header most e
fault_behind columns text header list taken most left rows e size writes fault h =
    let more = h.0 in
    let all = (list ++ taken ∷ []) ++ more in
    let one = length-append list (taken ∷ []) in
    let two = length-append (list ++ taken ∷ []) more in
    let parts : all ≡ list ++ (taken ∷ more) = append_assoc list (taken ∷ []) more in
    let whole : length list - 0 ≡ length list = omega arith in
    let front : slice_range all 0 (length list) ≡ list = rw (whole, parts) (take-append_seam list (taken ∷ more)) in
    let here : get_or all (length list) [] ≡ taken = rw parts (get_or-append_seam list taken more []) in
    inr (
      all,
      h.1,
      omega (arith, size, h.2, one, two),
      inr (length list, omega arith, omega (arith, one, two), (rows, rw front writes), rw here fault),
    )

-- the table of the records behind the header
pub table_written : (decl : Declaration) (bytes : List ℕ) (most : ℕ) (r : Result (List (List Value)) DataBad) → IsUtf8 bytes
    → IfOk r (WritesBehind decl.columns (strip_bom bytes) (names_of decl.columns) most) → IfOk r (WritesTable decl bytes most)
table_written decl bytes most (Ok rows) utf8 h = record { list = h.0; listed = (utf8, h.1, h.2); typed = h.3 }
table_written decl bytes most (Err e) utf8 h = tt

faults_refused : (decl : Declaration) (bytes : List ℕ) (most : ℕ) (e : DataBad) → IsUtf8 bytes
    → FaultsBehind decl.columns (strip_bom bytes) (names_of decl.columns) most e → FaultsFile decl.columns bytes most e ⊎ FaultsRecords decl bytes most e
faults_refused decl bytes most e utf8 (inl (inl memory)) = inl (rw memory tt)
faults_refused decl bytes most e utf8 (inl (inr late)) = inl (rw late.0 (utf8, late.1, late.2, late.3))
faults_refused decl bytes most e utf8 (inr h) = inr (record { list = h.0; listed = (utf8, h.1, h.2); first = h.3 })

pub table_refused : (decl : Declaration) (bytes : List ℕ) (most : ℕ) (r : Result (List (List Value)) DataBad) → IsUtf8 bytes
    → IfErr r (FaultsBehind decl.columns (strip_bom bytes) (names_of decl.columns) most)
    → IfErr r (λ e. FaultsFile decl.columns bytes most e ⊎ FaultsRecords decl bytes most e)
table_refused decl bytes most (Ok rows) utf8 h = tt
table_refused decl bytes most (Err e) utf8 h = faults_refused decl bytes most e utf8 h

pub table_fits : (decl : Declaration) (bytes : List ℕ) (most : ℕ) (r : Result (List (List Value)) DataBad)
    → IfOk r (WritesTable decl bytes most) → IfOk r (All (FitsColumns decl.columns))
table_fits decl bytes most (Ok rows) h = rows_fit decl.columns h.list rows h.typed
table_fits decl bytes most (Err e) h = tt

pub table_few : (decl : Declaration) (bytes : List ℕ) (most : ℕ) (r : Result (List (List Value)) DataBad)
    → IfOk r (WritesTable decl bytes most) → IfOk r (λ rows. length rows ≤ most)
table_few decl bytes most (Ok rows) h = omega (arith, rows_count decl.columns h.list rows h.typed, h.listed.2)
table_few decl bytes most (Err e) h = tt
