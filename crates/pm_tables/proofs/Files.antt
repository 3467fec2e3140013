-- the records of a file, from those of a text behind its header
use Rattle.std.proofs.Common.{◌≡◌, ◌≤◌, ◌∷◌, ℕ, List, length, inl, inr}
use Rattle.std.specs.Prelude.{Result, Ok, Err, IfOk, IfErr, IsUtf8}
use Rattle.csv.specs.Reading.{strip_bom}
use Rattle.pm_values.specs.declared.table.ColumnDecl.{ColumnDecl}
use Rattle.pm_tables.specs.declared.fault.DataBad.{DataBad}
use Rattle.pm_tables.specs.HasRead.{EndsTooLate}
use Rattle.pm_tables.specs.Reading.{FaultsFile, IsList, names_of, records_of}

pub listed_of : (columns : List ColumnDecl) (bytes : List ℕ) (most : ℕ) (header : List (List ℕ)) (r : Result (List (List (List ℕ))) DataBad)
    → IfOk r (λ list. (records_of bytes ≡ header ∷ list) × (length list ≤ most)) → IsUtf8 bytes → header ≡ names_of columns
    → IfOk r (IsList columns bytes most)
listed_of columns bytes most header (Ok list) h utf8 same = (utf8, rw same at h.0, h.1)
listed_of columns bytes most header (Err e) h utf8 same = tt

faults_of : (columns : List ColumnDecl) (bytes : List ℕ) (most : ℕ) (header : List (List ℕ)) (e : DataBad)
    → EndsTooLate (strip_bom bytes) header most e → IsUtf8 bytes → header ≡ names_of columns → FaultsFile columns bytes most e
faults_of columns bytes most header e (inl memory) utf8 same = rw memory tt
faults_of columns bytes most header e (inr late) utf8 same = rw late.0 (utf8, late.1, rw same at late.2, late.3)

pub refused_of : (columns : List ColumnDecl) (bytes : List ℕ) (most : ℕ) (header : List (List ℕ)) (r : Result (List (List (List ℕ))) DataBad)
    → IfErr r (EndsTooLate (strip_bom bytes) header most) → IsUtf8 bytes → header ≡ names_of columns → IfErr r (FaultsFile columns bytes most)
refused_of columns bytes most header (Ok list) h utf8 same = tt
refused_of columns bytes most header (Err e) h utf8 same = faults_of columns bytes most header e h utf8 same
