-- all parts of the records of a file
use Rattle.std.proofs.Common.{◌≡◌, ◌≤◌, ◌<◌, ◌-◌, ◌⊎◌, ℕ, List, Result, Ok, Err, length, arith, slice_range, subst, inr}
use Rattle.std.specs.Prelude.{All, IfOk, IfErr}
use Rattle.std.proofs.Math.Seq.{take-length}
use Rattle.pm_values.specs.declared.value.Value.{Value}
use Rattle.pm_values.specs.declared.table.ColumnDecl.{ColumnDecl}
use Rattle.pm_values.specs.Table.{Declaration, FitsColumns}
use Rattle.pm_tables.specs.declared.fault.DataBad.{DataBad}
use Rattle.pm_tables.specs.Reading.{FaultsFile, IsList}
use Rattle.pm_tables.specs.Typing.{WritesRows}
use Rattle.pm_tables.specs.Loading.{FaultsRecords, WritesTable}
use Rattle.pm_tables.proofs.Fitting.{rows_fit, rows_count}
use Rattle.pm_load.specs.Parts.{Types, cut}
use Rattle.pm_load.proofs.Cuts.{cut_none, cut_all}

whole : (records : List (List (List ℕ))) → slice_range records 0 (length records) ≡ records
whole records = let count : length records - 0 ≡ length records = omega arith in rw count (take-length records)

-- the parts from the first to the last are all records
pub all_parts : (columns : List ColumnDecl) (list : List (List (List ℕ))) (workers : ℕ) (r : Result (List (List Value)) DataBad) → 0 < workers
    → Types columns list (cut (length list) workers 0) (cut (length list) workers workers) r → Types columns list 0 (length list) r
all_parts columns list workers r some typed = rw (cut_none (length list) workers, cut_all (length list) workers some) at typed

-- the answer for all records is that for the file
pub all_written : (decl : Declaration) (bytes : List ℕ) (most : ℕ) (list : List (List (List ℕ))) (r : Result (List (List Value)) DataBad)
    → IsList decl.columns bytes most list → Types decl.columns list 0 (length list) r → IfOk r (WritesTable decl bytes most)
all_written decl bytes most list (Ok rows) listed typed =
    record { list = list; listed = listed; typed = subst (λ records. WritesRows decl.columns records rows) (whole list) typed }
all_written decl bytes most list (Err e) listed typed = tt

pub written_fit : (decl : Declaration) (bytes : List ℕ) (most : ℕ) (r : Result (List (List Value)) DataBad) → IfOk r (WritesTable decl bytes most)
    → IfOk r (All (FitsColumns decl.columns))
written_fit decl bytes most (Ok rows) w = rows_fit decl.columns w.list rows w.typed
written_fit decl bytes most (Err e) w = tt

pub written_few : (decl : Declaration) (bytes : List ℕ) (most : ℕ) (r : Result (List (List Value)) DataBad) → IfOk r (WritesTable decl bytes most)
    → IfOk r (λ rows. length rows ≤ most)
written_few decl bytes most (Ok rows) w = omega (arith, rows_count decl.columns w.list rows w.typed, w.listed.2)
written_few decl bytes most (Err e) w = tt

pub all_refused : (decl : Declaration) (bytes : List ℕ) (most : ℕ) (list : List (List (List ℕ))) (r : Result (List (List Value)) DataBad)
    → IsList decl.columns bytes most list → Types decl.columns list 0 (length list) r
    → IfErr r (λ e. FaultsFile decl.columns bytes most e ⊎ FaultsRecords decl bytes most e)
all_refused decl bytes most list (Ok rows) listed typed = tt
all_refused decl bytes most list (Err e) listed typed = inr (record { list = list; listed = listed; first = typed })
