-- records that are typed in parts
use Rattle.std.specs.Prelude.{◌≡◌, ℕ, ◌*◌, ◌/◌, ◌++◌, List, Result, Ok, Err, MatchResult, slice_range}
use Rattle.pm_values.specs.declared.value.Value.{Value}
use Rattle.pm_values.specs.declared.table.ColumnDecl.{ColumnDecl}
use Rattle.pm_tables.specs.declared.fault.DataBad.{DataBad}
use Rattle.pm_tables.specs.declared.fault.DataBad.TheVariants as bad
use Rattle.pm_tables.specs.Typing.{FaultsFirst, WritesRows}

-- these are the rows of the records from one position up to below another, or the fault of the first of them that writes none, or want of memory
abbrev pub Types : List ColumnDecl → List (List (List ℕ)) → ℕ → ℕ → Result (List (List Value)) DataBad → Type 0
Types columns records from to (Ok rows) = WritesRows columns (slice_range records from to) rows
Types columns records from to (Err e) = FaultsFirst columns records from to e

-- the rows of both parts, or the refusal of the earlier one, or want of memory
abbrev pub Joins : Result (List (List Value)) DataBad → Result (List (List Value)) DataBad → Result (List (List Value)) DataBad → Type 0
Joins (Ok rows) (Ok more) joined = MatchResult joined (λ all. all ≡ rows ++ more) (λ e. e ≡ bad.Memory)
Joins (Ok rows) (Err e) joined = joined ≡ Err e
Joins (Err e) back joined = joined ≡ Err e

-- where part i of n records begins, by w workers
abbrev pub cut : ℕ → ℕ → ℕ → ℕ
cut n w i = i * n / w
