-- what a load answers, from what is called for
use Rattle.std.proofs.Common.{◌≡◌, ◌∙◌, ◌⊎◌, ℕ, List, ap, inl, inr}
use Rattle.std.specs.Prelude.{Result, Ok, Err, IfErr, IfOk, MatchResult}
use Rattle.pm_values.specs.declared.value.Value.{Value}
use Rattle.pm_values.specs.Table.{Declaration, Relation}
use Rattle.pm_tables.specs.declared.fault.DataBad.{DataBad}
use Rattle.pm_tables.specs.declared.fault.DataBad.TheVariants as bad
use Rattle.pm_tables.specs.Loading.{Faults, IsTable}
use Rattle.pm_tables.proofs.Once.{fault_once, table_faults, table_once}

-- a table or a fault is answered, or want of memory
abbrev pub IsLoaded : Declaration → List ℕ → ℕ → Result Relation DataBad → Type 0
IsLoaded decl bytes most (Ok table) = (table.decl ≡ decl) × IsTable decl bytes most table.rows
IsLoaded decl bytes most (Err e) = (e ≡ bad.Memory) ⊎ Faults decl bytes most e

pub loaded_of : (decl : Declaration) (bytes : List ℕ) (most : ℕ) (r : Result Relation DataBad) → IfOk r (λ table. (table.decl ≡ decl) × IsTable decl bytes most table.rows)
    → IfErr r (λ e. (e ≡ bad.Memory) ⊎ Faults decl bytes most e) → IsLoaded decl bytes most r
loaded_of decl bytes most (Ok table) h k = h
loaded_of decl bytes most (Err e) h k = k

pub table_answered : (decl : Declaration) (bytes : List ℕ) (most : ℕ) (r : Result Relation DataBad) → IsLoaded decl bytes most r
    → (rows : List (List Value)) → IsTable decl bytes most rows → MatchResult r (λ table. table ≡ record { decl = decl; rows = rows }) (λ e. e ≡ bad.Memory)
table_answered decl bytes most (Ok table) h rows k =
    ap (λ d. record table { decl = d }) h.0 ∙ ap (λ rs. record { decl = decl; rows = rs }) (table_once decl bytes most table.rows rows h.1 k)
table_answered decl bytes most (Err e) (inl memory) rows k = memory
table_answered decl bytes most (Err e) (inr h) rows k = absurd (table_faults decl bytes most rows e k h)

pub fault_answered : (decl : Declaration) (bytes : List ℕ) (most : ℕ) (r : Result Relation DataBad) → IsLoaded decl bytes most r
    → (e : DataBad) → Faults decl bytes most e → MatchResult r (λ _. ⊥) (λ f. (f ≡ e) ⊎ (f ≡ bad.Memory))
fault_answered decl bytes most (Ok table) h e k = table_faults decl bytes most table.rows e h.1 k
fault_answered decl bytes most (Err f) (inl memory) e k = inr memory
fault_answered decl bytes most (Err f) (inr h) e k = inl (fault_once decl bytes most f e h k)
