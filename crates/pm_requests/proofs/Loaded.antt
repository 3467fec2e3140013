-- Tables that are loaded one after the other.
use Rattle.std.proofs.Common.{◌≡◌, ◌<◌, ◌+◌, ◌∙◌, ℕ, zero, suc, ap, sym, subst, List, [], ◌∷◌, ◌++◌, length, take, drop, get_or, map, Option, Some, None, Ok, Err, refl, arith}
use Rattle.std.specs.Prelude.{IfSome}
use Rattle.std.proofs.lemmas.List.{take_more}
use Rattle.pm_io.specs.Files.{Held}
use Rattle.pm_values.specs.Table.{Relation}
use Rattle.pm_plan.specs.Rows.{decls_of}
use Rattle.pm_query.specs.declared.query.QueryTable.{QueryTable}
use Rattle.pm_requests.specs.declared.refusal.Role.{Role}
use Rattle.pm_requests.specs.declared.refusal.Role.TheVariants as role
use Rattle.pm_requests.specs.declared.refusal.Refusal.{Refusal}
use Rattle.pm_requests.specs.Files.{TableFile}
use Rattle.pm_requests.specs.Tables.{AreLoaded, IsTurnOf, TablesGive}
use Rattle.pm_requests.specs.Calls.{IfAnswered}
use Rattle.pm_requests.specs.Stops.{IsFileOf, IsTableFile}
use Rattle.pm_requests.proofs.Stages.{refused_so}

loaded_push : (held : Held) (tables : List QueryTable) (db : List Relation) (table : QueryTable) (relation : Relation) → AreLoaded held tables db → TableFile held table (Ok relation)
    → AreLoaded held (tables ++ table ∷ []) (db ++ relation ∷ [])
loaded_push held [] [] table relation h here = (here, tt)
loaded_push held [] (x ∷ db) table relation h here = absurd h
loaded_push held (x ∷ tables) [] table relation h here = absurd h
loaded_push held (x ∷ tables) (y ∷ db) table relation h here = (h.0, loaded_push held tables db table relation h.1 here)

-- one more table was loaded
pub loaded_more : (told : Option Held) (tables : List QueryTable) (i : ℕ) (table : QueryTable) (db : List Relation) (relation : Relation) → i < length tables → table ≡ get_or tables i table
    → IfSome told (λ held. AreLoaded held (take i tables) db) → IfSome told (λ held. TableFile held table (Ok relation))
    → IfSome told (λ held. AreLoaded held (take (i + 1) tables) (db ++ relation ∷ []))
loaded_more None tables i table db relation within is before here = tt
loaded_more (Some held) tables i table db relation within is before here =
    let parts : take i tables ++ table ∷ [] ≡ take (i + 1) tables = ap (λ t. take i tables ++ t ∷ []) is ∙ sym (take_more tables i table within) in
    subst (λ front. AreLoaded held front (db ++ relation ∷ [])) parts (loaded_push held (take i tables) db table relation before here)

parted : (tables : List QueryTable) (i : ℕ) (table : QueryTable) → i < length tables → table ≡ get_or tables i table → tables ≡ take i tables ++ table ∷ drop (suc i) tables
parted [] i table within is = absurd (omega arith)
parted (x ∷ tables) zero table within is = ap (λ t. t ∷ tables) (sym is)
parted (x ∷ tables) (suc i) table within is = ap (λ ts. x ∷ ts) (parted tables i table (omega arith) is)

-- the turn of this table came
pub turn_of : (told : Option Held) (tables : List QueryTable) (i : ℕ) (table : QueryTable) (db : List Relation) → i < length tables → table ≡ get_or tables i table
    → IfSome told (λ held. AreLoaded held (take i tables) db) → IfSome told (λ held. IsTurnOf held tables table)
turn_of None tables i table db within is before = tt
turn_of (Some held) tables i table db within is before =
    record { before = take i tables; behind = drop (suc i) tables; is = parted tables i table within is; db = db; loaded = before }

-- and it was refused
pub turn_refused : (told : Option Held) (tables : List QueryTable) (table : QueryTable) (r : Refusal) → IfSome told (λ held. IsTurnOf held tables table)
    → IfSome told (λ held. IfAnswered (TableFile held table) (Err r)) → IfSome told (λ held. IfAnswered (TablesGive held tables) (Err r))
turn_refused None tables table r turn h = tt
turn_refused (Some held) tables table r turn h = refused_so (λ r. TableFile held table (Err r)) (λ r. TablesGive held tables (Err r)) (λ r p. (table, turn, p)) r h

pub table_file : (told : Option Held) (tables : List QueryTable) (table : QueryTable) → IfSome told (λ held. IsTurnOf held tables table)
    → (r : Role) (n : List ℕ) → IsFileOf (role.Table table.place) table.decl.file r n → IsTableFile told tables r n
table_file told tables table turn r n h = (table, h.0, h.1, turn)

-- one more is declared as its table
pub declared_more : (tables : List QueryTable) (i : ℕ) (table : QueryTable) (db : List Relation) (relation : Relation) → i < length tables → table ≡ get_or tables i table
    → decls_of db ≡ map (λ t. t.decl) (take i tables) → relation.decl ≡ table.decl → decls_of (db ++ relation ∷ []) ≡ map (λ t. t.decl) (take (i + 1) tables)
declared_more tables i table db relation within is before here =
    let parts : take i tables ++ table ∷ [] ≡ take (i + 1) tables = ap (λ t. take i tables ++ t ∷ []) is ∙ sym (take_more tables i table within) in
    decls_push db relation ∙ ap (λ ds. ds ++ relation.decl ∷ []) before ∙ ap (λ d. map (λ t. t.decl) (take i tables) ++ d ∷ []) here ∙ sym (tables_push (take i tables) table) ∙ ap (map (λ t. t.decl)) parts
  where
    decls_push : (db : List Relation) (relation : Relation) → decls_of (db ++ relation ∷ []) ≡ decls_of db ++ relation.decl ∷ []
    decls_push [] relation = refl
    decls_push (x ∷ db) relation = ap (λ ds. x.decl ∷ ds) (decls_push db relation)

    tables_push : (tables : List QueryTable) (table : QueryTable) → map (λ t. t.decl) (tables ++ table ∷ []) ≡ map (λ t. t.decl) tables ++ table.decl ∷ []
    tables_push [] table = refl
    tables_push (x ∷ tables) table = ap (λ ds. x.decl ∷ ds) (tables_push tables table)
