-- The rows that the statement asks for are the answer of the request that is called for.
use Rattle.std.proofs.Common.{◌≡◌, ◌≤◌, ◌∙◌, ℕ, ap, sym, subst, List, [], ◌∷◌, length, map, Option, Some, None, Result, Ok, Err, refl, inl, inr}
use Rattle.std.specs.Prelude.{IsSomeAnd}
use Rattle.pm_io.specs.Files.{Held}
use Rattle.pm_values.specs.Table.{Declaration, Relation}
use Rattle.pm_syntax.specs.declared.tree.Select.{Select}
use Rattle.pm_tables.specs.declared.fault.DataBad.TheVariants as bad
use Rattle.pm_tables.specs.Loading.{Answer, Rows, Refused}
use Rattle.pm_plan.specs.Rows.{Db, decls_of}
use Rattle.pm_query.specs.declared.query.Query.{Query}
use Rattle.pm_query.specs.declared.query.QueryTable.{QueryTable}
use Rattle.pm_query.specs.Answer.{answer}
use Rattle.pm_binder.specs.Laws.{IsFormed}
use Rattle.pm_binder.specs.Meaning.{select_rows}
use Rattle.pm_binder.proofs.RowLaw.{rows_are_answers}
use Rattle.pm_requests.specs.declared.refusal.Role.{Role}
use Rattle.pm_requests.specs.declared.refusal.Role.TheVariants as role
use Rattle.pm_requests.specs.declared.refusal.Refusal.{Refusal}
use Rattle.pm_requests.specs.declared.refusal.Refusal.TheVariants as refusal
use Rattle.pm_requests.specs.declared.request.Request.{Request}
use Rattle.pm_requests.specs.Texts.{Then, SelectText}
use Rattle.pm_requests.specs.Files.{FileGives, Refusing, too_long, text_limit, table_limit, SchemaFile, QueryFile, Binds, TableGives, TableFile, answered}
use Rattle.pm_requests.specs.Tables.{AreLoaded, TablesGive}
use Rattle.pm_requests.specs.References.{Completes}
use Rattle.pm_requests.specs.Calls.{Asks, Calls}
use Rattle.pm_requests.proofs.Bound.{refused_ok, bound_of, select_formed}
use Rattle.pm_requests.proofs.Once.{schema_file_once, query_file_once}

some_of : (file : Option (List ℕ)) (P : List ℕ → Type 0) → IsSomeAnd file P → (bytes : List ℕ) × P bytes
some_of None P h = absurd h
some_of (Some bytes) P h = (bytes, h)

-- a file that is not refused has bytes, and they give this
given_by : {A : Type 0} (file : Option (List ℕ)) (role : Role) (name : List ℕ) (limit : ℕ) (long : Refusal) (next : List ℕ → Result A Refusal → Type 0) (a : A)
    → FileGives file role name limit long next (Ok a) → (bytes : List ℕ) × (length bytes ≤ limit) × next bytes (Ok a)
given_by file role name limit long next a (inl h) = absurd (cc h.2)
given_by file role name limit long next a (inr h) = let some = some_of file (λ bytes. (length bytes ≤ limit) × next bytes (Ok a)) h in (some.0, some.1.0, some.1.1)

-- ---- tables

relation_decl : (table : QueryTable) (found : Answer) (relation : Relation) → Ok relation ≡ answered table found → relation.decl ≡ table.decl
relation_decl table (Rows rows) relation is = let same : relation ≡ record { decl = table.decl; rows = rows } = cc is in ap (λ (t : Relation). t.decl) same
relation_decl table (Refused e) relation is = absurd (cc is)

file_decl : (held : Held) (table : QueryTable) (relation : Relation) → TableFile held table (Ok relation) → relation.decl ≡ table.decl
file_decl held table relation h = let given = given_by (held table.decl.file) (role.Table table.place) table.decl.file table_limit (refusal.Table table.place table.decl.name bad.TooLong) (TableGives table) relation h in relation_decl table given.2.0 relation given.2.2

loaded_decls : (held : Held) (tables : List QueryTable) (db : List Relation) → AreLoaded held tables db → decls_of db ≡ map (λ table. table.decl) tables
loaded_decls held [] [] h = refl
loaded_decls held [] (x ∷ db) h = absurd h
loaded_decls held (table ∷ tables) [] h = absurd h
loaded_decls held (table ∷ tables) (x ∷ db) h =
    ap (λ d. d ∷ decls_of db) (file_decl held table x h.0) ∙ ap (λ ds. table.decl ∷ ds) (loaded_decls held tables db h.1)

-- ---- the steps behind an answer that is no refusal

then_ok : {A B E : Type 0} (P : Result A E → Type 0) (Q : A → Result B E → Type 0) (b : B) → Then P Q (Ok b) → (a : A) × P (Ok a) × Q a (Ok b)
then_ok P Q b (Ok a, p, q) = (a, p, q)
then_ok P Q b (Err e, p, q) = absurd (cc q)

completed : (query : Query) (db : Db) (request : Request) → Completes query db (Ok request) → request ≡ record { query = query; db = db }
completed query db request (inl h) = cc h.1
completed query db request (inr h) = absurd (cc h.2)

formed_of : (held : Held) (name : List ℕ) (select : Select) → QueryFile held name (Ok select) → IsFormed select
formed_of held name select h =
    let given = given_by (held name) role.Query name text_limit (refusal.Query too_long) (λ bytes. Refusing refusal.Query (SelectText bytes)) select h in
    let (found, said, is) = given.2 in
    select_formed given.0 select (subst (SelectText given.0) (refused_ok refusal.Query found select is) said)

asked_rows : (held : Held) (query : List ℕ) (decls : List Declaration) (select : Select) (found : Query) (db : Db) → QueryFile held query (Ok select) → Binds decls select (Ok found)
    → AreLoaded held found.tables db → select_rows select decls db ≡ answer found db
asked_rows held query decls select found db file binds loaded =
    rows_are_answers select decls found (formed_of held query select file) (bound_of decls select found binds) db (loaded_decls held found.tables db loaded)

pub requests_are_answered : (held : Held) (schema query : List ℕ) (decls : List Declaration) (select : Select) (request : Request)
    → SchemaFile held schema (Ok decls) → QueryFile held query (Ok select) → Calls held schema query (Ok request) → select_rows select decls request.db ≡ answer request.query request.db
requests_are_answered held schema query decls select request s q calls =
    let (found, asks, further) = then_ok (Asks held schema query) (λ (found : Query). Then (TablesGive held found.tables) (Completes found)) request calls in
    let (db, loaded, completes) = then_ok (TablesGive held found.tables) (Completes found) request further in
    let (decls', s', texts) = then_ok (SchemaFile held schema) (λ decls. Then (QueryFile held query) (Binds decls)) found asks in
    let (select', q', binds) = then_ok (QueryFile held query) (Binds decls') found texts in
    let one : Ok decls' ≡ Ok decls = schema_file_once held schema (Ok decls') (Ok decls) s' s in
    let two : Ok select' ≡ Ok select = query_file_once held query (Ok select') (Ok select) q' q in
    let same_decls : decls' ≡ decls = cc one in
    let same_select : select' ≡ select = cc two in
    let moved = subst (λ (x : Select). Binds decls x (Ok found)) same_select (subst (λ (x : List Declaration). Binds x select' (Ok found)) same_decls binds) in
    let rows = asked_rows held query decls select found db q moved loaded in
    subst (λ (r : Request). select_rows select decls r.db ≡ answer r.query r.db) (sym (completed found db request completes)) rows
