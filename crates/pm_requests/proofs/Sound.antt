-- A request whose query is asked for and whose references hold is sound.
use Rattle.std.proofs.Common.{◌≡◌, ◌≤◌, ◌<◌, ◌+◌, ◌-◌, ◌∙◌, ℕ, zero, suc, true, ap, sym, subst, List, [], ◌∷◌, length, get_or, slice_get, Option, Some, None, refl, arith}
use Rattle.std.specs.Prelude.{All}
use Rattle.std.specs.Str.{bytes_eq}
use Rattle.std.proofs.lemmas.List.{length-map}
use Rattle.std.proofs.lemmas.List.Elements.{All-map, All-weaker}
use Rattle.std.proofs.lemmas.Option.{slice_get_read, slice_get-map, get_or_from_slice_get}
use Rattle.pm_lexer.proofs.Boundary.{bytes_same}
use Rattle.pm_values.specs.declared.table.Reference.{Reference}
use Rattle.pm_values.specs.References.{ReferenceHolds}
use Rattle.pm_values.specs.Table.{Relation, IsDeclaration, IsRelation}
use Rattle.pm_plan.specs.Rows.{Db, decls_of}
use Rattle.pm_work.specs.Fits.{ReferencesBetween}
use Rattle.pm_query.specs.declared.query.Query.{Query}
use Rattle.pm_query.specs.declared.query.QueryTable.{QueryTable}
use Rattle.pm_query.specs.Build.{decls_in}
use Rattle.pm_tables.specs.References.{reference_of}
use Rattle.pm_answers.specs.Databases.{AllReferencesHold}
use Rattle.pm_requests.specs.References.{AllHold}
use Rattle.pm_requests.specs.Checks.{HasFewReferences}
use Rattle.pm_requests.specs.Requests.{IsAsked, IsSound}

-- a reference of one table that names another, at these positions
one_holds : (db : Db) → AllHold db → (i j k : ℕ) (child parent : Relation) (reference : Reference) → slice_get db i ≡ Some child → slice_get db j ≡ Some parent → k < length child.decl.references
    → reference ≡ get_or child.decl.references k reference → bytes_eq parent.decl.name reference.target ≡ true → ReferenceHolds reference child.rows parent.rows
one_holds db holds i j k child parent reference at to within is named =
    let shifted : k + 1 - 1 ≡ k = omega arith in
    let none : Reference = record { columns = []; target = []; keys = [] } in
    let there : slice_get child.decl.references k ≡ Some reference = slice_get_read child.decl.references (length child.decl.references) k reference refl within is in
    let same : reference_of child.decl (k + 1) ≡ reference = ap (λ (m : ℕ). get_or child.decl.references m none) shifted ∙ get_or_from_slice_get child.decl.references k reference none there in
    let target : (reference_of child.decl (k + 1)).target ≡ parent.decl.name = ap (λ (r : Reference). r.target) same ∙ sym (bytes_same parent.decl.name reference.target named) in
    subst (λ (r : Reference). ReferenceHolds r child.rows parent.rows) same (holds i (k + 1) j child parent (record { child_at = at; parent_at = to; from = omega arith; to = omega arith; named = target }))

between : (db : Db) → AllHold db → (i j : ℕ) (child parent : Option Relation) → slice_get db i ≡ child → slice_get db j ≡ parent → ReferencesBetween db i j
between db holds i j None parent at to = rw (slice_get-map (λ (t : Relation). t.decl) db i, at) (λ k d lt. absurd (omega arith))
between db holds i j (Some child) None at to =
    rw (slice_get-map (λ (t : Relation). t.decl) db i, slice_get-map (λ (t : Relation). t.decl) db j, at, to) (λ k d lt named. absurd (cc named))
between db holds i j (Some child) (Some parent) at to =
    rw (slice_get-map (λ (t : Relation). t.decl) db i, slice_get-map (λ (t : Relation). t.decl) db j, at, to)
    (λ k d lt named. one_holds db holds i j k child parent (get_or child.decl.references k d) at to lt (read child.decl.references k d lt) named)
  where
    read : (xs : List Reference) (k : ℕ) (d : Reference) → k < length xs → get_or xs k d ≡ get_or xs k (get_or xs k d)
    read [] k d lt = absurd (omega arith)
    read (x ∷ xs) zero d lt = refl
    read (x ∷ xs) (suc k) d lt = read xs k d (omega arith)

pub references_hold : (db : Db) → AllHold db → AllReferencesHold db
references_hold db holds i j = between db holds i j (slice_get db i) (slice_get db j) refl refl

declared_so : (db : Db) → All IsRelation db → All IsDeclaration (decls_of db)
declared_so db tables = All-map IsDeclaration (λ (t : Relation). t.decl) db (All-weaker IsRelation (λ (t : Relation). IsDeclaration t.decl) (λ t is. is.declared) db tables)

pub sound_of : (query : Query) (db : Db) → IsAsked query → decls_of db ≡ decls_in query → All IsRelation db → AllHold db → IsSound (record { query = query; db = db })
sound_of query db asked declared tables holds = record {
  bound = asked.bound;
  narrow = record { tables = subst (All IsDeclaration) declared (declared_so db tables); outputs = asked.outputs };
  meets = record { declared = declared; tables = tables; references = references_hold db holds };
}

-- the tables have as few references as the query's
pub few_of : (query : Query) (db : Db) → decls_of db ≡ decls_in query → All (λ table. HasFewReferences table.decl) query.tables → All (λ table. HasFewReferences table.decl) db
few_of query db declared few k d lt =
    let all : All HasFewReferences (decls_of db) = subst (All HasFewReferences) (sym declared) (All-map HasFewReferences (λ (t : QueryTable). t.decl) query.tables few) in
    subst HasFewReferences (named db k d lt) (all k d.decl (rw (length-map db (λ (t : Relation). t.decl)) lt))
  where
    named : (db : Db) (k : ℕ) (d : Relation) → k < length db → get_or (decls_of db) k d.decl ≡ (get_or db k d).decl
    named [] k d lt = absurd (omega arith)
    named (x ∷ db) zero d lt = refl
    named (x ∷ db) (suc k) d lt = named db k d (omega arith)

pub each_of : (query : Query) (db : Db) → decls_of db ≡ decls_in query → length db ≤ length query.tables
each_of query db declared =
    let same : length db ≡ length query.tables = sym (length-map db (λ (t : Relation). t.decl)) ∙ ap length declared ∙ length-map query.tables (λ (t : QueryTable). t.decl) in omega arith
