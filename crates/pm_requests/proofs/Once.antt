-- The files call for one answer.
use Rattle.std.proofs.Common.{◌≡◌, ◌≢◌, ◌⊎◌, ◌∙◌, ◌<◌, ◌+◌, ℕ, List, [], ◌∷◌, ◌++◌, Option, Some, None, Result, Ok, Err, refl, sym, ap, subst, inl, inr, arith, slice_get}
use Rattle.std.specs.Prelude.{IfSome, IfErr, IsErrOf}
use Rattle.std.proofs.lemmas.Bool.{cases_order}
use Rattle.std.proofs.lemmas.Str.{utf8_valid_len-IsValidUpTo}
use Rattle.pm_values.specs.declared.value.Value.{Value}
use Rattle.pm_values.specs.declared.table.Reference.{Reference}
use Rattle.pm_values.specs.declared.limits.TheConstants.{MOST_RECORDS}
use Rattle.pm_values.specs.References.{ReferenceHolds}
use Rattle.pm_values.specs.Table.{Declaration, Relation}
use Rattle.pm_io.specs.Files.{Held}
use Rattle.pm_refusals.specs.declared.word.Word.TheVariants as word
use Rattle.pm_lexer.specs.declared.token.Token.{Token}
use Rattle.pm_lexer.specs.Tokens.{tokens_of}
use Rattle.pm_syntax.specs.declared.tree.Select.{Select}
use Rattle.pm_plan.specs.Rows.{Db}
use Rattle.pm_query.specs.declared.query.Query.{Query}
use Rattle.pm_query.specs.declared.query.QueryTable.{QueryTable}
use Rattle.pm_binder.specs.Bound.{bound}
use Rattle.pm_tables.specs.declared.fault.DataBad.{DataBad}
use Rattle.pm_tables.specs.declared.fault.DataBad.TheVariants as bad
use Rattle.pm_tables.specs.References.{FaultsReference, LacksTargetFirst, reference_of}
use Rattle.pm_requests.specs.declared.texts.Fault.{Fault}
use Rattle.pm_requests.specs.declared.refusal.Role.{Role}
use Rattle.pm_requests.specs.declared.refusal.Role.TheVariants as role
use Rattle.pm_requests.specs.declared.refusal.Refusal.{Refusal}
use Rattle.pm_requests.specs.declared.refusal.Refusal.TheVariants as refusal
use Rattle.pm_requests.specs.declared.request.Request.{Request}
use Rattle.pm_requests.specs.Texts.{GoesOn, Then, lexing_fault, binding_fault, IsFault, Shows, TextGives, SelectGives, SchemaGives, SelectText, SchemaText, QueryGives, syntax_fault, schema_fault}
use Rattle.pm_requests.specs.Files.{FileRefuses, FileGives, refused, Refusing, too_long, text_limit, table_limit, SchemaFile, QueryFile, Binds, TableGives, TableFile, answered}
use Rattle.pm_requests.specs.Tables.{AreLoaded, IsTurnOf, TablesGive}
use Rattle.pm_requests.specs.References.{HoldsBetween, AllHold, FaultsBetween, ComesBefore, FaultsFirst, IsFaultOf, Completes}
use Rattle.pm_requests.specs.Calls.{Asks, Calls, IfAnswered, IfRefused}
use Rattle.pm_requests.specs.Stops.{OnReadFault}
use Rattle.pm_syntax.proofs.WholeReading as syntax
use Rattle.pm_schema.proofs.Called as schema
use Rattle.pm_tables.proofs.Once as tables

-- there is at most one
abbrev pub Once : {A : Type 0} → (A → Type 0) → Type 0
Once {A} P = (a b : A) → P a → P b → a ≡ b

-- ---- steps

goes_once : {A B E : Type 0} (Q : A → Result B E → Type 0) → ((a : A) → Once (Q a)) → (first : Result A E) (a b : Result B E) → GoesOn Q first a → GoesOn Q first b → a ≡ b
goes_once Q one (Ok x) a b h k = one x a b h k
goes_once Q one (Err e) a b h k = h ∙ sym k

then_once : {A B E : Type 0} (P : Result A E → Type 0) (Q : A → Result B E → Type 0) → Once P → ((a : A) → Once (Q a)) → Once (Then P Q)
then_once P Q one next a b h k = goes_once Q next k.0 a b (subst (λ f. GoesOn Q f a) (one h.0 k.0 h.1 k.1) h.2) k.2

-- ---- texts

fault_once : {A : Type 0} (fault : Option Fault) (a b : Result A Fault) → IsFault fault a → IsFault fault b → a ≡ b
fault_once None a b h k = absurd h
fault_once (Some fault) a b h k = h ∙ sym k

shows_once : {A E : Type 0} (fault_of : E → Option Fault) (answer : Result A E) (a b : Result A Fault) → Shows fault_of answer a → Shows fault_of answer b → a ≡ b
shows_once fault_of (Ok x) a b h k = h ∙ sym k
shows_once fault_of (Err e) a b h k = fault_once (fault_of e) a b h k

text_once : (bytes : List ℕ) → Once (TextGives bytes)
text_once bytes a b (inl h) (inl k) =
    h.3 ∙ ap (λ n. Err (record { word = word.NotText; at = n })) (sym (utf8_valid_len-IsValidUpTo bytes h.0 h.2) ∙ utf8_valid_len-IsValidUpTo bytes k.0 k.2) ∙ sym k.3
text_once bytes a b (inl h) (inr k) = absurd (h.1 k.0)
text_once bytes a b (inr h) (inl k) = absurd (k.1 h.0)
text_once bytes a b (inr h) (inr k) = shows_once lexing_fault (tokens_of bytes) a b h.1 k.1

select_once : (tokens : List Token) → Once (SelectGives tokens)
select_once tokens a b h k = shows_once syntax_fault k.0 a b (subst (λ x. Shows syntax_fault x a) (syntax.one_answer tokens h.0 k.0 h.1 k.1) h.2) k.2

schema_once : (tokens : List Token) → Once (SchemaGives tokens)
schema_once tokens a b h k = shows_once schema_fault k.0 a b (subst (λ x. Shows schema_fault x a) (schema.one_answer tokens h.0 k.0 h.1 k.1) h.2) k.2

-- ---- files

refuses_once : (file : Option (List ℕ)) (role : Role) (name : List ℕ) (limit : ℕ) (long : Refusal) → Once (FileRefuses file role name limit long)
refuses_once None role name limit long a b h k = h ∙ sym k
refuses_once (Some bytes) role name limit long a b h k = h.1 ∙ sym k.1

file_once : {A : Type 0} (file : Option (List ℕ)) (role : Role) (name : List ℕ) (limit : ℕ) (long : Refusal) (next : List ℕ → Result A Refusal → Type 0)
    → ((bytes : List ℕ) → Once (next bytes)) → Once (FileGives file role name limit long next)
file_once file role name limit long next one a b (inl h) (inl k) = h.2 ∙ ap Err (refuses_once file role name limit long h.0 k.0 h.1 k.1) ∙ sym k.2
file_once None role name limit long next one a b (inl h) (inr k) = absurd k
file_once None role name limit long next one a b (inr h) k = absurd h
file_once (Some bytes) role name limit long next one a b (inl h) (inr k) = absurd (omega (arith, h.1.0, k.0))
file_once (Some bytes) role name limit long next one a b (inr h) (inl k) = absurd (omega (arith, k.1.0, h.0))
file_once (Some bytes) role name limit long next one a b (inr h) (inr k) = one bytes a b h.1 k.1

refusing_once : {A : Type 0} (f : Fault → Refusal) (P : Result A Fault → Type 0) → Once P → Once (Refusing f P)
refusing_once f P one a b h k = h.2 ∙ ap (refused f) (one h.0 k.0 h.1 k.1) ∙ sym k.2

pub schema_file_once : (held : Held) (name : List ℕ) → Once (SchemaFile held name)
schema_file_once held name =
    file_once (held name) role.Schema name text_limit (refusal.Schema too_long) (λ bytes. Refusing refusal.Schema (SchemaText bytes))
    (λ bytes. refusing_once refusal.Schema (SchemaText bytes) (then_once (TextGives bytes) SchemaGives (text_once bytes) schema_once))

pub query_file_once : (held : Held) (name : List ℕ) → Once (QueryFile held name)
query_file_once held name =
    file_once (held name) role.Query name text_limit (refusal.Query too_long) (λ bytes. Refusing refusal.Query (SelectText bytes))
    (λ bytes. refusing_once refusal.Query (SelectText bytes) (then_once (TextGives bytes) SelectGives (text_once bytes) select_once))

binds_once : (decls : List Declaration) (select : Select) → Once (Binds decls select)
binds_once decls select = refusing_once refusal.Binding (QueryGives decls select) (shows_once binding_fault (bound select decls))

pub asks_once : (held : Held) (schema query : List ℕ) → Once (Asks held schema query)
asks_once held schema query =
    then_once (SchemaFile held schema) (λ decls. Then (QueryFile held query) (Binds decls)) (schema_file_once held schema)
    (λ decls. then_once (QueryFile held query) (Binds decls) (query_file_once held query) (binds_once decls))

-- ---- tables

table_once : (table : QueryTable) (bytes : List ℕ) → Once (TableGives table bytes)
table_once table bytes a b h k = h.2 ∙ ap (answered table) (tables.calls_once table.decl bytes MOST_RECORDS h.0 k.0 h.1 k.1) ∙ sym k.2

table_file_once : (held : Held) (table : QueryTable) → Once (TableFile held table)
table_file_once held table =
    file_once (held table.decl.file) (role.Table table.place) table.decl.file table_limit (refusal.Table table.place table.decl.name bad.TooLong) (TableGives table) (table_once table)

loaded_once : (held : Held) (tables : List QueryTable) (a b : List Relation) → AreLoaded held tables a → AreLoaded held tables b → a ≡ b
loaded_once held [] [] [] h k = refl
loaded_once held [] [] (y ∷ b) h k = absurd k
loaded_once held [] (x ∷ a) b h k = absurd h
loaded_once held (table ∷ tables) [] b h k = absurd h
loaded_once held (table ∷ tables) (x ∷ a) [] h k = absurd k
loaded_once held (table ∷ tables) (x ∷ a) (y ∷ b) h k =
    let here : Ok x ≡ Ok y = table_file_once held table (Ok x) (Ok y) h.0 k.0 in
    let same : x ≡ y = cc here in
    ap (λ z. z ∷ a) same ∙ ap (λ zs. y ∷ zs) (loaded_once held tables a b h.1 k.1)

-- a table that is loaded is not refused
loaded_there : (held : Held) (before : List QueryTable) (table : QueryTable) (behind : List QueryTable) (db : List Relation) → AreLoaded held (before ++ table ∷ behind) db → (relation : Relation) × TableFile held table (Ok relation)
loaded_there held [] table behind [] h = absurd h
loaded_there held [] table behind (x ∷ db) h = (x, h.0)
loaded_there held (t ∷ before) table behind [] h = absurd h
loaded_there held (t ∷ before) table behind (x ∷ db) h = loaded_there held before table behind db h.1

loaded_refused : (held : Held) (table : QueryTable) (relation : Relation) (r : Refusal) → TableFile held table (Ok relation) → TableFile held table (Err r) → ⊥
loaded_refused held table relation r h k = let same : Ok relation ≡ Err r = table_file_once held table (Ok relation) (Err r) h k in cc same

loaded_no_turn : (held : Held) (tables : List QueryTable) (db : List Relation) (r : Refusal) (table : QueryTable) → AreLoaded held tables db → IsTurnOf held tables table → TableFile held table (Err r) → ⊥
loaded_no_turn held tables db r table loaded turn refuses =
    let there = loaded_there held turn.before table turn.behind db (subst (λ ts. AreLoaded held ts db) turn.is loaded) in
    loaded_refused held table there.0 r there.1 refuses

-- two tables are not both the first that is refused
first_once : (held : Held) (b : List QueryTable) (t : QueryTable) (e : List QueryTable) (c : List QueryTable) (u : QueryTable) (f : List QueryTable) (x y : List Relation) (r s : Refusal)
    → b ++ t ∷ e ≡ c ++ u ∷ f → AreLoaded held b x → AreLoaded held c y → TableFile held t (Err r) → TableFile held u (Err s) → r ≡ s
first_once held [] t e [] u f x y r s is h k p q =
    let one : t ≡ u = cc is in
    let same : Err r ≡ Err s = table_file_once held u (Err r) (Err s) (subst (λ z. TableFile held z (Err r)) one p) q in
    cc same
first_once held [] t e (v ∷ c) u f x [] r s is h k p q = absurd k
first_once held [] t e (v ∷ c) u f x (z ∷ y) r s is h k p q =
    let one : t ≡ v = cc is in absurd (loaded_refused held v z r k.0 (subst (λ w. TableFile held w (Err r)) one p))
first_once held (v ∷ b) t e [] u f [] y r s is h k p q = absurd h
first_once held (v ∷ b) t e [] u f (z ∷ x) y r s is h k p q =
    let one : v ≡ u = cc is in absurd (loaded_refused held u z s (subst (λ w. TableFile held w (Ok z)) one h.0) q)
first_once held (v ∷ b) t e (w ∷ c) u f [] y r s is h k p q = absurd h
first_once held (v ∷ b) t e (w ∷ c) u f (z ∷ x) [] r s is h k p q = absurd k
first_once held (v ∷ b) t e (w ∷ c) u f (z ∷ x) (z' ∷ y) r s is h k p q =
    let rest : b ++ t ∷ e ≡ c ++ u ∷ f = cc is in first_once held b t e c u f x y r s rest h.1 k.1 p q

tables_once : (held : Held) (tables : List QueryTable) → Once (TablesGive held tables)
tables_once held tables (Ok a) (Ok b) h k = ap Ok (loaded_once held tables a b h k)
tables_once held tables (Ok a) (Err s) h (u, turn, refuses) = absurd (loaded_no_turn held tables a s u h turn refuses)
tables_once held tables (Err r) (Ok b) (t, turn, refuses) k = absurd (loaded_no_turn held tables b r t k turn refuses)
tables_once held tables (Err r) (Err s) (t, one, p) (u, other, q) =
    ap Err (first_once held one.before t one.behind other.before u other.behind one.db other.db r s (sym one.is ∙ other.is) one.loaded other.loaded p q)

-- ---- references

-- the fault of a reference is that of its first row without a target
lacking : (reference : Reference) (number : ℕ) (rows targets : List (List Value)) (e : DataBad) → e ≢ bad.Memory → FaultsReference reference number rows targets e
    → (i : ℕ) × (e ≡ bad.NoTarget (i + 1) number) × LacksTargetFirst reference rows targets i
lacking reference number rows targets (bad.NoTarget r n) real h = (h.1, ap (λ z. bad.NoTarget z n) h.2 ∙ ap (bad.NoTarget (h.1 + 1)) h.0, h.3)
lacking reference number rows targets bad.Memory real h = absurd (real refl)
lacking reference number rows targets bad.TooLong real h = absurd h
lacking reference number rows targets (bad.NotText n) real h = absurd h
lacking reference number rows targets bad.NoHeader real h = absurd h
lacking reference number rows targets (bad.Header c) real h = absurd h
lacking reference number rows targets bad.TooManyRows real h = absurd h
lacking reference number rows targets (bad.Width at) real h = absurd h
lacking reference number rows targets (bad.Field at column) real h = absurd h
lacking reference number rows targets (bad.DoubleKey a b) real h = absurd h
lacking reference number rows targets (bad.OutOfOrder at) real h = absurd h

lacks_or_has : (reference : Reference) (rows targets : List (List Value)) (i j : ℕ) → i < j → LacksTargetFirst reference rows targets i
    → LacksTargetFirst reference rows targets j → ⊥
lacks_or_has reference rows targets i j lt h k = let there = k.first i lt in cc (h.lacks, there)

lacks_once : (reference : Reference) (rows targets : List (List Value)) (i j : ℕ) → LacksTargetFirst reference rows targets i → LacksTargetFirst reference rows targets j → i ≡ j
lacks_once reference rows targets i j h k = elim (cases_order i j) [
  | inl same ↦ same
  | inr other ↦ elim other [ inl lt ↦ absurd (lacks_or_has reference rows targets i j lt h k) | inr lt ↦ absurd (lacks_or_has reference rows targets j i lt k h) ]
]

-- a reference that holds has no fault
holds_or_faults : (reference : Reference) (number : ℕ) (rows targets : List (List Value)) (e : DataBad) → e ≢ bad.Memory → ReferenceHolds reference rows targets
    → FaultsReference reference number rows targets e → ⊥
holds_or_faults reference number rows targets e real holds faults =
    let lacks = lacking reference number rows targets e real faults in
    let there = holds lacks.0 [] lacks.2.within in
    cc (lacks.2.lacks, there)

reference_fault_once : (reference : Reference) (number : ℕ) (rows targets : List (List Value)) (e f : DataBad) → e ≢ bad.Memory → f ≢ bad.Memory
    → FaultsReference reference number rows targets e → FaultsReference reference number rows targets f → e ≡ f
reference_fault_once reference number rows targets e f real one h k =
    let a = lacking reference number rows targets e real h in
    let b = lacking reference number rows targets f one k in
    a.1 ∙ ap (λ i. bad.NoTarget (i + 1) number) (lacks_once reference rows targets a.0 b.0 a.2 b.2) ∙ sym b.1

one_there : (db : Db) (i : ℕ) (a b : Relation) → slice_get db i ≡ Some a → slice_get db i ≡ Some b → a ≡ b
one_there db i a b h k = let same : Some a ≡ Some b = sym h ∙ k in cc same

pub holds_no_fault : (db : Db) (i number j : ℕ) (e : DataBad) → HoldsBetween db i number j → FaultsBetween db i number j e → ⊥
holds_no_fault db i number j e holds h =
    holds_or_faults (reference_of h.child.decl number) number h.child.rows h.parent.rows e h.real (holds h.child h.parent h.refers) h.faults

between_once : (db : Db) (i number j : ℕ) (e f : DataBad) → FaultsBetween db i number j e → FaultsBetween db i number j f → e ≡ f
between_once db i number j e f h k =
    let own = one_there db i h.child k.child h.refers.child_at k.refers.child_at in
    let other = one_there db j h.parent k.parent h.refers.parent_at k.refers.parent_at in
    let moved = subst (λ (t : Relation). FaultsReference (reference_of t.decl number) number t.rows h.parent.rows e) own h.faults in
    reference_fault_once (reference_of k.child.decl number) number k.child.rows k.parent.rows e f h.real k.real
    (subst (λ (t : Relation). FaultsReference (reference_of k.child.decl number) number k.child.rows t.rows e) other moved) k.faults

-- one comes before the other, or they are the same
ordered : (h m k i n j : ℕ) → ComesBefore h m k i n j ⊎ ComesBefore i n j h m k ⊎ ((h ≡ i) × (m ≡ n) × (k ≡ j))
ordered h m k i n j = elim (cases_order h i) [
  | inr apart ↦ elim apart [ inl lt ↦ inl (inl lt) | inr lt ↦ inr (inl (inl lt)) ]
  | inl e ↦ elim (cases_order m n) [
    | inr apart ↦ elim apart [ inl lt ↦ inl (inr (inl (e, lt))) | inr lt ↦ inr (inl (inr (inl (sym e, lt)))) ]
    | inl d ↦ elim (cases_order k j) [
      | inr apart ↦ elim apart [ inl lt ↦ inl (inr (inr (e, d, lt))) | inr lt ↦ inr (inl (inr (inr (sym e, sym d, lt)))) ]
      | inl c ↦ inr (inr (e, d, c))
    ]
  ]
]

reference_once : (db : Db) (i j : ℕ) (e f : DataBad) → FaultsFirst db i e → FaultsFirst db j f → (i ≡ j) × (e ≡ f)
reference_once db i j e f h k = elim (ordered i h.number h.target j k.number k.target) [
  | inl before ↦ absurd (holds_no_fault db i h.number h.target e (k.first i h.number h.target before) h.faults)
  | inr other ↦ elim other [
    | inl before ↦ absurd (holds_no_fault db j k.number k.target f (h.first j k.number k.target before) k.faults)
    | inr same ↦
        let one = subst (λ (t : ℕ). FaultsBetween db t h.number h.target e) same.0 h.faults in
        let two = subst (λ (t : ℕ). FaultsBetween db j t h.target e) same.1 one in
        (same.0, between_once db j k.number k.target e f (subst (λ (t : ℕ). FaultsBetween db j k.number t e) same.2 two) k.faults)
  ]
]

fault_of_once : (query : Query) (db : Db) (r s : Refusal) → IsFaultOf query db r → IsFaultOf query db s → r ≡ s
fault_of_once query db r s h k =
    let same = reference_once db h.position k.position h.fault k.fault h.faults k.faults in
    let here : slice_get query.tables k.position ≡ Some h.table = subst (λ (p : ℕ). slice_get query.tables p ≡ Some h.table) same.0 h.there in
    let one : Some h.table ≡ Some k.table = sym here ∙ k.there in
    let table : h.table ≡ k.table = cc one in
    h.is ∙ ap (λ (t : QueryTable). refusal.Table t.place t.decl.name h.fault) table ∙ ap (refusal.Table k.table.place k.table.decl.name) same.1 ∙ sym k.is

holds_unrefused : (query : Query) (db : Db) (r : Refusal) → AllHold db → IsFaultOf query db r → ⊥
holds_unrefused query db r holds h = holds_no_fault db h.position h.faults.number h.faults.target h.fault (holds h.position h.faults.number h.faults.target) h.faults.faults

completes_once : (query : Query) (db : Db) → Once (Completes query db)
completes_once query db a b (inl h) (inl k) = h.1 ∙ sym k.1
completes_once query db a b (inl h) (inr k) = absurd (holds_unrefused query db k.0 h.0 k.1)
completes_once query db a b (inr h) (inl k) = absurd (holds_unrefused query db h.0 k.0 h.1)
completes_once query db a b (inr h) (inr k) = h.2 ∙ ap Err (fault_of_once query db h.0 k.0 h.1 k.1) ∙ sym k.2

-- ---- all of them

pub calls_once : (held : Held) (schema query : List ℕ) (a b : Result Request Refusal) → Calls held schema query a → Calls held schema query b → a ≡ b
calls_once held schema query =
    then_once (Asks held schema query) (λ (found : Query). Then (TablesGive held found.tables) (Completes found)) (asks_once held schema query)
    (λ found. then_once (TablesGive held found.tables) (Completes found) (tables_once held found.tables) (completes_once found))

-- ---- the public clauses

refused_only : (held : Held) (schema query : List ℕ) (out : Result Request Refusal) → Calls held schema query out → (r : Refusal) → IfRefused (λ r. Calls held schema query (Err r)) r → IfRefused (λ r. Err r ≡ out) r
refused_only held schema query out calls (refusal.NoFile role name) h = calls_once held schema query (Err (refusal.NoFile role name)) out h calls
refused_only held schema query out calls (refusal.ReadFault role name) h = tt
refused_only held schema query out calls (refusal.Schema fault) h = calls_once held schema query (Err (refusal.Schema fault)) out h calls
refused_only held schema query out calls (refusal.Query fault) h = calls_once held schema query (Err (refusal.Query fault)) out h calls
refused_only held schema query out calls (refusal.Binding fault) h = calls_once held schema query (Err (refusal.Binding fault)) out h calls
refused_only held schema query out calls (refusal.Table table name fault) h = calls_once held schema query (Err (refusal.Table table name fault)) out h calls
refused_only held schema query out calls refusal.NoMemory h = tt

only_of : (held : Held) (schema query : List ℕ) (given : Result Request Refusal) → IfAnswered (Calls held schema query) given → (out : Result Request Refusal) → Calls held schema query out → IfAnswered (λ g. g ≡ out) given
only_of held schema query (Ok request) h out calls = calls_once held schema query (Ok request) out h calls
only_of held schema query (Err r) h out calls = refused_only held schema query out calls r h

pub only_from_called : (told : Option Held) (schema query : List ℕ) (given : Result Request Refusal) → IfSome told (λ held. IfAnswered (Calls held schema query) given)
    → IfSome told (λ held. (out : Result Request Refusal) → Calls held schema query out → IfAnswered (λ g. g ≡ out) given)
only_from_called None schema query given h = tt
only_from_called (Some held) schema query given h = only_of held schema query given h

complete_of : (out given : Result Request Refusal) (rose : Type 0) → IfAnswered (λ g. g ≡ out) given → IfErr given (OnReadFault rose) → (rose → ⊥) → (given ≡ out) ⊎ IsErrOf given refusal.NoMemory
complete_of out (Ok request) rose h fault none = inl h
complete_of out (Err (refusal.NoFile r n)) rose h fault none = inl h
complete_of out (Err (refusal.ReadFault r n)) rose h fault none = absurd (none fault)
complete_of out (Err (refusal.Schema f)) rose h fault none = inl h
complete_of out (Err (refusal.Query f)) rose h fault none = inl h
complete_of out (Err (refusal.Binding f)) rose h fault none = inl h
complete_of out (Err (refusal.Table t n f)) rose h fault none = inl h
complete_of out (Err refusal.NoMemory) rose h fault none = inr refl

pub complete_from_only : (told : Option Held) (schema query : List ℕ) (given : Result Request Refusal) (rose : Type 0)
    → IfSome told (λ held. (out : Result Request Refusal) → Calls held schema query out → IfAnswered (λ g. g ≡ out) given) → IfErr given (OnReadFault rose)
    → IfSome told (λ held. (out : Result Request Refusal) → Calls held schema query out → (rose → ⊥) → (given ≡ out) ⊎ IsErrOf given refusal.NoMemory)
complete_from_only None schema query given rose only fault = tt
complete_from_only (Some held) schema query given rose only fault = λ out calls none. complete_of out given rose (only out calls) fault none
