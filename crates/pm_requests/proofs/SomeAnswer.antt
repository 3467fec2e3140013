-- The files call for some answer.
use Rattle.std.proofs.Common.{◌≡◌, ◌≢◌, ◌⊎◌, ◌∙◌, ◌<◌, ◌≤◌, ◌+◌, ℕ, zero, suc, Bool, true, false, List, [], ◌∷◌, Option, Some, None, Result, Ok, Err, refl, sym, ap, subst, inl, inr, arith, slice_get, length, get_or}
use Rattle.std.proofs.lemmas.Bool.{cases_order}
use Rattle.std.proofs.lemmas.Option.{slice_get_within, slice_get_cases}
use Rattle.std.proofs.lemmas.Slice.Eq.{bytes_eq-Decides}
use Rattle.std.specs.Str.{bytes_eq}
use Rattle.pm_lexer.proofs.Boundary.{bytes_same}
use Rattle.pm_lexer.specs.declared.token.Token.{Token}
use Rattle.pm_lexer.specs.declared.fault.LexBad.{LexBad}
use Rattle.pm_lexer.specs.declared.fault.LexBad.TheVariants as lexing
use Rattle.pm_lexer.specs.Tokens.{tokens_of}
use Rattle.pm_grammar.specs.declared.fault.SynBad.{SynBad}
use Rattle.pm_grammar.specs.declared.fault.SynBad.TheVariants as syntax
use Rattle.pm_syntax.specs.Statement as statement
use Rattle.pm_syntax.specs.declared.tree.Select.{Select}
use Rattle.pm_syntax.proofs.WholeReading as reading
use Rattle.pm_schema.specs.declared.fault.SchemaBad.{SchemaBad}
use Rattle.pm_schema.specs.declared.fault.SchemaBad.TheVariants as schema
use Rattle.pm_schema.specs.Meaning as meaning
use Rattle.pm_schema.proofs.Called as called
use Rattle.pm_values.specs.declared.value.Value.{Value}
use Rattle.pm_values.specs.declared.table.Reference.{Reference}
use Rattle.pm_values.specs.declared.limits.TheConstants.{MOST_RECORDS}
use Rattle.pm_values.specs.References.{ReferenceHolds, has_target}
use Rattle.pm_values.specs.Table.{Declaration, Relation}
use Rattle.pm_io.specs.Files.{Held}
use Rattle.pm_refusals.specs.declared.word.Word.TheVariants as word
use Rattle.pm_plan.specs.Rows.{Db}
use Rattle.pm_query.specs.declared.query.Query.{Query}
use Rattle.pm_query.specs.declared.query.QueryTable.{QueryTable}
use Rattle.pm_names.specs.declared.fault.BindBad.{BindBad}
use Rattle.pm_names.specs.declared.fault.BindBad.TheVariants as binding
use Rattle.pm_binder.specs.Bound.{bound}
use Rattle.pm_tables.specs.declared.fault.DataBad.{DataBad}
use Rattle.pm_tables.specs.declared.fault.DataBad.TheVariants as bad
use Rattle.pm_tables.specs.References.{FaultsReference, reference_of}
use Rattle.pm_tables.proofs.Decided.{Decision, first_below, lt_or_not, text_or_front}
use Rattle.pm_tables.proofs.SomeAnswer as tables
use Rattle.pm_requests.specs.declared.texts.Fault.{Fault}
use Rattle.pm_requests.specs.declared.refusal.Role.{Role}
use Rattle.pm_requests.specs.declared.refusal.Role.TheVariants as role
use Rattle.pm_requests.specs.declared.refusal.Refusal.{Refusal}
use Rattle.pm_requests.specs.declared.refusal.Refusal.TheVariants as refusal
use Rattle.pm_requests.specs.Texts.{Then, lexing_fault, syntax_fault, schema_fault, binding_fault, Shows, TextGives, SelectGives, SchemaGives, SelectText, SchemaText, QueryGives}
use Rattle.pm_requests.specs.Files.{FileGives, refused, Refusing, too_long, text_limit, table_limit, SchemaFile, QueryFile, Binds, TableGives, TableFile, answered}
use Rattle.pm_requests.specs.Tables.{AreLoaded, TablesGive}
use Rattle.pm_requests.specs.References.{HoldsBetween, AllHold, FaultsBetween, ComesBefore, FaultsFirst, Completes}
use Rattle.pm_requests.specs.Calls.{Asks, Calls}
use Rattle.pm_requests.proofs.Checked.{holds_here}
use Rattle.pm_requests.proofs.Once.{holds_no_fault}
use Rattle.pm_requests.proofs.Lexed.{HasPlace, tokens_placed}
use Rattle.pm_requests.proofs.Real.{bound_real}

-- there is one
abbrev pub Found : {A : Type 0} → (A → Type 0) → Type 0
Found {A} P = (a : A) × P a

-- ---- steps

then_some : {A B E : Type 0} (P : Result A E → Type 0) (Q : A → Result B E → Type 0) → Found P → ((a : A) → P (Ok a) → Found (Q a)) → Found (Then P Q)
then_some P Q (Ok a, p) next = let found = next a p in (found.0, (Ok a, p, found.1))
then_some P Q (Err e, p) next = (Err e, (Err e, p, refl))

refusing_some : {A : Type 0} (f : Fault → Refusal) (P : Result A Fault → Type 0) → Found P → Found (Refusing f P)
refusing_some f P found = (refused f found.0, (found.0, found.1, refl))

-- a refusal that is told
abbrev IsTold : {E : Type 0} → (E → Option Fault) → E → Type 0
IsTold fault_of e = (fault : Fault) × (fault_of e ≡ Some fault)

shows_some : {A E : Type 0} (fault_of : E → Option Fault) (answer : Result A E) → ((e : E) → answer ≡ Err e → IsTold fault_of e) → Found (Shows fault_of answer)
shows_some fault_of (Ok a) told = (Ok a, refl)
shows_some fault_of (Err e) told = let one = told e refl in (Err one.0, rw one.1 refl)

-- ---- texts

lexing_told : (e : LexBad) → HasPlace {A = List Token} (Err e) → IsTold lexing_fault e
lexing_told (lexing.BadChar p) placed = (_, refl)
lexing_told (lexing.OpenText p) placed = (_, refl)
lexing_told (lexing.LongNumber p) placed = (_, refl)
lexing_told (lexing.LongName p) placed = (_, refl)
lexing_told lexing.Memory placed = absurd placed

binding_told : (e : BindBad) → e ≢ binding.Memory → IsTold binding_fault e
binding_told binding.Memory real = absurd (real refl)
binding_told (binding.NoTable p) real = (_, refl)
binding_told (binding.DoubleAlias p) real = (_, refl)
binding_told (binding.TooManyTables p) real = (_, refl)
binding_told (binding.NoColumn p) real = (_, refl)
binding_told (binding.TwoColumns p) real = (_, refl)
binding_told (binding.Kinds p) real = (_, refl)
binding_told (binding.NotGrouped p) real = (_, refl)
binding_told (binding.NotSelected p) real = (_, refl)
binding_told (binding.NoJoinKey p) real = (_, refl)
binding_told (binding.LeftOn p) real = (_, refl)

text_some : (bytes : List ℕ) → Found (TextGives bytes)
text_some bytes = elim (text_or_front bytes) [
  | inl text ↦
      let found = shows_some lexing_fault (tokens_of bytes) (λ e is. lexing_told e (subst HasPlace is (tokens_placed bytes))) in
      (found.0, inr (text, found.1))
  | inr other ↦ (Err (record { word = word.NotText; at = other.1 }), inl (other.1, other.0, other.2, refl))
]

syntax_told : (tokens : List Token) (e : SynBad) → statement.CallsFor tokens (Err e) → IsTold syntax_fault e
syntax_told tokens (syntax.Expected p) calls = (_, refl)
syntax_told tokens (syntax.TooDeep p) calls = (_, refl)
syntax_told tokens (syntax.TooMany p) calls = (_, refl)
syntax_told tokens syntax.Memory calls = absurd calls

select_some : (tokens : List Token) → Found (SelectGives tokens)
select_some tokens =
    let (answer, calls) = reading.some_answer tokens in
    let found = shows_some syntax_fault answer (λ e is. syntax_told tokens e (subst (statement.CallsFor tokens) is calls)) in
    (found.0, (answer, calls, found.1))

schema_told : (tokens : List Token) (e : SchemaBad) → meaning.CallsFor tokens (Err e) → IsTold schema_fault e
schema_told tokens (schema.Expected p) calls = (_, refl)
schema_told tokens (schema.TooMany p) calls = (_, refl)
schema_told tokens (schema.DoubleTable p) calls = (_, refl)
schema_told tokens (schema.DoubleColumn p) calls = (_, refl)
schema_told tokens (schema.KeyColumn p) calls = (_, refl)
schema_told tokens (schema.NullKey p) calls = (_, refl)
schema_told tokens (schema.RefTable p) calls = (_, refl)
schema_told tokens (schema.RefColumn p) calls = (_, refl)
schema_told tokens (schema.RefShape p) calls = (_, refl)
schema_told tokens schema.Memory calls = absurd calls

schema_some : (tokens : List Token) → Found (SchemaGives tokens)
schema_some tokens =
    let (answer, calls) = called.some_answer tokens in
    let found = shows_some schema_fault answer (λ e is. schema_told tokens e (subst (meaning.CallsFor tokens) is calls)) in
    (found.0, (answer, calls, found.1))

-- ---- files

not_above : (m n : ℕ) → (m < n → ⊥) → n ≤ m
not_above m n other = elim (cases_order m n) [ inl e ↦ omega arith | inr apart ↦ elim apart [ inl lt ↦ absurd (other lt) | inr gt ↦ omega arith ] ]

file_some : {A : Type 0} (file : Option (List ℕ)) (role : Role) (name : List ℕ) (limit : ℕ) (long : Refusal) (next : List ℕ → Result A Refusal → Type 0)
    → ((bytes : List ℕ) → Found (next bytes)) → Found (FileGives file role name limit long next)
file_some None role name limit long next some = (Err (refusal.NoFile role name), inl (refusal.NoFile role name, refl, refl))
file_some (Some bytes) role name limit long next some = elim (lt_or_not limit (length bytes)) [
  | inl lt ↦ (Err long, inl (long, (lt, refl), refl))
  | inr other ↦ (let found = some bytes in (found.0, inr (not_above limit (length bytes) other, found.1)))
]

schema_file_some : (held : Held) (name : List ℕ) → Found (SchemaFile held name)
schema_file_some held name =
    file_some (held name) role.Schema name text_limit (refusal.Schema too_long) (λ bytes. Refusing refusal.Schema (SchemaText bytes))
    (λ bytes. refusing_some refusal.Schema (SchemaText bytes) (then_some (TextGives bytes) SchemaGives (text_some bytes) (λ tokens _. schema_some tokens)))

query_file_some : (held : Held) (name : List ℕ) → Found (QueryFile held name)
query_file_some held name =
    file_some (held name) role.Query name text_limit (refusal.Query too_long) (λ bytes. Refusing refusal.Query (SelectText bytes))
    (λ bytes. refusing_some refusal.Query (SelectText bytes) (then_some (TextGives bytes) SelectGives (text_some bytes) (λ tokens _. select_some tokens)))

binds_some : (decls : List Declaration) (select : Select) → Found (Binds decls select)
binds_some decls select =
    refusing_some refusal.Binding (QueryGives decls select) (shows_some binding_fault (bound select decls) (λ e is. binding_told e (λ none. bound_real select decls (is ∙ ap Err none))))

asks_some : (held : Held) (schema query : List ℕ) → Found (Asks held schema query)
asks_some held schema query =
    then_some (SchemaFile held schema) (λ decls. Then (QueryFile held query) (Binds decls)) (schema_file_some held schema)
    (λ decls _. then_some (QueryFile held query) (Binds decls) (query_file_some held query) (λ select _. binds_some decls select))

-- ---- tables

table_some : (table : QueryTable) (bytes : List ℕ) → Found (TableGives table bytes)
table_some table bytes = let (answer, calls) = tables.some_answer table.decl bytes MOST_RECORDS in (answered table answer, (answer, calls, refl))

table_file_some : (held : Held) (table : QueryTable) → Found (TableFile held table)
table_file_some held table =
    file_some (held table.decl.file) (role.Table table.place) table.decl.file table_limit (refusal.Table table.place table.decl.name bad.TooLong) (TableGives table) (table_some table)

tables_after : (held : Held) (table : QueryTable) (tables : List QueryTable) → Found (TableFile held table) → Found (TablesGive held tables) → Found (TablesGive held (table ∷ tables))
tables_after held table tables (Err r, gives) rest =
    (Err r, (table, record { before = []; behind = tables; is = refl; db = []; loaded = tt }, gives))
tables_after held table tables (Ok relation, gives) (Ok db, loaded) = (Ok (relation ∷ db), (gives, loaded))
tables_after held table tables (Ok relation, gives) (Err r, (t, turn, refuses)) =
    (Err r, (t, record { before = table ∷ turn.before; behind = turn.behind; is = ap (λ ts. table ∷ ts) turn.is; db = relation ∷ turn.db; loaded = (gives, turn.loaded) }, refuses))

tables_some : (held : Held) (tables : List QueryTable) → Found (TablesGive held tables)
tables_some held [] = (Ok [], tt)
tables_some held (table ∷ tables) = tables_after held table tables (table_file_some held table) (tables_some held tables)

-- as many as there are
loaded_long : (held : Held) (tables : List QueryTable) (db : List Relation) → AreLoaded held tables db → length tables ≡ length db
loaded_long held [] [] h = refl
loaded_long held [] (x ∷ db) h = absurd h
loaded_long held (table ∷ tables) [] h = absurd h
loaded_long held (table ∷ tables) (x ∷ db) h = ap suc (loaded_long held tables db h.1)

-- ---- references

true_or_false : (b : Bool) → (b ≡ true) ⊎ (b ≡ false)
true_or_false true = inl refl
true_or_false false = inr refl

is_false : (b : Bool) → Decision (b ≡ false)
is_false true = inr (λ e. cc e)
is_false false = inl refl

-- each row has a target, or the first that has none
reference_or_fault : (reference : Reference) (number : ℕ) (rows targets : List (List Value)) → ReferenceHolds reference rows targets ⊎ ((e : DataBad) × (e ≢ bad.Memory) × FaultsReference reference number rows targets e)
reference_or_fault reference number rows targets =
    elim (first_below (λ i. has_target reference targets (get_or rows i []) ≡ false) (λ i. is_false (has_target reference targets (get_or rows i []))) (length rows)) [
      | inl found ↦ inr (
        bad.NoTarget (found.0 + 1) number,
        (λ e. cc e),
        (refl, found.0, refl, record { within = found.1; lacks = found.2; first = λ k lt. is_true (has_target reference targets (get_or rows k [])) (found.3 k lt) }),
      )
      | inr none ↦ inl (λ k d lt. subst (λ row. has_target reference targets row ≡ true) (same rows k d lt) (is_true (has_target reference targets (get_or rows k [])) (none k lt)))
    ]
  where
    is_true : (b : Bool) → (b ≡ false → ⊥) → b ≡ true
    is_true true h = refl
    is_true false h = absurd (h refl)

    same : (xs : List (List Value)) (k : ℕ) (d : List Value) → k < length xs → get_or xs k [] ≡ get_or xs k d
    same [] k d lt = absurd (omega arith)
    same (x ∷ xs) zero d lt = refl
    same (x ∷ xs) (suc k) d lt = same xs k d (omega arith)

-- it holds between the tables at these positions, or has a fault
abbrev Breaks : Db → ℕ → ℕ → ℕ → Type 0
Breaks db i number j = (e : DataBad) × FaultsBetween db i number j e

pair_or_fault : (db : Db) (i number j : ℕ) (child parent : Relation) → slice_get db i ≡ Some child → slice_get db j ≡ Some parent → 1 ≤ number → number ≤ length child.decl.references
    → HoldsBetween db i number j ⊎ Breaks db i number j
pair_or_fault db i number j child parent at to low high = elim (true_or_false (bytes_eq (reference_of child.decl number).target parent.decl.name)) [
  | inr other ↦ inl (holds_here db i number j child parent at to (λ named. absurd (unlike _ _ named other)))
  | inl named ↦ elim (reference_or_fault (reference_of child.decl number) number child.rows parent.rows) [
    | inl holds ↦ inl (holds_here db i number j child parent at to (λ _. holds))
    | inr fault ↦ inr (
      fault.0,
      record {
        child = child;
        parent = parent;
        refers = record { child_at = at; parent_at = to; from = low; to = high; named = bytes_same (reference_of child.decl number).target parent.decl.name named };
        faults = fault.2;
        real = fault.1;
      },
    )
  ]
]
  where
    unlike : (a b : List ℕ) → a ≡ b → bytes_eq a b ≡ false → ⊥
    unlike a b same other = let alike : bytes_eq a b ≡ true = (bytes_eq-Decides a b).1 same in cc (alike, other)

between_or_fault : (db : Db) (i number j : ℕ) → HoldsBetween db i number j ⊎ Breaks db i number j
between_or_fault db i number j = of (slice_get db i) (slice_get db j) refl refl
  where
    of : (a b : Option Relation) → slice_get db i ≡ a → slice_get db j ≡ b → HoldsBetween db i number j ⊎ Breaks db i number j
    of None b at to = inl (λ child parent refers. let none : None ≡ Some child = sym at ∙ refers.child_at in absurd (cc none))
    of (Some child) None at to = inl (λ c parent refers. let none : None ≡ Some parent = sym to ∙ refers.parent_at in absurd (cc none))
    of (Some child) (Some parent) at to = elim (lt_or_not 0 number) [
      | inr other ↦ inl (λ c p refers. absurd (other (omega (arith, refers.from))))
      | inl low ↦ elim (lt_or_not (length child.decl.references) number) [
        | inl past ↦ inl (λ c p refers. let same : Some child ≡ Some c = sym at ∙ refers.child_at in let one : child ≡ c = cc same in
            let within : number ≤ length child.decl.references = subst (λ (t : Relation). number ≤ length t.decl.references) (sym one) refers.to in absurd (omega arith))
        | inr within ↦ pair_or_fault db i number j child parent at to (omega arith) (not_above (length child.decl.references) number within)
      ]
    ]

holds_unless : (db : Db) (i number j : ℕ) → (Breaks db i number j → ⊥) → HoldsBetween db i number j
holds_unless db i number j none = elim (between_or_fault db i number j) [ inl holds ↦ holds | inr breaks ↦ absurd (none breaks) ]

breaks_or_not : (db : Db) (i number j : ℕ) → Decision (Breaks db i number j)
breaks_or_not db i number j = elim (between_or_fault db i number j) [
  | inr breaks ↦ inl breaks
  | inl holds ↦ inr (λ b. holds_no_fault db i number j b.0 holds b.1)
]

-- the reference with this number breaks, first at one table
abbrev BreaksNumber : Db → ℕ → ℕ → Type 0
BreaksNumber db i number = (j : ℕ) × Breaks db i number j × ((k : ℕ) → k < j → HoldsBetween db i number k)

number_or_fault : (db : Db) (i number : ℕ) → ((j : ℕ) → HoldsBetween db i number j) ⊎ BreaksNumber db i number
number_or_fault db i number = elim (first_below (Breaks db i number) (breaks_or_not db i number) (length db)) [
  | inl found ↦ inr (found.0, found.2, λ k lt. holds_unless db i number k (found.3 k lt))
  | inr none ↦ inl (λ j child parent refers. holds_unless db i number j (none j (slice_get_within db j parent refers.parent_at)) child parent refers)
]

number_or_not : (db : Db) (i number : ℕ) → Decision (BreaksNumber db i number)
number_or_not db i number = elim (number_or_fault db i number) [
  | inr breaks ↦ inl breaks
  | inl holds ↦ inr (λ b. holds_no_fault db i number b.0 b.1.0 (holds b.0) b.1.1)
]

number_holds : (db : Db) (i number : ℕ) → (BreaksNumber db i number → ⊥) → (j : ℕ) → HoldsBetween db i number j
number_holds db i number none = elim (number_or_fault db i number) [ inl holds ↦ holds | inr breaks ↦ absurd (none breaks) ]

-- a reference of the table at this position breaks, and this is the first
abbrev BreaksTable : Db → ℕ → Type 0
BreaksTable db i = (n : ℕ) × BreaksNumber db i n × ((m k : ℕ) → m < n → HoldsBetween db i m k)

table_or_fault : (db : Db) (i : ℕ) → ((n j : ℕ) → HoldsBetween db i n j) ⊎ BreaksTable db i
table_or_fault db i = of (slice_get db i) refl
  where
    of : (o : Option Relation) → slice_get db i ≡ o → ((n j : ℕ) → HoldsBetween db i n j) ⊎ BreaksTable db i
    of None at = inl (λ n j child parent refers. let none : None ≡ Some child = sym at ∙ refers.child_at in absurd (cc none))
    of (Some child) at = elim (first_below (BreaksNumber db i) (number_or_not db i) (length child.decl.references + 1)) [
      | inl found ↦ inr (found.0, found.2, λ m k lt. number_holds db i m (found.3 m lt) k)
      | inr none ↦ inl (λ n j c parent refers.
          let same : Some c ≡ Some child = sym refers.child_at ∙ at in
          let one : c ≡ child = cc same in
          let within : n ≤ length child.decl.references = subst (λ (t : Relation). n ≤ length t.decl.references) one refers.to in
          number_holds db i n (none n (omega arith)) j c parent refers)
    ]

table_or_not : (db : Db) (i : ℕ) → Decision (BreaksTable db i)
table_or_not db i = elim (table_or_fault db i) [
  | inr breaks ↦ inl breaks
  | inl holds ↦ inr (λ b. holds_no_fault db i b.0 b.1.0 b.1.1.0 (holds b.0 b.1.0) b.1.1.1)
]

table_holds : (db : Db) (i : ℕ) → (BreaksTable db i → ⊥) → (n j : ℕ) → HoldsBetween db i n j
table_holds db i none = elim (table_or_fault db i) [ inl holds ↦ holds | inr breaks ↦ absurd (none breaks) ]

first_of : (db : Db) (i : ℕ) → ((h m k : ℕ) → h < i → HoldsBetween db h m k) → (b : BreaksTable db i) → FaultsFirst db i b.1.1.0
first_of db i before b = record { number = b.0; target = b.1.0; faults = b.1.1.1; first = first }
  where
    first : (h m k : ℕ) → ComesBefore h m k i b.0 b.1.0 → HoldsBetween db h m k
    first h m k (inl lt) = before h m k lt
    first h m k (inr (inl both)) = subst (λ (t : ℕ). HoldsBetween db t m k) (sym both.0) (b.2 m k both.1)
    first h m k (inr (inr all)) = subst (λ (t : ℕ). HoldsBetween db t m k) (sym all.0) (subst (λ (n : ℕ). HoldsBetween db i n k) (sym all.1) (b.1.2 k all.2))

all_or_fault : (db : Db) → AllHold db ⊎ ((i : ℕ) × (i < length db) × ((e : DataBad) × FaultsFirst db i e))
all_or_fault db = elim (first_below (BreaksTable db) (table_or_not db) (length db)) [
  | inl found ↦ inr (found.0, found.1, (found.2.1.1.0, first_of db found.0 (λ h m k lt. table_holds db h (found.3 h lt) m k) found.2))
  | inr none ↦ inl (λ i m k child parent refers. table_holds db i (none i (slice_get_within db i child refers.child_at)) m k child parent refers)
]

completes_some : (query : Query) (db : Db) → length query.tables ≡ length db → Found (Completes query db)
completes_some query db long = elim (all_or_fault db) [
  | inl holds ↦ (Ok (record { query = query; db = db }), inl (holds, refl))
  | inr found ↦ elim (slice_get_cases query.tables found.0).1 [
    | inr past ↦ absurd (omega (arith, found.1, past.0, long))
    | inl there ↦
        let r = refusal.Table there.0.place there.0.decl.name found.2.0 in
        (Err r, inr (r, record { position = found.0; table = there.0; fault = found.2.0; there = there.2; faults = found.2.1; is = refl }, refl))
  ]
]

-- ---- all of them

pub some_answer : (held : Held) (schema query : List ℕ) → Found (Calls held schema query)
some_answer held schema query =
    then_some (Asks held schema query) (λ (found : Query). Then (TablesGive held found.tables) (Completes found)) (asks_some held schema query)
    (λ found _. then_some (TablesGive held found.tables) (Completes found) (tables_some held found.tables) (λ db loaded. completes_some found db (loaded_long held found.tables db loaded)))
