-- The query that two texts ask for is bound, and within the limits.
use Rattle.std.proofs.Common.{◌≡◌, ◌≤◌, ◌<◌, ◌*◌, ◌^◌, ◌∙◌, ℕ, ap, sym, subst, List, [], ◌∷◌, length, slice_get, Option, Some, None, Result, Ok, Err, refl, inl, inr, arith, length-append}
use Rattle.std.specs.Prelude.{All, IfOk}
use Rattle.std.specs.List.{find, position_or_len}
use Rattle.std.proofs.lemmas.List.{length-map}
use Rattle.std.proofs.lemmas.List.FromFn.{length-map-range_with_len}
use Rattle.std.proofs.lemmas.List.Folds.{find_at}
use Rattle.std.proofs.lemmas.List.Elements.{All-nil, All-cons, All-append, All-weaker}
use Rattle.std.proofs.lemmas.Option.{slice_get_within, get_or_from_slice_get}
use Rattle.pm_lexer.specs.declared.token.Token.{Token}
use Rattle.pm_lexer.specs.Tokens.{tokens_of}
use Rattle.pm_syntax.specs.declared.tree.Items.{Items}
use Rattle.pm_syntax.specs.declared.tree.Items.TheVariants as items
use Rattle.pm_syntax.specs.declared.tree.Select.{Select}
use Rattle.pm_syntax.specs.declared.tree.Source.{Source}
use Rattle.pm_syntax.specs.Statement as statement
use Rattle.pm_canonical.proofs.Forming.{formed_tokens}
use Rattle.pm_canonical.proofs.Valid.{ValidItems}
use Rattle.pm_canonical.proofs.ValidSelect.{valid_read}
use Rattle.pm_schema.specs.Meaning as meaning
use Rattle.pm_values.specs.Table.{Declaration}
use Rattle.pm_plan.specs.Kinds.{columns_or_none}
use Rattle.pm_query.specs.declared.query.Query.{Query}
use Rattle.pm_query.specs.declared.query.QueryTable.{QueryTable}
use Rattle.pm_names.specs.declared.terms.KnownColumn.{KnownColumn}
use Rattle.pm_names.specs.declared.terms.PlacedTerm.{PlacedTerm}
use Rattle.pm_names.specs.Conditions.{position_in}
use Rattle.pm_names.specs.Sources.{alias_of, is_named, known_column, known_columns, source_columns, table_if, table_places, tables_at}
use Rattle.pm_binder.specs.Bound.{bound, resolved}
use Rattle.pm_binder.specs.Grouping.{item_terms, shape_of}
use Rattle.pm_binder.specs.Laws.{IsFormed}
use Rattle.pm_binder.proofs.BoundQueries.{kept, queries_are_bound}
use Rattle.pm_binder.proofs.DeclaredTables.{declared_are_tables}
use Rattle.pm_binder.proofs.Few.{few_sources}
use Rattle.pm_binder.proofs.FormedReadings.{readings_are_formed}
use Rattle.pm_requests.specs.declared.texts.Fault.{Fault}
use Rattle.pm_requests.specs.declared.refusal.Refusal.{Refusal}
use Rattle.pm_requests.specs.declared.refusal.Refusal.TheVariants as refusal
use Rattle.pm_requests.specs.Texts.{GoesOn, IsFault, Shows, lexing_fault, syntax_fault, schema_fault, binding_fault, TextGives, SelectGives, SchemaGives, SelectText, SchemaText}
use Rattle.pm_requests.specs.Files.{refused, Binds}
use Rattle.pm_requests.specs.Checks.{HasFewReferences}
use Rattle.pm_requests.specs.Calls.{IfAnswered}
use Rattle.pm_requests.specs.Requests.{IsAsked}
use Rattle.pm_requests.proofs.Limits.{IsWithin, declared_within}

-- ---- what stands behind an answer that is no fault

no_fault : {A : Type 0} (fault : Option Fault) (a : A) → IsFault fault (Ok a) → ⊥
no_fault None a h = h
no_fault (Some fault) a h = cc h

shown_ok : {A E : Type 0} (fault_of : E → Option Fault) (answer : Result A E) (a : A) → Shows fault_of answer (Ok a) → answer ≡ Ok a
shown_ok fault_of (Ok x) a h = let same : a ≡ x = cc h in ap Ok (sym same)
shown_ok fault_of (Err e) a h = absurd (no_fault (fault_of e) a h)

pub refused_ok : {A : Type 0} (f : Fault → Refusal) (found : Result A Fault) (a : A) → Ok a ≡ refused f found → found ≡ Ok a
refused_ok f (Ok x) a h = let same : a ≡ x = cc h in ap Ok (sym same)
refused_ok f (Err e) a h = absurd (cc h)

pub bound_of : (decls : List Declaration) (select : Select) (query : Query) → Binds decls select (Ok query) → bound select decls ≡ Ok query
bound_of decls select query (found, gives, is) =
    shown_ok binding_fault (bound select decls) query (subst (Shows binding_fault (bound select decls)) (refused_ok refusal.Binding found query is) gives)

text_tokens : (bytes : List ℕ) (tokens : List Token) → TextGives bytes (Ok tokens) → tokens_of bytes ≡ Ok tokens
text_tokens bytes tokens (inl none) = absurd (cc none.3)
text_tokens bytes tokens (inr text) = shown_ok lexing_fault (tokens_of bytes) tokens text.1

schema_declared : (bytes : List ℕ) (decls : List Declaration) (first : Result (List Token) Fault) → TextGives bytes first → GoesOn SchemaGives first (Ok decls) → (tokens : List Token) × meaning.Declares tokens decls
schema_declared bytes decls (Ok tokens) text (answer, calls, shows) = (tokens, subst (meaning.CallsFor tokens) (shown_ok schema_fault answer decls shows) calls)
schema_declared bytes decls (Err fault) text goes = absurd (cc goes)

pub schema_text : (bytes : List ℕ) (decls : List Declaration) → SchemaText bytes (Ok decls) → (tokens : List Token) × meaning.Declares tokens decls
schema_text bytes decls h = schema_declared bytes decls h.0 h.1 h.2

abbrev IsRead : List ℕ → Select → Type 0
IsRead bytes select = (tokens : List Token) × (tokens_of bytes ≡ Ok tokens) × statement.Reads tokens select

select_read : (bytes : List ℕ) (select : Select) (first : Result (List Token) Fault) → TextGives bytes first → GoesOn SelectGives first (Ok select) → IsRead bytes select
select_read bytes select (Ok tokens) text (answer, calls, shows) =
    (tokens, text_tokens bytes tokens text, subst (statement.CallsFor tokens) (shown_ok syntax_fault answer select shows) calls)
select_read bytes select (Err fault) text goes = absurd (cc goes)

select_text : (bytes : List ℕ) (select : Select) → SelectText bytes (Ok select) → IsRead bytes select
select_text bytes select h = select_read bytes select h.0 h.1 h.2

pub select_formed : (bytes : List ℕ) (select : Select) → SelectText bytes (Ok select) → IsFormed select
select_formed bytes select h = let read = select_text bytes select h in readings_are_formed bytes read.0 select read.1 read.2

-- ---- limits

table_there : (P : Declaration → Type 0) (schema : List Declaration) → All P schema → (place : ℕ) (found : Option Declaration) → slice_get schema place ≡ found → All (λ (t : QueryTable). P t.decl) (table_if place found)
table_there P schema each place None is = All-nil (λ (t : QueryTable). P t.decl)
table_there P schema each place (Some decl) is =
    All-cons (λ (t : QueryTable). P t.decl) (record { place = place; decl = decl }) [] (subst P (get_or_from_slice_get schema place decl decl is) (each place decl (slice_get_within schema place decl is))) (All-nil (λ (t : QueryTable). P t.decl))

tables_there : (P : Declaration → Type 0) (schema : List Declaration) → All P schema → (places : List ℕ) → All (λ (t : QueryTable). P t.decl) (tables_at schema places)
tables_there P schema each [] = All-nil (λ (t : QueryTable). P t.decl)
tables_there P schema each (place ∷ places) =
    All-append (λ (t : QueryTable). P t.decl) (table_if place (slice_get schema place)) (tables_at schema places) (table_there P schema each place (slice_get schema place) refl) (tables_there P schema each places)

columns_few : (schema : List Declaration) → All IsWithin schema → (found : Option Declaration) (place : ℕ) → slice_get schema place ≡ found → length (columns_or_none found) ≤ 64
columns_few schema within None place is = omega arith
columns_few schema within (Some decl) place is =
    let one : IsWithin decl = subst IsWithin (get_or_from_slice_get schema place decl decl is) (within place decl (slice_get_within schema place decl is)) in one.columns

source_few : (schema : List Declaration) → All IsWithin schema → (source : Source) → length (source_columns schema source) ≤ 64
source_few schema within source =
    let named = is_named source.table.text in
    rw (length-map (columns_or_none (find named schema)) (known_column (alias_of source).text))
    (columns_few schema within (find named schema) (position_or_len named schema) (sym (find_at named schema)))

known_few : (schema : List Declaration) → All IsWithin schema → (sources : List Source) → length (known_columns schema sources) ≤ 64 * length sources
known_few schema within [] = omega arith
known_few schema within (source ∷ sources) =
    let here = source_few schema within source in
    let rest = known_few schema within sources in
    rw (length-append (source_columns schema source) (known_columns schema sources)) (omega arith)

terms_few : (known : List KnownColumn) (selected : Items) → length known ≤ 512 → ValidItems selected → length (item_terms known selected) ≤ 512
terms_few known (items.All at) few valid = rw length-map-range_with_len few
terms_few known (items.List list) few valid = rw length-map (omega (arith, valid.within))

-- ---- the query

pub asked_of : (decls : List Declaration) (select : Select) (query : Query) → ((bytes : List ℕ) × SchemaText bytes (Ok decls)) → ((bytes : List ℕ) × SelectText bytes (Ok select))
    → Binds decls select (Ok query) → IsAsked query
asked_of decls select query schema text binds =
    let is_bound = bound_of decls select query binds in
    let declares = schema_text schema.0 decls schema.1 in
    let read = select_text text.0 select text.1 in
    let within = declared_within declares.0 decls declares.1 in
    let whole = kept select decls query is_bound in
    let known = known_columns decls select.sources in
    let few : length known ≤ 512 = omega (arith, known_few decls within select.sources, few_sources decls select.sources whole.from) in
    let terms = terms_few known select.items few (valid_read read.0 select (formed_tokens text.0 read.0 read.1) read.2).items in
    let outputs = length-map (item_terms known select.items) (λ (placed : PlacedTerm). position_in (shape_of (resolved decls select)) placed.term) in
    record {
      bound = queries_are_bound select decls query (readings_are_formed text.0 read.0 select read.1 read.2) (declared_are_tables declares.0 decls declares.1) is_bound;
      outputs = subst (λ (n : ℕ). n < 2 ^ 32) (sym (ap (λ (q : Query). length q.outputs) whole.is ∙ outputs)) (omega arith);
      references = subst (λ (q : Query). All (λ (table : QueryTable). HasFewReferences table.decl) q.tables) (sym whole.is)
          (tables_there HasFewReferences decls (All-weaker IsWithin HasFewReferences (λ decl one. one.references) decls within) (table_places decls select.sources));
    }

-- the same where the binding was answered
pub asked_if : (decls : List Declaration) (select : Select) (result : Result Query Refusal) → ((bytes : List ℕ) × SchemaText bytes (Ok decls)) → ((bytes : List ℕ) × SelectText bytes (Ok select))
    → IfAnswered (Binds decls select) result → IfOk result IsAsked
asked_if decls select (Ok query) schema text binds = asked_of decls select query schema text binds
asked_if decls select (Err r) schema text binds = tt
