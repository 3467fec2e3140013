-- The tokens of a schema text call for one answer, and reading and judging give it.
use Rattle.std.proofs.Common.{◌≡◌, ◌≤◌, ◌⊎◌, ℕ, List, ◌∷◌, Option, Some, None, Result, Ok, Err, IfOk, IsErrOf, arith, length, refl, sym, ◌∙◌, ap, inl, inr}
use Rattle.std.proofs.lemmas.List.{length-map}
use Rattle.pm_lexer.specs.declared.token.Token.{Token}
use Rattle.pm_lexer.specs.Tokens.{tokens_of}
use Rattle.pm_grammar.specs.Reading.{Stop, expected, too_deep, too_many, whole}
use Rattle.pm_grammar.specs.Answers.{within, TooDeepIn, CallsFor as Calls}
use Rattle.pm_grammar.proofs.Phrases.{Law, Nothing}
use Rattle.pm_grammar.proofs.Called.{law_calls}
use Rattle.pm_grammar.proofs.Exclusive.{answers_same}
use Rattle.pm_values.specs.Table.{Declaration}
use Rattle.pm_schema.specs.declared.tree.TableText.{TableText}
use Rattle.pm_schema.specs.declared.fault.SchemaBad.{SchemaBad}
use Rattle.pm_schema.specs.declared.fault.SchemaBad.TheVariants as bad
use Rattle.pm_schema.specs.declared.rules.Rule.{Rule}
use Rattle.pm_schema.specs.declared.rules.Rule.TheVariants as rule
use Rattle.pm_schema.specs.declared.rules.Breach.{Breach}
use Rattle.pm_schema.specs.Terminals.{marked}
use Rattle.pm_schema.specs.Reading.{schema_at}
use Rattle.pm_schema.specs.References.{first_breach}
use Rattle.pm_schema.specs.Answers.{SchemaPhrase, Reads}
use Rattle.pm_schema.specs.Meaning.{declared, declared_table, Declares, CallsFor, refusal, refusal_by, Judges}
use Rattle.pm_schema.specs.declared.tables.TheConstants.{MOST_TABLES}
use Rattle.pm_schema.specs.Worked.{TextCallsFor}
use Rattle.pm_schema.proofs.TableReaders.{schema_law}

reading_law : (tokens : List Token) → Law Nothing SchemaPhrase 0 (marked tokens) (schema_at (marked tokens))
reading_law tokens = schema_law 0 (marked tokens)

-- what the tokens call for by the grammar
abbrev pub GrammarCalls : List Token → Result (List TableText) Stop → Type 0
GrammarCalls tokens read = Calls SchemaPhrase 0 (marked tokens) read

pub whole_calls : (tokens : List Token) → GrammarCalls tokens (whole (schema_at (marked tokens)))
whole_calls tokens = law_calls SchemaPhrase 0 (marked tokens) (schema_at (marked tokens)) (reading_law tokens)

-- a grammar of one depth has no deeper phrases
never_deep : (seen : List Token) (p : ℕ) → TooDeepIn SchemaPhrase 0 seen p → ⊥
never_deep seen p x = x.none (within (x.token ∷ x.deeper.0)) x.deeper.0 x.deeper.1 x.deeper.2

-- the answer to what was read
abbrev judged_by : Option Breach → List TableText → Result (List Declaration) SchemaBad
judged_by None tables = Ok (declared tables)
judged_by (Some breach) tables = Err (refusal breach)

abbrev pub answer_of : Result (List TableText) Stop → Result (List Declaration) SchemaBad
answer_of (Ok tables) = judged_by (first_breach tables) tables
answer_of (Err (expected p)) = Err (bad.Expected p)
answer_of (Err (too_many p)) = Err (bad.TooMany p)
answer_of (Err (too_deep p)) = Err bad.Memory

breach_called : (tokens : List Token) (tables : List TableText) → Reads tokens tables → (a : Rule) (p : ℕ) → first_breach tables ≡ Some (record { at = p; rule = a }) → CallsFor tokens (Err (refusal_by a p))
breach_called tokens tables reads rule.DoubleTable p is = (tables, reads, is)
breach_called tokens tables reads a p is = (tables, reads, is)

tables_called : (tokens : List Token) (tables : List TableText) → Reads tokens tables → (found : Option Breach) → first_breach tables ≡ found → CallsFor tokens (judged_by found tables)
tables_called tokens tables reads None is = (tables, reads, is, refl)
tables_called tokens tables reads (Some breach) is = breach_called tokens tables reads breach.rule breach.at is

answer_called : (tokens : List Token) (read : Result (List TableText) Stop) → GrammarCalls tokens read → CallsFor tokens (answer_of read)
answer_called tokens (Ok tables) calls = tables_called tokens tables calls (first_breach tables) refl
answer_called tokens (Err (expected p)) calls = calls
answer_called tokens (Err (too_many p)) calls = calls
answer_called tokens (Err (too_deep p)) calls = absurd (never_deep (marked tokens) p calls)

-- what a text calls for whose tokens are read and judged like this
pub text_calls : (text : List ℕ) (tokens : List Token) (answer : Result (List Declaration) SchemaBad) → tokens_of text ≡ Ok tokens → answer_of (whole (schema_at (marked tokens))) ≡ answer → TextCallsFor text answer
text_calls text tokens answer lexed judged = (tokens, lexed, rw judged at (answer_called tokens (whole (schema_at (marked tokens))) (whole_calls tokens)))

-- an answer is to something that was read
abbrev Read : List Token → Result (List Declaration) SchemaBad → Type 0
Read tokens answer = (read : Result (List TableText) Stop) × (answer ≡ answer_of read) × GrammarCalls tokens read

judged_so : (tables : List TableText) (found : Option Breach) → first_breach tables ≡ found → judged_by found tables ≡ answer_of (Ok tables)
judged_so tables found is = rw is refl

called_answer : (tokens : List Token) (answer : Result (List Declaration) SchemaBad) → CallsFor tokens answer → Read tokens answer
called_answer tokens (Ok schema) calls = (Ok calls.0, ap Ok calls.3 ∙ judged_so calls.0 None calls.2, calls.1)
called_answer tokens (Err (bad.Expected p)) calls = (Err (expected p), refl, calls)
called_answer tokens (Err (bad.TooMany p)) calls = (Err (too_many p), refl, calls)
called_answer tokens (Err bad.Memory) calls = absurd calls
called_answer tokens (Err e) calls = (Ok calls.0, judged_so calls.0 _ calls.2, calls.1)

-- the tokens call for an answer
pub some_answer : (tokens : List Token) → (answer : Result (List Declaration) SchemaBad) × CallsFor tokens answer
some_answer tokens = let read = whole (schema_at (marked tokens)) in (answer_of read, answer_called tokens read (whole_calls tokens))

-- and for no other
pub one_answer : (tokens : List Token) (a b : Result (List Declaration) SchemaBad) → CallsFor tokens a → CallsFor tokens b → a ≡ b
one_answer tokens a b x y =
    let (read, is, calls) = called_answer tokens a x in
    let (read', is', calls') = called_answer tokens b y in
    is ∙ ap answer_of (answers_same SchemaPhrase 0 (marked tokens) (schema_at (marked tokens)) (reading_law tokens) read read' calls calls') ∙ sym is'

pub one_schema : (tokens : List Token) (a b : List Declaration) → Declares tokens a → Declares tokens b → a ≡ b
one_schema tokens a b x y = let same : Ok a ≡ Ok b = one_answer tokens (Ok a) (Ok b) x y in cc same

-- what is answered
abbrev pub Answers : List Token → Result (List Declaration) SchemaBad → Type 0
Answers tokens result = CallsFor tokens result ⊎ IsErrOf result bad.Memory

pub only : (tokens : List Token) (result : Result (List Declaration) SchemaBad) → Answers tokens result → (answer : Result (List Declaration) SchemaBad) → CallsFor tokens answer → (result ≡ answer) ⊎ IsErrOf result bad.Memory
only tokens result answers answer calls = elim answers [ inl called ↦ inl (one_answer tokens result answer called calls) | inr memory ↦ inr memory ]

-- of tables that were read
pub judged_answers : (tokens : List Token) (tables : List TableText) (result : Result (List Declaration) SchemaBad) → whole (schema_at (marked tokens)) ≡ Ok tables → Judges (first_breach tables) tables result → Answers tokens result
judged_answers tokens tables result gives judges = of (first_breach tables) result refl judges
  where
    reads : Reads tokens tables
    reads = rw gives at (whole_calls tokens)

    of : (found : Option Breach) (result : Result (List Declaration) SchemaBad) → first_breach tables ≡ found → Judges found tables result → Answers tokens result
    of None (Ok schema) is judges = inl (tables, reads, is, judges)
    of None (Err e) is judges = inr (ap Err judges)
    of (Some breach) (Ok schema) is judges = absurd judges
    of (Some breach) (Err e) is judges = inl (rw judges (breach_called tokens tables reads breach.rule breach.at is))

-- of tokens that the grammar refuses
pub expected_answers : (tokens : List Token) (p : ℕ) → whole (schema_at (marked tokens)) ≡ Err (expected p) → Answers tokens (Err (bad.Expected p))
expected_answers tokens p gives = inl (rw gives at (whole_calls tokens))

pub too_many_answers : (tokens : List Token) (p : ℕ) → whole (schema_at (marked tokens)) ≡ Err (too_many p) → Answers tokens (Err (bad.TooMany p))
too_many_answers tokens p gives = inl (rw gives at (whole_calls tokens))

pub never_too_deep : (tokens : List Token) (p : ℕ) → whole (schema_at (marked tokens)) ≡ Err (too_deep p) → ⊥
never_too_deep tokens p gives = never_deep (marked tokens) p (rw gives at (whole_calls tokens))

-- a schema has as many tables as its text
pub judged_few : (tables : List TableText) (result : Result (List Declaration) SchemaBad) → length tables ≤ MOST_TABLES → Judges (first_breach tables) tables result → IfOk result (λ schema. length schema ≤ MOST_TABLES)
judged_few tables result few judges = of (first_breach tables) result judges
  where
    of : (found : Option Breach) (result : Result (List Declaration) SchemaBad) → Judges found tables result → IfOk result (λ schema. length schema ≤ MOST_TABLES)
    of None (Ok schema) judges = rw judges (omega (few, length-map tables (declared_table tables), arith))
    of None (Err e) judges = tt
    of (Some breach) (Ok schema) judges = absurd judges
    of (Some breach) (Err e) judges = tt
