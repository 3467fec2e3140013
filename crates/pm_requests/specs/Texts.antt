-- what the bytes of a schema's and of a query's file call for, and what a statement is bound to
use Rattle.std.specs.Prelude.{◌≡◌, ◌⊎◌, ℕ, List, Option, None, Some, Result, Ok, Err, IsUtf8}
use Rattle.std.specs.Str.{IsValidUpTo}
use Rattle.pm_values.specs.Table.{Declaration}
use Rattle.pm_refusals.specs.declared.word.Word.TheVariants as word
use Rattle.pm_lexer.specs.declared.token.Token.{Token}
use Rattle.pm_lexer.specs.declared.fault.LexBad.{LexBad}
use Rattle.pm_lexer.specs.declared.fault.LexBad.TheVariants as lexing
use Rattle.pm_lexer.specs.Tokens.{tokens_of}
use Rattle.pm_syntax.specs.declared.tree.Select.{Select}
use Rattle.pm_grammar.specs.declared.fault.SynBad.{SynBad}
use Rattle.pm_grammar.specs.declared.fault.SynBad.TheVariants as syntax
use Rattle.pm_syntax.specs.Statement as statement
use Rattle.pm_schema.specs.declared.fault.SchemaBad.{SchemaBad}
use Rattle.pm_schema.specs.declared.fault.SchemaBad.TheVariants as schema
use Rattle.pm_schema.specs.Meaning as meaning
use Rattle.pm_query.specs.declared.query.Query.{Query}
use Rattle.pm_names.specs.declared.fault.BindBad.{BindBad}
use Rattle.pm_names.specs.declared.fault.BindBad.TheVariants as binding
use Rattle.pm_binder.specs.Bound.{bound}
use Rattle.pm_requests.specs.declared.texts.Fault.{Fault}
use Rattle.pm_requests.specs.declared.texts.TextBad.{TextBad}
use Rattle.pm_requests.specs.declared.texts.TextBad.TheVariants as bad

-- what comes of one step and then of another; the first refusal is that of both
abbrev pub GoesOn : {A B E : Type 0} → (A → Result B E → Type 0) → Result A E → Result B E → Type 0
GoesOn Q (Ok a) out = Q a out
GoesOn Q (Err e) out = out ≡ Err e

abbrev pub Then : {A B E : Type 0} → (Result A E → Type 0) → (A → Result B E → Type 0) → Result B E → Type 0
Then {A} {B} {E} P Q out = (first : Result A E) × P first × GoesOn Q first out

-- the refusals of the readers, as they are written; want of memory is none
abbrev pub lexing_fault : LexBad → Option Fault
lexing_fault (lexing.BadChar p) = Some (record { word = word.BadChar; at = p })
lexing_fault (lexing.OpenText p) = Some (record { word = word.OpenText; at = p })
lexing_fault (lexing.LongNumber p) = Some (record { word = word.LongNumber; at = p })
lexing_fault (lexing.LongName p) = Some (record { word = word.LongName; at = p })
lexing_fault lexing.Memory = None

abbrev pub syntax_fault : SynBad → Option Fault
syntax_fault (syntax.Expected p) = Some (record { word = word.Expected; at = p })
syntax_fault (syntax.TooDeep p) = Some (record { word = word.TooDeep; at = p })
syntax_fault (syntax.TooMany p) = Some (record { word = word.TooMany; at = p })
syntax_fault syntax.Memory = None

abbrev pub schema_fault : SchemaBad → Option Fault
schema_fault (schema.Expected p) = Some (record { word = word.Expected; at = p })
schema_fault (schema.TooMany p) = Some (record { word = word.TooMany; at = p })
schema_fault (schema.DoubleTable p) = Some (record { word = word.DoubleTable; at = p })
schema_fault (schema.DoubleColumn p) = Some (record { word = word.DoubleColumn; at = p })
schema_fault (schema.KeyColumn p) = Some (record { word = word.KeyColumn; at = p })
schema_fault (schema.NullKey p) = Some (record { word = word.NullKey; at = p })
schema_fault (schema.RefTable p) = Some (record { word = word.RefTable; at = p })
schema_fault (schema.RefColumn p) = Some (record { word = word.RefColumn; at = p })
schema_fault (schema.RefShape p) = Some (record { word = word.RefShape; at = p })
schema_fault schema.Memory = None

abbrev pub binding_fault : BindBad → Option Fault
binding_fault (binding.NoTable p) = Some (record { word = word.NoTable; at = p })
binding_fault (binding.DoubleAlias p) = Some (record { word = word.DoubleAlias; at = p })
binding_fault (binding.TooManyTables p) = Some (record { word = word.TooManyTables; at = p })
binding_fault (binding.NoColumn p) = Some (record { word = word.NoColumn; at = p })
binding_fault (binding.TwoColumns p) = Some (record { word = word.TwoColumns; at = p })
binding_fault (binding.Kinds p) = Some (record { word = word.Kinds; at = p })
binding_fault (binding.NotGrouped p) = Some (record { word = word.NotGrouped; at = p })
binding_fault (binding.NotSelected p) = Some (record { word = word.NotSelected; at = p })
binding_fault (binding.NoJoinKey p) = Some (record { word = word.NoJoinKey; at = p })
binding_fault (binding.LeftOn p) = Some (record { word = word.LeftOn; at = p })
binding_fault binding.Memory = None

-- an answer of a reader, with its refusal as it is written
abbrev pub IsFault : {A : Type 0} → Option Fault → Result A Fault → Type 0
IsFault None out = ⊥
IsFault (Some fault) out = out ≡ Err fault

abbrev pub Shows : {A E : Type 0} → (E → Option Fault) → Result A E → Result A Fault → Type 0
Shows fault_of (Ok a) out = out ≡ Ok a
Shows fault_of (Err e) out = IsFault (fault_of e) out

-- the bytes are no UTF-8, which is so up to a place
abbrev pub IsNoText : {A : Type 0} → List ℕ → Result A Fault → Type 0
IsNoText bytes out = (n : ℕ) × (¬ (IsUtf8 bytes)) × IsValidUpTo bytes n × (out ≡ Err (record { word = word.NotText; at = n }))

-- the tokens of a text of these bytes
abbrev pub TextGives : List ℕ → Result (List Token) Fault → Type 0
TextGives bytes out = IsNoText bytes out ⊎ (IsUtf8 bytes × Shows lexing_fault (tokens_of bytes) out)

-- the statement that tokens are, and the schema that they declare
abbrev pub SelectGives : List Token → Result Select Fault → Type 0
SelectGives tokens out = (answer : Result Select SynBad) × statement.CallsFor tokens answer × Shows syntax_fault answer out

abbrev pub SchemaGives : List Token → Result (List Declaration) Fault → Type 0
SchemaGives tokens out = (answer : Result (List Declaration) SchemaBad) × meaning.CallsFor tokens answer × Shows schema_fault answer out

abbrev pub SelectText : List ℕ → Result Select Fault → Type 0
SelectText bytes = Then (TextGives bytes) SelectGives

abbrev pub SchemaText : List ℕ → Result (List Declaration) Fault → Type 0
SchemaText bytes = Then (TextGives bytes) SchemaGives

-- the query that a statement is bound to
abbrev pub QueryGives : List Declaration → Select → Result Query Fault → Type 0
QueryGives decls select = Shows binding_fault (bound select decls)

-- what a function answers is what is called for, unless memory ran out
abbrev pub Gives : {A : Type 0} → (Result A Fault → Type 0) → Result A TextBad → Type 0
Gives P (Ok a) = P (Ok a)
Gives P (Err (bad.Fault fault)) = P (Err fault)
Gives P (Err bad.Memory) = Unit {0}

-- a refusal that was passed on
abbrev pub IsBad : Option Fault → TextBad → Type 0
IsBad None out = out ≡ bad.Memory
IsBad (Some fault) out = out ≡ bad.Fault fault
