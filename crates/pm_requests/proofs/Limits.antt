-- The tables that a text declares are within the limits of columns and of references.
use Rattle.std.proofs.Common.{◌≡◌, ◌≤◌, ◌||◌, Bool, List, [], ◌∷◌, length, Option, is_some, subst, sym, arith}
use Rattle.std.specs.Prelude.{All}
use Rattle.std.proofs.lemmas.List.{length-map}
use Rattle.std.proofs.lemmas.List.Elements.{All-map, All-weaker}
use Rattle.pm_lexer.specs.declared.token.Token.{Token}
use Rattle.pm_lexer.specs.declared.symbol.Symbol.TheVariants as symbol
use Rattle.pm_lexer.specs.Symbol.{is}
use Rattle.pm_lexer.specs.Pieces.{content_of}
use Rattle.pm_grammar.specs.declared.names.PlacedName.{PlacedName}
use Rattle.pm_grammar.specs.Language.{Lang, never, Is, IsFurther, IsClause}
use Rattle.pm_grammar.specs.Reading.{named}
use Rattle.pm_grammar.proofs.Yields.{Yields, Any, IsShort, token_then, token_yields, then_yields, only_yields, or_yields, further_yields, list_yields}
use Rattle.pm_values.specs.declared.value.Kind.{Kind}
use Rattle.pm_values.specs.declared.value.Kind.TheVariants as kind
use Rattle.pm_values.specs.declared.limits.TheConstants.{MOST_COLUMNS, MOST_KEY_COLUMNS, MOST_REFERENCES}
use Rattle.pm_values.specs.Table.{Declaration}
use Rattle.pm_schema.specs.declared.terminals.Word.TheVariants as word
use Rattle.pm_schema.specs.declared.tree.ColumnText.{ColumnText}
use Rattle.pm_schema.specs.declared.tree.ReferenceText.{ReferenceText}
use Rattle.pm_schema.specs.declared.tree.Body.{Body}
use Rattle.pm_schema.specs.declared.tree.TableText.{TableText}
use Rattle.pm_schema.specs.declared.tables.TheConstants.{MOST_TABLES}
use Rattle.pm_schema.specs.Terminals.{marked, is_name, is_clause, references_word, is_references, scale_of}
use Rattle.pm_schema.specs.Grammar.{IsName, IsNum, IsKind, IsNullable, IsColumn, IsNames, IsReference, IsReferences, IsKey, IsOrder, IsClauses, IsBody, IsTable, IsNothing, IsSchema}
use Rattle.pm_schema.specs.Answers.{Reads}
use Rattle.pm_schema.specs.Meaning.{Declares, declared_table, declared_column, declared_reference}
use Rattle.pm_requests.specs.Checks.{HasFewReferences}

num_yields : Yields IsNum Any
num_yields = token_then Any _ _ (λ _ _. token_then Any _ _ (λ _ _. token_then Any _ _ (λ scale _. token_then Any _ _ (λ _ _. only_yields Any (kind.Num (scale_of scale)) tt))))

kind_yields : Yields IsKind Any
kind_yields = or_yields Any _ _ (token_then Any _ _ (λ _ _. only_yields Any kind.Int tt)) (or_yields Any _ _ (token_then Any _ _ (λ _ _. only_yields Any kind.Text tt)) num_yields)

nullable_yields : Yields IsNullable Any
nullable_yields = or_yields Any _ _ (only_yields Any _ tt) (token_then Any _ _ (λ _ _. token_then Any _ _ (λ _ _. only_yields Any _ tt)))

column_yields : (names : Token → Bool) → Yields (IsColumn names) Any
column_yields names = token_then Any names _ (λ name _. then_yields Any Any IsKind (λ kind next. IsNullable (λ nullable. next (said name kind nullable))) kind_yields (λ kind _.
    then_yields Any Any IsNullable (λ nullable next. next (said name kind nullable)) nullable_yields (λ nullable _. only_yields Any (said name kind nullable) tt)))
  where
    said : Token → Kind → Bool → ColumnText
    said name kind nullable = record { name = named name; kind = kind; nullable = nullable }

name_yields : Yields IsName Any
name_yields = token_then Any _ _ (λ name _. only_yields Any _ tt)

names_yields : Yields (IsNames never) Any
names_yields = token_then Any _ _ (λ _ _. then_yields _ Any _ _ (list_yields MOST_KEY_COLUMNS IsName Any (is symbol.Comma) (omega arith) name_yields) (λ names _. token_then Any _ _ (λ _ _. only_yields Any names tt)))

clause_yields : (word : Token → Bool) → Yields (IsClause (is symbol.Comma) word (IsNames never)) Any
clause_yields word = or_yields Any _ _ (only_yields Any _ tt) (token_then Any (is symbol.Comma) _ (λ _ _. token_then Any word _ (λ _ _. then_yields Any Any (IsNames never) _ names_yields (λ names _. only_yields Any _ tt))))

reference_yields : (word : Token → Bool) → Yields (IsReference word never) Any
reference_yields word = token_then Any word _ (λ _ _. then_yields Any Any (IsNames never) _ names_yields (λ columns _. token_then Any _ _ (λ _ _.
    then_yields Any Any IsName (λ target next. IsNames never (λ keys. next (all columns target keys))) name_yields (λ target _. then_yields Any Any (IsNames never) (λ keys next. next (all columns target keys)) names_yields (λ keys _.
    only_yields Any (all columns target keys) tt)))))
  where
    all : List PlacedName → PlacedName → List PlacedName → ReferenceText
    all columns target keys = record { columns = columns; target = target; keys = keys }

abbrev AreFew : List ReferenceText → Type 0
AreFew = IsShort Any MOST_REFERENCES

no_references : AreFew []
no_references = record { count = omega arith; each = λ k d lt. tt }

references_few : (word : Token → Bool) → Yields (IsReferences word never) AreFew
references_few word = or_yields AreFew _ _ (only_yields AreFew [] no_references) (token_then AreFew (is symbol.Comma) _ (λ _ _. then_yields Any AreFew (IsReference word never) _ (reference_yields word) (λ first _.
    further_yields MOST_REFERENCES (Is (is symbol.Comma)) (λ _. IsReference is_references never) Any (token_yields (is symbol.Comma)) (λ _. reference_yields is_references) first (omega arith) tt)))

pub record IsLimited (table : TableText) : Type 0 where
  pub columns : length table.body.columns ≤ MOST_COLUMNS
  pub references : length table.body.references ≤ MOST_REFERENCES

-- the same of a body
abbrev IsLimitedBody : Body → Type 0
IsLimitedBody body = (length body.columns ≤ MOST_COLUMNS) × (length body.references ≤ MOST_REFERENCES)

abbrev Referred : Option (List PlacedName) → Option (List PlacedName) → Lang (List ReferenceText)
Referred key order = IsReferences (references_word (is_some key || is_some order)) never

clauses_limited : (columns : List ColumnText) → IsShort Any MOST_COLUMNS columns → Yields (IsClauses never columns) IsLimitedBody
clauses_limited columns short =
    then_yields Any IsLimitedBody (IsKey never) (λ key next. IsOrder never (λ order. Referred key order (λ references. next (all key order references)))) (clause_yields (is_clause word.Key)) (λ key _.
    then_yields Any IsLimitedBody (IsOrder never) (λ order next. Referred key order (λ references. next (all key order references))) (clause_yields (is symbol.Order)) (λ order _.
    then_yields AreFew IsLimitedBody (Referred key order) (λ references next. next (all key order references)) (references_few (references_word (is_some key || is_some order))) (λ references few.
    only_yields IsLimitedBody (all key order references) (short.count, few.count))))
  where
    all : Option (List PlacedName) → Option (List PlacedName) → List ReferenceText → Body
    all key order references = record { columns = columns; key = key; order = order; references = references }

body_limited : Yields (IsBody never) IsLimitedBody
body_limited = then_yields Any IsLimitedBody (IsColumn is_name) _ (column_yields is_name) (λ first _.
    then_yields (IsShort Any MOST_COLUMNS) IsLimitedBody (IsFurther never MOST_COLUMNS (Is (is symbol.Comma)) (λ _. IsColumn (is symbol.Name)) (first ∷ [])) _
    (further_yields MOST_COLUMNS (Is (is symbol.Comma)) (λ _. IsColumn (is symbol.Name)) Any (token_yields (is symbol.Comma)) (λ _. column_yields (is symbol.Name)) first (omega arith) tt) clauses_limited)

-- after a table's name, and after its body
abbrev Ended : PlacedName → Token → Body → Lang TableText
Ended name file body next = Is (is symbol.Close) (λ _. Is (is symbol.Semicolon) (λ _. next (record { name = name; file = content_of file; body = body })))

abbrev Filed : PlacedName → Lang TableText
Filed name next = Is (is symbol.From) (λ _. Is (is symbol.Text) (λ file. Is (is symbol.Open) (λ _. IsBody never (λ body. Ended name file body next))))

table_limited : Yields (IsTable never) IsLimited
table_limited = token_then IsLimited _ (λ _ next. IsName (λ name. Filed name next)) (λ _ _. then_yields Any IsLimited IsName Filed name_yields (λ name _.
    token_then IsLimited _ _ (λ _ _. token_then IsLimited _ _ (λ file _. token_then IsLimited _ _ (λ _ _. then_yields IsLimitedBody IsLimited (IsBody never) (Ended name file) body_limited (λ body limited.
    token_then IsLimited _ _ (λ _ _. token_then IsLimited _ _ (λ _ _. only_yields IsLimited (record { name = name; file = content_of file; body = body }) (record { columns = limited.0; references = limited.1 })))))))))

abbrev Last : List TableText → Lang (List TableText)
Last tables next = Is (is symbol.End) (λ _. next tables)

schema_limited : Yields (IsSchema never) (IsShort IsLimited MOST_TABLES)
schema_limited = then_yields IsLimited (IsShort IsLimited MOST_TABLES) (IsTable never) (λ first next. IsFurther never MOST_TABLES IsNothing (λ _. IsTable never) (first ∷ []) (λ tables. Last tables next)) table_limited (λ first limited.
    then_yields (IsShort IsLimited MOST_TABLES) (IsShort IsLimited MOST_TABLES) (IsFurther never MOST_TABLES IsNothing (λ _. IsTable never) (first ∷ [])) Last
    (further_yields MOST_TABLES IsNothing (λ _. IsTable never) IsLimited (only_yields Any tt tt) (λ _. table_limited) first (omega arith) limited)
    (λ tables short. token_then (IsShort IsLimited MOST_TABLES) _ _ (λ _ _. only_yields (IsShort IsLimited MOST_TABLES) tables short)))

reads_limited : (tokens : List Token) (tables : List TableText) → Reads tokens tables → All IsLimited tables
reads_limited tokens tables h = let all = schema_limited (λ found rest. (found ≡ tables) × (rest ≡ [])) (marked tokens) h in subst (All IsLimited) all.3.0 all.2.each

-- a declaration of few columns and few references
pub record IsWithin (decl : Declaration) : Type 0 where
  pub columns : length decl.columns ≤ MOST_COLUMNS
  pub references : HasFewReferences decl

pub declared_within : (tokens : List Token) (decls : List Declaration) → Declares tokens decls → All IsWithin decls
declared_within tokens decls (tables, read, kept, is) =
    subst (All IsWithin) (sym is) (All-map IsWithin (declared_table tables) tables (All-weaker IsLimited (λ t. IsWithin (declared_table tables t)) (within tables) tables (reads_limited tokens tables read)))
  where
    within : (tables : List TableText) (t : TableText) → IsLimited t → IsWithin (declared_table tables t)
    within tables t limited = record {
      columns = rw (length-map t.body.columns declared_column) limited.columns;
      references = rw (length-map t.body.references (declared_reference tables t.body.columns)) limited.references;
    }
