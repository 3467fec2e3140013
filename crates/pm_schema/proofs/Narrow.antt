-- The tables that the grammar reads are narrow, and their scales are from 1 to 6.
use Rattle.std.proofs.Common.{◌≡◌, ◌≤◌, ◌||◌, ℕ, Bool, true, List, [], ◌∷◌, Option, is_some, arith}
use Rattle.std.proofs.lemmas.Bool.{and_parts, leb-true}
use Rattle.pm_lexer.specs.declared.token.Token.{Token}
use Rattle.pm_lexer.specs.declared.token.TokenKind.{TokenKind}
use Rattle.pm_lexer.specs.declared.token.TokenKind.TheVariants as token_kind
use Rattle.pm_lexer.specs.declared.symbol.Symbol.TheVariants as symbol
use Rattle.pm_lexer.specs.Symbol.{is}
use Rattle.pm_lexer.specs.Pieces.{content_of}
use Rattle.pm_grammar.specs.Language.{Lang, never, Is, IsFurther, IsClause}
use Rattle.pm_grammar.proofs.Yields.{Yields, Any, IsShort, token_then, token_yields, then_yields, only_yields, or_yields, further_yields, list_yields}
use Rattle.pm_values.specs.declared.value.Kind.TheVariants as kind
use Rattle.pm_values.specs.declared.limits.TheConstants.{MOST_COLUMNS, MOST_KEY_COLUMNS, MOST_REFERENCES}
use Rattle.pm_values.specs.Table.{IsValidKind}
use Rattle.pm_schema.specs.declared.terminals.Word.TheVariants as word
use Rattle.pm_values.specs.declared.value.Kind.{Kind}
use Rattle.pm_grammar.specs.declared.names.PlacedName.{PlacedName}
use Rattle.pm_grammar.specs.Reading.{named}
use Rattle.pm_schema.specs.declared.tree.ReferenceText.{ReferenceText}
use Rattle.pm_schema.specs.declared.tree.ColumnText.{ColumnText}
use Rattle.pm_schema.specs.declared.tree.Body.{Body}
use Rattle.pm_schema.specs.declared.tree.TableText.{TableText}
use Rattle.pm_schema.specs.declared.tables.TheConstants.{MOST_TABLES}
use Rattle.pm_schema.specs.Terminals.{marked, is_name, is_clause, references_word, is_references, is_scale_digit, spells_scale, digit_of, scale_of}
use Rattle.pm_schema.specs.Grammar.{IsName, IsNum, IsKind, IsNullable, IsColumn, IsNames, IsReference, IsReferences, IsKey, IsOrder, IsClauses, IsBody, IsTable, IsNothing, IsSchema}
use Rattle.pm_schema.specs.Answers.{Reads}
use Rattle.pm_schema.specs.Meaning.{IsNarrow}

scale_digit : (slice : List ℕ) → is_scale_digit slice ≡ true → (1 ≤ digit_of slice) × (digit_of slice ≤ 6)
scale_digit [] h = absurd (cc h)
scale_digit (b ∷ c ∷ slice) h = absurd (cc h)
scale_digit (b ∷ []) h =
    let both = and_parts _ _ h in
    let low : 49 ≤ b = leb-true 49 b both.0 in
    let high : b ≤ 54 = leb-true b 54 both.1 in
    (omega arith, omega arith)

scale_spelt : (k : TokenKind) (slice : List ℕ) → spells_scale k slice ≡ true → (1 ≤ digit_of slice) × (digit_of slice ≤ 6)
scale_spelt token_kind.Number slice h = scale_digit slice h
scale_spelt k slice h = absurd (cc h)

num_yields : Yields IsNum IsValidKind
num_yields = token_then IsValidKind _ _ (λ _ _. token_then IsValidKind _ _ (λ _ _. token_then IsValidKind _ _ (λ scale e. token_then IsValidKind _ _ (λ _ _.
    only_yields IsValidKind (kind.Num (scale_of scale)) (scale_spelt scale.kind scale.slice e)))))

kind_yields : Yields IsKind IsValidKind
kind_yields = or_yields IsValidKind _ _ (token_then IsValidKind _ _ (λ _ _. only_yields IsValidKind kind.Int tt))
    (or_yields IsValidKind _ _ (token_then IsValidKind _ _ (λ _ _. only_yields IsValidKind kind.Text tt)) num_yields)

nullable_yields : Yields IsNullable Any
nullable_yields = or_yields Any _ _ (only_yields Any _ tt) (token_then Any _ _ (λ _ _. token_then Any _ _ (λ _ _. only_yields Any _ tt)))

abbrev IsValidColumn : ColumnText → Type 0
IsValidColumn column = IsValidKind column.kind

abbrev said : Token → Kind → Bool → ColumnText
said name kind nullable = record { name = named name; kind = kind; nullable = nullable }

column_yields : (names : Token → Bool) → Yields (IsColumn names) IsValidColumn
column_yields names = token_then IsValidColumn names _ (λ name _. then_yields IsValidKind IsValidColumn IsKind (λ kind next. IsNullable (λ nullable. next (said name kind nullable))) kind_yields (λ kind valid.
    then_yields Any IsValidColumn IsNullable (λ nullable next. next (said name kind nullable)) nullable_yields (λ nullable _. only_yields IsValidColumn (said name kind nullable) valid)))

name_yields : Yields IsName Any
name_yields = token_then Any _ _ (λ name _. only_yields Any _ tt)

names_yields : Yields (IsNames never) Any
names_yields = token_then Any _ _ (λ _ _. then_yields _ Any _ _ (list_yields MOST_KEY_COLUMNS IsName Any (is symbol.Comma) (omega arith) name_yields) (λ names _. token_then Any _ _ (λ _ _. only_yields Any names tt)))

clause_yields : (word : Token → Bool) → Yields (IsClause (is symbol.Comma) word (IsNames never)) Any
clause_yields word = or_yields Any _ _ (only_yields Any _ tt) (token_then Any (is symbol.Comma) _ (λ _ _. token_then Any word _ (λ _ _. then_yields Any Any (IsNames never) _ names_yields (λ names _. only_yields Any _ tt))))

reference_yields : (word : Token → Bool) → Yields (IsReference word never) Any
reference_yields word = token_then Any word _ (λ _ _. then_yields Any Any (IsNames never) _ names_yields (λ columns _. token_then Any _ _ (λ _ _.
    then_yields Any Any IsName (λ target next. IsNames never (λ keys. next (all columns target keys))) name_yields (λ target _. then_yields Any Any (IsNames never) (λ keys next. next (all columns target keys)) names_yields (λ keys _.
    only_yields Any (all columns target keys) tt)))))
  where
    all : List PlacedName → PlacedName → List PlacedName → ReferenceText
    all columns target keys = record { columns = columns; target = target; keys = keys }

references_yields : (word : Token → Bool) → Yields (IsReferences word never) Any
references_yields word = or_yields Any _ _ (only_yields Any _ tt) (token_then Any (is symbol.Comma) _ (λ _ _. then_yields Any Any (IsReference word never) _ (reference_yields word) (λ first _.
    then_yields _ Any _ _ (further_yields MOST_REFERENCES (Is (is symbol.Comma)) (λ _. IsReference is_references never) Any (token_yields (is symbol.Comma)) (λ _. reference_yields is_references) first (omega arith) tt) (λ all _. only_yields Any all tt))))

abbrev IsNarrowBody : Body → Type 0
IsNarrowBody body = IsShort IsValidColumn MOST_COLUMNS body.columns

abbrev Referred : Option (List PlacedName) → Option (List PlacedName) → Lang (List ReferenceText)
Referred key order = IsReferences (references_word (is_some key || is_some order)) never

clauses_yields : (columns : List ColumnText) → IsShort IsValidColumn MOST_COLUMNS columns → Yields (IsClauses never columns) IsNarrowBody
clauses_yields columns short =
    then_yields Any IsNarrowBody (IsKey never) (λ key next. IsOrder never (λ order. Referred key order (λ references. next (all key order references)))) (clause_yields (is_clause word.Key)) (λ key _.
    then_yields Any IsNarrowBody (IsOrder never) (λ order next. Referred key order (λ references. next (all key order references))) (clause_yields (is symbol.Order)) (λ order _.
    then_yields Any IsNarrowBody (Referred key order) (λ references next. next (all key order references)) (references_yields (references_word (is_some key || is_some order))) (λ references _.
    only_yields IsNarrowBody (all key order references) short)))
  where
    all : Option (List PlacedName) → Option (List PlacedName) → List ReferenceText → Body
    all key order references = record { columns = columns; key = key; order = order; references = references }

body_yields : Yields (IsBody never) IsNarrowBody
body_yields = then_yields IsValidColumn IsNarrowBody (IsColumn is_name) _ (column_yields is_name) (λ first valid.
    then_yields (IsShort IsValidColumn MOST_COLUMNS) IsNarrowBody (IsFurther never MOST_COLUMNS (Is (is symbol.Comma)) (λ _. IsColumn (is symbol.Name)) (first ∷ [])) _
    (further_yields MOST_COLUMNS (Is (is symbol.Comma)) (λ _. IsColumn (is symbol.Name)) IsValidColumn (token_yields (is symbol.Comma)) (λ _. column_yields (is symbol.Name)) first (omega arith) valid) clauses_yields)

-- after a table's name, and after its body
abbrev Ended : PlacedName → Token → Body → Lang TableText
Ended name file body next = Is (is symbol.Close) (λ _. Is (is symbol.Semicolon) (λ _. next (record { name = name; file = content_of file; body = body })))

abbrev Filed : PlacedName → Lang TableText
Filed name next = Is (is symbol.From) (λ _. Is (is symbol.Text) (λ file. Is (is symbol.Open) (λ _. IsBody never (λ body. Ended name file body next))))

table_yields : Yields (IsTable never) IsNarrow
table_yields = token_then IsNarrow _ (λ _ next. IsName (λ name. Filed name next)) (λ _ _. then_yields Any IsNarrow IsName Filed name_yields (λ name _.
    token_then IsNarrow _ _ (λ _ _. token_then IsNarrow _ _ (λ file _. token_then IsNarrow _ _ (λ _ _. then_yields IsNarrowBody IsNarrow (IsBody never) (Ended name file) body_yields (λ body narrow.
    token_then IsNarrow _ _ (λ _ _. token_then IsNarrow _ _ (λ _ _. only_yields IsNarrow (record { name = name; file = content_of file; body = body }) (record { columns = narrow.count; scales = narrow.each })))))))))

abbrev Last : List TableText → Lang (List TableText)
Last tables next = Is (is symbol.End) (λ _. next tables)

schema_yields : Yields (IsSchema never) (IsShort IsNarrow MOST_TABLES)
schema_yields = then_yields IsNarrow (IsShort IsNarrow MOST_TABLES) (IsTable never) (λ first next. IsFurther never MOST_TABLES IsNothing (λ _. IsTable never) (first ∷ []) (λ tables. Last tables next)) table_yields (λ first narrow.
    then_yields (IsShort IsNarrow MOST_TABLES) (IsShort IsNarrow MOST_TABLES) (IsFurther never MOST_TABLES IsNothing (λ _. IsTable never) (first ∷ [])) Last
    (further_yields MOST_TABLES IsNothing (λ _. IsTable never) IsNarrow (only_yields Any tt tt) (λ _. table_yields) first (omega arith) narrow)
    (λ tables short. token_then (IsShort IsNarrow MOST_TABLES) _ _ (λ _ _. only_yields (IsShort IsNarrow MOST_TABLES) tables short)))

-- the tables of a schema are few and narrow
pub reads_short : (tokens : List Token) (tables : List TableText) → Reads tokens tables → IsShort IsNarrow MOST_TABLES tables
reads_short tokens tables h = let all = schema_yields (λ found rest. (found ≡ tables) × (rest ≡ [])) (marked tokens) h in rw (← all.3.0) all.2
