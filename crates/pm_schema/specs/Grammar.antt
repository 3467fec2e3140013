-- The grammar of schema texts: one definition for each production. `Is test` is a token that passes the test, `⊎` stands between
-- alternatives, and what follows a phrase is given its tree. The gate says where an entry past the limit of its list may begin.
use Rattle.std.specs.Prelude.{◌⊎◌, Bool, true, false, ◌||◌, List, [], ◌∷◌, Option, is_some}
use Rattle.pm_lexer.specs.declared.token.Token.{Token}
use Rattle.pm_lexer.specs.declared.symbol.Symbol.TheVariants as symbol
use Rattle.pm_lexer.specs.Symbol.{is}
use Rattle.pm_lexer.specs.Pieces.{content_of}
use Rattle.pm_grammar.specs.declared.names.PlacedName.{PlacedName}
use Rattle.pm_grammar.specs.Language.{Lang, Is, Gate, IsFurther, IsList, IsClause}
use Rattle.pm_grammar.specs.Reading.{named}
use Rattle.pm_values.specs.declared.value.Kind.{Kind}
use Rattle.pm_values.specs.declared.value.Kind.TheVariants as kind
use Rattle.pm_values.specs.declared.limits.TheConstants.{MOST_COLUMNS, MOST_KEY_COLUMNS, MOST_REFERENCES}
use Rattle.pm_schema.specs.declared.terminals.Word.TheVariants as word
use Rattle.pm_schema.specs.declared.tree.ColumnText.{ColumnText}
use Rattle.pm_schema.specs.declared.tree.ReferenceText.{ReferenceText}
use Rattle.pm_schema.specs.declared.tree.Body.{Body}
use Rattle.pm_schema.specs.declared.tree.TableText.{TableText}
use Rattle.pm_schema.specs.declared.tables.TheConstants.{MOST_TABLES}
use Rattle.pm_schema.specs.Terminals.{is_word, is_clause, is_references, is_name, is_scale, scale_of, references_word}

-- name, plain or quoted
abbrev pub IsName : Lang PlacedName
IsName next = Is is_name (λ name. next (named name))

-- kind = INT | TEXT | NUM "(" scale ")"
abbrev pub IsNum : Lang Kind
IsNum next = Is (is_word word.Num) (λ _. Is (is symbol.Open) (λ _. Is is_scale (λ scale. Is (is symbol.Close) (λ _. next (kind.Num (scale_of scale))))))

abbrev pub IsKind : Lang Kind
IsKind next ts = Is (is_word word.Int) (λ _. next kind.Int) ts ⊎ Is (is_word word.Text) (λ _. next kind.Text) ts ⊎ IsNum next ts

-- [ NOT NULL ]: whether the column is nullable
abbrev pub IsNullable : Lang Bool
IsNullable next ts = next true ts ⊎ Is (is symbol.Not) (λ _. Is (is symbol.Null) (λ _. next false)) ts

-- column = name kind [ NOT NULL ], with a name that passes this test
abbrev pub IsColumn : (Token → Bool) → Lang ColumnText
IsColumn names next = Is names (λ name. IsKind (λ kind. IsNullable (λ nullable. next (record { name = named name; kind = kind; nullable = nullable }))))

-- list = "(" name { "," name } ")"
abbrev pub IsNames : Gate → Lang (List PlacedName)
IsNames gate next = Is (is symbol.Open) (λ _. IsList gate MOST_KEY_COLUMNS IsName (is symbol.Comma) (λ names. Is (is symbol.Close) (λ _. next names)))

-- [ "," KEY list ] and [ "," ORDER list ]
abbrev pub IsKey : Gate → Lang (Option (List PlacedName))
IsKey gate = IsClause (is symbol.Comma) (is_clause word.Key) (IsNames gate)

abbrev pub IsOrder : Gate → Lang (Option (List PlacedName))
IsOrder gate = IsClause (is symbol.Comma) (is symbol.Order) (IsNames gate)

-- reference = REFERENCES list TO name list, where a token that passes this test is REFERENCES
abbrev pub IsReference : (Token → Bool) → Gate → Lang ReferenceText
IsReference first gate next = Is first (λ _. IsNames gate (λ columns. Is (is_word word.To) (λ _. IsName (λ target. IsNames gate (λ keys. next (record { columns = columns; target = target; keys = keys }))))))

-- { "," reference }, where a token that passes this test is the first REFERENCES
abbrev pub IsSomeReferences : (Token → Bool) → Gate → Lang (List ReferenceText)
IsSomeReferences first gate next = IsReference first gate (λ reference. IsFurther gate MOST_REFERENCES (Is (is symbol.Comma)) (λ _. IsReference is_references gate) (reference ∷ []) next)

abbrev pub IsReferences : (Token → Bool) → Gate → Lang (List ReferenceText)
IsReferences first gate next ts = next [] ts ⊎ Is (is symbol.Comma) (λ _. IsSomeReferences first gate next) ts

-- [ "," KEY list ] [ "," ORDER list ] { "," reference }
abbrev pub IsClauses : Gate → List ColumnText → Lang Body
IsClauses gate columns next = IsKey gate (λ key. IsOrder gate (λ order. IsReferences (references_word (is_some key || is_some order)) gate (λ references.
    next (record { columns = columns; key = key; order = order; references = references }))))

-- body = column { "," column } [ "," KEY list ] [ "," ORDER list ] { "," reference }; after a comma KEY or REFERENCES before a
-- parenthesis is no column's name
abbrev pub IsFurtherBody : Gate → List ColumnText → Lang Body
IsFurtherBody gate before next = IsFurther gate MOST_COLUMNS (Is (is symbol.Comma)) (λ _. IsColumn (is symbol.Name)) before (λ columns. IsClauses gate columns next)

abbrev pub IsBody : Gate → Lang Body
IsBody gate next = IsColumn is_name (λ first. IsFurtherBody gate (first ∷ []) next)

-- table = TABLE name FROM text "(" body ")" ";"
abbrev pub IsTable : Gate → Lang TableText
IsTable gate next = Is (is_word word.Table) (λ _. IsName (λ name. Is (is symbol.From) (λ _. Is (is symbol.Text) (λ file. Is (is symbol.Open) (λ _. IsBody gate (λ body.
    Is (is symbol.Close) (λ _. Is (is symbol.Semicolon) (λ _. next (record { name = name; file = content_of file; body = body })))))))))

-- schema = table { table } end, where nothing stands between two tables
abbrev pub IsNothing : Lang (Unit {0})
IsNothing next = next tt

abbrev pub IsSchema : Gate → Lang (List TableText)
IsSchema gate next = IsTable gate (λ first. IsFurther gate MOST_TABLES IsNothing (λ _. IsTable gate) (first ∷ []) (λ tables. Is (is symbol.End) (λ _. next tables)))
