-- Steps of the bodies that read a schema: proofs compute with them, and no public contract cites them. What is read is said in Grammar.
use Rattle.std.specs.Prelude.{ℕ, Bool, true, false, ◌||◌, if◌then◌else◌, List, [], ◌∷◌, Option, Ok, length, drop, is_some}
use Rattle.pm_lexer.specs.declared.token.Token.{Token}
use Rattle.pm_lexer.specs.declared.symbol.Symbol.TheVariants as symbol
use Rattle.pm_lexer.specs.Symbol.{is}
use Rattle.pm_lexer.specs.Pieces.{content_of}
use Rattle.pm_grammar.specs.declared.names.PlacedName.{PlacedName}
use Rattle.pm_grammar.specs.Reading.{Read, ◌>>=◌, sees, token_at, name_at, named, clause_at}
use Rattle.pm_grammar.specs.Steps.{list_at, more_at, more_while}
use Rattle.pm_values.specs.declared.value.Kind.{Kind}
use Rattle.pm_values.specs.declared.value.Kind.TheVariants as kind
use Rattle.pm_values.specs.declared.limits.TheConstants.{MOST_COLUMNS, MOST_KEY_COLUMNS, MOST_REFERENCES}
use Rattle.pm_schema.specs.declared.terminals.Word.TheVariants as word
use Rattle.pm_schema.specs.declared.tree.ColumnText.{ColumnText}
use Rattle.pm_schema.specs.declared.tree.ReferenceText.{ReferenceText}
use Rattle.pm_schema.specs.declared.tree.Body.{Body}
use Rattle.pm_schema.specs.declared.tree.TableText.{TableText}
use Rattle.pm_schema.specs.declared.tables.TheConstants.{MOST_TABLES}
use Rattle.pm_schema.specs.Terminals.{is_word, is_clause, is_references, is_name, is_scale, scale_of, references_word}

unfoldable pub num_at : List Token → Read Kind
num_at ts =
    token_at (is_word word.Num) ts >>= λ num. token_at (is symbol.Open) num.1 >>= λ paren. token_at is_scale paren.1 >>= λ scale. token_at (is symbol.Close) scale.1 >>= λ close.
    Ok (kind.Num (scale_of scale.0), close.1)

unfoldable pub kind_at : List Token → Read Kind
kind_at ts =
    if sees (is_word word.Int) ts then Ok (kind.Int, drop 1 ts)
    else (if sees (is_word word.Text) ts then Ok (kind.Text, drop 1 ts) else num_at ts)

unfoldable pub nullable_at : List Token → Read Bool
nullable_at ts = if sees (is symbol.Not) ts then (token_at (is symbol.Null) (drop 1 ts) >>= λ null. Ok (false, null.1)) else Ok (true, ts)

unfoldable pub column_at : (Token → Bool) → List Token → Read ColumnText
column_at names ts =
    token_at names ts >>= λ name. kind_at name.1 >>= λ kind. nullable_at kind.1 >>= λ nullable.
    Ok (record { name = named name.0; kind = kind.0; nullable = nullable.0 }, nullable.1)

abbrev pub name_list_at : List Token → Read (List PlacedName)
name_list_at ts = list_at (is symbol.Comma) (token_at is_name) (name_at is_name) MOST_KEY_COLUMNS ts

unfoldable pub names_at : List Token → Read (List PlacedName)
names_at ts =
    token_at (is symbol.Open) ts >>= λ paren. name_list_at paren.1 >>= λ names. token_at (is symbol.Close) names.1 >>= λ close.
    Ok (names.0, close.1)

abbrev pub clause_names_at : (Token → Bool) → List Token → Read (Option (List PlacedName))
clause_names_at word ts = clause_at (is symbol.Comma) word names_at ts

unfoldable pub reference_at : (Token → Bool) → List Token → Read ReferenceText
reference_at first ts =
    token_at first ts >>= λ begin. names_at begin.1 >>= λ columns. token_at (is_word word.To) columns.1 >>= λ to. name_at is_name to.1 >>= λ target. names_at target.1 >>= λ keys.
    Ok (record { columns = columns.0; target = target.0; keys = keys.0 }, keys.1)

abbrev pub more_references_at : List ReferenceText → List Token → Read (List ReferenceText)
more_references_at before ts = more_at (is symbol.Comma) (token_at (is symbol.Comma)) (token_at is_references) (λ _. reference_at is_references) MOST_REFERENCES (length ts) before ts

unfoldable pub references_at : (Token → Bool) → List Token → Read (List ReferenceText)
references_at first ts = if sees (is symbol.Comma) ts then (reference_at first (drop 1 ts) >>= λ reference. more_references_at (reference.0 ∷ []) reference.1) else Ok ([], ts)

unfoldable pub clauses_at : List ColumnText → List Token → Read Body
clauses_at columns ts =
    clause_names_at (is_clause word.Key) ts >>= λ key. clause_names_at (is symbol.Order) key.1 >>= λ order. references_at (references_word (is_some key.0 || is_some order.0)) order.1 >>= λ references.
    Ok (record { columns = columns; key = key.0; order = order.0; references = references.0 }, references.1)

abbrev pub more_columns_at : List ColumnText → List Token → Read (List ColumnText)
more_columns_at before ts = more_while (is symbol.Comma) (is symbol.Name) (column_at (is symbol.Name)) MOST_COLUMNS (length ts) before ts

unfoldable pub body_at : List Token → Read Body
body_at ts =
    column_at is_name ts >>= λ first. more_columns_at (first.0 ∷ []) first.1 >>= λ columns.
    clauses_at columns.0 columns.1

unfoldable pub table_at : List Token → Read TableText
table_at ts =
    token_at (is_word word.Table) ts >>= λ table. name_at is_name table.1 >>= λ name. token_at (is symbol.From) name.1 >>= λ from. token_at (is symbol.Text) from.1 >>= λ file.
    token_at (is symbol.Open) file.1 >>= λ paren. body_at paren.1 >>= λ body.
    token_at (is symbol.Close) body.1 >>= λ close. token_at (is symbol.Semicolon) close.1 >>= λ semicolon.
    Ok (record { name = name.0; file = content_of file.0; body = body.0 }, semicolon.1)

-- nothing stands between two tables
abbrev pub nothing_at : List Token → Read (Unit {0})
nothing_at ts = Ok (tt, ts)

abbrev pub more_tables_at : ℕ → List TableText → List Token → Read (List TableText)
more_tables_at n before ts = more_at (is_word word.Table) nothing_at (token_at (is_word word.Table)) (λ _. table_at) MOST_TABLES n before ts

unfoldable pub schema_at : List Token → Read (List TableText)
schema_at ts =
    table_at ts >>= λ first. more_tables_at (length first.1) (first.0 ∷ []) first.1 >>= λ tables. token_at (is symbol.End) tables.1 >>= λ end.
    Ok (tables.0, end.1)
