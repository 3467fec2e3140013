-- the entries of FROM: their tables, their aliases, and their columns
use Rattle.std.specs.Prelude.{ℕ, ◌+◌, ◌==◌, Bool, not, nat_eq, List, [], ◌∷◌, ◌++◌, map, take, Option, None, Some, unwrap_or, slice_get}
use Rattle.std.specs.List.{list_any, flat_map, find, position_or_len}
use Rattle.std.specs.Str.{bytes_eq}
use Rattle.pm_grammar.specs.declared.names.PlacedName.{PlacedName}
use Rattle.pm_syntax.specs.declared.tree.Source.{Source}
use Rattle.pm_values.specs.declared.table.ColumnDecl.{ColumnDecl}
use Rattle.pm_values.specs.Table.{Declaration}
use Rattle.pm_values.specs.Keys.{once}
use Rattle.pm_plan.specs.Kinds.{columns_or_none}
use Rattle.pm_query.specs.declared.query.QueryTable.{QueryTable}
use Rattle.pm_query.specs.declared.query.QuerySource.{QuerySource}
use Rattle.pm_names.specs.declared.fault.BindBad.{BindBad}
use Rattle.pm_names.specs.declared.fault.BindBad.TheVariants as bad
use Rattle.pm_names.specs.declared.terms.KnownColumn.{KnownColumn}
use Rattle.pm_names.specs.Breaches.{bad_if, each_from}

-- the name that a source goes by: the one that it is given, or its table's
abbrev pub alias_of : Source → PlacedName
alias_of source = unwrap_or source.alias source.table

abbrev pub is_named : List ℕ → Declaration → Bool
is_named text decl = bytes_eq decl.name text

-- whether one of these sources goes by this name
abbrev pub has_alias : List Source → List ℕ → Bool
has_alias sources text = list_any (λ source. bytes_eq (alias_of source).text text) sources

-- a source at this position: it is the ninth; the schema has no table of its name; an earlier source goes by its name
abbrev pub source_breaches : List Declaration → List Source → ℕ → Source → List BindBad
source_breaches schema sources i source =
    bad_if (i == 8) (bad.TooManyTables source.table.at)
    ++ bad_if (not (list_any (is_named source.table.text) schema)) (bad.NoTable source.table.at)
    ++ bad_if (has_alias (take i sources) (alias_of source).text) (bad.DoubleAlias (alias_of source).at)

-- FROM from left to right
abbrev pub from_breaches : List Declaration → List Source → List BindBad
from_breaches schema sources = each_from (source_breaches schema sources) 0 sources

-- the position in the schema of the source's table
abbrev pub place_in : List Declaration → Source → ℕ
place_in schema source = position_or_len (is_named source.table.text) schema

-- the tables of the sources, each once, by their positions in the schema
abbrev pub table_places : List Declaration → List Source → List ℕ
table_places schema sources = once nat_eq (map (place_in schema) sources)

abbrev pub table_if : ℕ → Option Declaration → List QueryTable
table_if place None = []
table_if place (Some decl) = record { place = place; decl = decl } ∷ []

abbrev pub tables_at : List Declaration → List ℕ → List QueryTable
tables_at schema places = flat_map (λ place. table_if place (slice_get schema place)) places

-- a source, with its table by position among these
abbrev pub query_source : List Declaration → List ℕ → Source → QuerySource
query_source schema places source = record { table = position_or_len (nat_eq (place_in schema source)) places; alias = (alias_of source).text; left = source.left }

-- a column of a source that goes by this name
abbrev pub known_column : List ℕ → ColumnDecl → KnownColumn
known_column alias column = record { alias = alias; name = column.name; kind = column.kind }

abbrev pub source_columns : List Declaration → Source → List KnownColumn
source_columns schema source = map (known_column (alias_of source).text) (columns_or_none (find (is_named source.table.text) schema))

-- the columns of these sources, in order
abbrev pub known_columns : List Declaration → List Source → List KnownColumn
known_columns schema sources = flat_map (source_columns schema) sources

-- in the ON of the source at this position the columns of the sources up to it are known
abbrev pub known_at : List Declaration → List Source → ℕ → List KnownColumn
known_at schema sources i = known_columns schema (take (i + 1) sources)
