-- the query that a statement is bound to, or the first rule that it breaks
use Rattle.std.specs.Prelude.{ℕ, List, [], ◌++◌, map, Option, None, Some, Result}
use Rattle.std.specs.List.{flat_map}
use Rattle.pm_syntax.specs.declared.tree.ColumnName.{ColumnName}
use Rattle.pm_syntax.specs.declared.tree.Source.{Source}
use Rattle.pm_syntax.specs.declared.tree.Test.{Test}
use Rattle.pm_syntax.specs.declared.tree.Select.{Select}
use Rattle.pm_values.specs.declared.condition.Cond.{Cond}
use Rattle.pm_values.specs.Table.{Declaration}
use Rattle.pm_plan.specs.declared.plan.SortKey.{SortKey}
use Rattle.pm_query.specs.declared.query.Conjunct.{Conjunct}
use Rattle.pm_query.specs.declared.query.Query.{Query}
use Rattle.pm_names.specs.declared.fault.BindBad.{BindBad}
use Rattle.pm_names.specs.declared.terms.KnownColumn.{KnownColumn}
use Rattle.pm_binder.specs.declared.terms.OrderTerm.{OrderTerm}
use Rattle.pm_names.specs.declared.terms.PlacedTerm.{PlacedTerm}
use Rattle.pm_names.specs.declared.terms.RowShape.{RowShape}
use Rattle.pm_binder.specs.declared.terms.Terms.{Terms}
use Rattle.pm_names.specs.Breaches.{outcome, each_from}
use Rattle.pm_names.specs.Sources.{from_breaches, known_columns, known_at, table_places, tables_at, query_source}
use Rattle.pm_names.specs.Names.{name_breaches}
use Rattle.pm_names.specs.Kinds.{test_breaches}
use Rattle.pm_names.specs.Conditions.{position_in, cond_of}
use Rattle.pm_binder.specs.Conjuncts.{conjuncts, join_breaches}
use Rattle.pm_binder.specs.Grouping.{item_list, item_breaches, heads_of, orders_breaches, terms_of, grouping_breaches, shape_of}

abbrev pub test_breaches_if : List KnownColumn → Option Test → List BindBad
test_breaches_if known None = []
test_breaches_if known (Some test) = test_breaches known test

abbrev pub on_breaches : List Declaration → List Source → ℕ → Source → List BindBad
on_breaches schema sources i source = test_breaches_if (known_at schema sources i) source.on

abbrev pub ons_breaches : List Declaration → List Source → List BindBad
ons_breaches schema sources = each_from (on_breaches schema sources) 0 sources

abbrev pub groups_breaches : List KnownColumn → List ColumnName → List BindBad
groups_breaches known groups = flat_map (name_breaches known) groups

-- names and kinds, in the order of the text: SELECT, the ONs, WHERE, GROUP BY, HAVING, ORDER BY
abbrev pub text_breaches : List Declaration → Select → List BindBad
text_breaches schema select =
    let known = known_columns schema select.sources in
    item_breaches known (item_list select.items) ++ ons_breaches schema select.sources ++ test_breaches_if known select.filter
    ++ groups_breaches known select.groups ++ test_breaches_if known select.having ++ orders_breaches known (item_list select.items) select.orders

abbrev pub resolved : List Declaration → Select → Terms
resolved schema select = terms_of (known_columns schema select.sources) select

-- the breaches behind FROM: of names and kinds, of grouping, and of joins
abbrev pub further_breaches : List Declaration → Select → List BindBad
further_breaches schema select =
    text_breaches schema select ++ grouping_breaches (resolved schema select) ++ join_breaches schema select.sources (conjuncts schema select.sources select.filter)

-- the breaches of all rules, in the order of the rules
abbrev pub breaches : List Declaration → Select → List BindBad
breaches schema select = from_breaches schema select.sources ++ further_breaches schema select

abbrev pub having_of : List KnownColumn → RowShape → Option Test → Option Cond
having_of known shape None = None
having_of known shape (Some test) = Some (cond_of known shape test)

abbrev pub outputs_of : RowShape → List PlacedTerm → List ℕ
outputs_of shape items = map (λ placed. position_in shape placed.term) items

abbrev pub orders_of : RowShape → List OrderTerm → List SortKey
orders_of shape orders = map (λ order. record { column = position_in shape order.term; descending = order.descending }) orders

-- a query of these parts
abbrev pub query_of : List Declaration → Select → List KnownColumn → Terms → List Conjunct → Query
query_of schema select known terms conjuncts =
    let shape = shape_of terms in
    record {
      tables = tables_at schema (table_places schema select.sources);
      sources = map (query_source schema (table_places schema select.sources)) select.sources;
      conjuncts = conjuncts;
      grouped = shape.grouped;
      keys = shape.keys;
      aggregates = shape.calls;
      having = having_of known shape select.having;
      outputs = outputs_of shape terms.items;
      heads = heads_of known select.items;
      orders = orders_of shape terms.orders;
      distinct = select.distinct;
    }

-- the statement with its names resolved
abbrev pub query : List Declaration → Select → Query
query schema select =
    query_of schema select (known_columns schema select.sources) (resolved schema select) (conjuncts schema select.sources select.filter)

-- the bound query, or the first breach of a rule
abbrev pub bound : Select → List Declaration → Result Query BindBad
bound select schema = outcome (breaches schema select) (query schema select)
