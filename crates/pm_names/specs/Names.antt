-- what names and expressions mean among the columns that are known
use Rattle.std.specs.Prelude.{ℕ, ◌==◌, Bool, true, false, not, nat_lt, ◌&&◌, List, [], ◌∷◌, ◌++◌, map, Option, None, Some, unwrap_or}
use Rattle.std.specs.List.{count_by, position_or_len}
use Rattle.std.specs.Str.{bytes_eq}
use Rattle.pm_grammar.specs.declared.names.PlacedName.{PlacedName}
use Rattle.pm_syntax.specs.declared.tree.ColumnName.{ColumnName}
use Rattle.pm_syntax.specs.declared.tree.Func.{Func}
use Rattle.pm_syntax.specs.declared.tree.Func.TheVariants as func
use Rattle.pm_syntax.specs.declared.tree.Expr.{Expr}
use Rattle.pm_syntax.specs.declared.tree.Expr.TheVariants as expr
use Rattle.pm_values.specs.declared.value.Kind.{Kind}
use Rattle.pm_plan.specs.declared.plan.Aggregate.{Aggregate}
use Rattle.pm_plan.specs.declared.plan.Aggregate.TheVariants as aggregate
use Rattle.pm_plan.specs.Kinds.{kind_at, kind_of_item, is_number}
use Rattle.pm_names.specs.declared.fault.BindBad.{BindBad}
use Rattle.pm_names.specs.declared.fault.BindBad.TheVariants as bad
use Rattle.pm_names.specs.declared.terms.KnownColumn.{KnownColumn}
use Rattle.pm_names.specs.declared.terms.Term.{Term}
use Rattle.pm_names.specs.declared.terms.Term.TheVariants as term
use Rattle.pm_names.specs.declared.terms.PlacedTerm.{PlacedTerm}
use Rattle.pm_names.specs.Breaches.{bad_if}

-- the place of a column's name: that of its first part
abbrev pub name_at : ColumnName → ℕ
name_at name = (unwrap_or name.alias name.name).at

-- the alias in front, where one stands, is this one
abbrev pub is_alias : Option PlacedName → List ℕ → Bool
is_alias None alias = true
is_alias (Some given) alias = bytes_eq alias given.text

abbrev pub means : ColumnName → KnownColumn → Bool
means name column = is_alias name.alias column.alias && bytes_eq column.name name.name.text

-- a name that means no known column, or more than one
unfoldable pub name_breaches : List KnownColumn → ColumnName → List BindBad
name_breaches known name =
    let meant = count_by (means name) known in bad_if (meant == 0) (bad.NoColumn (name_at name)) ++ bad_if (nat_lt 1 meant) (bad.TwoColumns (name_at name))

-- the position of the column that the name means
abbrev pub column_of : List KnownColumn → ColumnName → ℕ
column_of known name = position_or_len (means name) known

abbrev pub aggregate_of : Func → ℕ → Aggregate
aggregate_of func.Count column = aggregate.Count column
aggregate_of func.Sum column = aggregate.Sum column
aggregate_of func.Min column = aggregate.Min column
aggregate_of func.Max column = aggregate.Max column

abbrev pub term_of : List KnownColumn → Expr → Term
term_of known (expr.Column name) = term.Column (column_of known name)
term_of known (expr.CountAll at) = term.Call aggregate.CountAll
term_of known (expr.Call f name at) = term.Call (aggregate_of f (column_of known name))

-- the place of an expression: its first token
abbrev pub expr_at : Expr → ℕ
expr_at (expr.Column name) = name_at name
expr_at (expr.CountAll at) = at
expr_at (expr.Call f name at) = at

abbrev pub placed_term : List KnownColumn → Expr → PlacedTerm
placed_term known e = record { term = term_of known e; at = expr_at e }

abbrev pub kinds_of : List KnownColumn → List Kind
kinds_of known = map (λ column. column.kind) known

abbrev pub term_kind : List KnownColumn → Term → Kind
term_kind known (term.Column column) = kind_at (kinds_of known) column
term_kind known (term.Call call) = kind_of_item (kinds_of known) call

abbrev pub is_sum : Func → Bool
is_sum func.Sum = true
is_sum func.Count = false
is_sum func.Min = false
is_sum func.Max = false

-- there is no breach
abbrev pub is_sound : List BindBad → Bool
is_sound [] = true
is_sound (breach ∷ breaches) = false

-- a sum of texts, where the name means one column
abbrev pub sum_breaches : List KnownColumn → Func → ColumnName → ℕ → List BindBad
sum_breaches known f name at =
    bad_if (is_sum f && (is_sound (name_breaches known name) && not (is_number (kind_at (kinds_of known) (column_of known name))))) (bad.Kinds at)

abbrev pub expr_breaches : List KnownColumn → Expr → List BindBad
expr_breaches known (expr.Column name) = name_breaches known name
expr_breaches known (expr.CountAll at) = []
expr_breaches known (expr.Call f name at) = name_breaches known name ++ sum_breaches known f name at
