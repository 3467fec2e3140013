-- what statements and schemas have that are read from texts, and what holds of the queries that are bound
use Rattle.std.specs.Prelude.{◌≡◌, ◌≢◌, ◌==◌, Bool, true, false, ◌&&◌, not, ◌||◌, nat_le, List, [], ◌∷◌, length, Option, None, Some}
use Rattle.std.specs.List.{list_all}
use Rattle.pm_syntax.specs.declared.tree.Expr.{Expr}
use Rattle.pm_syntax.specs.declared.tree.Expr.TheVariants as expr
use Rattle.pm_syntax.specs.declared.tree.Literal.{Literal}
use Rattle.pm_syntax.specs.declared.tree.Literal.TheVariants as literal
use Rattle.pm_syntax.specs.declared.tree.Atom.{Atom}
use Rattle.pm_syntax.specs.declared.tree.Atom.TheVariants as atom
use Rattle.pm_syntax.specs.declared.tree.Items.{Items}
use Rattle.pm_syntax.specs.declared.tree.Items.TheVariants as items
use Rattle.pm_syntax.specs.declared.tree.Source.{Source}
use Rattle.pm_syntax.specs.declared.tree.Test.{Test, fold-Test}
use Rattle.pm_syntax.specs.declared.tree.Test.TheOpen.{Test-F}
use Rattle.pm_syntax.specs.declared.tree.Test.TheOpen as layer
use Rattle.pm_syntax.specs.declared.tree.Select.{Select}
use Rattle.pm_values.specs.Table.{Declaration}
use Rattle.pm_plan.specs.Rows.{Db, decls_of}
use Rattle.pm_query.specs.declared.query.Query.{Query}
use Rattle.pm_query.specs.Answer.{answer}
use Rattle.pm_query.specs.Bound.{names_once}
use Rattle.pm_query.specs.Build.{decls_in}
use Rattle.pm_binder.specs.Meaning.{select_rows}

abbrev pub is_column : Expr → Bool
is_column (expr.Column name) = true
is_column (expr.CountAll at) = false
is_column (expr.Call f name at) = false

-- a number has at most 6 decimals
abbrev pub is_short : Literal → Bool
is_short literal.Null = true
is_short (literal.Number value decimals) = nat_le decimals 6
is_short (literal.Text text) = true

-- where aggregates may not stand, an expression is a column
abbrev pub atom_formed : Bool → Atom → Bool
atom_formed grouped (atom.Expr e) = grouped || is_column e
atom_formed grouped (atom.Literal l) = is_short l

abbrev pub formed_layer : Bool → Test-F Bool → Bool
formed_layer grouped (layer.Any members) = list_all (λ m. m) members
formed_layer grouped (layer.All members) = list_all (λ m. m) members
formed_layer grouped (layer.Not part) = part
formed_layer grouped (layer.Compare how left right at) = atom_formed grouped left && atom_formed grouped right
formed_layer grouped (layer.IsNull of negated) = atom_formed grouped of
formed_layer grouped (layer.OneOf of list negated at) = atom_formed grouped of && list_all is_short list
formed_layer grouped (layer.Between of low high negated at) = atom_formed grouped of && (atom_formed grouped low && atom_formed grouped high)

abbrev pub test_formed : Bool → Test → Bool
test_formed grouped = fold-Test Bool (formed_layer grouped)

abbrev pub formed_if : Bool → Option Test → Bool
formed_if grouped None = true
formed_if grouped (Some test) = test_formed grouped test

-- there is a first source, and it is not joined
abbrev pub StandsAlone : List Source → Type 0
StandsAlone [] = ⊥
StandsAlone (first ∷ rest) = (first.on ≡ None) × (first.left ≡ false)

abbrev pub HasItems : Items → Type 0
HasItems (items.All at) = Unit {0}
HasItems (items.List list) = list ≢ []

-- a statement such as texts have: something is selected, the first source is not joined, no aggregate stands in ON and WHERE, and numbers have at most 6 decimals
pub record IsFormed (select : Select) : Type 0 where
  pub items : HasItems select.items
  pub first : StandsAlone select.sources
  pub ons : list_all (λ source. formed_if false source.on) select.sources ≡ true
  pub filter : formed_if false select.filter ≡ true
  pub having : formed_if true select.having ≡ true

abbrev pub has_columns : Declaration → Bool
has_columns decl = not (length decl.columns == 0)

-- tables such as schemas have: each has a column, and no column stands twice in a KEY, an ORDER or a reference
pub record AreTables (schema : List Declaration) : Type 0 where
  pub columns : list_all has_columns schema ≡ true
  pub named_once : list_all names_once schema ≡ true

-- the query asks for the rows that the statement asks for, of each database of the query's tables
abbrev pub AsksForRowsOf : Select → List Declaration → Query → Type 0
AsksForRowsOf select schema found = (db : Db) → decls_of db ≡ decls_in found → select_rows select schema db ≡ answer found db
