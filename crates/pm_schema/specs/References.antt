-- The rules of references, and where a schema breaks a rule.
use Rattle.std.specs.Prelude.{ℕ, Bool, true, false, ◌&&◌, not, List, [], ◌∷◌, ◌++◌, Option, Some, None, nat_eq}
use Rattle.std.specs.List.{list_all, find}
use Rattle.std.specs.Str.{bytes_eq}
use Rattle.pm_values.specs.declared.value.Kind.{Kind}
use Rattle.pm_values.specs.declared.value.Kind.TheVariants as kind
use Rattle.pm_grammar.specs.declared.names.PlacedName.{PlacedName}
use Rattle.pm_schema.specs.declared.tree.ColumnText.{ColumnText}
use Rattle.pm_schema.specs.declared.tree.ReferenceText.{ReferenceText}
use Rattle.pm_schema.specs.declared.tree.TableText.{TableText}
use Rattle.pm_schema.specs.declared.rules.Rule.TheVariants as rule
use Rattle.pm_schema.specs.declared.rules.Fault.TheVariants as fault
use Rattle.pm_schema.specs.declared.rules.Breach.{Breach}
use Rattle.pm_schema.specs.Rules.{itself, name_of_column, name_of_table, has, column_named, breach_at, breaches, key_breaches, order_breaches, first_of}

-- the first table of this name
abbrev pub table_named : List TableText → List ℕ → Option TableText
table_named tables text = find (λ table. bytes_eq table.name.text text) tables

abbrev pub same_kind : Kind → Kind → Bool
same_kind kind.Int kind.Int = true
same_kind (kind.Num scale) (kind.Num other) = nat_eq scale other
same_kind kind.Text kind.Text = true
same_kind _ _ = false

-- a column may refer to another: it is not nullable and of the same kind
abbrev pub may_refer : Option ColumnText → Option ColumnText → Bool
may_refer (Some column) (Some key) = same_kind column.kind key.kind && not column.nullable
may_refer _ _ = false

-- the lists have one length, and each name's column may refer to the one beside it
unfoldable pub may_all_refer : List ColumnText → List ColumnText → List PlacedName → List PlacedName → Bool
may_all_refer columns targets [] [] = true
may_all_refer columns targets (name ∷ names) (key ∷ keys) = may_refer (column_named columns name.text) (column_named targets key.text) && may_all_refer columns targets names keys
may_all_refer columns targets _ _ = false

-- as a set the names are the KEY
abbrev pub are_key : Option (List PlacedName) → List PlacedName → Bool
are_key None names = false
are_key (Some key) names = list_all (λ name. has itself key name.text) names && list_all (λ name. has itself names name.text) key

-- a reference to this table has the shape of one
abbrev pub has_shape : List ColumnText → TableText → ReferenceText → Bool
has_shape columns target reference = may_all_refer columns target.body.columns reference.columns reference.keys && are_key target.body.key reference.keys

-- a name in the first list that is no column of the table, one in the second that is no column of the target, or one that stands there twice
abbrev pub name_breaches : List ColumnText → TableText → ReferenceText → List Breach
name_breaches columns target reference =
    breaches itself rule.RefColumn fault.NoNewColumn columns reference.columns ++ breaches itself rule.RefColumn fault.NoNewColumn target.body.columns reference.keys

abbrev pub is_none : List Breach → Bool
is_none [] = true
is_none (b ∷ bs) = false

-- the breaches of a reference, by the table that it names
abbrev pub reference_breaches : List ColumnText → ReferenceText → Option TableText → List Breach
reference_breaches columns reference None = breach_at true reference.target.at rule.RefTable ++ breaches itself rule.RefColumn fault.NoNewColumn columns reference.columns
reference_breaches columns reference (Some target) =
    name_breaches columns target reference
    ++ breach_at (is_none (name_breaches columns target reference) && not (has_shape columns target reference)) reference.target.at rule.RefShape

unfoldable pub all_reference_breaches : List TableText → List ColumnText → List ReferenceText → List Breach
all_reference_breaches tables columns [] = []
all_reference_breaches tables columns (reference ∷ references) =
    reference_breaches columns reference (table_named tables reference.target.text) ++ all_reference_breaches tables columns references

abbrev pub table_breaches : List TableText → TableText → List Breach
table_breaches tables table =
    breaches name_of_column rule.DoubleColumn fault.Repeated [] table.body.columns ++ (key_breaches table.body.columns table.body.key
    ++ (order_breaches table.body.columns table.body.order ++ all_reference_breaches tables table.body.columns table.body.references))

-- the breaches of these tables of a schema
unfoldable pub all_table_breaches : List TableText → List TableText → List Breach
all_table_breaches tables [] = []
all_table_breaches tables (table ∷ rest) = table_breaches tables table ++ all_table_breaches tables rest

-- all breaches of the rules
abbrev pub all_breaches : List TableText → List Breach
all_breaches tables = breaches name_of_table rule.DoubleTable fault.Repeated [] tables ++ all_table_breaches tables tables

-- the first breach
abbrev pub first_breach : List TableText → Option Breach
first_breach tables = first_of (all_breaches tables)
