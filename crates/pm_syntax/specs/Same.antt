-- Statements that agree in all but places.
use Rattle.std.specs.Prelude.{◌≡◌, map, Option, Some, None}
use Rattle.pm_grammar.specs.declared.names.PlacedName.{PlacedName}
use Rattle.pm_syntax.specs.declared.tree.ColumnName.{ColumnName}
use Rattle.pm_syntax.specs.declared.tree.Expr.{Expr}
use Rattle.pm_syntax.specs.declared.tree.Expr.TheVariants as expr
use Rattle.pm_syntax.specs.declared.tree.Item.{Item}
use Rattle.pm_syntax.specs.declared.tree.Items.{Items}
use Rattle.pm_syntax.specs.declared.tree.Items.TheVariants as items
use Rattle.pm_syntax.specs.declared.tree.Source.{Source}
use Rattle.pm_syntax.specs.declared.tree.Atom.{Atom}
use Rattle.pm_syntax.specs.declared.tree.Atom.TheVariants as atom
use Rattle.pm_syntax.specs.declared.tree.Test.{Test, fold-Test}
use Rattle.pm_syntax.specs.declared.tree.Test.TheVariants as test
use Rattle.pm_syntax.specs.declared.tree.Test.TheOpen.{Test-F}
use Rattle.pm_syntax.specs.declared.tree.Test.TheOpen as layer
use Rattle.pm_syntax.specs.declared.tree.OrderItem.{OrderItem}
use Rattle.pm_syntax.specs.declared.tree.Select.{Select}

-- f of a value, where there is one
abbrev pub unplaced_option : {A : Type 0} → (A → A) → Option A → Option A
unplaced_option f None = None
unplaced_option f (Some x) = Some (f x)

-- each tree with 0 for every place in it
abbrev pub unplaced_name : PlacedName → PlacedName
unplaced_name name = record name { at = 0 }

abbrev pub unplaced_column : ColumnName → ColumnName
unplaced_column column = record { alias = unplaced_option unplaced_name column.alias; name = unplaced_name column.name }

abbrev pub unplaced_expr : Expr → Expr
unplaced_expr (expr.Column column) = expr.Column (unplaced_column column)
unplaced_expr (expr.CountAll at) = expr.CountAll 0
unplaced_expr (expr.Call f column at) = expr.Call f (unplaced_column column) 0

abbrev pub unplaced_item : Item → Item
unplaced_item item = record { expr = unplaced_expr item.expr; given = unplaced_option unplaced_name item.given }

abbrev pub unplaced_items : Items → Items
unplaced_items (items.All at) = items.All 0
unplaced_items (items.List list) = items.List (map unplaced_item list)

abbrev pub unplaced_atom : Atom → Atom
unplaced_atom (atom.Expr e) = atom.Expr (unplaced_expr e)
unplaced_atom (atom.Literal l) = atom.Literal l

abbrev pub unplaced_layer : Test-F Test → Test
unplaced_layer (layer.Any members) = test.Any members
unplaced_layer (layer.All members) = test.All members
unplaced_layer (layer.Not part) = test.Not part
unplaced_layer (layer.Compare how left right at) = test.Compare how (unplaced_atom left) (unplaced_atom right) 0
unplaced_layer (layer.IsNull of negated) = test.IsNull (unplaced_atom of) negated
unplaced_layer (layer.OneOf of list negated at) = test.OneOf (unplaced_atom of) list negated 0
unplaced_layer (layer.Between of low high negated at) = test.Between (unplaced_atom of) (unplaced_atom low) (unplaced_atom high) negated 0

abbrev pub unplaced_test : Test → Test
unplaced_test = fold-Test Test unplaced_layer

abbrev pub unplaced_source : Source → Source
unplaced_source source =
    record { table = unplaced_name source.table; alias = unplaced_option unplaced_name source.alias; on = unplaced_option unplaced_test source.on; left = source.left }

abbrev pub unplaced_key : OrderItem → OrderItem
unplaced_key key = record key { expr = unplaced_expr key.expr }

unfoldable pub unplaced : Select → Select
unplaced s = record {
  distinct = s.distinct;
  items = unplaced_items s.items;
  sources = map unplaced_source s.sources;
  filter = unplaced_option unplaced_test s.filter;
  groups = map unplaced_column s.groups;
  having = unplaced_option unplaced_test s.having;
  orders = map unplaced_key s.orders;
}

-- the same statement, but for places
abbrev pub SameStatement : Select → Select → Type 0
SameStatement a b = unplaced a ≡ unplaced b
