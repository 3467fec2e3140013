-- The canonical text of a statement.
use Rattle.std.specs.Prelude.{ℕ, ℤ, Bool, true, false, not, ◌==◌, ◌-◌, ◌+◌, List, [], ◌∷◌, ◌++◌, Option, Some, None, if◌then◌else◌, codes, length, take, drop, map, replicate, decimal, unsigned_abs, int_lt, pos}
use Rattle.std.specs.List.{flat_map}
use Rattle.pm_lexer.specs.Quoting.{quoted, canon_name}
use Rattle.pm_grammar.specs.declared.names.PlacedName.{PlacedName}
use Rattle.pm_syntax.specs.declared.tree.ColumnName.{ColumnName}
use Rattle.pm_syntax.specs.declared.tree.Func.{Func}
use Rattle.pm_syntax.specs.declared.tree.Func.TheVariants as func
use Rattle.pm_syntax.specs.declared.tree.Expr.{Expr}
use Rattle.pm_syntax.specs.declared.tree.Expr.TheVariants as expr
use Rattle.pm_syntax.specs.declared.tree.Item.{Item}
use Rattle.pm_syntax.specs.declared.tree.Items.{Items}
use Rattle.pm_syntax.specs.declared.tree.Items.TheVariants as items
use Rattle.pm_syntax.specs.declared.tree.Source.{Source}
use Rattle.pm_syntax.specs.declared.tree.Literal.{Literal}
use Rattle.pm_syntax.specs.declared.tree.Literal.TheVariants as literal
use Rattle.pm_syntax.specs.declared.tree.Atom.{Atom}
use Rattle.pm_syntax.specs.declared.tree.Atom.TheVariants as atom
use Rattle.pm_values.specs.declared.condition.Comparison.{Comparison}
use Rattle.pm_values.specs.declared.condition.Comparison.TheVariants as comparison
use Rattle.pm_syntax.specs.declared.tree.Test.{Test, fold-Test}
use Rattle.pm_syntax.specs.declared.tree.Test.TheOpen.{Test-F}
use Rattle.pm_syntax.specs.declared.tree.Test.TheOpen as layer
use Rattle.pm_syntax.specs.declared.tree.OrderItem.{OrderItem}
use Rattle.pm_syntax.specs.declared.tree.Select.{Select}

-- pieces with a separator between them
abbrev pub joined : List ℕ → List (List ℕ) → List ℕ
joined sep [] = []
joined sep (piece ∷ []) = piece
joined sep (piece ∷ next ∷ more) = piece ++ (sep ++ joined sep (next ∷ more))

-- a piece after so many others
abbrev pub separated : List ℕ → ℕ → List ℕ → List ℕ
separated sep n piece = if n == 0 then piece else sep ++ piece

abbrev pub canon_alias : Option PlacedName → List ℕ
canon_alias None = []
canon_alias (Some alias) = canon_name alias.text ++ codes "."

unfoldable pub canon_column : ColumnName → List ℕ
canon_column column = canon_alias column.alias ++ canon_name column.name.text

abbrev pub canon_func : Func → List ℕ
canon_func func.Count = codes "COUNT"
canon_func func.Sum = codes "SUM"
canon_func func.Min = codes "MIN"
canon_func func.Max = codes "MAX"

unfoldable pub canon_expr : Expr → List ℕ
canon_expr (expr.Column column) = canon_column column
canon_expr (expr.CountAll at) = codes "COUNT(*)"
canon_expr (expr.Call f column at) = canon_func f ++ codes "(" ++ canon_column column ++ codes ")"

-- a number's digits with its point: no needless leading zero, all decimals kept
abbrev pub pointed : ℕ → List ℕ → List ℕ
pointed decimals digits = if decimals == 0 then digits else take (length digits - decimals) digits ++ codes "." ++ drop (length digits - decimals) digits

abbrev pub padded : ℕ → List ℕ → List ℕ
padded least digits = replicate (least - length digits) 48 ++ digits

unfoldable pub canon_number : ℤ → ℕ → List ℕ
canon_number value decimals =
    (if int_lt value (pos 0) then codes "-" else []) ++ pointed decimals (padded (decimals + 1) (decimal (unsigned_abs value)))

unfoldable pub canon_literal : Literal → List ℕ
canon_literal literal.Null = codes "NULL"
canon_literal (literal.Number value decimals) = canon_number value decimals
canon_literal (literal.Text text) = quoted 39 text

abbrev pub canon_atom : Atom → List ℕ
canon_atom (atom.Expr e) = canon_expr e
canon_atom (atom.Literal l) = canon_literal l

abbrev pub canon_comparison : Comparison → List ℕ
canon_comparison comparison.Equal = codes " = "
canon_comparison comparison.Unequal = codes " <> "
canon_comparison comparison.Less = codes " < "
canon_comparison comparison.AtMost = codes " <= "
canon_comparison comparison.Greater = codes " > "
canon_comparison comparison.AtLeast = codes " >= "

-- a condition's text, and whether it is an OR list or an AND list
pub record Text : Type 0 where
  pub any : Bool
  pub all : Bool
  pub bytes : List ℕ

abbrev pub plain : List ℕ → Text
plain bytes = record { any = false; all = false; bytes = bytes }

-- a member of an OR list (true) or of an AND list: in parentheses where it is a list, but for an AND list in an OR list
abbrev pub is_wrapped : Bool → Text → Bool
is_wrapped in_or text = if text.any then true else (if text.all then not in_or else false)

abbrev pub member_of : Bool → Text → List ℕ
member_of in_or text = if is_wrapped in_or text then codes "(" ++ text.bytes ++ codes ")" else text.bytes

abbrev pub separator : Bool → List ℕ
separator true = codes " OR "
separator false = codes " AND "

abbrev pub negation : Bool → List ℕ
negation negated = if negated then codes "NOT " else []

abbrev pub canon_layer : Test-F Text → Text
canon_layer (layer.Any members) = record { any = true; all = false; bytes = joined (separator true) (map (member_of true) members) }
canon_layer (layer.All members) = record { any = false; all = true; bytes = joined (separator false) (map (member_of false) members) }
canon_layer (layer.Not part) = plain (codes "NOT " ++ member_of false part)
canon_layer (layer.Compare how left right at) = plain (canon_atom left ++ canon_comparison how ++ canon_atom right)
canon_layer (layer.IsNull of negated) = plain (canon_atom of ++ codes " IS " ++ negation negated ++ codes "NULL")
canon_layer (layer.OneOf of list negated at) = plain (canon_atom of ++ codes " " ++ negation negated ++ codes "IN (" ++ joined (codes ", ") (map canon_literal list) ++ codes ")")
canon_layer (layer.Between of low high negated at) = plain (canon_atom of ++ codes " " ++ negation negated ++ codes "BETWEEN " ++ canon_atom low ++ codes " AND " ++ canon_atom high)

abbrev pub text_of : Test → Text
text_of = fold-Test Text canon_layer

abbrev pub canon_test : Test → List ℕ
canon_test t = (text_of t).bytes

unfoldable pub canon_given : Option PlacedName → List ℕ
canon_given None = []
canon_given (Some name) = codes " AS " ++ canon_name name.text

unfoldable pub canon_item : Item → List ℕ
canon_item item = canon_expr item.expr ++ canon_given item.given

unfoldable pub canon_items : Items → List ℕ
canon_items (items.All at) = codes "*"
canon_items (items.List list) = joined (codes ", ") (map canon_item list)

unfoldable pub canon_source : Source → List ℕ
canon_source source = canon_name source.table.text ++ canon_given source.alias

abbrev pub join_words : Bool → List ℕ
join_words left = if left then codes " LEFT JOIN " else codes " JOIN "

-- a source after others
abbrev pub canon_further : Option Test → Source → List ℕ
canon_further None source = codes ", " ++ canon_source source
canon_further (Some on) source = join_words source.left ++ canon_source source ++ codes " ON " ++ canon_test on

abbrev pub canon_sources : List Source → List ℕ
canon_sources [] = []
canon_sources (first ∷ more) = canon_source first ++ flat_map (λ s. canon_further s.on s) more

unfoldable pub canon_key : OrderItem → List ℕ
canon_key key = canon_expr key.expr ++ (if key.descending then codes " DESC" else [])

-- a part after its words, where there is one
abbrev pub canon_condition : List ℕ → Option Test → List ℕ
canon_condition words None = []
canon_condition words (Some cond) = words ++ canon_test cond

abbrev pub canon_list : {A : Type 0} → List ℕ → (A → List ℕ) → List A → List ℕ
canon_list words f [] = []
canon_list words f (x ∷ xs) = words ++ joined (codes ", ") (map f (x ∷ xs))

unfoldable pub canon : Select → List ℕ
canon s =
    codes "SELECT " ++ (if s.distinct then codes "DISTINCT " else []) ++ canon_items s.items ++ codes " FROM " ++ canon_sources s.sources
    ++ canon_condition (codes " WHERE ") s.filter ++ canon_list (codes " GROUP BY ") canon_column s.groups ++ canon_condition (codes " HAVING ") s.having ++ canon_list (codes " ORDER BY ") canon_key s.orders
