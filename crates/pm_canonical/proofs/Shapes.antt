-- The tokens of canonical text, without their places.
use Rattle.std.specs.Prelude.{ℕ, ℤ, Bool, true, false, not, ◌+◌, List, [], ◌∷◌, ◌++◌, Option, Some, None, if◌then◌else◌, codes, map, decimal, unsigned_abs, int_lt, pos}
use Rattle.std.specs.List.{flat_map}
use Rattle.pm_lexer.specs.declared.token.Token.{Token}
use Rattle.pm_lexer.specs.declared.token.TokenKind.{TokenKind}
use Rattle.pm_lexer.specs.declared.token.TokenKind.TheVariants as kind
use Rattle.pm_lexer.specs.declared.symbol.Symbol.{Symbol}
use Rattle.pm_lexer.specs.declared.symbol.Symbol.TheVariants as symbol
use Rattle.pm_lexer.specs.Symbol.{spelling}
use Rattle.pm_grammar.specs.declared.names.PlacedName.{PlacedName}
use Rattle.pm_syntax.specs.declared.tree.ColumnName.{ColumnName}
use Rattle.pm_syntax.specs.declared.tree.Func.{Func}
use Rattle.pm_syntax.specs.declared.tree.Expr.{Expr}
use Rattle.pm_syntax.specs.declared.tree.Expr.TheVariants as expr
use Rattle.pm_syntax.specs.declared.tree.Item.{Item}
use Rattle.pm_syntax.specs.declared.tree.Items.{Items}
use Rattle.pm_syntax.specs.declared.tree.Items.TheVariants as items
use Rattle.pm_syntax.specs.declared.tree.Source.{Source}
use Rattle.pm_syntax.specs.declared.tree.Literal.{Literal}
use Rattle.pm_syntax.specs.declared.tree.Literal.TheVariants as literal
use Rattle.pm_syntax.specs.declared.tree.Atom.{Atom}
use Rattle.pm_syntax.specs.declared.tree.Atom.TheVariants as atom
use Rattle.pm_values.specs.declared.condition.Comparison.{Comparison}
use Rattle.pm_values.specs.declared.condition.Comparison.TheVariants as comparison
use Rattle.pm_syntax.specs.declared.tree.Test.{Test, fold-Test}
use Rattle.pm_syntax.specs.declared.tree.Test.TheOpen.{Test-F}
use Rattle.pm_syntax.specs.declared.tree.Test.TheOpen as layer
use Rattle.pm_syntax.specs.declared.tree.OrderItem.{OrderItem}
use Rattle.pm_syntax.specs.declared.tree.Select.{Select}
use Rattle.pm_lexer.specs.Quoting.{quoted, is_plain}
use Rattle.pm_canonical.specs.Canon.{canon_func, pointed, padded}

-- what a token is, but for its place
pub record Shape : Type 0 where
  pub kind : TokenKind
  pub slice : List ℕ

abbrev pub shape_of : Token → Shape
shape_of token = record { kind = token.kind; slice = token.slice }

abbrev pub end_shape : Shape
end_shape = record { kind = kind.End; slice = [] }

-- a reserved word in capitals, and a sign
abbrev pub word : Symbol → Shape
word s = record { kind = kind.Reserved; slice = spelling s }

abbrev pub sign : Symbol → Shape
sign s = record { kind = kind.Sign; slice = spelling s }

-- pieces with a separator between them
abbrev pub between : Shape → List (List Shape) → List Shape
between sep [] = []
between sep (piece ∷ []) = piece
between sep (piece ∷ next ∷ more) = piece ++ sep ∷ between sep (next ∷ more)

unfoldable pub shape_name : List ℕ → Shape
shape_name name = if is_plain name then record { kind = kind.Name; slice = name } else record { kind = kind.Quoted; slice = quoted 34 name }

abbrev pub shapes_alias : Option PlacedName → List Shape
shapes_alias None = []
shapes_alias (Some alias) = shape_name alias.text ∷ sign symbol.Point ∷ []

unfoldable pub shapes_column : ColumnName → List Shape
shapes_column column = shapes_alias column.alias ++ shape_name column.name.text ∷ []

abbrev pub shape_func : Func → Shape
shape_func f = record { kind = kind.Name; slice = canon_func f }

unfoldable pub shapes_expr : Expr → List Shape
shapes_expr (expr.Column column) = shapes_column column
shapes_expr (expr.CountAll at) = record { kind = kind.Name; slice = codes "COUNT" } ∷ sign symbol.Open ∷ sign symbol.Star ∷ sign symbol.Close ∷ []
shapes_expr (expr.Call f column at) = shape_func f ∷ sign symbol.Open ∷ shapes_column column ++ sign symbol.Close ∷ []

abbrev pub shape_digits : ℤ → ℕ → Shape
shape_digits value decimals = record { kind = kind.Number; slice = pointed decimals (padded (decimals + 1) (decimal (unsigned_abs value))) }

unfoldable pub shapes_number : ℤ → ℕ → List Shape
shapes_number value decimals = (if int_lt value (pos 0) then sign symbol.Minus ∷ [] else []) ++ shape_digits value decimals ∷ []

unfoldable pub shapes_literal : Literal → List Shape
shapes_literal literal.Null = word symbol.Null ∷ []
shapes_literal (literal.Number value decimals) = shapes_number value decimals
shapes_literal (literal.Text text) = record { kind = kind.Text; slice = quoted 39 text } ∷ []

abbrev pub shapes_atom : Atom → List Shape
shapes_atom (atom.Expr e) = shapes_expr e
shapes_atom (atom.Literal l) = shapes_literal l

abbrev pub shape_comparison : Comparison → Shape
shape_comparison comparison.Equal = sign symbol.Equal
shape_comparison comparison.Unequal = sign symbol.Unequal
shape_comparison comparison.Less = sign symbol.Less
shape_comparison comparison.AtMost = sign symbol.AtMost
shape_comparison comparison.Greater = sign symbol.Greater
shape_comparison comparison.AtLeast = sign symbol.AtLeast

-- a condition's tokens, and whether it is an OR list or an AND list
pub record Phrase : Type 0 where
  pub any : Bool
  pub all : Bool
  pub shapes : List Shape

abbrev pub single : List Shape → Phrase
single shapes = record { any = false; all = false; shapes = shapes }

-- whether a member of an OR list (true) or of an AND list stands in parentheses
abbrev pub in_parens : Bool → Phrase → Bool
in_parens in_or phrase = if phrase.any then true else (if phrase.all then not in_or else false)

abbrev pub member_shapes : Bool → Phrase → List Shape
member_shapes in_or phrase = if in_parens in_or phrase then sign symbol.Open ∷ phrase.shapes ++ sign symbol.Close ∷ [] else phrase.shapes

abbrev pub list_word : Bool → Shape
list_word true = word symbol.Or
list_word false = word symbol.And

abbrev pub shapes_negation : Bool → List Shape
shapes_negation negated = if negated then word symbol.Not ∷ [] else []

abbrev pub shapes_layer : Test-F Phrase → Phrase
shapes_layer (layer.Any members) = record { any = true; all = false; shapes = between (list_word true) (map (member_shapes true) members) }
shapes_layer (layer.All members) = record { any = false; all = true; shapes = between (list_word false) (map (member_shapes false) members) }
shapes_layer (layer.Not part) = single (word symbol.Not ∷ member_shapes false part)
shapes_layer (layer.Compare how left right at) = single (shapes_atom left ++ shape_comparison how ∷ shapes_atom right)
shapes_layer (layer.IsNull of negated) = single (shapes_atom of ++ (word symbol.Is ∷ shapes_negation negated ++ word symbol.Null ∷ []))
shapes_layer (layer.OneOf of list negated at) =
    single (shapes_atom of ++ (shapes_negation negated ++ (word symbol.In ∷ sign symbol.Open ∷ between (sign symbol.Comma) (map shapes_literal list) ++ sign symbol.Close ∷ [])))
shapes_layer (layer.Between of low high negated at) =
    single (shapes_atom of ++ (shapes_negation negated ++ (word symbol.Between ∷ shapes_atom low ++ word symbol.And ∷ shapes_atom high)))

abbrev pub phrase_of : Test → Phrase
phrase_of = fold-Test Phrase shapes_layer

abbrev pub shapes_test : Test → List Shape
shapes_test t = (phrase_of t).shapes

unfoldable pub shapes_given : Option PlacedName → List Shape
shapes_given None = []
shapes_given (Some name) = word symbol.As ∷ shape_name name.text ∷ []

unfoldable pub shapes_item : Item → List Shape
shapes_item item = shapes_expr item.expr ++ shapes_given item.given

unfoldable pub shapes_items : Items → List Shape
shapes_items (items.All at) = sign symbol.Star ∷ []
shapes_items (items.List list) = between (sign symbol.Comma) (map shapes_item list)

unfoldable pub shapes_source : Source → List Shape
shapes_source source = shape_name source.table.text ∷ shapes_given source.alias

abbrev pub shapes_join : Bool → List Shape
shapes_join left = if left then word symbol.Left ∷ word symbol.Join ∷ [] else word symbol.Join ∷ []

-- a source after others
abbrev pub shapes_further : Option Test → Source → List Shape
shapes_further None source = sign symbol.Comma ∷ shapes_source source
shapes_further (Some on) source = shapes_join source.left ++ (shapes_source source ++ word symbol.On ∷ shapes_test on)

abbrev pub shapes_sources : List Source → List Shape
shapes_sources [] = []
shapes_sources (first ∷ more) = shapes_source first ++ flat_map (λ s. shapes_further s.on s) more

unfoldable pub shapes_key : OrderItem → List Shape
shapes_key key = shapes_expr key.expr ++ (if key.descending then word symbol.Desc ∷ [] else [])

-- a part after its words, where there is one
abbrev pub shapes_condition : Shape → Option Test → List Shape
shapes_condition first None = []
shapes_condition first (Some cond) = first ∷ shapes_test cond

abbrev pub shapes_list : {A : Type 0} → List Shape → (A → List Shape) → List A → List Shape
shapes_list words f [] = []
shapes_list words f (x ∷ xs) = words ++ between (sign symbol.Comma) (map f (x ∷ xs))

unfoldable pub shapes_select : Select → List Shape
shapes_select s =
    word symbol.Select ∷ ((if s.distinct then word symbol.Distinct ∷ [] else []) ++ (shapes_items s.items ++ (word symbol.From ∷ (shapes_sources s.sources
    ++ (shapes_condition (word symbol.Where) s.filter ++ (shapes_list (word symbol.Group ∷ word symbol.By ∷ []) shapes_column s.groups
    ++ (shapes_condition (word symbol.Having) s.having ++ shapes_list (word symbol.Order ∷ word symbol.By ∷ []) shapes_key s.orders)))))))
