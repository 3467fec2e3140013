-- The grammar of SELECT: one definition for each production. `Is (is X)` is the token X, `⊎` stands between alternatives, and what
-- follows a phrase is given its tree. `d` bounds the open parentheses and NOTs, and the gate says where an entry past the limit of
-- its list may begin. `grouped` says that expressions may be aggregates.
use Rattle.std.specs.Prelude.{◌⊎◌, ℕ, zero, suc, pos, Bool, true, false, List, [], ◌∷◌, Option, Some, None, is_some, unwrap_or}
use Rattle.std.specs.Prelude.{neg_ℤ}
use Rattle.pm_lexer.specs.declared.token.Token.{Token}
use Rattle.pm_lexer.specs.declared.symbol.Symbol.TheVariants as symbol
use Rattle.pm_lexer.specs.Symbol.{is}
use Rattle.pm_lexer.specs.Pieces.{content_of, decimals_len}
use Rattle.pm_grammar.specs.Language.{Lang, Gate, Is, IsFurther, IsList, IsOptional}
use Rattle.pm_grammar.specs.Reading.{named}
use Rattle.pm_grammar.specs.declared.names.PlacedName.{PlacedName}
use Rattle.pm_syntax.specs.declared.tree.ColumnName.{ColumnName}
use Rattle.pm_syntax.specs.declared.tree.Func.{Func}
use Rattle.pm_syntax.specs.declared.tree.Func.TheVariants as func
use Rattle.pm_syntax.specs.declared.tree.Expr.{Expr}
use Rattle.pm_syntax.specs.declared.tree.Expr.TheVariants as expr
use Rattle.pm_syntax.specs.declared.tree.Item.{Item}
use Rattle.pm_syntax.specs.declared.tree.Items.{Items}
use Rattle.pm_syntax.specs.declared.tree.Items.TheVariants as items
use Rattle.pm_syntax.specs.declared.tree.Source.{Source}
use Rattle.pm_syntax.specs.declared.tree.Link.{Link}
use Rattle.pm_syntax.specs.declared.tree.Link.TheVariants as link
use Rattle.pm_syntax.specs.declared.tree.Literal.{Literal}
use Rattle.pm_syntax.specs.declared.tree.Literal.TheVariants as literal
use Rattle.pm_syntax.specs.declared.tree.Atom.{Atom}
use Rattle.pm_syntax.specs.declared.tree.Atom.TheVariants as atom
use Rattle.pm_values.specs.declared.condition.Comparison.TheVariants as comparison
use Rattle.pm_syntax.specs.declared.tree.Test.{Test}
use Rattle.pm_syntax.specs.declared.tree.Test.TheVariants as test
use Rattle.pm_syntax.specs.declared.tree.OrderItem.{OrderItem}
use Rattle.pm_syntax.specs.declared.tree.Select.{Select}
use Rattle.pm_syntax.specs.Terminals.{comparison_of, compares, func_of, magnitude}

-- name, plain or quoted
abbrev pub IsName : Lang PlacedName
IsName next = Is (is symbol.Name) (λ name. next (named name))

-- column = name [ "." name ]
abbrev pub IsColumn : Lang ColumnName
IsColumn next = IsName (λ first ts.
    next (record { alias = None; name = first }) ts
    ⊎ Is (is symbol.Point) (λ _. IsName (λ name. next (record { alias = Some first; name = name }))) ts)

-- expr = column | COUNT "(" "*" ")" | func "(" column ")"
abbrev pub is_count : Option Func → Bool
is_count (Some func.Count) = true
is_count _ = false

abbrev pub counts : Token → Bool
counts token = is_count (func_of token)

abbrev pub IsCountAll : Lang Expr
IsCountAll next = Is counts (λ count. Is (is symbol.Open) (λ _. Is (is symbol.Star) (λ _. Is (is symbol.Close) (λ _. next (expr.CountAll count.at)))))

abbrev pub IsCall : Lang Expr
IsCall next = Is (λ t. is_some (func_of t)) (λ f. Is (is symbol.Open) (λ _. IsColumn (λ column. Is (is symbol.Close) (λ _.
    next (expr.Call (unwrap_or (func_of f) func.Count) column f.at)))))

abbrev pub IsExpr : Lang Expr
IsExpr next ts = IsColumn (λ column. next (expr.Column column)) ts ⊎ IsCountAll next ts ⊎ IsCall next ts

-- literal = [ "-" ] number | text | NULL
abbrev pub IsLiteral : Lang Literal
IsLiteral next ts =
    Is (is symbol.Number) (λ n. next (literal.Number (pos (magnitude n)) (decimals_len n.slice))) ts
    ⊎ Is (is symbol.Minus) (λ _. Is (is symbol.Number) (λ n. next (literal.Number (neg_ℤ (pos (magnitude n))) (decimals_len n.slice)))) ts
    ⊎ Is (is symbol.Text) (λ text. next (literal.Text (content_of text))) ts
    ⊎ Is (is symbol.Null) (λ _. next literal.Null) ts

-- operand = expr | literal, with a column in place of the expression where the condition is not grouped
abbrev pub IsTerm : Bool → Lang Expr
IsTerm true next = IsExpr next
IsTerm false next = IsColumn (λ column. next (expr.Column column))

abbrev pub IsOperand : Bool → Lang Atom
IsOperand grouped next ts = IsTerm grouped (λ e. next (atom.Expr e)) ts ⊎ IsLiteral (λ l. next (atom.Literal l)) ts

-- test = operand ( compare operand | IS [ NOT ] NULL | [ NOT ] IN "(" literal { "," literal } ")" | [ NOT ] BETWEEN operand AND operand )
abbrev pub IsCompare : Bool → Atom → Lang Test
IsCompare grouped left next = Is compares (λ sign. IsOperand grouped (λ right.
    next (test.Compare (unwrap_or (comparison_of sign) comparison.Equal) left right sign.at)))

abbrev pub IsNullTest : Atom → Lang Test
IsNullTest of next = Is (is symbol.Is) (λ _. IsOptional (is symbol.Not) (λ negation. Is (is symbol.Null) (λ _. next (test.IsNull of (is_some negation)))))

abbrev pub IsIn : Gate → Atom → Option Token → Lang Test
IsIn gate of negation next = Is (is symbol.In) (λ word. Is (is symbol.Open) (λ _. IsList gate 256 IsLiteral (is symbol.Comma) (λ list. Is (is symbol.Close) (λ _.
    next (test.OneOf of list (is_some negation) (unwrap_or negation word).at)))))

abbrev pub IsBetween : Bool → Atom → Option Token → Lang Test
IsBetween grouped of negation next = Is (is symbol.Between) (λ word. IsOperand grouped (λ low. Is (is symbol.And) (λ _. IsOperand grouped (λ high.
    next (test.Between of low high (is_some negation) (unwrap_or negation word).at)))))

abbrev pub IsTest : Bool → Gate → Lang Test
IsTest grouped gate next = IsOperand grouped (λ of ts.
    IsCompare grouped of next ts
    ⊎ IsNullTest of next ts
    ⊎ IsOptional (is symbol.Not) (λ negation ts. IsIn gate of negation next ts ⊎ IsBetween grouped of negation next ts) ts)

-- a list of one is its member
abbrev pub all_of : List Test → Test
all_of [] = test.All []
all_of (t ∷ []) = t
all_of (t ∷ u ∷ ts) = test.All (t ∷ u ∷ ts)

abbrev pub any_of : List Test → Test
any_of [] = test.Any []
any_of (t ∷ []) = t
any_of (t ∷ u ∷ ts) = test.Any (t ∷ u ∷ ts)

-- cond = part-and { OR part-and }, part-and = part { AND part }
abbrev pub IsPartAnd : Gate → Lang Test → Lang Test
IsPartAnd gate P next = IsList gate 256 P (is symbol.And) (λ members. next (all_of members))

abbrev pub IsCond : Gate → Lang Test → Lang Test
IsCond gate P next = IsList gate 256 (IsPartAnd gate P) (is symbol.Or) (λ members. next (any_of members))

-- part = NOT part | "(" cond ")" | test, with at most d open parentheses and NOTs
unfoldable pub IsPart : Bool → ℕ → Gate → Lang Test
IsPart grouped zero gate next ts = IsTest grouped gate next ts
IsPart grouped (suc d) gate next ts =
    Is (is symbol.Not) (λ _. IsPart grouped d gate (λ part. next (test.Not part))) ts
    ⊎ Is (is symbol.Open) (λ _. IsCond gate (IsPart grouped d gate) (λ cond. Is (is symbol.Close) (λ _. next cond))) ts
    ⊎ IsTest grouped gate next ts

abbrev pub IsCondition : Bool → ℕ → Gate → Lang Test
IsCondition grouped d gate next = IsCond gate (IsPart grouped d gate) next

-- [ [ AS ] name ]
abbrev pub IsGiven : Lang (Option PlacedName)
IsGiven next ts = next None ts ⊎ IsName (λ name. next (Some name)) ts ⊎ Is (is symbol.As) (λ _. IsName (λ name. next (Some name))) ts

-- item = expr [ [ AS ] name ], items = "*" | item { "," item }
abbrev pub IsItem : Lang Item
IsItem next = IsExpr (λ e. IsGiven (λ given. next (record { expr = e; given = given })))

abbrev pub IsItems : Gate → Lang Items
IsItems gate next ts = Is (is symbol.Star) (λ star. next (items.All star.at)) ts ⊎ IsList gate 64 IsItem (is symbol.Comma) (λ list. next (items.List list)) ts

-- source = name [ [ AS ] name ], sources = source { "," source | [ INNER ] JOIN source ON cond | LEFT [ OUTER ] JOIN source ON cond }
abbrev pub IsLink : Lang Link
IsLink next ts =
    Is (is symbol.Comma) (λ _. next link.Comma) ts
    ⊎ Is (is symbol.Join) (λ _. next link.Join) ts
    ⊎ Is (is symbol.Inner) (λ _. Is (is symbol.Join) (λ _. next link.Join)) ts
    ⊎ Is (is symbol.Left) (λ _. IsOptional (is symbol.Outer) (λ _. Is (is symbol.Join) (λ _. next link.LeftJoin))) ts

abbrev pub IsJoinCondition : ℕ → Gate → Lang (Option Test)
IsJoinCondition d gate next = Is (is symbol.On) (λ _. IsCondition false d gate (λ cond. next (Some cond)))

abbrev pub IsOn : ℕ → Gate → Link → Lang (Option Test)
IsOn d gate link.Comma next = next None
IsOn d gate link.Join next = IsJoinCondition d gate next
IsOn d gate link.LeftJoin next = IsJoinCondition d gate next

abbrev pub is_left : Link → Bool
is_left link.LeftJoin = true
is_left _ = false

abbrev pub IsSource : ℕ → Gate → Link → Lang Source
IsSource d gate l next = IsName (λ table. IsGiven (λ alias. IsOn d gate l (λ on. next (record { table = table; alias = alias; on = on; left = is_left l }))))

abbrev pub IsSources : ℕ → Gate → Lang (List Source)
IsSources d gate next = IsSource d gate link.Comma (λ first. IsFurther gate 64 IsLink (IsSource d gate) (first ∷ []) next)

-- [ WHERE cond ], [ GROUP BY column { "," column } ], [ HAVING cond ]
abbrev pub IsFilter : ℕ → Gate → Lang (Option Test)
IsFilter d gate next ts = next None ts ⊎ Is (is symbol.Where) (λ _. IsCondition false d gate (λ cond. next (Some cond))) ts

abbrev pub IsGroups : Gate → Lang (List ColumnName)
IsGroups gate next ts = next [] ts ⊎ Is (is symbol.Group) (λ _. Is (is symbol.By) (λ _. IsList gate 64 IsColumn (is symbol.Comma) next)) ts

abbrev pub IsHaving : ℕ → Gate → Lang (Option Test)
IsHaving d gate next ts = next None ts ⊎ Is (is symbol.Having) (λ _. IsCondition true d gate (λ cond. next (Some cond))) ts

-- key = expr [ ASC | DESC ], [ ORDER BY key { "," key } ]
abbrev pub IsDirection : Lang Bool
IsDirection next ts = next false ts ⊎ Is (is symbol.Asc) (λ _. next false) ts ⊎ Is (is symbol.Desc) (λ _. next true) ts

abbrev pub IsKey : Lang OrderItem
IsKey next = IsExpr (λ e. IsDirection (λ descending. next (record { expr = e; descending = descending })))

abbrev pub IsOrders : Gate → Lang (List OrderItem)
IsOrders gate next ts = next [] ts ⊎ Is (is symbol.Order) (λ _. Is (is symbol.By) (λ _. IsList gate 64 IsKey (is symbol.Comma) next)) ts

-- select = SELECT [ DISTINCT ] items FROM sources [ WHERE .. ] [ GROUP BY .. ] [ HAVING .. ] [ ORDER BY .. ] [ ";" ] end
abbrev pub IsSelect : ℕ → Gate → Lang Select
IsSelect d gate next = Is (is symbol.Select) (λ _. IsOptional (is symbol.Distinct) (λ distinct. IsItems gate (λ items. Is (is symbol.From) (λ _. IsSources d gate (λ sources.
    IsFilter d gate (λ filter. IsGroups gate (λ groups. IsHaving d gate (λ having. IsOrders gate (λ orders. IsOptional (is symbol.Semicolon) (λ _. Is (is symbol.End) (λ _.
    next (record { distinct = is_some distinct; items = items; sources = sources; filter = filter; groups = groups; having = having; orders = orders }))))))))))))
