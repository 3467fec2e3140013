-- Steps of the bodies that read a statement: proofs compute with them, and no public contract cites them. What is read is said in Grammar.
use Rattle.std.specs.Prelude.{ℕ, zero, suc, pos, neg_ℤ, Bool, true, false, if◌then◌else◌, ◌&&◌, List, [], ◌∷◌, Option, Some, None, Ok, Err, length, drop, is_some, unwrap_or}
use Rattle.pm_lexer.specs.declared.token.Token.{Token}
use Rattle.pm_lexer.specs.declared.symbol.Symbol.TheVariants as symbol
use Rattle.pm_lexer.specs.Symbol.{is}
use Rattle.pm_lexer.specs.Pieces.{content_of, decimals_len}
use Rattle.pm_grammar.specs.Reading.{too_deep, Read, ◌>>=◌, place_of, sees, token_at, optional_at, named, name_at}
use Rattle.pm_grammar.specs.Steps.{more_at, list_at}
use Rattle.pm_grammar.specs.declared.names.PlacedName.{PlacedName}
use Rattle.pm_syntax.specs.declared.tree.ColumnName.{ColumnName}
use Rattle.pm_syntax.specs.declared.tree.Func.TheVariants as func
use Rattle.pm_syntax.specs.declared.tree.Expr.{Expr}
use Rattle.pm_syntax.specs.declared.tree.Expr.TheVariants as expr
use Rattle.pm_syntax.specs.declared.tree.Item.{Item}
use Rattle.pm_syntax.specs.declared.tree.Items.{Items}
use Rattle.pm_syntax.specs.declared.tree.Items.TheVariants as items
use Rattle.pm_syntax.specs.declared.tree.Source.{Source}
use Rattle.pm_syntax.specs.declared.tree.Link.{Link}
use Rattle.pm_syntax.specs.declared.tree.Link.TheVariants as link
use Rattle.pm_syntax.specs.declared.tree.Literal.{Literal}
use Rattle.pm_syntax.specs.declared.tree.Literal.TheVariants as literal
use Rattle.pm_syntax.specs.declared.tree.Atom.{Atom}
use Rattle.pm_syntax.specs.declared.tree.Atom.TheVariants as atom
use Rattle.pm_values.specs.declared.condition.Comparison.TheVariants as comparison
use Rattle.pm_syntax.specs.declared.tree.Test.{Test}
use Rattle.pm_syntax.specs.declared.tree.Test.TheVariants as test
use Rattle.pm_syntax.specs.declared.tree.OrderItem.{OrderItem}
use Rattle.pm_syntax.specs.declared.tree.Select.{Select}
use Rattle.pm_syntax.specs.Terminals.{comparison_of, compares, func_of, magnitude, begins_literal, begins_test, opens, begins_link}
use Rattle.pm_syntax.specs.Grammar.{all_of, any_of, counts, is_left}

unfoldable pub column_after : PlacedName → List Token → Read ColumnName
column_after first ts =
    if sees (is symbol.Point) ts then (name_at (is symbol.Name) (drop 1 ts) >>= λ name. Ok (record { alias = Some first; name = name.0 }, name.1))
    else Ok (record { alias = None; name = first }, ts)

unfoldable pub column_at : List Token → Read ColumnName
column_at ts = name_at (is symbol.Name) ts >>= λ first. column_after first.0 first.1

-- after a function and its parenthesis
unfoldable pub call_after : Token → List Token → Read Expr
call_after f ts =
    if counts f && sees (is symbol.Star) ts then (token_at (is symbol.Close) (drop 1 ts) >>= λ close. Ok (expr.CountAll f.at, close.1))
    else (column_at ts >>= λ column. token_at (is symbol.Close) column.1 >>= λ close. Ok (expr.Call (unwrap_or (func_of f) func.Count) column.0 f.at, close.1))

unfoldable pub expr_after : Token → List Token → Read Expr
expr_after first ts =
    if is_some (func_of first) && sees (is symbol.Open) ts then call_after first (drop 1 ts)
    else (column_after (named first) ts >>= λ column. Ok (expr.Column column.0, column.1))

unfoldable pub expr_at : List Token → Read Expr
expr_at ts = token_at (is symbol.Name) ts >>= λ first. expr_after first.0 first.1

unfoldable pub literal_at : List Token → Read Literal
literal_at ts =
    if sees (is symbol.Minus) ts then (token_at (is symbol.Number) (drop 1 ts) >>= λ n. Ok (literal.Number (neg_ℤ (pos (magnitude n.0))) (decimals_len n.0.slice), n.1))
    else (if sees (is symbol.Text) ts then (token_at (is symbol.Text) ts >>= λ text. Ok (literal.Text (content_of text.0), text.1))
    else (if sees (is symbol.Null) ts then Ok (literal.Null, drop 1 ts)
    else (token_at (is symbol.Number) ts >>= λ n. Ok (literal.Number (pos (magnitude n.0)) (decimals_len n.0.slice), n.1))))

unfoldable pub term_at : Bool → List Token → Read Expr
term_at grouped ts = if grouped then expr_at ts else (column_at ts >>= λ column. Ok (expr.Column column.0, column.1))

unfoldable pub operand_at : Bool → List Token → Read Atom
operand_at grouped ts =
    if sees (is symbol.Name) ts then (term_at grouped ts >>= λ e. Ok (atom.Expr e.0, e.1))
    else (literal_at ts >>= λ l. Ok (atom.Literal l.0, l.1))

unfoldable pub literals_at : List Token → Read (List Literal)
literals_at ts = list_at (is symbol.Comma) (token_at begins_literal) literal_at 256 ts

unfoldable pub compare_after : Bool → Atom → List Token → Read Test
compare_after grouped left ts =
    token_at compares ts >>= λ sign. operand_at grouped sign.1 >>= λ right. Ok (test.Compare (unwrap_or (comparison_of sign.0) comparison.Equal) left right.0 sign.0.at, right.1)

unfoldable pub null_after : Atom → List Token → Read Test
null_after of ts =
    let negation = optional_at (is symbol.Not) ts in
    token_at (is symbol.Null) negation.1 >>= λ null. Ok (test.IsNull of (is_some negation.0), null.1)

unfoldable pub in_after : Atom → Option Token → Token → List Token → Read Test
in_after of negation word ts =
    token_at (is symbol.Open) ts >>= λ paren. literals_at paren.1 >>= λ list. token_at (is symbol.Close) list.1 >>= λ close.
    Ok (test.OneOf of list.0 (is_some negation) (unwrap_or negation word).at, close.1)

unfoldable pub between_after : Bool → Atom → Option Token → Token → List Token → Read Test
between_after grouped of negation word ts =
    operand_at grouped ts >>= λ low. token_at (is symbol.And) low.1 >>= λ and. operand_at grouped and.1 >>= λ high.
    Ok (test.Between of low.0 high.0 (is_some negation) (unwrap_or negation word).at, high.1)

unfoldable pub range_after : Bool → Atom → Option Token → List Token → Read Test
range_after grouped of negation ts =
    if sees (is symbol.In) ts then (token_at (is symbol.In) ts >>= λ word. in_after of negation word.0 word.1)
    else (token_at (is symbol.Between) ts >>= λ word. between_after grouped of negation word.0 word.1)

unfoldable pub test_after : Bool → Atom → List Token → Read Test
test_after grouped of ts =
    if sees compares ts then compare_after grouped of ts
    else (if sees (is symbol.Is) ts then null_after of (drop 1 ts)
    else (let negation = optional_at (is symbol.Not) ts in range_after grouped of negation.0 negation.1))

unfoldable pub test_at : Bool → List Token → Read Test
test_at grouped ts = operand_at grouped ts >>= λ of. test_after grouped of.0 of.1

unfoldable pub ands_at : (List Token → Read Token) → (List Token → Read Test) → List Token → Read Test
ands_at peek p ts = list_at (is symbol.And) peek p 256 ts >>= λ members. Ok (all_of members.0, members.1)

unfoldable pub cond_at : (List Token → Read Token) → (List Token → Read Test) → List Token → Read Test
cond_at peek p ts = list_at (is symbol.Or) peek (ands_at peek p) 256 ts >>= λ members. Ok (any_of members.0, members.1)

-- the first token of a part past the limit of its list
unfoldable pub part_peek : ℕ → List Token → Read Token
part_peek zero ts = if sees opens ts then Err (too_deep (place_of ts)) else token_at begins_test ts
part_peek (suc d) ts = if sees opens ts then token_at opens ts else token_at begins_test ts

unfoldable pub part_at : Bool → ℕ → List Token → Read Test
part_at grouped zero ts = if sees opens ts then Err (too_deep (place_of ts)) else test_at grouped ts
part_at grouped (suc d) ts =
    if sees (is symbol.Not) ts then (part_at grouped d (drop 1 ts) >>= λ part. Ok (test.Not part.0, part.1))
    else (if sees (is symbol.Open) ts then (cond_at (part_peek d) (part_at grouped d) (drop 1 ts) >>= λ cond. token_at (is symbol.Close) cond.1 >>= λ close. Ok (cond.0, close.1))
    else test_at grouped ts)

unfoldable pub condition_at : Bool → ℕ → List Token → Read Test
condition_at grouped d ts = cond_at (part_peek d) (part_at grouped d) ts

unfoldable pub given_at : List Token → Read (Option PlacedName)
given_at ts =
    if sees (is symbol.As) ts then (name_at (is symbol.Name) (drop 1 ts) >>= λ name. Ok (Some name.0, name.1))
    else (if sees (is symbol.Name) ts then (name_at (is symbol.Name) ts >>= λ name. Ok (Some name.0, name.1)) else Ok (None, ts))

unfoldable pub item_at : List Token → Read Item
item_at ts = expr_at ts >>= λ e. given_at e.1 >>= λ given. Ok (record { expr = e.0; given = given.0 }, given.1)

abbrev pub item_list_at : List Token → Read (List Item)
item_list_at ts = list_at (is symbol.Comma) (token_at (is symbol.Name)) item_at 64 ts

unfoldable pub items_at : List Token → Read Items
items_at ts =
    if sees (is symbol.Star) ts then (token_at (is symbol.Star) ts >>= λ star. Ok (items.All star.0.at, star.1))
    else (item_list_at ts >>= λ list. Ok (items.List list.0, list.1))

unfoldable pub link_at : List Token → Read Link
link_at ts =
    if sees (is symbol.Comma) ts then Ok (link.Comma, drop 1 ts)
    else (if sees (is symbol.Inner) ts then (token_at (is symbol.Join) (drop 1 ts) >>= λ join. Ok (link.Join, join.1))
    else (if sees (is symbol.Left) ts then (let outer = optional_at (is symbol.Outer) (drop 1 ts) in token_at (is symbol.Join) outer.1 >>= λ join. Ok (link.LeftJoin, join.1))
    else (token_at (is symbol.Join) ts >>= λ join. Ok (link.Join, join.1))))

unfoldable pub join_condition_at : ℕ → List Token → Read (Option Test)
join_condition_at d ts = token_at (is symbol.On) ts >>= λ on. condition_at false d on.1 >>= λ cond. Ok (Some cond.0, cond.1)

unfoldable pub on_at : ℕ → Link → List Token → Read (Option Test)
on_at d link.Comma ts = Ok (None, ts)
on_at d link.Join ts = join_condition_at d ts
on_at d link.LeftJoin ts = join_condition_at d ts

unfoldable pub source_at : ℕ → Link → List Token → Read Source
source_at d l ts =
    name_at (is symbol.Name) ts >>= λ table. given_at table.1 >>= λ alias. on_at d l alias.1 >>= λ on.
    Ok (record { table = table.0; alias = alias.0; on = on.0; left = is_left l }, on.1)

abbrev pub more_sources_at : ℕ → List Source → List Token → Read (List Source)
more_sources_at d before ts = more_at begins_link link_at (token_at (is symbol.Name)) (source_at d) 64 (length ts) before ts

unfoldable pub sources_at : ℕ → List Token → Read (List Source)
sources_at d ts = source_at d link.Comma ts >>= λ first. more_sources_at d (first.0 ∷ []) first.1

unfoldable pub where_at : ℕ → List Token → Read (Option Test)
where_at d ts = if sees (is symbol.Where) ts then (condition_at false d (drop 1 ts) >>= λ cond. Ok (Some cond.0, cond.1)) else Ok (None, ts)

unfoldable pub having_at : ℕ → List Token → Read (Option Test)
having_at d ts = if sees (is symbol.Having) ts then (condition_at true d (drop 1 ts) >>= λ cond. Ok (Some cond.0, cond.1)) else Ok (None, ts)

abbrev pub column_list_at : List Token → Read (List ColumnName)
column_list_at ts = list_at (is symbol.Comma) (token_at (is symbol.Name)) column_at 64 ts

unfoldable pub groups_at : List Token → Read (List ColumnName)
groups_at ts =
    if sees (is symbol.Group) ts then (token_at (is symbol.By) (drop 1 ts) >>= λ by. column_list_at by.1)
    else Ok ([], ts)

unfoldable pub direction_at : List Token → Read Bool
direction_at ts = if sees (is symbol.Desc) ts then Ok (true, drop 1 ts) else (if sees (is symbol.Asc) ts then Ok (false, drop 1 ts) else Ok (false, ts))

unfoldable pub key_at : List Token → Read OrderItem
key_at ts = expr_at ts >>= λ e. direction_at e.1 >>= λ descending. Ok (record { expr = e.0; descending = descending.0 }, descending.1)

abbrev pub key_list_at : List Token → Read (List OrderItem)
key_list_at ts = list_at (is symbol.Comma) (token_at (is symbol.Name)) key_at 64 ts

unfoldable pub orders_at : List Token → Read (List OrderItem)
orders_at ts =
    if sees (is symbol.Order) ts then (token_at (is symbol.By) (drop 1 ts) >>= λ by. key_list_at by.1)
    else Ok ([], ts)

unfoldable pub select_at : ℕ → List Token → Read Select
select_at d ts =
    token_at (is symbol.Select) ts >>= λ select.
    (let distinct = optional_at (is symbol.Distinct) select.1 in
    items_at distinct.1 >>= λ items. token_at (is symbol.From) items.1 >>= λ from. sources_at d from.1 >>= λ sources.
    where_at d sources.1 >>= λ filter. groups_at filter.1 >>= λ groups. having_at d groups.1 >>= λ having. orders_at having.1 >>= λ orders.
    (let semicolon = optional_at (is symbol.Semicolon) orders.1 in
    token_at (is symbol.End) semicolon.1 >>= λ end.
    Ok (record { distinct = is_some distinct.0; items = items.0; sources = sources.0; filter = filter.0; groups = groups.0; having = having.0; orders = orders.0 }, end.1)))
