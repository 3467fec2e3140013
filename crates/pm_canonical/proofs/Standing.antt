-- The symbols that shapes stand for.
use Rattle.std.proofs.Common.{refl}
use Rattle.pm_lexer.specs.declared.symbol.Symbol.TheVariants as symbol
use Rattle.pm_lexer.specs.Symbol.{same_symbol, reserved_word, canonical_sign}
use Rattle.pm_canonical.proofs.Shapes.{word, sign}
use Rattle.pm_canonical.proofs.Combinators.{Stands}

pub stands_select : Stands symbol.Select (word symbol.Select)
unfolding same_symbol reserved_word
stands_select = refl

pub stands_distinct : Stands symbol.Distinct (word symbol.Distinct)
unfolding same_symbol reserved_word
stands_distinct = refl

pub stands_from : Stands symbol.From (word symbol.From)
unfolding same_symbol reserved_word
stands_from = refl

pub stands_join : Stands symbol.Join (word symbol.Join)
unfolding same_symbol reserved_word
stands_join = refl

pub stands_left : Stands symbol.Left (word symbol.Left)
unfolding same_symbol reserved_word
stands_left = refl

pub stands_on : Stands symbol.On (word symbol.On)
unfolding same_symbol reserved_word
stands_on = refl

pub stands_where : Stands symbol.Where (word symbol.Where)
unfolding same_symbol reserved_word
stands_where = refl

pub stands_group : Stands symbol.Group (word symbol.Group)
unfolding same_symbol reserved_word
stands_group = refl

pub stands_by : Stands symbol.By (word symbol.By)
unfolding same_symbol reserved_word
stands_by = refl

pub stands_having : Stands symbol.Having (word symbol.Having)
unfolding same_symbol reserved_word
stands_having = refl

pub stands_order : Stands symbol.Order (word symbol.Order)
unfolding same_symbol reserved_word
stands_order = refl

pub stands_desc : Stands symbol.Desc (word symbol.Desc)
unfolding same_symbol reserved_word
stands_desc = refl

pub stands_and : Stands symbol.And (word symbol.And)
unfolding same_symbol reserved_word
stands_and = refl

pub stands_or : Stands symbol.Or (word symbol.Or)
unfolding same_symbol reserved_word
stands_or = refl

pub stands_not : Stands symbol.Not (word symbol.Not)
unfolding same_symbol reserved_word
stands_not = refl

pub stands_is : Stands symbol.Is (word symbol.Is)
unfolding same_symbol reserved_word
stands_is = refl

pub stands_null : Stands symbol.Null (word symbol.Null)
unfolding same_symbol reserved_word
stands_null = refl

pub stands_in : Stands symbol.In (word symbol.In)
unfolding same_symbol reserved_word
stands_in = refl

pub stands_between : Stands symbol.Between (word symbol.Between)
unfolding same_symbol reserved_word
stands_between = refl

pub stands_as : Stands symbol.As (word symbol.As)
unfolding same_symbol reserved_word
stands_as = refl

pub stands_open : Stands symbol.Open (sign symbol.Open)
unfolding same_symbol canonical_sign
stands_open = refl

pub stands_close : Stands symbol.Close (sign symbol.Close)
unfolding same_symbol canonical_sign
stands_close = refl

pub stands_comma : Stands symbol.Comma (sign symbol.Comma)
unfolding same_symbol canonical_sign
stands_comma = refl

pub stands_point : Stands symbol.Point (sign symbol.Point)
unfolding same_symbol canonical_sign
stands_point = refl

pub stands_star : Stands symbol.Star (sign symbol.Star)
unfolding same_symbol canonical_sign
stands_star = refl

pub stands_minus : Stands symbol.Minus (sign symbol.Minus)
unfolding same_symbol canonical_sign
stands_minus = refl
