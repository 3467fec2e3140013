-- What single tokens stand for.
use Rattle.std.specs.Prelude.{ℕ, Bool, ◌||◌, ◌+◌, ◌-◌, ◌*◌, List, Option, Some, None, if◌then◌else◌, codes, is_some, fold, filter}
use Rattle.std.specs.Str.{str_eq_ignore_ascii_case}
use Rattle.std.specs.Char.{is_ascii_digit}
use Rattle.pm_lexer.specs.declared.token.Token.{Token}
use Rattle.pm_lexer.specs.declared.token.TokenKind.{TokenKind}
use Rattle.pm_lexer.specs.declared.token.TokenKind.TheVariants as kind
use Rattle.pm_lexer.specs.declared.symbol.Symbol.{Symbol}
use Rattle.pm_lexer.specs.declared.symbol.Symbol.TheVariants as symbol
use Rattle.pm_lexer.specs.Symbol.{symbol_of, is}
use Rattle.pm_syntax.specs.declared.tree.Func.{Func}
use Rattle.pm_syntax.specs.declared.tree.Func.TheVariants as func
use Rattle.pm_values.specs.declared.condition.Comparison.{Comparison}
use Rattle.pm_values.specs.declared.condition.Comparison.TheVariants as comparison

-- the comparison of a sign
abbrev pub comparison_of_symbol : Symbol → Option Comparison
comparison_of_symbol symbol.Equal = Some comparison.Equal
comparison_of_symbol symbol.Unequal = Some comparison.Unequal
comparison_of_symbol symbol.Less = Some comparison.Less
comparison_of_symbol symbol.AtMost = Some comparison.AtMost
comparison_of_symbol symbol.Greater = Some comparison.Greater
comparison_of_symbol symbol.AtLeast = Some comparison.AtLeast
comparison_of_symbol _ = None

abbrev pub comparison_of : Token → Option Comparison
comparison_of token = comparison_of_symbol (symbol_of token)

abbrev pub compares : Token → Bool
compares token = is_some (comparison_of token)

-- the function that a word names, with ASCII case put aside
unfoldable pub func_named : List ℕ → Option Func
func_named word =
    if str_eq_ignore_ascii_case word (codes "COUNT") then Some func.Count
    else (if str_eq_ignore_ascii_case word (codes "SUM") then Some func.Sum
    else (if str_eq_ignore_ascii_case word (codes "MIN") then Some func.Min
    else (if str_eq_ignore_ascii_case word (codes "MAX") then Some func.Max
    else None)))

abbrev pub func_of_kind : TokenKind → List ℕ → Option Func
func_of_kind kind.Name slice = func_named slice
func_of_kind _ slice = None

-- the function that a plain name names
abbrev pub func_of : Token → Option Func
func_of token = func_of_kind token.kind token.slice

-- the number of a list of digits
abbrev pub digits_value : List ℕ → ℕ
digits_value digits = fold (λ n digit. 10 * n + (digit - 48)) 0 digits

-- the digits of a number without its point, as one number
abbrev pub magnitude_of : List ℕ → ℕ
magnitude_of slice = digits_value (filter is_ascii_digit slice)

abbrev pub magnitude : Token → ℕ
magnitude token = magnitude_of token.slice

-- what begins a literal, a test, a part one level deeper, and what joins a further source
abbrev pub begins_literal : Token → Bool
begins_literal t = is symbol.Minus t || is symbol.Text t || is symbol.Null t || is symbol.Number t

abbrev pub begins_test : Token → Bool
begins_test t = is symbol.Name t || begins_literal t

abbrev pub opens : Token → Bool
opens t = is symbol.Not t || is symbol.Open t

abbrev pub begins_link : Token → Bool
begins_link t = is symbol.Comma t || is symbol.Join t || is symbol.Inner t || is symbol.Left t
