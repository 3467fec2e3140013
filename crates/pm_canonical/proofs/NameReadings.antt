-- Names, columns and expressions are read back.
use Rattle.std.proofs.Common.{◌≡◌, ◌⊎◌, ℕ, Bool, true, false, List, [], ◌∷◌, ◌++◌, Option, Some, None, is_some, unwrap_or, if◌then◌else◌, refl, ◌∙◌, ap}
use Rattle.pm_lexer.specs.declared.token.Token.{Token}
use Rattle.pm_lexer.specs.declared.token.TokenKind.TheVariants as kind
use Rattle.pm_lexer.specs.declared.symbol.Symbol.TheVariants as symbol
use Rattle.pm_lexer.specs.Symbol.{is, same_symbol}
use Rattle.pm_lexer.specs.Pieces.{content_at}
use Rattle.pm_grammar.specs.Language.{Is}
use Rattle.pm_grammar.specs.declared.names.PlacedName.{PlacedName}
use Rattle.pm_syntax.specs.declared.tree.ColumnName.{ColumnName}
use Rattle.pm_syntax.specs.declared.tree.Func.{Func}
use Rattle.pm_syntax.specs.declared.tree.Func.TheVariants as func
use Rattle.pm_syntax.specs.declared.tree.Expr.{Expr}
use Rattle.pm_syntax.specs.declared.tree.Expr.TheVariants as expr
use Rattle.pm_grammar.specs.Reading.{named}
use Rattle.pm_syntax.specs.Terminals.{func_of, func_of_kind, func_named}
use Rattle.pm_syntax.specs.Grammar.{IsName, IsColumn, counts, is_count, IsCountAll, IsCall, IsExpr, IsGiven}
use Rattle.pm_lexer.specs.Quoting.{quoted, is_plain}
use Rattle.pm_canonical.specs.Canon.{canon_func}
use Rattle.pm_canonical.proofs.Shapes.{Shape, shape_of, sign, word, shape_name, shapes_alias, shapes_column, shape_func, shapes_expr, shapes_given}
use Rattle.pm_syntax.specs.Same.{unplaced_option, unplaced_name, unplaced_column, unplaced_expr}
use Rattle.pm_canonical.proofs.Combinators.{Reading, pure, mapped, left, right, bind, and_then, token, symbol_token, Stands}
use Rattle.pm_canonical.proofs.Standing.{stands_point, stands_open, stands_close, stands_star, stands_as}
use Rattle.pm_canonical.proofs.Quoting.{content_name}

-- a name's token, by whether the name is plain
abbrev name_shape : List ℕ → Bool → Shape
name_shape name true = record { kind = kind.Name; slice = name }
name_shape name false = record { kind = kind.Quoted; slice = quoted 34 name }

name_shape_is : (name : List ℕ) → shape_name name ≡ name_shape name (is_plain name)
unfolding shape_name
name_shape_is name = elim (is_plain name) as (λ b. (if b then record { kind = kind.Name; slice = name } else record { kind = kind.Quoted; slice = quoted 34 name }) ≡ name_shape name b) [ true ↦ refl | false ↦ refl ]

stands_name : (name : List ℕ) → Stands symbol.Name (shape_name name)
unfolding same_symbol
stands_name name = rw (name_shape_is name) (elim (is_plain name) as (λ b. Stands symbol.Name (name_shape name b)) [ true ↦ refl | false ↦ refl ])

content_is : (name : List ℕ) → content_at (shape_name name).kind (shape_name name).slice ≡ name
content_is name = rw (name_shape_is name) (elim (is_plain name) as (λ b. content_at (name_shape name b).kind (name_shape name b).slice ≡ name) [ true ↦ refl | false ↦ content_name name ])

pub name_read : (name : PlacedName) → Reading IsName (λ y. unplaced_name y ≡ unplaced_name name) (shape_name name.text ∷ [])
name_read name =
    mapped (Is (is symbol.Name)) named (λ t. shape_of t ≡ shape_name name.text) (λ y. unplaced_name y ≡ unplaced_name name) (shape_name name.text ∷ [])
    (symbol_token symbol.Name (shape_name name.text) (stands_name name.text))
    (λ t e. ap (λ x. unplaced_name (record { text = x; at = 0 })) (ap (λ h. content_at h.kind h.slice) e ∙ content_is name.text))

column_with : (alias : Option PlacedName) (name : PlacedName) → Reading IsColumn (λ y. unplaced_column y ≡ unplaced_column (record { alias = alias; name = name })) (shapes_alias alias ++ shape_name name.text ∷ [])
column_with None name =
    bind IsName (λ first next ts. next (record { alias = None; name = first }) ts ⊎ Is (is symbol.Point) (λ _. IsName (λ n. next (record { alias = Some first; name = n }))) ts)
    (λ y. unplaced_name y ≡ unplaced_name name) _ (shape_name name.text ∷ []) [] (name_read name)
    (λ first same. left (λ next. next (record { alias = None; name = first })) (λ next. Is (is symbol.Point) (λ _. IsName (λ n. next (record { alias = Some first; name = n })))) _ []
    (pure _ (record { alias = None; name = first }) (ap (λ x. unplaced_column (record { alias = None; name = x })) same)))
column_with (Some alias) name =
    bind IsName (λ first next ts. next (record { alias = None; name = first }) ts ⊎ Is (is symbol.Point) (λ _. IsName (λ n. next (record { alias = Some first; name = n }))) ts)
    (λ y. unplaced_name y ≡ unplaced_name alias) _ (shape_name alias.text ∷ []) (sign symbol.Point ∷ shape_name name.text ∷ []) (name_read alias)
    (λ first same. right (λ next. next (record { alias = None; name = first })) (λ next. Is (is symbol.Point) (λ _. IsName (λ n. next (record { alias = Some first; name = n })))) _ (sign symbol.Point ∷ shape_name name.text ∷ [])
    (and_then symbol.Point (sign symbol.Point) stands_point (λ _ next. IsName (λ n. next (record { alias = Some first; name = n }))) _ (shape_name name.text ∷ [])
    (λ _ _. mapped IsName (λ n. record { alias = Some first; name = n }) (λ y. unplaced_name y ≡ unplaced_name name) _ (shape_name name.text ∷ []) (name_read name)
    (λ n is. ap (λ x. record { alias = Some x; name = unplaced_name n }) same ∙ ap (λ x. record { alias = Some (unplaced_name alias); name = x }) is))))

pub column_read : (column : ColumnName) → Reading IsColumn (λ y. unplaced_column y ≡ unplaced_column column) (shapes_column column)
unfolding shapes_column
column_read column = column_with column.alias column.name

pub given_read : (given : Option PlacedName) → Reading IsGiven (λ y. unplaced_option unplaced_name y ≡ unplaced_option unplaced_name given) (shapes_given given)
unfolding shapes_given
given_read None =
    left (λ next. next None) (λ next ts. IsName (λ name. next (Some name)) ts ⊎ Is (is symbol.As) (λ _. IsName (λ name. next (Some name))) ts) _ [] (pure _ None refl)
given_read (Some name) =
    right (λ next. next None) (λ next ts. IsName (λ n. next (Some n)) ts ⊎ Is (is symbol.As) (λ _. IsName (λ n. next (Some n))) ts) _ (word symbol.As ∷ shape_name name.text ∷ [])
    (right (λ next. IsName (λ n. next (Some n))) (λ next. Is (is symbol.As) (λ _. IsName (λ n. next (Some n)))) _ (word symbol.As ∷ shape_name name.text ∷ [])
    (and_then symbol.As (word symbol.As) stands_as (λ _ next. IsName (λ n. next (Some n))) _ (shape_name name.text ∷ [])
    (λ _ _. mapped IsName (λ n. Some n) (λ y. unplaced_name y ≡ unplaced_name name) _ (shape_name name.text ∷ []) (name_read name) (λ n same. ap (λ x. Some x) same))))

-- the function that its name in capitals names
func_shape : (f : Func) → func_of_kind kind.Name (canon_func f) ≡ Some f
unfolding func_named
func_shape func.Count = refl
func_shape func.Sum = refl
func_shape func.Min = refl
func_shape func.Max = refl

func_is : (f : Func) (t : Token) → shape_of t ≡ shape_func f → func_of t ≡ Some f
func_is f t e = ap (λ h. func_of_kind h.kind h.slice) e ∙ func_shape f

pub column_expr : (column : ColumnName) → Reading (λ next. IsColumn (λ c. next (expr.Column c))) (λ y. unplaced_expr y ≡ unplaced_expr (expr.Column column)) (shapes_column column)
column_expr column = mapped IsColumn (λ c. expr.Column c) (λ y. unplaced_column y ≡ unplaced_column column) _ (shapes_column column) (column_read column) (λ c same. ap (λ x. expr.Column x) same)

count_all_read : (at : ℕ) → Reading IsCountAll (λ y. unplaced_expr y ≡ expr.CountAll 0) (shape_func func.Count ∷ sign symbol.Open ∷ sign symbol.Star ∷ sign symbol.Close ∷ [])
count_all_read at =
    bind (Is counts) (λ count next. Is (is symbol.Open) (λ _. Is (is symbol.Star) (λ _. Is (is symbol.Close) (λ _. next (expr.CountAll count.at))))) (λ t. shape_of t ≡ shape_func func.Count) _
    (shape_func func.Count ∷ []) (sign symbol.Open ∷ sign symbol.Star ∷ sign symbol.Close ∷ [])
    (token counts (shape_func func.Count) (λ t e. ap is_count (func_is func.Count t e)))
    (λ count _. and_then symbol.Open (sign symbol.Open) stands_open (λ _ next. Is (is symbol.Star) (λ _. Is (is symbol.Close) (λ _. next (expr.CountAll count.at)))) _ (sign symbol.Star ∷ sign symbol.Close ∷ [])
    (λ _ _. and_then symbol.Star (sign symbol.Star) stands_star (λ _ next. Is (is symbol.Close) (λ _. next (expr.CountAll count.at))) _ (sign symbol.Close ∷ [])
    (λ _ _. and_then symbol.Close (sign symbol.Close) stands_close (λ _ next. next (expr.CountAll count.at)) _ []
    (λ _ _. pure _ (expr.CountAll count.at) refl))))

call_read : (f : Func) (column : ColumnName) → Reading IsCall (λ y. unplaced_expr y ≡ expr.Call f (unplaced_column column) 0) (shape_func f ∷ sign symbol.Open ∷ shapes_column column ++ sign symbol.Close ∷ [])
call_read f column =
    bind (Is (λ t. is_some (func_of t))) (λ t next. Is (is symbol.Open) (λ _. IsColumn (λ c. Is (is symbol.Close) (λ _. next (expr.Call (unwrap_or (func_of t) func.Count) c t.at))))) (λ t. shape_of t ≡ shape_func f) _
    (shape_func f ∷ []) (sign symbol.Open ∷ shapes_column column ++ sign symbol.Close ∷ [])
    (token (λ t. is_some (func_of t)) (shape_func f) (λ t e. ap is_some (func_is f t e)))
    (λ t e. and_then symbol.Open (sign symbol.Open) stands_open (λ _ next. IsColumn (λ c. Is (is symbol.Close) (λ _. next (expr.Call (unwrap_or (func_of t) func.Count) c t.at)))) _ (shapes_column column ++ sign symbol.Close ∷ [])
    (λ _ _. bind IsColumn (λ c next. Is (is symbol.Close) (λ _. next (expr.Call (unwrap_or (func_of t) func.Count) c t.at))) (λ y. unplaced_column y ≡ unplaced_column column) _ (shapes_column column) (sign symbol.Close ∷ []) (column_read column)
    (λ c same. and_then symbol.Close (sign symbol.Close) stands_close (λ _ next. next (expr.Call (unwrap_or (func_of t) func.Count) c t.at)) _ []
    (λ _ _. pure _ (expr.Call (unwrap_or (func_of t) func.Count) c t.at)
    (ap (λ x. expr.Call (unwrap_or x func.Count) (unplaced_column c) 0) (func_is f t e) ∙ ap (λ x. expr.Call f x 0) same)))))

pub expr_read : (e : Expr) → Reading IsExpr (λ y. unplaced_expr y ≡ unplaced_expr e) (shapes_expr e)
unfolding shapes_expr
expr_read (expr.Column column) = left (λ next. IsColumn (λ c. next (expr.Column c))) (λ next ts. IsCountAll next ts ⊎ IsCall next ts) _ _ (column_expr column)
expr_read (expr.CountAll at) = right (λ next. IsColumn (λ c. next (expr.Column c))) (λ next ts. IsCountAll next ts ⊎ IsCall next ts) _ _ (left IsCountAll IsCall _ _ (count_all_read at))
expr_read (expr.Call f column at) = right (λ next. IsColumn (λ c. next (expr.Column c))) (λ next ts. IsCountAll next ts ⊎ IsCall next ts) _ _ (right IsCountAll IsCall _ _ (call_read f column))
