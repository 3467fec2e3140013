-- Expressions, operands and tests that reading gives are valid.
use Rattle.std.proofs.Common.{◌≡◌, ◌⊎◌, pos, neg_ℤ, Bool, true, false, Option, Some, None, is_some, unwrap_or, arith}
use Rattle.pm_lexer.specs.declared.token.Token.{Token}
use Rattle.pm_lexer.specs.declared.symbol.Symbol.TheVariants as symbol
use Rattle.pm_lexer.specs.Symbol.{is}
use Rattle.pm_lexer.specs.Pieces.{content_of, decimals_len}
use Rattle.pm_grammar.specs.Language.{Is, IsList, never}
use Rattle.pm_syntax.specs.declared.tree.Func.TheVariants as func
use Rattle.pm_syntax.specs.declared.tree.Expr.TheVariants as expr
use Rattle.pm_syntax.specs.declared.tree.Literal.TheVariants as literal
use Rattle.pm_syntax.specs.declared.tree.Atom.{Atom}
use Rattle.pm_syntax.specs.declared.tree.Atom.TheVariants as atom
use Rattle.pm_values.specs.declared.condition.Comparison.TheVariants as comparison
use Rattle.pm_syntax.specs.declared.tree.Test.TheVariants as test
use Rattle.pm_grammar.specs.Reading.{named}
use Rattle.pm_syntax.specs.Terminals.{func_of, magnitude, comparison_of, compares}
use Rattle.pm_grammar.specs.Language.{IsOptional}
use Rattle.pm_syntax.specs.Grammar.{IsName, IsColumn, counts, IsCountAll, IsCall, IsExpr, IsLiteral, IsTerm, IsOperand, IsCompare, IsNullTest, IsIn, IsBetween, IsTest, IsGiven}
use Rattle.pm_canonical.proofs.Valid.{Where, ValidList, ValidPlaced, ValidColumn, ValidExpr, ValidLiteral, ValidTerm, ValidAtom, ValidLeaf, compared, null_test, listed, ranged}
use Rattle.pm_canonical.proofs.Formed.{IsFormed}
use Rattle.pm_canonical.proofs.Sound.{Sound, sound, sound_token, sound_bind, sound_map, sound_after, sound_or, sound_list}
use Rattle.pm_canonical.proofs.ValidNames.{placed_valid, number_valid}

pub sound_name : Sound IsName ValidPlaced
sound_name = sound_map (Is (is symbol.Name)) named (λ t. IsFormed t × (is symbol.Name t ≡ true)) ValidPlaced (sound_token (is symbol.Name)) (λ t v. placed_valid t v.0 v.1)

pub sound_column : Sound IsColumn ValidColumn
sound_column =
    sound_bind IsName (λ first next ts. next (record { alias = None; name = first }) ts ⊎ Is (is symbol.Point) (λ _. IsName (λ name. next (record { alias = Some first; name = name }))) ts) ValidPlaced ValidColumn sound_name
    (λ first valid. sound_or (λ next. next (record { alias = None; name = first })) (λ next. Is (is symbol.Point) (λ _. IsName (λ name. next (record { alias = Some first; name = name })))) ValidColumn
    (sound ValidColumn (record { alias = None; name = first }) (record { alias = tt; name = valid }))
    (sound_after (is symbol.Point) (λ _ next. IsName (λ name. next (record { alias = Some first; name = name }))) ValidColumn
    (λ _ _ _. sound_map IsName (λ name. record { alias = Some first; name = name }) ValidPlaced ValidColumn sound_name (λ name v. record { alias = valid; name = v }))))

pub sound_given : Sound IsGiven (Where ValidPlaced)
sound_given =
    sound_or (λ next. next None) (λ next ts. IsName (λ name. next (Some name)) ts ⊎ Is (is symbol.As) (λ _. IsName (λ name. next (Some name))) ts) (Where ValidPlaced) (sound (Where ValidPlaced) None tt)
    (sound_or (λ next. IsName (λ name. next (Some name))) (λ next. Is (is symbol.As) (λ _. IsName (λ name. next (Some name)))) (Where ValidPlaced)
    (sound_map IsName (λ name. Some name) ValidPlaced (Where ValidPlaced) sound_name (λ name v. v))
    (sound_after (is symbol.As) (λ _ next. IsName (λ name. next (Some name))) (Where ValidPlaced) (λ _ _ _. sound_map IsName (λ name. Some name) ValidPlaced (Where ValidPlaced) sound_name (λ name v. v))))

sound_count_all : Sound IsCountAll ValidExpr
sound_count_all =
    sound_after counts (λ count next. Is (is symbol.Open) (λ _. Is (is symbol.Star) (λ _. Is (is symbol.Close) (λ _. next (expr.CountAll count.at))))) ValidExpr
    (λ count _ _. sound_after (is symbol.Open) (λ _ next. Is (is symbol.Star) (λ _. Is (is symbol.Close) (λ _. next (expr.CountAll count.at)))) ValidExpr
    (λ _ _ _. sound_after (is symbol.Star) (λ _ next. Is (is symbol.Close) (λ _. next (expr.CountAll count.at))) ValidExpr
    (λ _ _ _. sound_after (is symbol.Close) (λ _ next. next (expr.CountAll count.at)) ValidExpr (λ _ _ _. sound ValidExpr (expr.CountAll count.at) tt))))

sound_call : Sound IsCall ValidExpr
sound_call =
    sound_after (λ t. is_some (func_of t)) (λ f next. Is (is symbol.Open) (λ _. IsColumn (λ column. Is (is symbol.Close) (λ _. next (expr.Call (unwrap_or (func_of f) func.Count) column f.at))))) ValidExpr
    (λ f _ _. sound_after (is symbol.Open) (λ _ next. IsColumn (λ column. Is (is symbol.Close) (λ _. next (expr.Call (unwrap_or (func_of f) func.Count) column f.at)))) ValidExpr
    (λ _ _ _. sound_bind IsColumn (λ column next. Is (is symbol.Close) (λ _. next (expr.Call (unwrap_or (func_of f) func.Count) column f.at))) ValidColumn ValidExpr sound_column
    (λ column valid. sound_after (is symbol.Close) (λ _ next. next (expr.Call (unwrap_or (func_of f) func.Count) column f.at)) ValidExpr
    (λ _ _ _. sound ValidExpr (expr.Call (unwrap_or (func_of f) func.Count) column f.at) valid))))

pub sound_expr : Sound IsExpr ValidExpr
sound_expr =
    sound_or (λ next. IsColumn (λ column. next (expr.Column column))) (λ next ts. IsCountAll next ts ⊎ IsCall next ts) ValidExpr
    (sound_map IsColumn (λ column. expr.Column column) ValidColumn ValidExpr sound_column (λ column v. v)) (sound_or IsCountAll IsCall ValidExpr sound_count_all sound_call)

-- literals and operands
abbrev Numeral : Token → Type 0
Numeral t = IsFormed t × (is symbol.Number t ≡ true)

pub sound_literal : Sound IsLiteral ValidLiteral
sound_literal =
    sound_or (λ next. Is (is symbol.Number) (λ n. next (literal.Number (pos (magnitude n)) (decimals_len n.slice)))) _ ValidLiteral
    (sound_map (Is (is symbol.Number)) (λ n. literal.Number (pos (magnitude n)) (decimals_len n.slice)) Numeral ValidLiteral (sound_token (is symbol.Number)) (λ n v. (number_valid n v.0 v.1).0))
    (sound_or (λ next. Is (is symbol.Minus) (λ _. Is (is symbol.Number) (λ n. next (literal.Number (neg_ℤ (pos (magnitude n))) (decimals_len n.slice))))) _ ValidLiteral
    (sound_after (is symbol.Minus) (λ _ next. Is (is symbol.Number) (λ n. next (literal.Number (neg_ℤ (pos (magnitude n))) (decimals_len n.slice)))) ValidLiteral
    (λ _ _ _. sound_map (Is (is symbol.Number)) (λ n. literal.Number (neg_ℤ (pos (magnitude n))) (decimals_len n.slice)) Numeral ValidLiteral (sound_token (is symbol.Number)) (λ n v. (number_valid n v.0 v.1).1)))
    (sound_or (λ next. Is (is symbol.Text) (λ text. next (literal.Text (content_of text)))) (λ next. Is (is symbol.Null) (λ _. next literal.Null)) ValidLiteral
    (sound_after (is symbol.Text) (λ text next. next (literal.Text (content_of text))) ValidLiteral (λ text _ _. sound ValidLiteral (literal.Text (content_of text)) tt))
    (sound_after (is symbol.Null) (λ _ next. next literal.Null) ValidLiteral (λ _ _ _. sound ValidLiteral literal.Null tt))))

sound_term : (grouped : Bool) → Sound (IsTerm grouped) (ValidTerm grouped)
sound_term true = sound_expr
sound_term false = sound_map IsColumn (λ column. expr.Column column) ValidColumn (ValidTerm false) sound_column (λ column v. v)

pub sound_operand : (grouped : Bool) → Sound (IsOperand grouped) (ValidAtom grouped)
sound_operand grouped =
    sound_or (λ next. IsTerm grouped (λ e. next (atom.Expr e))) (λ next. IsLiteral (λ l. next (atom.Literal l))) (ValidAtom grouped)
    (sound_map (IsTerm grouped) (λ e. atom.Expr e) (ValidTerm grouped) (ValidAtom grouped) (sound_term grouped) (λ e v. v))
    (sound_map IsLiteral (λ l. atom.Literal l) ValidLiteral (ValidAtom grouped) sound_literal (λ l v. v))

pub sound_optional : (test : Token → Bool) → Sound (IsOptional test) (λ _. Unit {0})
sound_optional test =
    sound_or (λ next. next None) (λ next. Is test (λ t. next (Some t))) (λ _. Unit {0}) (sound (λ _. Unit {0}) None tt) (sound_after test (λ t next. next (Some t)) (λ _. Unit {0}) (λ t _ _. sound (λ _. Unit {0}) (Some t) tt))

-- the tests that are no list and no NOT
sound_compare : (grouped : Bool) (l : Atom) → ValidAtom grouped l → Sound (IsCompare grouped l) (ValidLeaf grouped)
sound_compare grouped l lv =
    sound_after compares (λ sign next. IsOperand grouped (λ r. next (test.Compare (unwrap_or (comparison_of sign) comparison.Equal) l r sign.at))) (ValidLeaf grouped)
    (λ sign _ _. sound_map (IsOperand grouped) (λ r. test.Compare (unwrap_or (comparison_of sign) comparison.Equal) l r sign.at) (ValidAtom grouped) (ValidLeaf grouped) (sound_operand grouped)
    (λ r rv. compared (unwrap_or (comparison_of sign) comparison.Equal) l r sign.at lv rv))

sound_null : (grouped : Bool) (of : Atom) → ValidAtom grouped of → Sound (IsNullTest of) (ValidLeaf grouped)
sound_null grouped of valid =
    sound_after (is symbol.Is) (λ _ next. IsOptional (is symbol.Not) (λ o. Is (is symbol.Null) (λ _. next (test.IsNull of (is_some o))))) (ValidLeaf grouped)
    (λ _ _ _. sound_bind (IsOptional (is symbol.Not)) (λ o next. Is (is symbol.Null) (λ _. next (test.IsNull of (is_some o)))) (λ _. Unit {0}) (ValidLeaf grouped) (sound_optional (is symbol.Not))
    (λ o _. sound_after (is symbol.Null) (λ _ next. next (test.IsNull of (is_some o))) (ValidLeaf grouped) (λ _ _ _. sound (ValidLeaf grouped) (test.IsNull of (is_some o)) (null_test of (is_some o) valid))))

sound_in : (grouped : Bool) (of : Atom) (o : Option Token) → ValidAtom grouped of → Sound (IsIn never of o) (ValidLeaf grouped)
sound_in grouped of o valid =
    sound_after (is symbol.In) (λ w next. Is (is symbol.Open) (λ _. IsList never 256 IsLiteral (is symbol.Comma) (λ l. Is (is symbol.Close) (λ _. next (test.OneOf of l (is_some o) (unwrap_or o w).at))))) (ValidLeaf grouped)
    (λ w _ _. sound_after (is symbol.Open) (λ _ next. IsList never 256 IsLiteral (is symbol.Comma) (λ l. Is (is symbol.Close) (λ _. next (test.OneOf of l (is_some o) (unwrap_or o w).at)))) (ValidLeaf grouped)
    (λ _ _ _. sound_bind (IsList never 256 IsLiteral (is symbol.Comma)) (λ l next. Is (is symbol.Close) (λ _. next (test.OneOf of l (is_some o) (unwrap_or o w).at))) (ValidList 256 ValidLiteral) (ValidLeaf grouped)
    (sound_list 256 IsLiteral (is symbol.Comma) ValidLiteral (omega arith) sound_literal)
    (λ l v. sound_after (is symbol.Close) (λ _ next. next (test.OneOf of l (is_some o) (unwrap_or o w).at)) (ValidLeaf grouped)
    (λ _ _ _. sound (ValidLeaf grouped) (test.OneOf of l (is_some o) (unwrap_or o w).at) (listed of l (is_some o) (unwrap_or o w).at valid v)))))

sound_between : (grouped : Bool) (of : Atom) (o : Option Token) → ValidAtom grouped of → Sound (IsBetween grouped of o) (ValidLeaf grouped)
sound_between grouped of o valid =
    sound_after (is symbol.Between) (λ w next. IsOperand grouped (λ low. Is (is symbol.And) (λ _. IsOperand grouped (λ high. next (test.Between of low high (is_some o) (unwrap_or o w).at))))) (ValidLeaf grouped)
    (λ w _ _. sound_bind (IsOperand grouped) (λ low next. Is (is symbol.And) (λ _. IsOperand grouped (λ high. next (test.Between of low high (is_some o) (unwrap_or o w).at)))) (ValidAtom grouped) (ValidLeaf grouped) (sound_operand grouped)
    (λ low lv. sound_after (is symbol.And) (λ _ next. IsOperand grouped (λ high. next (test.Between of low high (is_some o) (unwrap_or o w).at))) (ValidLeaf grouped)
    (λ _ _ _. sound_map (IsOperand grouped) (λ high. test.Between of low high (is_some o) (unwrap_or o w).at) (ValidAtom grouped) (ValidLeaf grouped) (sound_operand grouped)
    (λ high hv. ranged of low high (is_some o) (unwrap_or o w).at valid lv hv))))

pub sound_test : (grouped : Bool) → Sound (IsTest grouped never) (ValidLeaf grouped)
sound_test grouped =
    sound_bind (IsOperand grouped) (λ of next ts. IsCompare grouped of next ts ⊎ IsNullTest of next ts ⊎ IsOptional (is symbol.Not) (λ o ts. IsIn never of o next ts ⊎ IsBetween grouped of o next ts) ts) (ValidAtom grouped) (ValidLeaf grouped) (sound_operand grouped)
    (λ of valid. sound_or (IsCompare grouped of) _ (ValidLeaf grouped) (sound_compare grouped of valid)
    (sound_or (IsNullTest of) (λ next. IsOptional (is symbol.Not) (λ o ts. IsIn never of o next ts ⊎ IsBetween grouped of o next ts)) (ValidLeaf grouped) (sound_null grouped of valid)
    (sound_bind (IsOptional (is symbol.Not)) (λ o next ts. IsIn never of o next ts ⊎ IsBetween grouped of o next ts) (λ _. Unit {0}) (ValidLeaf grouped) (sound_optional (is symbol.Not))
    (λ o _. sound_or (IsIn never of o) (IsBetween grouped of o) (ValidLeaf grouped) (sound_in grouped of o valid) (sound_between grouped of o valid)))))
