-- Literals and operands are read back.
use Rattle.std.proofs.Common.{◌≡◌, ◌⊎◌, ℕ, ◌+◌, ℤ, pos, negsuc, neg_ℤ, Bool, true, false, List, [], ◌∷◌, decimal, unsigned_abs, int_lt, refl, ◌∙◌, ap, arith, length, length-append, length-take, length-drop, ◌++◌, ◌≤◌, ◌-◌, ◌==◌, take, drop, codes, if◌then◌else◌, nat_le}
use Rattle.std.proofs.lemmas.Bool.Decides.{nat_tests}
use Rattle.pm_lexer.specs.declared.token.Token.{Token}
use Rattle.pm_lexer.specs.declared.token.TokenKind.TheVariants as kind
use Rattle.pm_lexer.specs.declared.symbol.Symbol.TheVariants as symbol
use Rattle.pm_lexer.specs.declared.symbol.TheConstants.{NUMBER_BYTES}
use Rattle.pm_lexer.specs.Symbol.{is, same_symbol}
use Rattle.pm_lexer.specs.Pieces.{content_of, content_at, decimals_len}
use Rattle.pm_grammar.specs.Language.{Lang, Is}
use Rattle.pm_syntax.specs.declared.tree.Expr.{Expr}
use Rattle.pm_syntax.specs.declared.tree.Expr.TheVariants as expr
use Rattle.pm_syntax.specs.declared.tree.Literal.{Literal}
use Rattle.pm_syntax.specs.declared.tree.Literal.TheVariants as literal
use Rattle.pm_syntax.specs.declared.tree.Atom.{Atom}
use Rattle.pm_syntax.specs.declared.tree.Atom.TheVariants as atom
use Rattle.pm_syntax.specs.Terminals.{magnitude, magnitude_of}
use Rattle.pm_syntax.specs.Grammar.{IsLiteral, IsTerm, IsOperand}
use Rattle.pm_lexer.specs.Quoting.{quoted}
use Rattle.pm_canonical.specs.Canon.{padded, pointed}
use Rattle.pm_canonical.proofs.Shapes.{Shape, shape_of, sign, word, shape_digits, shapes_number, shapes_expr, shapes_literal, shapes_atom}
use Rattle.pm_syntax.specs.Same.{unplaced_expr, unplaced_atom}
use Rattle.pm_canonical.proofs.Valid.{ValidNumber, ValidLiteral, ValidTerm, ValidAtom}
use Rattle.pm_canonical.proofs.Combinators.{Reading, pure, shaped, mapped, left, right, bind, and_then, symbol_token, Stands}
use Rattle.pm_canonical.proofs.Standing.{stands_null, stands_minus}
use Rattle.pm_canonical.proofs.Quoting.{content_text}
use Rattle.pm_canonical.proofs.Values.{digits_are, Pointed, pointed_is}
use Rattle.pm_canonical.proofs.NameReadings.{column_expr, expr_read}

-- a number without its sign
pointed_short : (d : ℕ) (digits : List ℕ) → length (pointed d digits) ≤ length digits + 1
pointed_short d digits = elim (d == 0) as (λ b. length (if b then digits else take (length digits - d) digits ++ codes "." ++ drop (length digits - d) digits) ≤ length digits + 1) [
  | true ↦ omega arith
  | false ↦ simp (length-append, length-take, length-drop) (omega arith)
]

digits_stand : (value : ℤ) (decimals : ℕ) → ValidNumber value decimals → Stands symbol.Number (shape_digits value decimals)
unfolding same_symbol
digits_stand value decimals valid =
    let digits : List ℕ = padded (decimals + 1) (decimal (unsigned_abs value)) in
    let short : length (pointed decimals digits) ≤ NUMBER_BYTES = let most = valid.short in let fits = pointed_short decimals digits in omega arith in
    let test : nat_le (length (pointed decimals digits)) NUMBER_BYTES ≡ true = is_within (length (pointed decimals digits)) short in
    rw test refl
  where
    is_within : (n : ℕ) → n ≤ NUMBER_BYTES → nat_le n NUMBER_BYTES ≡ true
    is_within n h = grind (arith, nat_tests)

digits_value : (value : ℤ) (decimals : ℕ) → ValidNumber value decimals → Pointed (unsigned_abs value) decimals (shape_digits value decimals).slice
digits_value value decimals valid = pointed_is (unsigned_abs value) decimals (padded (decimals + 1) (decimal (unsigned_abs value))) (digits_are (unsigned_abs value) decimals valid.small)

number_of : (value : ℤ) (decimals : ℕ) → ValidNumber value decimals → (t : Token) → shape_of t ≡ shape_digits value decimals → (signed : ℤ → ℤ) → literal.Number (signed (pos (magnitude t))) (decimals_len t.slice) ≡ literal.Number (signed (pos (unsigned_abs value))) decimals
number_of value decimals valid t e signed =
    let is = digits_value value decimals valid in
    ap (λ h. literal.Number (signed (pos (magnitude_of h.slice))) (decimals_len h.slice)) e
    ∙ ap (λ m. literal.Number (signed (pos m)) (decimals_len (shape_digits value decimals).slice)) is.value
    ∙ ap (λ d. literal.Number (signed (pos (unsigned_abs value))) d) is.decimals

abbrev Plain : Lang Literal
Plain next = Is (is symbol.Number) (λ n. next (literal.Number (pos (magnitude n)) (decimals_len n.slice)))

abbrev Negative : Lang Literal
Negative next = Is (is symbol.Minus) (λ _. Is (is symbol.Number) (λ n. next (literal.Number (neg_ℤ (pos (magnitude n))) (decimals_len n.slice))))

abbrev Texts : Lang Literal
Texts next = Is (is symbol.Text) (λ text. next (literal.Text (content_of text)))

abbrev Nulls : Lang Literal
Nulls next = Is (is symbol.Null) (λ _. next literal.Null)

abbrev Words : Lang Literal
Words next ts = Texts next ts ⊎ Nulls next ts

abbrev Others : Lang Literal
Others next ts = Negative next ts ⊎ Words next ts

not_below : (m : ℕ) → int_lt (pos m) (pos 0) ≡ false
not_below m = grind (arith, nat_tests)

plain_shapes : (m decimals : ℕ) → shape_digits (pos m) decimals ∷ [] ≡ shapes_number (pos m) decimals
unfolding shapes_number
plain_shapes m decimals = rw (not_below m) refl

number_read : (value : ℤ) (decimals : ℕ) → ValidNumber value decimals → Reading IsLiteral (λ y. y ≡ literal.Number value decimals) (shapes_number value decimals)
unfolding shapes_number
number_read (pos m) decimals valid =
    shaped IsLiteral _ _ _ (plain_shapes m decimals) (left Plain Others _ (shape_digits (pos m) decimals ∷ [])
    (bind (Is (is symbol.Number)) (λ n next. next (literal.Number (pos (magnitude n)) (decimals_len n.slice))) (λ t. shape_of t ≡ shape_digits (pos m) decimals) _ (shape_digits (pos m) decimals ∷ []) []
    (symbol_token symbol.Number (shape_digits (pos m) decimals) (digits_stand (pos m) decimals valid))
    (λ t e. pure _ (literal.Number (pos (magnitude t)) (decimals_len t.slice)) (number_of (pos m) decimals valid t e (λ z. z)))))
number_read (negsuc m) decimals valid =
    right Plain Others _ (sign symbol.Minus ∷ shape_digits (negsuc m) decimals ∷ [])
    (left Negative Words _ (sign symbol.Minus ∷ shape_digits (negsuc m) decimals ∷ [])
    (and_then symbol.Minus (sign symbol.Minus) stands_minus (λ _ next. Is (is symbol.Number) (λ n. next (literal.Number (neg_ℤ (pos (magnitude n))) (decimals_len n.slice)))) _ (shape_digits (negsuc m) decimals ∷ [])
    (λ _ _. bind (Is (is symbol.Number)) (λ n next. next (literal.Number (neg_ℤ (pos (magnitude n))) (decimals_len n.slice))) (λ t. shape_of t ≡ shape_digits (negsuc m) decimals) _ (shape_digits (negsuc m) decimals ∷ []) []
    (symbol_token symbol.Number (shape_digits (negsuc m) decimals) (digits_stand (negsuc m) decimals valid))
    (λ t e. pure _ (literal.Number (neg_ℤ (pos (magnitude t))) (decimals_len t.slice)) (number_of (negsuc m) decimals valid t e neg_ℤ)))))

abbrev text_shape : List ℕ → Shape
text_shape text = record { kind = kind.Text; slice = quoted 39 text }

text_stands : (text : List ℕ) → Stands symbol.Text (text_shape text)
unfolding same_symbol
text_stands text = refl

text_read : (text : List ℕ) → Reading IsLiteral (λ y. y ≡ literal.Text text) (text_shape text ∷ [])
text_read text =
    right Plain Others _ (text_shape text ∷ []) (right Negative Words _ (text_shape text ∷ []) (left Texts Nulls _ (text_shape text ∷ [])
    (mapped (Is (is symbol.Text)) (λ t. literal.Text (content_of t)) (λ t. shape_of t ≡ text_shape text) _ (text_shape text ∷ []) (symbol_token symbol.Text (text_shape text) (text_stands text))
    (λ t e. ap (λ x. literal.Text x) (ap (λ h. content_at h.kind h.slice) e ∙ content_text text)))))

null_read : Reading IsLiteral (λ y. y ≡ literal.Null) (word symbol.Null ∷ [])
null_read =
    right Plain Others _ (word symbol.Null ∷ []) (right Negative Words _ (word symbol.Null ∷ []) (right Texts Nulls _ (word symbol.Null ∷ [])
    (and_then symbol.Null (word symbol.Null) stands_null (λ _ next. next literal.Null) _ [] (λ _ _. pure _ literal.Null refl))))

pub literal_read : (l : Literal) → ValidLiteral l → Reading IsLiteral (λ y. y ≡ l) (shapes_literal l)
unfolding shapes_literal
literal_read literal.Null valid = null_read
literal_read (literal.Number value decimals) valid = number_read value decimals valid
literal_read (literal.Text text) valid = text_read text

term_read : (grouped : Bool) (e : Expr) → ValidTerm grouped e → Reading (IsTerm grouped) (λ y. unplaced_expr y ≡ unplaced_expr e) (shapes_expr e)
unfolding shapes_expr
term_read true e valid = expr_read e
term_read false (expr.Column column) valid = column_expr column
term_read false (expr.CountAll at) valid = absurd valid
term_read false (expr.Call f column at) valid = absurd valid

pub operand_read : (grouped : Bool) (a : Atom) → ValidAtom grouped a → Reading (IsOperand grouped) (λ y. unplaced_atom y ≡ unplaced_atom a) (shapes_atom a)
operand_read grouped (atom.Expr e) valid =
    left (λ next. IsTerm grouped (λ x. next (atom.Expr x))) (λ next. IsLiteral (λ l. next (atom.Literal l))) _ (shapes_expr e)
    (mapped (IsTerm grouped) (λ x. atom.Expr x) (λ y. unplaced_expr y ≡ unplaced_expr e) _ (shapes_expr e) (term_read grouped e valid) (λ x same. ap (λ y. atom.Expr y) same))
operand_read grouped (atom.Literal l) valid =
    right (λ next. IsTerm grouped (λ x. next (atom.Expr x))) (λ next. IsLiteral (λ l. next (atom.Literal l))) _ (shapes_literal l)
    (mapped IsLiteral (λ x. atom.Literal x) (λ y. y ≡ l) _ (shapes_literal l) (literal_read l valid) (λ x same. ap (λ y. atom.Literal y) same))
