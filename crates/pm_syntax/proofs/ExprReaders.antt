-- Names, columns, expressions, literals and operands: their productions.
use Rattle.std.proofs.Common.{◌≡◌, ◌⊎◌, ℕ, Bool, true, false, List, [], ◌∷◌, Some, None, refl, inl, inr, ◌||◌, is_some, unwrap_or, pos, neg_ℤ}
use Rattle.pm_lexer.specs.declared.token.Token.{Token}
use Rattle.pm_lexer.specs.declared.token.TokenKind.{TokenKind}
use Rattle.pm_lexer.specs.declared.token.TokenKind.TheVariants as kind
use Rattle.pm_lexer.specs.declared.symbol.Symbol.{Symbol}
use Rattle.pm_lexer.specs.declared.symbol.Symbol.TheVariants as symbol
use Rattle.pm_lexer.specs.Symbol.{symbol_of, symbol_at, same_symbol, is}
use Rattle.pm_lexer.specs.Pieces.{content_of, decimals_len}
use Rattle.pm_grammar.specs.Language.{Gate, Is}
use Rattle.pm_grammar.specs.Reading.{named, name_at}
use Rattle.pm_grammar.specs.declared.names.PlacedName.{PlacedName}
use Rattle.pm_grammar.proofs.Phrases.{Phrase, Next, Began}
use Rattle.pm_grammar.proofs.Readers.{Then, Or, Same, same_began, first_began, second_began}
use Rattle.pm_grammar.proofs.Helpers.{token_began}
use Rattle.pm_grammar.proofs.Symbols.{sample, sample_is}
use Rattle.pm_grammar.proofs.Sets.{AnyOf}
use Rattle.pm_syntax.specs.declared.tree.ColumnName.{ColumnName}
use Rattle.pm_syntax.specs.declared.tree.Func.TheVariants as func
use Rattle.pm_syntax.specs.declared.tree.Expr.{Expr}
use Rattle.pm_syntax.specs.declared.tree.Expr.TheVariants as expr
use Rattle.pm_syntax.specs.declared.tree.Literal.{Literal}
use Rattle.pm_syntax.specs.declared.tree.Literal.TheVariants as literal
use Rattle.pm_syntax.specs.declared.tree.Atom.{Atom}
use Rattle.pm_syntax.specs.declared.tree.Atom.TheVariants as atom
use Rattle.pm_syntax.specs.Terminals.{func_of, func_of_kind, magnitude, begins_literal, begins_test}
use Rattle.pm_syntax.specs.Grammar.{IsName, IsColumn, counts, is_count, IsCountAll, IsCall, IsExpr, IsLiteral, IsTerm, IsOperand}
use Rattle.pm_syntax.specs.Reading.{column_after, column_at, call_after, expr_after, expr_at, literal_at, term_at, operand_at}
use Rattle.pm_grammar.proofs.Productions.{Production, done, symbol_then, mapped, followed, wider, same, choose, after, optional, guarded}

pub names : {ends : List Symbol} (d : ℕ) → Production false (symbol.Name ∷ []) ends (λ _ _. IsName) d (name_at (is symbol.Name))
unfolding name_at same_symbol
names d = symbol_then symbol.Name refl (λ t. done (named t))

-- column = name [ "." name ]
abbrev pub ColumnAfter : PlacedName → Phrase ColumnName
ColumnAfter first _ _ next ts = next (record { alias = None; name = first }) ts ⊎ Is (is symbol.Point) (λ _. IsName (λ name. next (record { alias = Some first; name = name }))) ts

columns_after : (first : PlacedName) (d : ℕ) → Production true (symbol.Point ∷ []) (symbol.Point ∷ []) (ColumnAfter first) d (column_after first)
unfolding column_after same_symbol
columns_after first d = optional symbol.Point refl (record { alias = None; name = first }) (mapped {P = λ _ _. IsName} (λ name. record { alias = Some first; name = name }) (names d)) refl

pub columns : (d : ℕ) → Production false (symbol.Name ∷ []) (symbol.Point ∷ []) (λ _ _. IsColumn) d column_at
unfolding column_at same_symbol
columns d = followed {first_ends = []} {P = λ _ _. IsName} {Q = ColumnAfter} _ (names d) (λ first. columns_after first d) refl refl

-- a function's name is a name
func_is_name : (t : Token) → is_some (func_of t) ≡ true → is symbol.Name t ≡ true
unfolding symbol_of same_symbol
func_is_name t e = of_kind t.kind e
  where
    of_kind : (k : TokenKind) → is_some (func_of_kind k t.slice) ≡ true → same_symbol (symbol_at k t.slice) symbol.Name ≡ true
    of_kind kind.Name e = refl
    of_kind kind.Reserved e = absurd (cc e)
    of_kind kind.Quoted e = absurd (cc e)
    of_kind kind.Number e = absurd (cc e)
    of_kind kind.Text e = absurd (cc e)
    of_kind kind.Sign e = absurd (cc e)
    of_kind kind.End e = absurd (cc e)

counts_is_func : (t : Token) → counts t ≡ true → is_some (func_of t) ≡ true
counts_is_func t e = elim (func_of t) as (λ f. is_count f ≡ true → is_some f ≡ true) [ None ↦ λ e. absurd (cc e) | Some f ↦ λ _. refl ] e

-- after a function and its parenthesis
abbrev CountsAll : Token → Phrase Expr
CountsAll f _ _ next = Is (is symbol.Star) (λ _. Is (is symbol.Close) (λ _. next (expr.CountAll f.at)))

abbrev CallsColumn : Token → Phrase Expr
CallsColumn f _ _ next = IsColumn (λ column. Is (is symbol.Close) (λ _. next (expr.Call (unwrap_or (func_of f) func.Count) column f.at)))

abbrev CallAfter : Token → Phrase Expr
CallAfter f d g next ts = CallsColumn f d g next ts ⊎ ((counts f ≡ true) × CountsAll f d g next ts)

calls_after : {ends : List Symbol} (f : Token) (d : ℕ) → Production false (symbol.Star ∷ symbol.Name ∷ []) ends (CallAfter f) d (call_after f)
unfolding call_after same_symbol
calls_after f d =
    guarded (counts f) symbol.Star refl (symbol_then symbol.Close refl (λ _. done (expr.CountAll f.at)))
    (followed {P = λ _ _. IsColumn} {Q = λ column _ _ next. Is (is symbol.Close) (λ _. next (expr.Call (unwrap_or (func_of f) func.Count) column f.at))} _ (columns d)
    (λ column. symbol_then symbol.Close refl (λ _. done (expr.Call (unwrap_or (func_of f) func.Count) column f.at))) refl refl) refl refl

-- after the first name of an expression
abbrev Columned : Token → Phrase Expr
Columned first d g next = ColumnAfter (named first) d g (λ column. next (expr.Column column))

abbrev Called : Token → Phrase Expr
Called first = Then (λ _ _. Is (is symbol.Open)) (λ _. CallAfter first)

abbrev ExprAfter : Token → Phrase Expr
ExprAfter first d g next ts = Columned first d g next ts ⊎ ((is_some (func_of first) ≡ true) × Called first d g next ts)

abbrev pub expr_ends : List Symbol
expr_ends = symbol.Point ∷ symbol.Open ∷ []

exprs_after : (first : Token) (d : ℕ) → Production true (symbol.Open ∷ symbol.Point ∷ []) expr_ends (ExprAfter first) d (expr_after first)
unfolding expr_after same_symbol
exprs_after first d =
    guarded (is_some (func_of first)) symbol.Open refl (calls_after first d)
    (wider (symbol.Point ∷ []) expr_ends refl (mapped {P = ColumnAfter (named first)} (λ column. expr.Column column) (columns_after (named first) d))) refl refl

-- expr = column | COUNT "(" "*" ")" | func "(" column ")"
expr_to : (d : ℕ) (g : Gate) (next : Next Expr) (ts : List Token) → Then (λ _ _. Is (is symbol.Name)) ExprAfter d g next ts → IsExpr next ts
expr_to d g next [] h = absurd h
expr_to d g next (t ∷ ts) h = elim h.1 [
  | inl column ↦ inl (h.0, column)
  | inr call ↦ inr (called ts call.0 call.1)
]
  where
    called : (us : List Token) → is_some (func_of t) ≡ true → Called t d g next us → IsCountAll next (t ∷ us) ⊎ IsCall next (t ∷ us)
    called [] f c = absurd c
    called (u ∷ us) f c = elim c.1 [ inl column ↦ inr (f, (c.0, column)) | inr all ↦ inl (all.0, (c.0, all.1)) ]

expr_from : (d : ℕ) (g : Gate) (next : Next Expr) (ts : List Token) → IsExpr next ts → Then (λ _ _. Is (is symbol.Name)) ExprAfter d g next ts
expr_from d g next [] h = elim h [ inl c ↦ c | inr o ↦ elim o [ inl a ↦ a | inr c ↦ c ] ]
expr_from d g next (t ∷ ts) h = elim h [
  | inl c ↦ (c.0, inl c.1)
  | inr o ↦ elim o [
    | inl a ↦ (func_is_name t (counts_is_func t a.0), inr (counts_is_func t a.0, all ts a.0 a.1))
    | inr c ↦ (func_is_name t c.0, inr (c.0, one ts c.1))
  ]
]
  where
    all : (us : List Token) → counts t ≡ true → Is (is symbol.Open) (λ _. CountsAll t d g next) us → Called t d g next us
    all [] f c = absurd c
    all (u ∷ us) f c = (c.0, inr (f, c.1))

    one : (us : List Token) → Is (is symbol.Open) (λ _. CallsColumn t d g next) us → Called t d g next us
    one [] c = absurd c
    one (u ∷ us) c = (c.0, inl c.1)

pub exprs : (d : ℕ) → Production false (symbol.Name ∷ []) expr_ends (λ _ _. IsExpr) d expr_at
unfolding expr_at same_symbol
exprs d = same {P = Then (λ _ _. Is (is symbol.Name)) ExprAfter} (record { to = expr_to; from = expr_from }) (symbol_then symbol.Name refl (λ first. exprs_after first d))

-- literal = [ "-" ] number | text | NULL
abbrev Plain : Phrase Literal
Plain _ _ next = Is (is symbol.Number) (λ n. next (literal.Number (pos (magnitude n)) (decimals_len n.slice)))

abbrev Negative : Phrase Literal
Negative _ _ next = Is (is symbol.Number) (λ n. next (literal.Number (neg_ℤ (pos (magnitude n))) (decimals_len n.slice)))

abbrev Texts : Phrase Literal
Texts _ _ next = Is (is symbol.Text) (λ text. next (literal.Text (content_of text)))

abbrev Nulls : Phrase Literal
Nulls _ _ next = next literal.Null

literal_same : Same (Or (Then (λ _ _. Is (is symbol.Minus)) (λ _. Negative)) (Or Texts (Or (Then (λ _ _. Is (is symbol.Null)) (λ _. Nulls)) Plain))) (λ _ _. IsLiteral)
literal_same = record {
  to = λ d g next ts h. elim h [ inl n ↦ inr (inl n) | inr o ↦ elim o [ inl t ↦ inr (inr (inl t)) | inr p ↦ elim p [ inl u ↦ inr (inr (inr u)) | inr n ↦ inl n ] ] ];
  from = λ d g next ts h. elim h [ inl n ↦ inr (inr (inr n)) | inr o ↦ elim o [ inl n ↦ inl n | inr p ↦ elim p [ inl t ↦ inr (inl t) | inr u ↦ inr (inr (inl u)) ] ] ];
}

abbrev pub literal_firsts : List Symbol
literal_firsts = symbol.Minus ∷ symbol.Text ∷ symbol.Null ∷ symbol.Number ∷ []

pub literals : {ends : List Symbol} (d : ℕ) → Production false literal_firsts ends (λ _ _. IsLiteral) d literal_at
unfolding literal_at same_symbol
literals d =
    same literal_same (after symbol.Minus refl (symbol_then symbol.Number refl (λ n. done (literal.Number (neg_ℤ (pos (magnitude n))) (decimals_len n.slice))))
    (choose symbol.Text (symbol_then symbol.Text refl (λ text. done (literal.Text (content_of text))))
    (after symbol.Null refl (done literal.Null) (symbol_then symbol.Number refl (λ n. done (literal.Number (pos (magnitude n)) (decimals_len n.slice)))) refl refl) refl refl) refl refl)

-- operand = expr | literal
terms : (grouped : Bool) (d : ℕ) → Production false (symbol.Name ∷ []) expr_ends (λ _ _. IsTerm grouped) d (term_at grouped)
unfolding term_at same_symbol
terms true d = exprs d
terms false d = wider (symbol.Point ∷ []) expr_ends refl (mapped {P = λ _ _. IsColumn} (λ column. expr.Column column) (columns d))

abbrev Termed : Bool → Phrase Atom
Termed grouped _ _ next = IsTerm grouped (λ e. next (atom.Expr e))

abbrev Literals : Phrase Atom
Literals _ _ next = IsLiteral (λ l. next (atom.Literal l))

abbrev pub operand_firsts : List Symbol
operand_firsts = symbol.Name ∷ literal_firsts

pub operands : (grouped : Bool) (d : ℕ) → Production false operand_firsts expr_ends (λ _ _. IsOperand grouped) d (operand_at grouped)
unfolding operand_at same_symbol
operands grouped d =
    choose symbol.Name (mapped {P = λ _ _. IsTerm grouped} (λ e. atom.Expr e) (terms grouped d)) (mapped {P = λ _ _. IsLiteral} (λ l. atom.Literal l) (literals d)) refl refl

-- each of their first tokens begins one
pub expr_began : (t : Token) → is symbol.Name t ≡ true → (d : ℕ) → Began (λ _ _. IsExpr) d [] (t ∷ [])
expr_began t e d =
    same_began (Then (λ _ _. Is (is symbol.Name)) ExprAfter) (λ _ _. IsExpr) (record { to = expr_to; from = expr_from }) (token_began (is symbol.Name) t e d (exprs_after t d).reads.able)

pub column_began : (t : Token) → is symbol.Name t ≡ true → (d : ℕ) → Began (λ _ _. IsColumn) d [] (t ∷ [])
column_began t e d = record { more = []; value = record { alias = None; name = named t }; ends = λ d' g next v le o h. (e, inl h) }

term_began : (grouped : Bool) (t : Token) → is symbol.Name t ≡ true → (d : ℕ) → Began (λ _ _. IsTerm grouped) d [] (t ∷ [])
term_began true t e d = expr_began t e d
term_began false t e d = record { more = []; value = expr.Column (record { alias = None; name = named t }); ends = λ d' g next v le o h. (e, inl h) }

pub literal_began : (t : Token) → AnyOf literal_firsts t → (d : ℕ) → Began (λ _ _. IsLiteral) d [] (t ∷ [])
unfolding same_symbol
literal_began t h d = elim h [
  | inl m ↦ record { more = sample symbol.Number ∷ []; value = literal.Number (neg_ℤ (pos (magnitude (sample symbol.Number)))) (decimals_len (sample symbol.Number).slice); ends = λ d' g next v le o k. inr (inl (m, (sample_is symbol.Number refl, k))) }
  | inr a ↦ elim a [
    | inl x ↦ record { more = []; value = literal.Text (content_of t); ends = λ d' g next v le o k. inr (inr (inl (x, k))) }
    | inr b ↦ elim b [
      | inl n ↦ record { more = []; value = literal.Null; ends = λ d' g next v le o k. inr (inr (inr (n, k))) }
      | inr c ↦ elim c [ inl e ↦ record { more = []; value = literal.Number (pos (magnitude t)) (decimals_len t.slice); ends = λ d' g next v le o k. inl (e, k) } | inr none ↦ absurd none ]
    ]
  ]
]

pub operand_began : (grouped : Bool) (t : Token) → AnyOf operand_firsts t → (d : ℕ) → Began (λ _ _. IsOperand grouped) d [] (t ∷ [])
operand_began grouped t h d = elim h [
  | inl n ↦ first_began (Termed grouped) Literals (let b = term_began grouped t n d in record { more = b.more; value = atom.Expr b.value; ends = λ d' g next v le o k. b.ends d' g (λ e. next (atom.Expr e)) v le o k })
  | inr l ↦ second_began (Termed grouped) Literals (let b = literal_began t l d in record { more = b.more; value = atom.Literal b.value; ends = λ d' g next v le o k. b.ends d' g (λ l. next (atom.Literal l)) v le o k })
]

-- of four tests one passes
pub one_of_four : (a b c e : Bool) → (a || b || c || e) ≡ true → (a ≡ true) ⊎ ((b ≡ true) ⊎ ((c ≡ true) ⊎ ((e ≡ true) ⊎ ⊥)))
one_of_four true b c e h = inl refl
one_of_four false true c e h = inr (inl refl)
one_of_four false false true e h = inr (inr (inl refl))
one_of_four false false false true h = inr (inr (inr (inl refl)))
one_of_four false false false false h = absurd (cc h)

pub four_of_one : (a b c e : Bool) → (a ≡ true) ⊎ ((b ≡ true) ⊎ ((c ≡ true) ⊎ ((e ≡ true) ⊎ ⊥))) → (a || b || c || e) ≡ true
four_of_one true b c e h = refl
four_of_one false true c e h = refl
four_of_one false false true e h = refl
four_of_one false false false true h = refl
four_of_one false false false false h = elim h [ inl x ↦ x | inr k ↦ elim k [ inl x ↦ x | inr l ↦ elim l [ inl x ↦ x | inr m ↦ elim m [ inl x ↦ x | inr none ↦ absurd none ] ] ] ]

pub literal_first : (t : Token) → begins_literal t ≡ true → AnyOf literal_firsts t
literal_first t e = one_of_four (is symbol.Minus t) (is symbol.Text t) (is symbol.Null t) (is symbol.Number t) e

pub first_literal : (t : Token) → AnyOf literal_firsts t → begins_literal t ≡ true
first_literal t h = four_of_one (is symbol.Minus t) (is symbol.Text t) (is symbol.Null t) (is symbol.Number t) h

pub test_first : (t : Token) → begins_test t ≡ true → AnyOf operand_firsts t
test_first t e = of (is symbol.Name t) (begins_literal t) e (literal_first t)
  where
    of : (a b : Bool) → (a || b) ≡ true → (b ≡ true → AnyOf literal_firsts t) → (a ≡ true) ⊎ AnyOf literal_firsts t
    of true b e more = inl refl
    of false b e more = inr (more e)

pub first_test : (t : Token) → AnyOf operand_firsts t → begins_test t ≡ true
first_test t h = elim h [ inl n ↦ rw n refl | inr l ↦ both (is symbol.Name t) (begins_literal t) (first_literal t l) ]
  where
    both : (a b : Bool) → b ≡ true → (a || b) ≡ true
    both true b e = refl
    both false b e = e
