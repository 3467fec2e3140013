-- Each part of canonical text is lexed as the shapes that it has: names, expressions, literals, and lists of parts.
use Rattle.std.proofs.Common.{◌≡◌, ◌<◌, ◌≤◌, ◌+◌, ◌-◌, ℕ, ℤ, pos, Bool, true, false, not, List, [], ◌∷◌, ◌++◌, length, take, drop, map, Option, Some, None, if◌then◌else◌, ◌&&◌, codes, decimal, unsigned_abs, int_lt, refl, arith, length-append}
use Rattle.std.specs.List.{list_all}
use Rattle.std.specs.Option.{is_some}
use Rattle.std.specs.Char.{is_ascii_digit}
use Rattle.std.proofs.lemmas.Bool.{and_parts, not-true}
use Rattle.std.proofs.lemmas.List.{append_assoc, length-take, length-drop}
use Rattle.pm_lexer.specs.declared.token.TokenKind.TheVariants as kind
use Rattle.pm_lexer.specs.declared.symbol.Symbol.TheVariants as symbol
use Rattle.pm_lexer.specs.Byte.{is_letter, is_word}
use Rattle.pm_lexer.specs.Symbol.{reserved_word}
use Rattle.pm_grammar.specs.declared.names.PlacedName.{PlacedName}
use Rattle.pm_syntax.specs.declared.tree.ColumnName.{ColumnName}
use Rattle.pm_syntax.specs.declared.tree.Func.{Func}
use Rattle.pm_syntax.specs.declared.tree.Func.TheVariants as func
use Rattle.pm_syntax.specs.declared.tree.Expr.{Expr}
use Rattle.pm_syntax.specs.declared.tree.Expr.TheVariants as expr
use Rattle.pm_syntax.specs.declared.tree.Literal.{Literal}
use Rattle.pm_syntax.specs.declared.tree.Literal.TheVariants as literal
use Rattle.pm_syntax.specs.declared.tree.Atom.{Atom}
use Rattle.pm_syntax.specs.declared.tree.Atom.TheVariants as atom
use Rattle.pm_values.specs.declared.condition.Comparison.{Comparison}
use Rattle.pm_values.specs.declared.condition.Comparison.TheVariants as comparison
use Rattle.pm_lexer.specs.Quoting.{quoted, is_plain, canon_name}
use Rattle.pm_canonical.specs.Canon.{joined, canon_alias, canon_column, canon_func, canon_expr, pointed, padded, canon_number, canon_literal, canon_atom, canon_comparison}
use Rattle.pm_canonical.proofs.Shapes.{Shape, sign, between, shape_name, shapes_alias, shapes_column, shape_func, shapes_expr, shape_digits, shapes_number, shapes_literal, shapes_atom, shape_comparison}
use Rattle.pm_canonical.proofs.Valid.{Every, Where, ValidName, ValidPlaced, ValidColumn, ValidExpr, ValidNumber, ValidLiteral, ValidTerm, ValidAtom}
use Rattle.pm_canonical.proofs.Runs.{Follows, all_head}
use Rattle.pm_canonical.proofs.Numbers.{point}
use Rattle.pm_canonical.proofs.Values.{Digits, digits_are, pointed_parts, all_cut}
use Rattle.pm_canonical.proofs.Spelling.{Spells, any, ends, stops, spells_none, spells_piece, spells_weaker, spells_both, spells_then, spells_at, spells_after}
use Rattle.pm_canonical.proofs.Heads.{is_wordy, quoted_opens, text_opens, number_opens}
use Rattle.pm_canonical.proofs.Wording.{name_spells, ends_stops, spells_open, spells_close, spells_star, spells_point, spells_minus, spells_null, spells_equal, spells_unequal, spells_less, spells_at_most, spells_greater, spells_at_least}

-- before any text, so before what begins with such a byte
pub spells_any : {q : ℕ → Bool} {text : List ℕ} {shapes : List Shape} → Spells any text shapes → Spells q text shapes
spells_any s = spells_weaker (λ b e. refl) s

pub ends_early : {text : List ℕ} {shapes : List Shape} → Spells stops text shapes → Spells ends text shapes
ends_early s = spells_weaker ends_stops s

-- names
plain_wordy : (name : List ℕ) → is_plain name ≡ true → (is_wordy name ≡ true) × (is_some (reserved_word name) ≡ false)
plain_wordy [] plain = absurd (cc plain)
plain_wordy (b ∷ rest) plain =
    let (wordy, free) = and_parts (is_letter b && list_all is_word rest) (not (is_some (reserved_word (b ∷ rest)))) plain in
    (wordy, not-true (is_some (reserved_word (b ∷ rest))) free)

pub spells_name : (name : List ℕ) → ValidName name → Spells stops (canon_name name) (shape_name name ∷ [])
unfolding canon_name shape_name
spells_name name valid =
    elim (is_plain name) as (λ t. is_plain name ≡ t → Spells stops (if t then name else quoted 34 name) ((if t then record { kind = kind.Name; slice = name } else record { kind = kind.Quoted; slice = quoted 34 name }) ∷ [])) [
      | true ↦ λ e. let (wordy, free) = plain_wordy name e in name_spells name wordy free valid.short valid.some
      | false ↦ λ e. spells_piece kind.Quoted (quoted 34 name) (omega arith) (quoted_opens name valid.some valid.short (valid.clean e))
    ] refl

spells_alias : (alias : Option PlacedName) → Where ValidPlaced alias → Spells any (canon_alias alias) (shapes_alias alias)
spells_alias None valid = spells_none
spells_alias (Some alias) valid = spells_at (spells_name alias.text valid) spells_point refl

pub spells_column : (column : ColumnName) → ValidColumn column → Spells stops (canon_column column) (shapes_column column)
unfolding canon_column shapes_column
spells_column column valid = spells_after (spells_alias column.alias valid.alias) (spells_name column.name.text valid.name)

-- expressions
spells_func : (f : Func) → Spells stops (canon_func f) (shape_func f ∷ [])
unfolding reserved_word
spells_func func.Count = name_spells (codes "COUNT") refl refl (omega arith) (omega arith)
spells_func func.Sum = name_spells (codes "SUM") refl refl (omega arith) (omega arith)
spells_func func.Min = name_spells (codes "MIN") refl refl (omega arith) (omega arith)
spells_func func.Max = name_spells (codes "MAX") refl refl (omega arith) (omega arith)

pub spells_expr : (e : Expr) → ValidExpr e → Spells stops (canon_expr e) (shapes_expr e)
unfolding canon_expr shapes_expr
spells_expr (expr.Column column) valid = spells_column column valid
spells_expr (expr.CountAll at) valid = spells_any (spells_at (spells_func func.Count) (spells_after spells_open (spells_after spells_star spells_close)) refl)
spells_expr (expr.Call f column at) valid = spells_any (spells_at (spells_after (spells_at (spells_func f) spells_open refl) (spells_column column valid)) spells_close refl)

-- numbers
digits_first : (w rest : List ℕ) → 0 < length w → list_all is_ascii_digit w ≡ true → Follows is_ascii_digit (w ++ rest)
digits_first [] rest some all = absurd (omega arith)
digits_first (b ∷ w) rest some all = all_head is_ascii_digit b w all

record Piece (slice : List ℕ) : Type 0 where
  spelled : Spells ends slice (record { kind = kind.Number; slice = slice } ∷ [])
  first : (rest : List ℕ) → Follows is_ascii_digit (slice ++ rest)

number_piece : (m d : ℕ) (ds : List ℕ) → Digits m d ds → d ≤ 6 → length ds ≤ 30 → Piece (pointed d ds)
number_piece m d ds is few short =
    let w = take (length ds - d) ds in
    let p = drop (length ds - d) ds in
    let (whole, part) = all_cut is_ascii_digit (length ds - d) ds is.digits in
    let long = is.long in
    let many : length w ≡ length ds - d = omega (arith, length-take (length ds - d) ds) in
    let count : length p ≡ d = omega (arith, length-drop (length ds - d) ds) in
    let some : 0 < length w = omega arith in
    rw (pointed_parts d ds is.long) (record {
      spelled = spells_piece kind.Number (w ++ point p) (omega (arith, length-append w (point p))) (number_opens w p some whole part (omega arith) (omega arith));
      first = λ rest. rw (append_assoc w (point p) rest) (digits_first w (point p ++ rest) some whole);
    })

spells_number : (value : ℤ) (decimals : ℕ) → ValidNumber value decimals → Spells ends (canon_number value decimals) (shapes_number value decimals)
unfolding canon_number shapes_number
spells_number value decimals valid =
    let piece = number_piece (unsigned_abs value) decimals (padded (decimals + 1) (decimal (unsigned_abs value))) (digits_are (unsigned_abs value) decimals valid.small) valid.few valid.short in
    let slice : List ℕ = pointed decimals (padded (decimals + 1) (decimal (unsigned_abs value))) in
    elim (int_lt value (pos 0)) as (λ t. Spells ends ((if t then codes "-" else []) ++ slice) ((if t then sign symbol.Minus ∷ [] else []) ++ shape_digits value decimals ∷ [])) [
      | true ↦ spells_both spells_minus piece.spelled (λ rest after. piece.first rest)
      | false ↦ piece.spelled
    ]

pub spells_literal : (l : Literal) → ValidLiteral l → Spells ends (canon_literal l) (shapes_literal l)
unfolding canon_literal shapes_literal
spells_literal literal.Null valid = spells_null
spells_literal (literal.Number value decimals) valid = spells_number value decimals valid
spells_literal (literal.Text text) valid = spells_piece kind.Text (quoted 39 text) (omega arith) (text_opens text)

-- operands
term_expr : (grouped : Bool) (e : Expr) → ValidTerm grouped e → ValidExpr e
term_expr true e valid = valid
term_expr false (expr.Column column) valid = valid
term_expr false (expr.CountAll at) valid = absurd valid
term_expr false (expr.Call f column at) valid = absurd valid

pub spells_atom : (grouped : Bool) (a : Atom) → ValidAtom grouped a → Spells ends (canon_atom a) (shapes_atom a)
spells_atom grouped (atom.Expr e) valid = ends_early (spells_expr e (term_expr grouped e valid))
spells_atom grouped (atom.Literal l) valid = spells_literal l valid

pub spells_comparison : (how : Comparison) → Spells any (canon_comparison how) (shape_comparison how ∷ [])
spells_comparison comparison.Equal = spells_equal
spells_comparison comparison.Unequal = spells_unequal
spells_comparison comparison.Less = spells_less
spells_comparison comparison.AtMost = spells_at_most
spells_comparison comparison.Greater = spells_greater
spells_comparison comparison.AtLeast = spells_at_least

-- what a comparison begins with
pub comparison_first : (how : Comparison) (rest : List ℕ) → Follows ends (canon_comparison how ++ rest)
comparison_first comparison.Equal rest = refl
comparison_first comparison.Unequal rest = refl
comparison_first comparison.Less rest = refl
comparison_first comparison.AtMost rest = refl
comparison_first comparison.Greater rest = refl
comparison_first comparison.AtLeast rest = refl

-- lists, each entry lexed as its shapes
abbrev pub EachSpells : {A : Type 0} → (A → List ℕ) → (A → List Shape) → List A → Type 0
EachSpells f g xs = Every (λ x. Spells ends (f x) (g x)) xs

pub spells_joined : {A : Type 0} (f : A → List ℕ) (g : A → List Shape) (sep : List ℕ) (s : Shape) → Spells any sep (s ∷ []) → ((rest : List ℕ) → Follows ends (sep ++ rest)) → (xs : List A) → EachSpells f g xs → Spells ends (joined sep (map f xs)) (between s (map g xs))
spells_joined f g sep s spelled meets [] each = spells_none
spells_joined f g sep s spelled meets (x ∷ []) each = each.0
spells_joined f g sep s spelled meets (x ∷ y ∷ xs) each =
    spells_then each.0 (spells_after spelled (spells_joined f g sep s spelled meets (y ∷ xs) each.1)) (meets (joined sep (map f (y ∷ xs))))

pub every_spells : {A : Type 0} (P : A → Type 0) (f : A → List ℕ) (g : A → List Shape) → ((x : A) → P x → Spells ends (f x) (g x)) → (xs : List A) → Every P xs → EachSpells f g xs
every_spells P f g spells [] every = tt
every_spells P f g spells (x ∷ xs) every = (spells x every.0, every_spells P f g spells xs every.1)
