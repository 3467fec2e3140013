-- The trees that reading gives.
use Rattle.std.proofs.Common.{◌≡◌, ◌≤◌, ◌<◌, ◌+◌, ◌^◌, ℕ, suc, ℤ, Bool, true, false, List, [], ◌∷◌, length, Option, Some, None, decimal, unsigned_abs}
use Rattle.std.specs.Char.{is_ascii_control}
use Rattle.pm_grammar.specs.declared.names.PlacedName.{PlacedName}
use Rattle.pm_syntax.specs.declared.tree.ColumnName.{ColumnName}
use Rattle.pm_syntax.specs.declared.tree.Expr.{Expr}
use Rattle.pm_syntax.specs.declared.tree.Expr.TheVariants as expr
use Rattle.pm_syntax.specs.declared.tree.Item.{Item}
use Rattle.pm_syntax.specs.declared.tree.Items.{Items}
use Rattle.pm_syntax.specs.declared.tree.Items.TheVariants as items
use Rattle.pm_syntax.specs.declared.tree.Source.{Source}
use Rattle.pm_syntax.specs.declared.tree.Literal.{Literal}
use Rattle.pm_syntax.specs.declared.tree.Literal.TheVariants as literal
use Rattle.pm_syntax.specs.declared.tree.Atom.{Atom}
use Rattle.pm_syntax.specs.declared.tree.Atom.TheVariants as atom
use Rattle.pm_values.specs.declared.condition.Comparison.{Comparison}
use Rattle.pm_syntax.specs.declared.tree.Test.{Test}
use Rattle.pm_syntax.specs.declared.tree.Test.TheVariants as test
use Rattle.pm_syntax.specs.declared.tree.Select.{Select}
use Rattle.pm_lexer.specs.Quoting.{is_plain}
use Rattle.pm_canonical.specs.Canon.{padded}

-- P holds of each
abbrev pub Every : {A : Type 0} → (A → Type 0) → List A → Type 0
Every P [] = Unit {0}
Every P (x ∷ xs) = P x × Every P xs

abbrev pub Where : {A : Type 0} → (A → Type 0) → Option A → Type 0
Where P None = Unit {0}
Where P (Some x) = P x

-- one entry or more, and at most so many
pub record ValidList {A : Type 0} (limit : ℕ) (P : A → Type 0) (xs : List A) : Type 0 where
  pub some : 0 < length xs
  pub within : length xs ≤ limit
  pub each : Every P xs

-- at most so many
pub record ValidPart {A : Type 0} (limit : ℕ) (P : A → Type 0) (xs : List A) : Type 0 where
  pub within : length xs ≤ limit
  pub each : Every P xs

pub record ValidName (name : List ℕ) : Type 0 where
  pub some : 0 < length name
  pub short : length name ≤ 64
  pub clean : is_plain name ≡ false → Every (λ b. is_ascii_control b ≡ false) name

abbrev pub ValidPlaced : PlacedName → Type 0
ValidPlaced name = ValidName name.text

pub record ValidColumn (column : ColumnName) : Type 0 where
  pub alias : Where ValidPlaced column.alias
  pub name : ValidPlaced column.name

abbrev pub ValidExpr : Expr → Type 0
ValidExpr (expr.Column column) = ValidColumn column
ValidExpr (expr.CountAll at) = Unit {0}
ValidExpr (expr.Call f column at) = ValidColumn column

pub record ValidNumber (value : ℤ) (decimals : ℕ) : Type 0 where
  pub few : decimals ≤ 6
  pub small : unsigned_abs value < 10 ^ 30
  pub short : length (padded (decimals + 1) (decimal (unsigned_abs value))) ≤ 30

abbrev pub ValidLiteral : Literal → Type 0
ValidLiteral literal.Null = Unit {0}
ValidLiteral (literal.Number value decimals) = ValidNumber value decimals
ValidLiteral (literal.Text text) = Unit {0}

-- an operand: where no aggregate may stand, its expression is a column
abbrev pub ValidTerm : Bool → Expr → Type 0
ValidTerm true e = ValidExpr e
ValidTerm false (expr.Column column) = ValidColumn column
ValidTerm false (expr.CountAll at) = ⊥
ValidTerm false (expr.Call f column at) = ⊥

abbrev pub ValidAtom : Bool → Atom → Type 0
ValidAtom grouped (atom.Expr e) = ValidTerm grouped e
ValidAtom grouped (atom.Literal l) = ValidLiteral l

-- a test that is no list and no NOT
pub data ValidLeaf (grouped : Bool) : Test → Type 0 where
  compared : (how : Comparison) (left right : Atom) (at : ℕ) → ValidAtom grouped left → ValidAtom grouped right → ValidLeaf grouped (test.Compare how left right at)
  null_test : (of : Atom) (negated : Bool) → ValidAtom grouped of → ValidLeaf grouped (test.IsNull of negated)
  listed : (of : Atom) (list : List Literal) (negated : Bool) (at : ℕ) → ValidAtom grouped of → ValidList 256 ValidLiteral list → ValidLeaf grouped (test.OneOf of list negated at)
  ranged : (of low high : Atom) (negated : Bool) (at : ℕ) → ValidAtom grouped of → ValidAtom grouped low → ValidAtom grouped high → ValidLeaf grouped (test.Between of low high negated at)

-- as what a test stands: as a condition, as a member of an OR list, or as a member of an AND list or after NOT
pub data Role : Type 0 where
  whole : Role
  in_or : Role
  in_and : Role

-- A test that canonical text has room for, with at most d open parentheses and NOTs: a list has two members or more. In parentheses
-- stand a list in an AND list, and an OR list in an OR list.
mutual
  pub data Fits (grouped : Bool) : Role → ℕ → Test → Type 0 where
    leaf : (role : Role) (d : ℕ) (t : Test) → ValidLeaf grouped t → Fits grouped role d t
    negated : (role : Role) (d : ℕ) (t : Test) → Fits grouped in_and d t → Fits grouped role (suc d) (test.Not t)
    any_list : (d : ℕ) (members : List Test) → 2 ≤ length members → length members ≤ 256 → FitsEach grouped in_or d members → Fits grouped whole d (test.Any members)
    any_in_or : (d : ℕ) (members : List Test) → 2 ≤ length members → length members ≤ 256 → FitsEach grouped in_or d members → Fits grouped in_or (suc d) (test.Any members)
    any_in_and : (d : ℕ) (members : List Test) → 2 ≤ length members → length members ≤ 256 → FitsEach grouped in_or d members → Fits grouped in_and (suc d) (test.Any members)
    all_list : (d : ℕ) (members : List Test) → 2 ≤ length members → length members ≤ 256 → FitsEach grouped in_and d members → Fits grouped whole d (test.All members)
    all_in_or : (d : ℕ) (members : List Test) → 2 ≤ length members → length members ≤ 256 → FitsEach grouped in_and d members → Fits grouped in_or d (test.All members)
    all_in_and : (d : ℕ) (members : List Test) → 2 ≤ length members → length members ≤ 256 → FitsEach grouped in_and d members → Fits grouped in_and (suc d) (test.All members)

  pub data FitsEach (grouped : Bool) : Role → ℕ → List Test → Type 0 where
    no_members : (role : Role) (d : ℕ) → FitsEach grouped role d []
    member : (role : Role) (d : ℕ) (t : Test) (ts : List Test) → Fits grouped role d t → FitsEach grouped role d ts → FitsEach grouped role d (t ∷ ts)

pub record ValidItem (item : Item) : Type 0 where
  pub expr : ValidExpr item.expr
  pub given : Where ValidPlaced item.given

abbrev pub ValidItems : Items → Type 0
ValidItems (items.All at) = Unit {0}
ValidItems (items.List list) = ValidList 64 ValidItem list

pub record ValidSource (source : Source) : Type 0 where
  pub table : ValidPlaced source.table
  pub alias : Where ValidPlaced source.alias
  pub on : Where (Fits false whole 32) source.on
  pub unjoined : source.on ≡ None → source.left ≡ false

abbrev pub Unjoined : List Source → Type 0
Unjoined [] = Unit {0}
Unjoined (first ∷ others) = first.on ≡ None

pub record Valid (s : Select) : Type 0 where
  pub items : ValidItems s.items
  pub sources : ValidList 64 ValidSource s.sources
  pub first : Unjoined s.sources
  pub filter : Where (Fits false whole 32) s.filter
  pub groups : ValidPart 64 ValidColumn s.groups
  pub having : Where (Fits true whole 32) s.having
  pub orders : ValidPart 64 (λ key. ValidExpr key.expr) s.orders
