-- conditions with their names resolved
use Rattle.std.specs.Prelude.{ℕ, ◌+◌, Bool, true, false, nat_eq, List, [], ◌∷◌, ◌++◌, map, length}
use Rattle.std.specs.List.{flat_map, position_or_len}
use Rattle.pm_syntax.specs.declared.tree.Expr.{Expr}
use Rattle.pm_syntax.specs.declared.tree.Literal.{Literal}
use Rattle.pm_syntax.specs.declared.tree.Literal.TheVariants as literal
use Rattle.pm_syntax.specs.declared.tree.Atom.{Atom}
use Rattle.pm_syntax.specs.declared.tree.Atom.TheVariants as atom
use Rattle.pm_syntax.specs.declared.tree.Test.{Test, fold-Test}
use Rattle.pm_syntax.specs.declared.tree.Test.TheOpen.{Test-F}
use Rattle.pm_syntax.specs.declared.tree.Test.TheOpen as layer
use Rattle.pm_values.specs.declared.value.Value.TheVariants as value
use Rattle.pm_values.specs.declared.condition.Comparison.{Comparison}
use Rattle.pm_values.specs.declared.condition.Comparison.TheVariants as comparison
use Rattle.pm_values.specs.declared.condition.Operand.{Operand}
use Rattle.pm_values.specs.declared.condition.Operand.TheVariants as operand
use Rattle.pm_values.specs.declared.condition.Cond.{Cond}
use Rattle.pm_values.specs.declared.condition.Cond.TheVariants as cond
use Rattle.pm_plan.specs.Kinds.{scale_of}
use Rattle.pm_query.specs.Bound.{same_aggregate}
use Rattle.pm_names.specs.declared.terms.KnownColumn.{KnownColumn}
use Rattle.pm_names.specs.declared.terms.Term.{Term}
use Rattle.pm_names.specs.declared.terms.Term.TheVariants as term
use Rattle.pm_names.specs.declared.terms.RowShape.{RowShape}
use Rattle.pm_names.specs.Names.{term_of, term_kind}

-- the row of all columns of all sources
abbrev pub whole_row : RowShape
whole_row = record { grouped = false; keys = []; calls = [] }

-- the position in the row of what an expression means; a row that is not grouped has no aggregates
abbrev pub position_in : RowShape → Term → ℕ
position_in shape (term.Column column) = position_of_column shape.grouped shape.keys column
  where
    position_of_column : Bool → List ℕ → ℕ → ℕ
    position_of_column true keys column = position_or_len (nat_eq column) keys
    position_of_column false keys column = column
position_in shape (term.Call call) = length shape.keys + position_or_len (same_aggregate call) shape.calls

abbrev pub literal_operand : Literal → Operand
literal_operand literal.Null = operand.Literal value.Null 0
literal_operand (literal.Number n decimals) = operand.Literal (value.Int n) decimals
literal_operand (literal.Text text) = operand.Literal (value.Text text) 0

abbrev pub operand_of : List KnownColumn → RowShape → Atom → Operand
operand_of known shape (atom.Expr e) = operand.Column (position_in shape (term_of known e)) (scale_of (term_kind known (term_of known e)))
operand_of known shape (atom.Literal l) = literal_operand l

abbrev pub compared_atoms : List KnownColumn → RowShape → Comparison → Atom → Atom → Cond
compared_atoms known shape how left right = cond.Compare how (operand_of known shape left) (operand_of known shape right)

abbrev pub equals_literal : List KnownColumn → RowShape → Atom → Literal → Cond
equals_literal known shape of l = cond.Compare comparison.Equal (operand_of known shape of) (literal_operand l)

-- both ends of a BETWEEN
abbrev pub between_ends : List KnownColumn → RowShape → Atom → Atom → Atom → Cond
between_ends known shape of low high = cond.All (compared_atoms known shape comparison.AtLeast of low ∷ compared_atoms known shape comparison.AtMost of high ∷ [])

abbrev pub negated_if : Bool → Cond → Cond
negated_if true c = cond.Not c
negated_if false c = c

-- `x IN (a, b)` is `x = a OR x = b`, and `x BETWEEN a AND b` is `x >= a AND x <= b`
abbrev pub cond_layer : List KnownColumn → RowShape → Test-F Cond → Cond
cond_layer known shape (layer.Any members) = cond.Any members
cond_layer known shape (layer.All members) = cond.All members
cond_layer known shape (layer.Not part) = cond.Not part
cond_layer known shape (layer.Compare how left right at) = compared_atoms known shape how left right
cond_layer known shape (layer.IsNull of negated) = negated_if negated (cond.IsNull (operand_of known shape of))
cond_layer known shape (layer.OneOf of list negated at) =
    negated_if negated (cond.Any (map (equals_literal known shape of) list))
cond_layer known shape (layer.Between of low high negated at) = negated_if negated (between_ends known shape of low high)

abbrev pub cond_of : List KnownColumn → RowShape → Test → Cond
cond_of known shape = fold-Test Cond (cond_layer known shape)

-- the expressions of an operand, and of a condition in the order of its text
abbrev pub atom_exprs : Atom → List Expr
atom_exprs (atom.Expr e) = e ∷ []
atom_exprs (atom.Literal l) = []

abbrev pub exprs_layer : Test-F (List Expr) → List Expr
exprs_layer (layer.Any members) = flat_map (λ m. m) members
exprs_layer (layer.All members) = flat_map (λ m. m) members
exprs_layer (layer.Not part) = part
exprs_layer (layer.Compare how left right at) = atom_exprs left ++ atom_exprs right
exprs_layer (layer.IsNull of negated) = atom_exprs of
exprs_layer (layer.OneOf of list negated at) = atom_exprs of
exprs_layer (layer.Between of low high negated at) = atom_exprs of ++ atom_exprs low ++ atom_exprs high

abbrev pub exprs_of : Test → List Expr
exprs_of = fold-Test (List Expr) exprs_layer
