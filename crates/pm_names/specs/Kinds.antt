-- the names and the kinds of a condition, in the order of its text
use Rattle.std.specs.Prelude.{ℕ, not, ◌&&◌, List, [], ◌++◌}
use Rattle.std.specs.List.{flat_map}
use Rattle.pm_syntax.specs.declared.tree.Literal.{Literal}
use Rattle.pm_syntax.specs.declared.tree.Literal.TheVariants as literal
use Rattle.pm_syntax.specs.declared.tree.Atom.{Atom}
use Rattle.pm_syntax.specs.declared.tree.Atom.TheVariants as atom
use Rattle.pm_syntax.specs.declared.tree.Test.{Test, fold-Test}
use Rattle.pm_syntax.specs.declared.tree.Test.TheOpen.{Test-F}
use Rattle.pm_syntax.specs.declared.tree.Test.TheOpen as layer
use Rattle.pm_plan.specs.Kinds.{OperandKind, OfColumn, OfNull, OfNumber, OfText, kinds_fit}
use Rattle.pm_names.specs.declared.fault.BindBad.{BindBad}
use Rattle.pm_names.specs.declared.fault.BindBad.TheVariants as bad
use Rattle.pm_names.specs.declared.kinds.OperandClass.{OperandClass}
use Rattle.pm_names.specs.declared.kinds.OperandClass.TheVariants as class
use Rattle.pm_names.specs.declared.terms.KnownColumn.{KnownColumn}
use Rattle.pm_names.specs.Breaches.{bad_if}
use Rattle.pm_names.specs.Names.{term_of, term_kind, is_sound, expr_breaches}

-- what a class of operands is, in the words of plans
abbrev pub operand_class : OperandClass → OperandKind
operand_class (class.Column kind) = OfColumn kind
operand_class class.Null = OfNull
operand_class class.Number = OfNumber
operand_class class.Text = OfText

abbrev pub literal_kind : Literal → OperandKind
literal_kind literal.Null = OfNull
literal_kind (literal.Number value decimals) = OfNumber
literal_kind (literal.Text text) = OfText

-- what an operand is compared as
abbrev pub atom_kind : List KnownColumn → Atom → OperandKind
atom_kind known (atom.Expr e) = OfColumn (term_kind known (term_of known e))
atom_kind known (atom.Literal l) = literal_kind l

abbrev pub atom_breaches : List KnownColumn → Atom → List BindBad
atom_breaches known (atom.Expr e) = expr_breaches known e
atom_breaches known (atom.Literal l) = []

-- two operands, both without a breach of their own, whose kinds do not fit
abbrev pub kind_breaches : List KnownColumn → Atom → Atom → ℕ → List BindBad
kind_breaches known left right at =
    bad_if (is_sound (atom_breaches known left) && (is_sound (atom_breaches known right) && not (kinds_fit (atom_kind known left) (atom_kind known right)))) (bad.Kinds at)

abbrev pub compare_breaches : List KnownColumn → Atom → Atom → ℕ → List BindBad
compare_breaches known left right at = atom_breaches known left ++ kind_breaches known left right at ++ atom_breaches known right

abbrev pub one_of_breaches : List KnownColumn → Atom → List Literal → ℕ → List BindBad
one_of_breaches known of list at = atom_breaches known of ++ flat_map (λ l. kind_breaches known of (atom.Literal l) at) list

abbrev pub between_breaches : List KnownColumn → Atom → Atom → Atom → ℕ → List BindBad
between_breaches known of low high at =
    atom_breaches known of ++ kind_breaches known of low at ++ kind_breaches known of high at ++ atom_breaches known low ++ atom_breaches known high

abbrev pub breaches_layer : List KnownColumn → Test-F (List BindBad) → List BindBad
breaches_layer known (layer.Any members) = flat_map (λ m. m) members
breaches_layer known (layer.All members) = flat_map (λ m. m) members
breaches_layer known (layer.Not part) = part
breaches_layer known (layer.Compare how left right at) = compare_breaches known left right at
breaches_layer known (layer.IsNull of negated) = atom_breaches known of
breaches_layer known (layer.OneOf of list negated at) = one_of_breaches known of list at
breaches_layer known (layer.Between of low high negated at) = between_breaches known of low high at

abbrev pub test_breaches : List KnownColumn → Test → List BindBad
test_breaches known = fold-Test (List BindBad) (breaches_layer known)
