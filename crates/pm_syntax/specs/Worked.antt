-- Texts of statements and what they call for.
use Rattle.std.specs.Prelude.{◌≡◌, ℕ, pos, true, false, List, [], ◌∷◌, Some, None, Result, Ok, codes}
use Rattle.pm_lexer.specs.declared.token.Token.{Token}
use Rattle.pm_lexer.specs.Tokens.{tokens_of}
use Rattle.pm_grammar.specs.declared.fault.SynBad.{SynBad}
use Rattle.pm_syntax.specs.declared.tree.Expr.{Expr}
use Rattle.pm_syntax.specs.declared.tree.Expr.TheVariants as expr
use Rattle.pm_syntax.specs.declared.tree.Items.TheVariants as items
use Rattle.pm_syntax.specs.declared.tree.Literal.TheVariants as literal
use Rattle.pm_syntax.specs.declared.tree.Atom.{Atom}
use Rattle.pm_syntax.specs.declared.tree.Atom.TheVariants as atom
use Rattle.pm_values.specs.declared.condition.Comparison.TheVariants as comparison
use Rattle.pm_syntax.specs.declared.tree.Test.{Test}
use Rattle.pm_syntax.specs.declared.tree.Test.TheVariants as test
use Rattle.pm_syntax.specs.declared.tree.Select.{Select}
use Rattle.pm_syntax.specs.Statement.{CallsFor}

-- the tokens of the text call for this answer
abbrev pub TextCallsFor : List ℕ → Result Select SynBad → Type 0
TextCallsFor text answer = (tokens : List Token) × (tokens_of text ≡ Ok tokens) × CallsFor tokens answer

abbrev column : List ℕ → ℕ → Expr
column name at = expr.Column (record { alias = None; name = record { text = name; at = at } })

abbrev of_column : List ℕ → ℕ → Atom
of_column name at = atom.Expr (column name at)

-- a NOT IN (1) OR b = 2 AND c IS NULL, where `a` stands at 22
abbrev pub either_test : Test
either_test = test.Any (
    test.OneOf (of_column (codes "a") 22) (literal.Number (pos 1) 0 ∷ []) true 24
    ∷ test.All (test.Compare comparison.Equal (of_column (codes "b") 38) (atom.Literal (literal.Number (pos 2) 0)) 40 ∷ test.IsNull (of_column (codes "c") 48) false ∷ [])
    ∷ [])

-- SELECT a FROM t WHERE with this test
abbrev pub filtered : Test → Select
filtered cond = record {
  distinct = false;
  items = items.List (record { expr = column (codes "a") 7; given = None } ∷ []);
  sources = record { table = record { text = codes "t"; at = 14 }; alias = None; on = None; left = false } ∷ [];
  filter = Some cond;
  groups = [];
  having = None;
  orders = [];
}
