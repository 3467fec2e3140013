-- A condition is on a group of rows what it is, with its names resolved, on the row that stands for the group.
use Rattle.std.proofs.Common.{◌≡◌, ℕ, Bool, true, false, ◌&&◌, ◌||◌, List, [], ◌∷◌, ◌++◌, map, refl, ap, sym, ◌∙◌, subst}
use Rattle.std.specs.List.{flat_map, list_all, AllByRecursion}
use Rattle.pm_syntax.specs.declared.tree.Expr.{Expr}
use Rattle.pm_syntax.specs.declared.tree.Literal.{Literal}
use Rattle.pm_syntax.specs.declared.tree.Literal.TheVariants as literal
use Rattle.pm_syntax.specs.declared.tree.Atom.{Atom}
use Rattle.pm_syntax.specs.declared.tree.Atom.TheVariants as atom
use Rattle.pm_syntax.specs.declared.tree.Test.{Test, roll-Test, map-Test}
use Rattle.pm_syntax.specs.declared.tree.Test.TheVariants as test
use Rattle.pm_syntax.specs.declared.tree.Test.TheOpen.{Test-F}
use Rattle.pm_syntax.specs.declared.tree.Test.TheOpen as layer
use Rattle.pm_syntax.specs.declared.tree.Test.TheFolds.{ind-Test}
use Rattle.pm_values.specs.declared.condition.Comparison.{Comparison}
use Rattle.pm_values.specs.declared.condition.Comparison.TheVariants as comparison
use Rattle.pm_values.specs.declared.condition.Truth.{Truth}
use Rattle.pm_values.specs.declared.condition.Truth.TheVariants.{Yes, No, Unknown}
use Rattle.pm_values.specs.declared.condition.Cond.{Cond}
use Rattle.pm_values.specs.declared.condition.Cond.TheVariants as cond
use Rattle.pm_values.specs.Condition.{truth_of, negated, both, all_of, any_of, compared, operand_value, operand_scale, truth_layer, truth}
use Rattle.pm_values.specs.Equality.{is_null}
use Rattle.pm_values.specs.Row.{Row, cell}
use Rattle.pm_values.proofs.Folds.{fold_all as cond_all, fold_any as cond_any, fold_not as cond_not, fold_compare as cond_compare, fold_null as cond_null}
use Rattle.pm_canonical.proofs.Folds.{fold_any, fold_all, fold_not, fold_compare, fold_null, fold_one_of, fold_between}
use Rattle.pm_names.specs.declared.terms.KnownColumn.{KnownColumn}
use Rattle.pm_names.specs.declared.terms.RowShape.{RowShape}
use Rattle.pm_names.specs.Names.{term_of}
use Rattle.pm_names.specs.Conditions.{position_in, literal_operand, operand_of, negated_if, cond_layer, cond_of, atom_exprs, exprs_layer, exprs_of}
use Rattle.pm_binder.specs.Laws.{is_column, atom_formed, formed_layer, test_formed}
use Rattle.pm_binder.specs.Meaning.{term_value, atom_value, atom_scale, negated_when, atoms_compared, test_layer, test_truth}
use Rattle.pm_binder.proofs.Typed.{and_left, and_right, all_left, all_right}

both_yes : (t : Truth) → both t Yes ≡ t
both_yes Yes = refl
both_yes No = refl
both_yes Unknown = refl

module _ (grouped : Bool) (known : List KnownColumn) (shape : RowShape) (group : List Row) (row : Row) (P : Expr → Type 0)
    (agree : (e : Expr) → P e → (grouped || is_column e) ≡ true → term_value group (term_of known e) ≡ cell row (position_in shape (term_of known e))) where
  same_value : (a : Atom) → AllByRecursion P (atom_exprs a) → atom_formed grouped a ≡ true → atom_value known group a ≡ operand_value (operand_of known shape a) row
  same_value (atom.Expr e) h formed = agree e h.0 formed
  same_value (atom.Literal literal.Null) h formed = refl
  same_value (atom.Literal (literal.Number n decimals)) h formed = refl
  same_value (atom.Literal (literal.Text text)) h formed = refl

  same_scale : (a : Atom) → atom_scale known a ≡ operand_scale (operand_of known shape a)
  same_scale (atom.Expr e) = refl
  same_scale (atom.Literal literal.Null) = refl
  same_scale (atom.Literal (literal.Number n decimals)) = refl
  same_scale (atom.Literal (literal.Text text)) = refl

  compared_same : (how : Comparison) (left right : Atom) → AllByRecursion P (atom_exprs left) → AllByRecursion P (atom_exprs right) → atom_formed grouped left ≡ true → atom_formed grouped right ≡ true
      → atoms_compared known group how left right ≡ truth row (cond.Compare how (operand_of known shape left) (operand_of known shape right))
  compared_same how left right p q f g =
      (λ i. compared how (same_scale left i) (same_scale right i) (same_value left p f i) (same_value right q g i)) ∙ sym (cond_compare (truth_layer row) how (operand_of known shape left) (operand_of known shape right))

  negated_same : (n : Bool) (t : Truth) (c : Cond) → t ≡ truth row c → negated_when n t ≡ truth row (negated_if n c)
  negated_same true t c h = ap negated h ∙ sym (cond_not (truth_layer row) c)
  negated_same false t c h = h

  equals_same : (of : Atom) (list : List Literal) → AllByRecursion P (atom_exprs of) → atom_formed grouped of ≡ true
      → list_all (λ l. atom_formed grouped (atom.Literal l)) list ≡ true
      → map (λ l. atoms_compared known group comparison.Equal of (atom.Literal l)) list ≡ map (truth row) (map (λ l. cond.Compare comparison.Equal (operand_of known shape of) (literal_operand l)) list)
  equals_same of [] p f short = refl
  equals_same of (x ∷ list) p f short =
      let here = compared_same comparison.Equal of (atom.Literal x) p tt f (and_left (atom_formed grouped (atom.Literal x)) (list_all (λ l. atom_formed grouped (atom.Literal l)) list) short) in
      let rest = equals_same of list p f (and_right (atom_formed grouped (atom.Literal x)) (list_all (λ l. atom_formed grouped (atom.Literal l)) list) short) in
      λ i. here i ∷ rest i

  -- a condition is the same on both
  abbrev Same : Test → Type 0
  Same t = AllByRecursion P (exprs_of t) → test_formed grouped t ≡ true → test_truth known group t ≡ truth row (cond_of known shape t)

  abbrev EachSame : List Test → Type 0
  EachSame ts =
      AllByRecursion P (flat_map (λ m. m) (map exprs_of ts)) → list_all (λ m. m) (map (test_formed grouped) ts) ≡ true
      → map (test_truth known group) ts ≡ map (truth row) (map (cond_of known shape) ts)

  members_same : (members : List ((t : Test) × Same t)) → EachSame (map (λ e. e.0) members)
  members_same [] h formed = refl
  members_same (e ∷ es) h formed =
      let ts = map (λ e. e.0) es in
      let here = e.1 (all_left P (exprs_of e.0) (flat_map (λ m. m) (map exprs_of ts)) h) (and_left (test_formed grouped e.0) (list_all (λ m. m) (map (test_formed grouped) ts)) formed) in
      let rest = members_same es (all_right P (exprs_of e.0) (flat_map (λ m. m) (map exprs_of ts)) h) (and_right (test_formed grouped e.0) (list_all (λ m. m) (map (test_formed grouped) ts)) formed) in
      λ i. here i ∷ rest i

  any_same : (ts : List Test) → EachSame ts → Same (test.Any ts)
  any_same ts each h formed =
      fold_any (test_layer known group) ts ∙ ap any_of (each (subst (AllByRecursion P) (fold_any exprs_layer ts) h) (sym (fold_any (formed_layer grouped) ts) ∙ formed))
      ∙ sym (ap (truth row) (fold_any (cond_layer known shape) ts) ∙ cond_any (truth_layer row) (map (cond_of known shape) ts))

  all_same : (ts : List Test) → EachSame ts → Same (test.All ts)
  all_same ts each h formed =
      fold_all (test_layer known group) ts ∙ ap all_of (each (subst (AllByRecursion P) (fold_all exprs_layer ts) h) (sym (fold_all (formed_layer grouped) ts) ∙ formed))
      ∙ sym (ap (truth row) (fold_all (cond_layer known shape) ts) ∙ cond_all (truth_layer row) (map (cond_of known shape) ts))

  not_same : (t : Test) → Same t → Same (test.Not t)
  not_same t part h formed =
      fold_not (test_layer known group) t ∙ ap negated (part (subst (AllByRecursion P) (fold_not exprs_layer t) h) (sym (fold_not (formed_layer grouped) t) ∙ formed))
      ∙ sym (ap (truth row) (fold_not (cond_layer known shape) t) ∙ cond_not (truth_layer row) (cond_of known shape t))

  compare_same : (how : Comparison) (left right : Atom) (at : ℕ) → Same (test.Compare how left right at)
  compare_same how left right at h formed =
      let p = subst (AllByRecursion P) (fold_compare exprs_layer how left right at) h in
      let f = sym (fold_compare (formed_layer grouped) how left right at) ∙ formed in
      fold_compare (test_layer known group) how left right at
      ∙ compared_same how left right (all_left P (atom_exprs left) (atom_exprs right) p) (all_right P (atom_exprs left) (atom_exprs right) p) (and_left (atom_formed grouped left) (atom_formed grouped right) f) (and_right (atom_formed grouped left) (atom_formed grouped right) f)
      ∙ sym (ap (truth row) (fold_compare (cond_layer known shape) how left right at))

  null_same : (of : Atom) (negated : Bool) → Same (test.IsNull of negated)
  null_same of n h formed =
      let p = subst (AllByRecursion P) (fold_null exprs_layer of n) h in
      let f = sym (fold_null (formed_layer grouped) of n) ∙ formed in
      fold_null (test_layer known group) of n
      ∙ negated_same n (truth_of (is_null (atom_value known group of))) (cond.IsNull (operand_of known shape of)) ((λ i. truth_of (is_null (same_value of p f i))) ∙ sym (cond_null (truth_layer row) (operand_of known shape of)))
      ∙ sym (ap (truth row) (fold_null (cond_layer known shape) of n))

  one_of_same : (of : Atom) (list : List Literal) (negated : Bool) (at : ℕ) → Same (test.OneOf of list negated at)
  one_of_same of list n at h formed =
      let p = subst (AllByRecursion P) (fold_one_of exprs_layer of list n at) h in
      let f = sym (fold_one_of (formed_layer grouped) of list n at) ∙ formed in
      let conds = map (λ l. cond.Compare comparison.Equal (operand_of known shape of) (literal_operand l)) list in
      let short = list_all (λ l. atom_formed grouped (atom.Literal l)) list in
      fold_one_of (test_layer known group) of list n at
      ∙ negated_same n (any_of (map (λ l. atoms_compared known group comparison.Equal of (atom.Literal l)) list)) (cond.Any conds)
      (ap any_of (equals_same of list p (and_left (atom_formed grouped of) short f) (and_right (atom_formed grouped of) short f)) ∙ sym (cond_any (truth_layer row) conds))
      ∙ sym (ap (truth row) (fold_one_of (cond_layer known shape) of list n at))

  between_same : (of low high : Atom) (negated : Bool) (at : ℕ) → Same (test.Between of low high negated at)
  between_same of low high n at h formed =
      let p = subst (AllByRecursion P) (fold_between exprs_layer of low high n at) h in
      let f = sym (fold_between (formed_layer grouped) of low high n at) ∙ formed in
      let p2 = all_left P (atom_exprs of ++ atom_exprs low) (atom_exprs high) p in
      let of_p = all_left P (atom_exprs of) (atom_exprs low) p2 in
      let of_f = and_left (atom_formed grouped of) (atom_formed grouped low && atom_formed grouped high) f in
      let ends = and_right (atom_formed grouped of) (atom_formed grouped low && atom_formed grouped high) f in
      let least = compared_same comparison.AtLeast of low of_p (all_right P (atom_exprs of) (atom_exprs low) p2) of_f (and_left (atom_formed grouped low) (atom_formed grouped high) ends) in
      let most = compared_same comparison.AtMost of high of_p (all_right P (atom_exprs of ++ atom_exprs low) (atom_exprs high) p) of_f (and_right (atom_formed grouped low) (atom_formed grouped high) ends) in
      let first = cond.Compare comparison.AtLeast (operand_of known shape of) (operand_of known shape low) in
      let second = cond.Compare comparison.AtMost (operand_of known shape of) (operand_of known shape high) in
      fold_between (test_layer known group) of low high n at
      ∙ negated_same n (both (atoms_compared known group comparison.AtLeast of low) (atoms_compared known group comparison.AtMost of high)) (cond.All (first ∷ second ∷ []))
      ((λ i. both (least i) (most i)) ∙ ap (both (truth row first)) (sym (both_yes (truth row second))) ∙ sym (cond_all (truth_layer row) (first ∷ second ∷ [])))
      ∙ sym (ap (truth row) (fold_between (cond_layer known shape) of low high n at))

  layer_same : (y : Test-F ((t : Test) × Same t)) → Same (roll-Test (map-Test ((t : Test) × Same t) Test (λ e. e.0) y))
  layer_same (layer.Any members) = rw (test.rolls-Any (map (λ e. e.0) members)) (any_same (map (λ e. e.0) members) (members_same members))
  layer_same (layer.All members) = rw (test.rolls-All (map (λ e. e.0) members)) (all_same (map (λ e. e.0) members) (members_same members))
  layer_same (layer.Not part) = rw (test.rolls-Not part.0) (not_same part.0 part.1)
  layer_same (layer.Compare how left right at) = rw (test.rolls-Compare how left right at) (compare_same how left right at)
  layer_same (layer.IsNull of negated) = rw (test.rolls-IsNull of negated) (null_same of negated)
  layer_same (layer.OneOf of list negated at) = rw (test.rolls-OneOf of list negated at) (one_of_same of list negated at)
  layer_same (layer.Between of low high negated at) = rw (test.rolls-Between of low high negated at) (between_same of low high negated at)

  pub truth_same : (t : Test) → AllByRecursion P (exprs_of t) → test_formed grouped t ≡ true → test_truth known group t ≡ truth row (cond_of known shape t)
  truth_same = ind-Test Same (λ x y is. subst (λ z. Same (roll-Test z)) is (layer_same y))
