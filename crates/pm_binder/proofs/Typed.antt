-- A condition without breaches fits the row that it is bound to.
use Rattle.std.proofs.Common.{◌≡◌, ◌<◌, ℕ, Bool, true, false, not, ◌&&◌, ◌||◌, List, [], ◌∷◌, ◌++◌, length, map, refl, ap, sym, ◌∙◌, subst, arith, nat_eq, nat_lt}
use Rattle.std.specs.List.{flat_map, list_all, AllByRecursion}
use Rattle.std.proofs.lemmas.Bool.{eq-eqb}
use Rattle.std.proofs.lemmas.Bool.Decides.{nat_tests}
use Rattle.pm_syntax.specs.declared.tree.Expr.{Expr}
use Rattle.pm_syntax.specs.declared.tree.Literal.{Literal}
use Rattle.pm_syntax.specs.declared.tree.Literal.TheVariants as literal
use Rattle.pm_syntax.specs.declared.tree.Atom.{Atom}
use Rattle.pm_syntax.specs.declared.tree.Atom.TheVariants as atom
use Rattle.pm_syntax.specs.declared.tree.Test.{Test, roll-Test, map-Test}
use Rattle.pm_syntax.specs.declared.tree.Test.TheVariants as test
use Rattle.pm_syntax.specs.declared.tree.Test.TheOpen.{Test-F}
use Rattle.pm_syntax.specs.declared.tree.Test.TheOpen as layer
use Rattle.pm_syntax.specs.declared.tree.Test.TheFolds.{ind-Test}
use Rattle.pm_values.specs.declared.value.Kind.{Kind}
use Rattle.pm_values.specs.declared.condition.Comparison.{Comparison}
use Rattle.pm_values.specs.declared.condition.Comparison.TheVariants as comparison
use Rattle.pm_values.specs.declared.condition.Cond.{Cond}
use Rattle.pm_values.specs.declared.condition.Cond.TheVariants as cond
use Rattle.pm_values.proofs.Folds.{fold_all as cond_all, fold_any as cond_any, fold_not as cond_not, fold_compare as cond_compare, fold_null as cond_null}
use Rattle.pm_plan.specs.Kinds.{OfColumn, kind_at, scale_of, kinds_fit, operand_kind, operand_fits, condition_layer, condition_fits}
use Rattle.pm_canonical.proofs.Folds.{fold_any, fold_all, fold_not, fold_compare, fold_null, fold_one_of, fold_between}
use Rattle.pm_names.specs.declared.fault.BindBad.{BindBad}
use Rattle.pm_names.specs.declared.fault.BindBad.TheVariants as bad
use Rattle.pm_names.specs.declared.terms.KnownColumn.{KnownColumn}
use Rattle.pm_names.specs.declared.terms.RowShape.{RowShape}
use Rattle.pm_names.specs.Names.{term_of, term_kind, is_sound, expr_breaches}
use Rattle.pm_names.specs.Kinds.{atom_kind, atom_breaches, kind_breaches, breaches_layer, test_breaches}
use Rattle.pm_names.specs.Conditions.{position_in, literal_operand, operand_of, negated_if, cond_layer, cond_of, atom_exprs, exprs_layer, exprs_of}
use Rattle.pm_binder.specs.Laws.{is_column, is_short, atom_formed, formed_layer, test_formed}
use Rattle.pm_binder.proofs.Few.{empty_left, empty_right}
use Rattle.pm_binder.proofs.BoundTables.{no_bad, not_false}

pub and_left : (a b : Bool) → (a && b) ≡ true → a ≡ true
and_left true b h = refl
and_left false b h = cc h

pub and_right : (a b : Bool) → (a && b) ≡ true → b ≡ true
and_right true b h = h
and_right false b h = cc h

pub both_true : (a b : Bool) → a ≡ true → b ≡ true → (a && b) ≡ true
both_true a b h k = rw (h, k) refl

pub all_left : {A : Type 0} (P : A → Type 0) (xs ys : List A) → AllByRecursion P (xs ++ ys) → AllByRecursion P xs
all_left P [] ys h = tt
all_left P (x ∷ xs) ys h = (h.0, all_left P xs ys h.1)

pub all_right : {A : Type 0} (P : A → Type 0) (xs ys : List A) → AllByRecursion P (xs ++ ys) → AllByRecursion P ys
all_right P [] ys h = h
all_right P (x ∷ xs) ys h = all_right P xs ys h.1

-- what an expression means stands in a row of these kinds, and has its kind there
pub record FitsRow (known : List KnownColumn) (shape : RowShape) (kinds : List Kind) (e : Expr) : Type 0 where
  pub below : position_in shape (term_of known e) < length kinds
  pub kind : kind_at kinds (position_in shape (term_of known e)) ≡ term_kind known (term_of known e)

kinds_kept : (known : List KnownColumn) (left right : Atom) (at : ℕ) → atom_breaches known left ≡ [] → atom_breaches known right ≡ [] → kind_breaches known left right at ≡ [] → kinds_fit (atom_kind known left) (atom_kind known right) ≡ true
kinds_kept known left right at l r h =
    let off = no_bad (is_sound (atom_breaches known left) && (is_sound (atom_breaches known right) && not (kinds_fit (atom_kind known left) (atom_kind known right)))) (bad.Kinds at) h in
    not_false (kinds_fit (atom_kind known left) (atom_kind known right)) (of (atom_breaches known left) (atom_breaches known right) (not (kinds_fit (atom_kind known left) (atom_kind known right))) l r off)
  where
    of : (xs ys : List BindBad) (b : Bool) → xs ≡ [] → ys ≡ [] → (is_sound xs && (is_sound ys && b)) ≡ false → b ≡ false
    of [] [] b l r off = off
    of [] (y ∷ ys) b l r off = absurd (cc r)
    of (x ∷ xs) ys b l r off = absurd (cc l)

module _ (grouped : Bool) (known : List KnownColumn) (shape : RowShape) (kinds : List Kind) (P : Expr → Type 0)
    (fit : (e : Expr) → P e → expr_breaches known e ≡ [] → (grouped || is_column e) ≡ true → FitsRow known shape kinds e) where
  atom_fits : (a : Atom) → AllByRecursion P (atom_exprs a) → atom_breaches known a ≡ [] → atom_formed grouped a ≡ true → operand_fits kinds (operand_of known shape a) ≡ true
  atom_fits (atom.Expr e) h none formed =
      let f = fit e h.0 none formed in
      let low : position_in shape (term_of known e) < length kinds = f.below in
      both_true (nat_lt (position_in shape (term_of known e)) (length kinds)) (nat_eq (scale_of (term_kind known (term_of known e))) (scale_of (kind_at kinds (position_in shape (term_of known e)))))
      (grind (arith, nat_tests)) (eq-eqb (scale_of (term_kind known (term_of known e))) (scale_of (kind_at kinds (position_in shape (term_of known e)))) (ap scale_of (sym f.kind)))
  atom_fits (atom.Literal literal.Null) h none formed = refl
  atom_fits (atom.Literal (literal.Number n decimals)) h none formed = formed
  atom_fits (atom.Literal (literal.Text text)) h none formed = refl

  same_kinds : (a : Atom) → AllByRecursion P (atom_exprs a) → atom_breaches known a ≡ [] → atom_formed grouped a ≡ true → operand_kind kinds (operand_of known shape a) ≡ atom_kind known a
  same_kinds (atom.Expr e) h none formed = ap OfColumn (fit e h.0 none formed).kind
  same_kinds (atom.Literal literal.Null) h none formed = refl
  same_kinds (atom.Literal (literal.Number n decimals)) h none formed = refl
  same_kinds (atom.Literal (literal.Text text)) h none formed = refl

  compare_fits : (how : Comparison) (left right : Atom) (at : ℕ) → AllByRecursion P (atom_exprs left) → AllByRecursion P (atom_exprs right)
      → atom_breaches known left ≡ [] → atom_breaches known right ≡ [] → kind_breaches known left right at ≡ [] → atom_formed grouped left ≡ true → atom_formed grouped right ≡ true
      → condition_fits kinds (cond.Compare how (operand_of known shape left) (operand_of known shape right)) ≡ true
  compare_fits how left right at p q l r k f g =
      cond_compare (condition_layer kinds) how (operand_of known shape left) (operand_of known shape right)
      ∙ rw (atom_fits left p l f, atom_fits right q r g, same_kinds left p l f, same_kinds right q r g) (kinds_kept known left right at l r k)

  negated_fits : (n : Bool) (c : Cond) → condition_fits kinds c ≡ true → condition_fits kinds (negated_if n c) ≡ true
  negated_fits true c h = cond_not (condition_layer kinds) c ∙ h
  negated_fits false c h = h

  equals_fit : (of : Atom) (list : List Literal) (at : ℕ) → AllByRecursion P (atom_exprs of) → atom_breaches known of ≡ [] → atom_formed grouped of ≡ true
      → flat_map (λ l. kind_breaches known of (atom.Literal l) at) list ≡ [] → list_all is_short list ≡ true
      → list_all (λ m. m) (map (condition_fits kinds) (map (λ l. cond.Compare comparison.Equal (operand_of known shape of) (literal_operand l)) list)) ≡ true
  equals_fit of [] at p l f k s = refl
  equals_fit of (x ∷ list) at p l f k s =
      both_true (condition_fits kinds (cond.Compare comparison.Equal (operand_of known shape of) (literal_operand x)))
      (list_all (λ m. m) (map (condition_fits kinds) (map (λ l. cond.Compare comparison.Equal (operand_of known shape of) (literal_operand l)) list)))
      (compare_fits comparison.Equal of (atom.Literal x) at p tt l refl (empty_left (kind_breaches known of (atom.Literal x) at) (flat_map (λ l. kind_breaches known of (atom.Literal l) at) list) k) f (and_left (is_short x) (list_all is_short list) s))
      (equals_fit of list at p l f (empty_right (kind_breaches known of (atom.Literal x) at) (flat_map (λ l. kind_breaches known of (atom.Literal l) at) list) k) (and_right (is_short x) (list_all is_short list) s))

  -- a condition without breaches fits
  abbrev Fits : Test → Type 0
  Fits t = test_breaches known t ≡ [] → AllByRecursion P (exprs_of t) → test_formed grouped t ≡ true → condition_fits kinds (cond_of known shape t) ≡ true

  abbrev EachFits : List Test → Type 0
  EachFits ts =
      flat_map (λ m. m) (map (test_breaches known) ts) ≡ [] → AllByRecursion P (flat_map (λ m. m) (map exprs_of ts)) → list_all (λ m. m) (map (test_formed grouped) ts) ≡ true
      → list_all (λ m. m) (map (condition_fits kinds) (map (cond_of known shape) ts)) ≡ true

  members_fit : (members : List ((t : Test) × Fits t)) → EachFits (map (λ e. e.0) members)
  members_fit [] none h formed = refl
  members_fit (e ∷ es) none h formed =
      let ts = map (λ e. e.0) es in
      both_true (condition_fits kinds (cond_of known shape e.0)) (list_all (λ m. m) (map (condition_fits kinds) (map (cond_of known shape) ts)))
      (e.1 (empty_left (test_breaches known e.0) (flat_map (λ m. m) (map (test_breaches known) ts)) none) (all_left P (exprs_of e.0) (flat_map (λ m. m) (map exprs_of ts)) h) (and_left (test_formed grouped e.0) (list_all (λ m. m) (map (test_formed grouped) ts)) formed))
      (members_fit es (empty_right (test_breaches known e.0) (flat_map (λ m. m) (map (test_breaches known) ts)) none) (all_right P (exprs_of e.0) (flat_map (λ m. m) (map exprs_of ts)) h) (and_right (test_formed grouped e.0) (list_all (λ m. m) (map (test_formed grouped) ts)) formed))

  any_fits : (ts : List Test) → EachFits ts → Fits (test.Any ts)
  any_fits ts each none h formed =
      ap (condition_fits kinds) (fold_any (cond_layer known shape) ts) ∙ cond_any (condition_layer kinds) (map (cond_of known shape) ts)
      ∙ each (sym (fold_any (breaches_layer known) ts) ∙ none) (subst (AllByRecursion P) (fold_any exprs_layer ts) h) (sym (fold_any (formed_layer grouped) ts) ∙ formed)

  all_fits : (ts : List Test) → EachFits ts → Fits (test.All ts)
  all_fits ts each none h formed =
      ap (condition_fits kinds) (fold_all (cond_layer known shape) ts) ∙ cond_all (condition_layer kinds) (map (cond_of known shape) ts)
      ∙ each (sym (fold_all (breaches_layer known) ts) ∙ none) (subst (AllByRecursion P) (fold_all exprs_layer ts) h) (sym (fold_all (formed_layer grouped) ts) ∙ formed)

  not_fits : (t : Test) → Fits t → Fits (test.Not t)
  not_fits t part none h formed =
      ap (condition_fits kinds) (fold_not (cond_layer known shape) t) ∙ cond_not (condition_layer kinds) (cond_of known shape t)
      ∙ part (sym (fold_not (breaches_layer known) t) ∙ none) (subst (AllByRecursion P) (fold_not exprs_layer t) h) (sym (fold_not (formed_layer grouped) t) ∙ formed)

  compared_fits : (how : Comparison) (left right : Atom) (at : ℕ) → Fits (test.Compare how left right at)
  compared_fits how left right at none h formed =
      let n = sym (fold_compare (breaches_layer known) how left right at) ∙ none in
      let p = subst (AllByRecursion P) (fold_compare exprs_layer how left right at) h in
      let f = sym (fold_compare (formed_layer grouped) how left right at) ∙ formed in
      let front = empty_left (atom_breaches known left ++ kind_breaches known left right at) (atom_breaches known right) n in
      ap (condition_fits kinds) (fold_compare (cond_layer known shape) how left right at)
      ∙ compare_fits how left right at (all_left P (atom_exprs left) (atom_exprs right) p) (all_right P (atom_exprs left) (atom_exprs right) p)
      (empty_left (atom_breaches known left) (kind_breaches known left right at) front) (empty_right (atom_breaches known left ++ kind_breaches known left right at) (atom_breaches known right) n)
      (empty_right (atom_breaches known left) (kind_breaches known left right at) front) (and_left (atom_formed grouped left) (atom_formed grouped right) f) (and_right (atom_formed grouped left) (atom_formed grouped right) f)

  null_fits : (of : Atom) (negated : Bool) → Fits (test.IsNull of negated)
  null_fits of negated none h formed =
      ap (condition_fits kinds) (fold_null (cond_layer known shape) of negated)
      ∙ negated_fits negated (cond.IsNull (operand_of known shape of)) (cond_null (condition_layer kinds) (operand_of known shape of)
      ∙ atom_fits of (subst (AllByRecursion P) (fold_null exprs_layer of negated) h) (sym (fold_null (breaches_layer known) of negated) ∙ none) (sym (fold_null (formed_layer grouped) of negated) ∙ formed))

  one_of_fits : (of : Atom) (list : List Literal) (negated : Bool) (at : ℕ) → Fits (test.OneOf of list negated at)
  one_of_fits of list negated at none h formed =
      let n = sym (fold_one_of (breaches_layer known) of list negated at) ∙ none in
      let p = subst (AllByRecursion P) (fold_one_of exprs_layer of list negated at) h in
      let f = sym (fold_one_of (formed_layer grouped) of list negated at) ∙ formed in
      let conds = map (λ l. cond.Compare comparison.Equal (operand_of known shape of) (literal_operand l)) list in
      ap (condition_fits kinds) (fold_one_of (cond_layer known shape) of list negated at)
      ∙ negated_fits negated (cond.Any conds) (cond_any (condition_layer kinds) conds
      ∙ equals_fit of list at p (empty_left (atom_breaches known of) (flat_map (λ l. kind_breaches known of (atom.Literal l) at) list) n) (and_left (atom_formed grouped of) (list_all is_short list) f)
      (empty_right (atom_breaches known of) (flat_map (λ l. kind_breaches known of (atom.Literal l) at) list) n) (and_right (atom_formed grouped of) (list_all is_short list) f))

  between_fits : (of low high : Atom) (negated : Bool) (at : ℕ) → Fits (test.Between of low high negated at)
  between_fits of low high negated at none h formed =
      let n = sym (fold_between (breaches_layer known) of low high negated at) ∙ none in
      let p = subst (AllByRecursion P) (fold_between exprs_layer of low high negated at) h in
      let f = sym (fold_between (formed_layer grouped) of low high negated at) ∙ formed in
      let a = atom_breaches known of in
      let b = kind_breaches known of low at in
      let c = kind_breaches known of high at in
      let d = atom_breaches known low in
      let e = atom_breaches known high in
      let n4 = empty_left (a ++ b ++ c ++ d) e n in
      let n3 = empty_left (a ++ b ++ c) d n4 in
      let n2 = empty_left (a ++ b) c n3 in
      let of_none = empty_left a b n2 in
      let p2 = all_left P (atom_exprs of ++ atom_exprs low) (atom_exprs high) p in
      let of_p = all_left P (atom_exprs of) (atom_exprs low) p2 in
      let of_f = and_left (atom_formed grouped of) (atom_formed grouped low && atom_formed grouped high) f in
      let ends = and_right (atom_formed grouped of) (atom_formed grouped low && atom_formed grouped high) f in
      let least = cond.Compare comparison.AtLeast (operand_of known shape of) (operand_of known shape low) in
      let most = cond.Compare comparison.AtMost (operand_of known shape of) (operand_of known shape high) in
      let first : condition_fits kinds least ≡ true =
      compare_fits comparison.AtLeast of low at of_p (all_right P (atom_exprs of) (atom_exprs low) p2) of_none (empty_right (a ++ b ++ c) d n4) (empty_right a b n2) of_f (and_left (atom_formed grouped low) (atom_formed grouped high) ends) in
      let second : condition_fits kinds most ≡ true =
      compare_fits comparison.AtMost of high at of_p (all_right P (atom_exprs of ++ atom_exprs low) (atom_exprs high) p) of_none (empty_right (a ++ b ++ c ++ d) e n) (empty_right (a ++ b) c n3) of_f (and_right (atom_formed grouped low) (atom_formed grouped high) ends) in
      ap (condition_fits kinds) (fold_between (cond_layer known shape) of low high negated at)
      ∙ negated_fits negated (cond.All (least ∷ most ∷ [])) (cond_all (condition_layer kinds) (least ∷ most ∷ []) ∙ rw (first, second) refl)

  layer_fits : (y : Test-F ((t : Test) × Fits t)) → Fits (roll-Test (map-Test ((t : Test) × Fits t) Test (λ e. e.0) y))
  layer_fits (layer.Any members) = rw (test.rolls-Any (map (λ e. e.0) members)) (any_fits (map (λ e. e.0) members) (members_fit members))
  layer_fits (layer.All members) = rw (test.rolls-All (map (λ e. e.0) members)) (all_fits (map (λ e. e.0) members) (members_fit members))
  layer_fits (layer.Not part) = rw (test.rolls-Not part.0) (not_fits part.0 part.1)
  layer_fits (layer.Compare how left right at) = rw (test.rolls-Compare how left right at) (compared_fits how left right at)
  layer_fits (layer.IsNull of negated) = rw (test.rolls-IsNull of negated) (null_fits of negated)
  layer_fits (layer.OneOf of list negated at) = rw (test.rolls-OneOf of list negated at) (one_of_fits of list negated at)
  layer_fits (layer.Between of low high negated at) = rw (test.rolls-Between of low high negated at) (between_fits of low high negated at)

  pub typed : (t : Test) → test_breaches known t ≡ [] → AllByRecursion P (exprs_of t) → test_formed grouped t ≡ true → condition_fits kinds (cond_of known shape t) ≡ true
  typed = ind-Test Fits (λ x y is. subst (λ z. Fits (roll-Test z)) is (layer_fits y))
