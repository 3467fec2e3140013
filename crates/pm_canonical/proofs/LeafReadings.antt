-- Tests that are no list and no NOT are read back.
use Rattle.std.proofs.Common.{◌≡◌, ◌⊎◌, ℕ, Bool, true, false, List, [], ◌∷◌, ◌++◌, map, Option, Some, None, is_some, unwrap_or, if◌then◌else◌, refl, sym, ◌∙◌, ap}
use Rattle.pm_lexer.specs.declared.token.Token.{Token}
use Rattle.pm_lexer.specs.declared.symbol.Symbol.TheVariants as symbol
use Rattle.pm_lexer.specs.Symbol.{is, symbol_of, symbol_at, canonical_sign}
use Rattle.pm_grammar.specs.Language.{Lang, Is, IsList, never}
use Rattle.pm_syntax.specs.declared.tree.Literal.{Literal}
use Rattle.pm_syntax.specs.declared.tree.Atom.{Atom}
use Rattle.pm_values.specs.declared.condition.Comparison.{Comparison}
use Rattle.pm_values.specs.declared.condition.Comparison.TheVariants as comparison
use Rattle.pm_syntax.specs.declared.tree.Test.{Test}
use Rattle.pm_syntax.specs.declared.tree.Test.TheVariants as test
use Rattle.pm_syntax.specs.Terminals.{comparison_of, comparison_of_symbol, compares}
use Rattle.pm_grammar.specs.Language.{IsOptional}
use Rattle.pm_syntax.specs.Grammar.{IsLiteral, IsOperand, IsCompare, IsNullTest, IsIn, IsBetween, IsTest}
use Rattle.pm_canonical.proofs.Shapes.{Shape, shape_of, sign, word, between, shapes_literal, shapes_atom, shape_comparison, shapes_negation, shapes_layer, phrase_of, in_parens}
use Rattle.pm_syntax.specs.Same.{unplaced_atom, unplaced_layer, unplaced_test}
use Rattle.pm_canonical.proofs.Valid.{ValidList, ValidLiteral, ValidAtom, ValidLeaf, compared, null_test, listed, ranged}
use Rattle.pm_canonical.proofs.Combinators.{Reading, pure, shaped, better, mapped, left, right, bind, and_then, token, passes, list_of}
use Rattle.pm_canonical.proofs.Standing.{stands_is, stands_not, stands_null, stands_in, stands_open, stands_close, stands_comma, stands_between, stands_and}
use Rattle.pm_canonical.proofs.Folds.{fold_compare, fold_null, fold_one_of, fold_between}
use Rattle.pm_canonical.proofs.OperandReadings.{literal_read, operand_read}

-- the same but for places
abbrev pub SameTest : Test → Test → Type 0
SameTest t y = unplaced_test y ≡ unplaced_test t

abbrev SameAtom : Atom → Atom → Type 0
SameAtom a y = unplaced_atom y ≡ unplaced_atom a

-- what follows an operand
abbrev Negated : Bool → Atom → Lang Test
Negated grouped of next = IsOptional (is symbol.Not) (λ negation ts. IsIn never of negation next ts ⊎ IsBetween grouped of negation next ts)

abbrev Behind : Bool → Atom → Lang Test
Behind grouped of next ts = IsCompare grouped of next ts ⊎ IsNullTest of next ts ⊎ Negated grouped of next ts

abbrev Later : Bool → Atom → Lang Test
Later grouped of next ts = IsNullTest of next ts ⊎ Negated grouped of next ts

pub optional_read : (test : Token → Bool) (h : Shape) → ((t : Token) → shape_of t ≡ h → test t ≡ true) → (stands : Bool) → Reading (IsOptional test) (λ o. is_some o ≡ stands) (if stands then h ∷ [] else [])
optional_read test h passes false = left (λ next. next None) (λ next. Is test (λ t. next (Some t))) _ [] (pure _ None refl)
optional_read test h passes true =
    right (λ next. next None) (λ next. Is test (λ t. next (Some t))) _ (h ∷ []) (mapped (Is test) (λ t. Some t) (λ t. shape_of t ≡ h) _ (h ∷ []) (token test h passes) (λ t e. refl))

comparison_shape : (how : Comparison) → comparison_of_symbol (symbol_at (shape_comparison how).kind (shape_comparison how).slice) ≡ Some how
unfolding canonical_sign
comparison_shape comparison.Equal = refl
comparison_shape comparison.Unequal = refl
comparison_shape comparison.Less = refl
comparison_shape comparison.AtMost = refl
comparison_shape comparison.Greater = refl
comparison_shape comparison.AtLeast = refl

comparison_is : (how : Comparison) (t : Token) → shape_of t ≡ shape_comparison how → comparison_of t ≡ Some how
unfolding symbol_of
comparison_is how t e = ap (λ h. comparison_of_symbol (symbol_at h.kind h.slice)) e ∙ comparison_shape how

compared_same : (how : Comparison) (l r : Atom) (at : ℕ) (t : Token) (x y : Atom) → shape_of t ≡ shape_comparison how → SameAtom l x → SameAtom r y
    → SameTest (test.Compare how l r at) (test.Compare (unwrap_or (comparison_of t) comparison.Equal) x y t.at)
compared_same how l r at t x y e f g =
    fold_compare unplaced_layer (unwrap_or (comparison_of t) comparison.Equal) x y t.at
    ∙ ap (λ c. test.Compare (unwrap_or c comparison.Equal) (unplaced_atom x) (unplaced_atom y) 0) (comparison_is how t e)
    ∙ ap (λ a. test.Compare how a (unplaced_atom y) 0) f ∙ ap (λ a. test.Compare how (unplaced_atom l) a 0) g
    ∙ sym (fold_compare unplaced_layer how l r at)

compare_read : (grouped : Bool) (how : Comparison) (l r : Atom) (at : ℕ) → ValidAtom grouped l → ValidAtom grouped r
    → Reading (IsTest grouped never) (SameTest (test.Compare how l r at)) (shapes_atom l ++ shape_comparison how ∷ shapes_atom r)
compare_read grouped how l r at lv rv =
    bind (IsOperand grouped) (Behind grouped) (SameAtom l) _ (shapes_atom l) (shape_comparison how ∷ shapes_atom r) (operand_read grouped l lv)
    (λ x f. left (IsCompare grouped x) (Later grouped x) _ (shape_comparison how ∷ shapes_atom r)
    (bind (Is compares) (λ t next. IsOperand grouped (λ y. next (test.Compare (unwrap_or (comparison_of t) comparison.Equal) x y t.at))) (λ t. shape_of t ≡ shape_comparison how) _ (shape_comparison how ∷ []) (shapes_atom r)
    (token compares (shape_comparison how) (λ t e. ap is_some (comparison_is how t e)))
    (λ t e. mapped (IsOperand grouped) (λ y. test.Compare (unwrap_or (comparison_of t) comparison.Equal) x y t.at) (SameAtom r) _ (shapes_atom r) (operand_read grouped r rv)
    (λ y g. compared_same how l r at t x y e f g))))

not_read : (negated : Bool) → Reading (IsOptional (is symbol.Not)) (λ o. is_some o ≡ negated) (shapes_negation negated)
not_read negated = optional_read (is symbol.Not) (word symbol.Not) (passes symbol.Not (word symbol.Not) stands_not) negated

null_read : (grouped : Bool) (of : Atom) (negated : Bool) → ValidAtom grouped of
    → Reading (IsTest grouped never) (SameTest (test.IsNull of negated)) (shapes_atom of ++ (word symbol.Is ∷ shapes_negation negated ++ word symbol.Null ∷ []))
null_read grouped of negated valid =
    bind (IsOperand grouped) (Behind grouped) (SameAtom of) _ (shapes_atom of) (word symbol.Is ∷ shapes_negation negated ++ word symbol.Null ∷ []) (operand_read grouped of valid)
    (λ x f. right (IsCompare grouped x) (Later grouped x) _ _ (left (IsNullTest x) (Negated grouped x) _ (word symbol.Is ∷ shapes_negation negated ++ word symbol.Null ∷ [])
    (and_then symbol.Is (word symbol.Is) stands_is (λ _ next. IsOptional (is symbol.Not) (λ o. Is (is symbol.Null) (λ _. next (test.IsNull x (is_some o))))) _ (shapes_negation negated ++ word symbol.Null ∷ [])
    (λ _ _. bind (IsOptional (is symbol.Not)) (λ o next. Is (is symbol.Null) (λ _. next (test.IsNull x (is_some o)))) (λ o. is_some o ≡ negated) _ (shapes_negation negated) (word symbol.Null ∷ []) (not_read negated)
    (λ o n. and_then symbol.Null (word symbol.Null) stands_null (λ _ next. next (test.IsNull x (is_some o))) _ []
    (λ _ _. pure _ (test.IsNull x (is_some o))
    (fold_null unplaced_layer x (is_some o) ∙ ap (λ a. test.IsNull a (is_some o)) f ∙ ap (λ b. test.IsNull (unplaced_atom of) b) n ∙ sym (fold_null unplaced_layer of negated))))))))

map_same : {A : Type 0} (xs : List A) → map (λ x. x) xs ≡ xs
map_same [] = refl
map_same (x ∷ xs) = ap (λ t. x ∷ t) (map_same xs)

literals_read : (list : List Literal) → ValidList 256 ValidLiteral list → Reading (IsList never 256 IsLiteral (is symbol.Comma)) (λ r. r ≡ list) (between (sign symbol.Comma) (map shapes_literal list))
literals_read list valid =
    better _ (λ r. map (λ l. l) r ≡ map (λ l. l) list) _ _ (λ r e. sym (map_same r) ∙ e ∙ map_same list)
    (list_of 256 IsLiteral symbol.Comma (sign symbol.Comma) stands_comma (λ l. l) shapes_literal ValidLiteral literal_read list valid.some valid.within valid.each)

-- after an operand and NOT
negated_read : (grouped : Bool) (of : Atom) (negated : Bool) (t : Test) (b : List Shape) → ValidAtom grouped of
    → ((x : Atom) (o : Option Token) → SameAtom of x → is_some o ≡ negated → Reading (λ next ts. IsIn never x o next ts ⊎ IsBetween grouped x o next ts) (SameTest t) b)
    → Reading (IsTest grouped never) (SameTest t) (shapes_atom of ++ (shapes_negation negated ++ b))
negated_read grouped of negated t b valid q =
    bind (IsOperand grouped) (Behind grouped) (SameAtom of) _ (shapes_atom of) (shapes_negation negated ++ b) (operand_read grouped of valid)
    (λ x f. right (IsCompare grouped x) (Later grouped x) _ _ (right (IsNullTest x) (Negated grouped x) _ (shapes_negation negated ++ b)
    (bind (IsOptional (is symbol.Not)) (λ o next ts. IsIn never x o next ts ⊎ IsBetween grouped x o next ts) (λ o. is_some o ≡ negated) _ (shapes_negation negated) b (not_read negated) (λ o n. q x o f n))))

one_of_read : (grouped : Bool) (of : Atom) (list : List Literal) (negated : Bool) (at : ℕ) → ValidAtom grouped of → ValidList 256 ValidLiteral list
    → Reading (IsTest grouped never) (SameTest (test.OneOf of list negated at)) (shapes_atom of ++ (shapes_negation negated ++ (word symbol.In ∷ sign symbol.Open ∷ between (sign symbol.Comma) (map shapes_literal list) ++ sign symbol.Close ∷ [])))
one_of_read grouped of list negated at valid literals =
    negated_read grouped of negated (test.OneOf of list negated at) _ valid
    (λ x o f n. left (IsIn never x o) (IsBetween grouped x o) _ (word symbol.In ∷ sign symbol.Open ∷ between (sign symbol.Comma) (map shapes_literal list) ++ sign symbol.Close ∷ [])
    (and_then symbol.In (word symbol.In) stands_in (λ w next. Is (is symbol.Open) (λ _. IsList never 256 IsLiteral (is symbol.Comma) (λ l. Is (is symbol.Close) (λ _. next (test.OneOf x l (is_some o) (unwrap_or o w).at))))) _
    (sign symbol.Open ∷ between (sign symbol.Comma) (map shapes_literal list) ++ sign symbol.Close ∷ [])
    (λ w _. and_then symbol.Open (sign symbol.Open) stands_open (λ _ next. IsList never 256 IsLiteral (is symbol.Comma) (λ l. Is (is symbol.Close) (λ _. next (test.OneOf x l (is_some o) (unwrap_or o w).at)))) _
    (between (sign symbol.Comma) (map shapes_literal list) ++ sign symbol.Close ∷ [])
    (λ _ _. bind (IsList never 256 IsLiteral (is symbol.Comma)) (λ l next. Is (is symbol.Close) (λ _. next (test.OneOf x l (is_some o) (unwrap_or o w).at))) (λ r. r ≡ list) _
    (between (sign symbol.Comma) (map shapes_literal list)) (sign symbol.Close ∷ []) (literals_read list literals)
    (λ l same. and_then symbol.Close (sign symbol.Close) stands_close (λ _ next. next (test.OneOf x l (is_some o) (unwrap_or o w).at)) _ []
    (λ _ _. pure _ (test.OneOf x l (is_some o) (unwrap_or o w).at)
    (fold_one_of unplaced_layer x l (is_some o) (unwrap_or o w).at ∙ ap (λ a. test.OneOf a l (is_some o) 0) f ∙ ap (λ r. test.OneOf (unplaced_atom of) r (is_some o) 0) same
    ∙ ap (λ b. test.OneOf (unplaced_atom of) list b 0) n ∙ sym (fold_one_of unplaced_layer of list negated at))))))))

between_read : (grouped : Bool) (of low high : Atom) (negated : Bool) (at : ℕ) → ValidAtom grouped of → ValidAtom grouped low → ValidAtom grouped high
    → Reading (IsTest grouped never) (SameTest (test.Between of low high negated at)) (shapes_atom of ++ (shapes_negation negated ++ (word symbol.Between ∷ shapes_atom low ++ word symbol.And ∷ shapes_atom high)))
between_read grouped of low high negated at valid lows highs =
    negated_read grouped of negated (test.Between of low high negated at) _ valid
    (λ x o f n. right (IsIn never x o) (IsBetween grouped x o) _ (word symbol.Between ∷ shapes_atom low ++ word symbol.And ∷ shapes_atom high)
    (and_then symbol.Between (word symbol.Between) stands_between (λ w next. IsOperand grouped (λ y. Is (is symbol.And) (λ _. IsOperand grouped (λ z. next (test.Between x y z (is_some o) (unwrap_or o w).at))))) _
    (shapes_atom low ++ word symbol.And ∷ shapes_atom high)
    (λ w _. bind (IsOperand grouped) (λ y next. Is (is symbol.And) (λ _. IsOperand grouped (λ z. next (test.Between x y z (is_some o) (unwrap_or o w).at)))) (SameAtom low) _ (shapes_atom low) (word symbol.And ∷ shapes_atom high) (operand_read grouped low lows)
    (λ y g. and_then symbol.And (word symbol.And) stands_and (λ _ next. IsOperand grouped (λ z. next (test.Between x y z (is_some o) (unwrap_or o w).at))) _ (shapes_atom high)
    (λ _ _. mapped (IsOperand grouped) (λ z. test.Between x y z (is_some o) (unwrap_or o w).at) (SameAtom high) _ (shapes_atom high) (operand_read grouped high highs)
    (λ z h. fold_between unplaced_layer x y z (is_some o) (unwrap_or o w).at ∙ ap (λ a. test.Between a (unplaced_atom y) (unplaced_atom z) (is_some o) 0) f
    ∙ ap (λ a. test.Between (unplaced_atom of) a (unplaced_atom z) (is_some o) 0) g ∙ ap (λ a. test.Between (unplaced_atom of) (unplaced_atom low) a (is_some o) 0) h
    ∙ ap (λ b. test.Between (unplaced_atom of) (unplaced_atom low) (unplaced_atom high) b 0) n ∙ sym (fold_between unplaced_layer of low high negated at)))))))

pub leaf_read : (grouped : Bool) (t : Test) → ValidLeaf grouped t → Reading (IsTest grouped never) (SameTest t) (phrase_of t).shapes
leaf_read grouped _ (compared how l r at lv rv) = shaped _ _ _ _ (ap (λ p. p.shapes) (sym (fold_compare shapes_layer how l r at))) (compare_read grouped how l r at lv rv)
leaf_read grouped _ (null_test of negated valid) = shaped _ _ _ _ (ap (λ p. p.shapes) (sym (fold_null shapes_layer of negated))) (null_read grouped of negated valid)
leaf_read grouped _ (listed of list negated at valid literals) = shaped _ _ _ _ (ap (λ p. p.shapes) (sym (fold_one_of shapes_layer of list negated at))) (one_of_read grouped of list negated at valid literals)
leaf_read grouped _ (ranged of low high negated at valid lows highs) = shaped _ _ _ _ (ap (λ p. p.shapes) (sym (fold_between shapes_layer of low high negated at))) (between_read grouped of low high negated at valid lows highs)

-- such a test stands in no parentheses
pub leaf_plain : (grouped : Bool) (t : Test) → ValidLeaf grouped t → (in_or : Bool) → in_parens in_or (phrase_of t) ≡ false
leaf_plain grouped _ (compared how l r at lv rv) in_or = ap (in_parens in_or) (fold_compare shapes_layer how l r at)
leaf_plain grouped _ (null_test of negated valid) in_or = ap (in_parens in_or) (fold_null shapes_layer of negated)
leaf_plain grouped _ (listed of list negated at valid literals) in_or = ap (in_parens in_or) (fold_one_of shapes_layer of list negated at)
leaf_plain grouped _ (ranged of low high negated at valid lows highs) in_or = ap (in_parens in_or) (fold_between shapes_layer of low high negated at)
