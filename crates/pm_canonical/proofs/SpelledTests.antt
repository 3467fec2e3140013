-- A condition's canonical text is lexed as its shapes.
use Rattle.std.proofs.Common.{◌≡◌, ℕ, Bool, true, false, List, [], ◌∷◌, ◌++◌, map, codes, refl, ap, arith}
use Rattle.std.proofs.lemmas.List.{append_assoc}
use Rattle.pm_lexer.specs.declared.symbol.Symbol.TheVariants as symbol
use Rattle.pm_lexer.specs.Symbol.{reserved_word}
use Rattle.pm_syntax.specs.declared.tree.Test.{Test}
use Rattle.pm_syntax.specs.declared.tree.Test.TheVariants as test
use Rattle.pm_canonical.specs.Canon.{Text, plain, joined, is_wrapped, member_of, separator, negation, canon_comparison, canon_literal, canon_atom, canon_layer, text_of}
use Rattle.pm_canonical.proofs.Shapes.{Shape, Phrase, single, word, sign, between, in_parens, member_shapes, list_word, shapes_negation, shape_comparison, shapes_literal, shapes_atom, shapes_layer, phrase_of}
use Rattle.pm_canonical.proofs.Valid.{Every, ValidLiteral, ValidLeaf, Role, Fits, FitsEach}
use Rattle.pm_canonical.proofs.Folds.{fold_any, fold_all, fold_not, fold_compare, fold_null, fold_one_of, fold_between}
use Rattle.pm_canonical.proofs.Runs.{Follows}
use Rattle.pm_canonical.proofs.Spelling.{Spells, any, ends, spells_none, spells_gap, spells_both, spells_at, spells_after}
use Rattle.pm_canonical.proofs.Wording.{reserved_spells, word_before, spells_open, spells_close, spells_and, spells_or, spells_not, spells_is, spells_null, spells_between, spells_comma}
use Rattle.pm_canonical.proofs.Spelled.{spells_any, spells_literal, spells_atom, spells_comparison, comparison_first, EachSpells, spells_joined, every_spells}

-- pieces one after the other, the last ones first
pub four : (a b c d : List ℕ) → a ++ b ++ c ++ d ≡ a ++ (b ++ (c ++ d))
four a b c d = simp append_assoc

six : (a b c d e f : List ℕ) → a ++ b ++ c ++ d ++ e ++ f ≡ a ++ (b ++ (c ++ (d ++ (e ++ f))))
six a b c d e f = simp append_assoc

seven : (a b c d e f g : List ℕ) → a ++ b ++ c ++ d ++ e ++ f ++ g ≡ a ++ (b ++ (c ++ (d ++ (e ++ (f ++ g)))))
seven a b c d e f g = simp append_assoc

spells_negation : (negated : Bool) → Spells any (negation negated) (shapes_negation negated)
spells_negation true = spells_not
spells_negation false = spells_none

spells_in : Spells any (codes "IN (") (word symbol.In ∷ (sign symbol.Open ∷ []))
unfolding reserved_word
spells_in = spells_after (word_before symbol.In (reserved_spells symbol.In refl refl refl (omega arith))) spells_open

-- a test that is no list
record Single (t : Test) : Type 0 where
  bytes : List ℕ
  shapes : List Shape
  text_is : text_of t ≡ plain bytes
  phrase_is : phrase_of t ≡ single shapes
  spelled : Spells ends bytes shapes

single_leaf : (grouped : Bool) (t : Test) → ValidLeaf grouped t → Single t
single_leaf grouped _ (ValidLeaf.compared how left right at first second) = record {
  bytes = canon_atom left ++ canon_comparison how ++ canon_atom right;
  shapes = shapes_atom left ++ shape_comparison how ∷ shapes_atom right;
  text_is = fold_compare canon_layer how left right at;
  phrase_is = fold_compare shapes_layer how left right at;
  spelled = rw (append_assoc (canon_atom left) (canon_comparison how) (canon_atom right))
      (spells_both (spells_atom grouped left first) (spells_after (spells_comparison how) (spells_atom grouped right second))
      (λ rest after. rw (append_assoc (canon_comparison how) (canon_atom right) rest) (comparison_first how (canon_atom right ++ rest))));
}
single_leaf grouped _ (ValidLeaf.null_test of negated valid) = record {
  bytes = canon_atom of ++ codes " IS " ++ negation negated ++ codes "NULL";
  shapes = shapes_atom of ++ (word symbol.Is ∷ shapes_negation negated ++ word symbol.Null ∷ []);
  text_is = fold_null canon_layer of negated;
  phrase_is = fold_null shapes_layer of negated;
  spelled = rw (four (canon_atom of) (codes " IS ") (negation negated) (codes "NULL"))
      (spells_both (spells_atom grouped of valid) (spells_after spells_is (spells_after (spells_negation negated) spells_null)) (λ rest after. refl));
}
single_leaf grouped _ (ValidLeaf.listed of list negated at valid entries) = record {
  bytes = canon_atom of ++ codes " " ++ negation negated ++ codes "IN (" ++ joined (codes ", ") (map canon_literal list) ++ codes ")";
  shapes = shapes_atom of ++ (shapes_negation negated ++ (word symbol.In ∷ sign symbol.Open ∷ between (sign symbol.Comma) (map shapes_literal list) ++ sign symbol.Close ∷ []));
  text_is = fold_one_of canon_layer of list negated at;
  phrase_is = fold_one_of shapes_layer of list negated at;
  spelled =
      let entry = spells_joined canon_literal shapes_literal (codes ", ") (sign symbol.Comma) spells_comma (λ rest. refl) list (every_spells ValidLiteral canon_literal shapes_literal spells_literal list entries.each) in
      rw (six (canon_atom of) (codes " ") (negation negated) (codes "IN (") (joined (codes ", ") (map canon_literal list)) (codes ")"))
      (spells_any (spells_both (spells_atom grouped of valid) (spells_after spells_gap (spells_after (spells_negation negated) (spells_after spells_in (spells_both entry spells_close (λ rest after. refl))))) (λ rest after. refl)));
}
single_leaf grouped _ (ValidLeaf.ranged of low high negated at valid first second) = record {
  bytes = canon_atom of ++ codes " " ++ negation negated ++ codes "BETWEEN " ++ canon_atom low ++ codes " AND " ++ canon_atom high;
  shapes = shapes_atom of ++ (shapes_negation negated ++ (word symbol.Between ∷ shapes_atom low ++ word symbol.And ∷ shapes_atom high));
  text_is = fold_between canon_layer of low high negated at;
  phrase_is = fold_between shapes_layer of low high negated at;
  spelled = rw (seven (canon_atom of) (codes " ") (negation negated) (codes "BETWEEN ") (canon_atom low) (codes " AND ") (canon_atom high))
      (spells_both (spells_atom grouped of valid) (spells_after spells_gap (spells_after (spells_negation negated) (spells_after spells_between
      (spells_both (spells_atom grouped low first) (spells_after spells_and (spells_atom grouped high second)) (λ rest after. refl))))) (λ rest after. refl));
}

-- a test's text and shapes as it stands
abbrev role_text : Role → Text → List ℕ
role_text Role.whole text = text.bytes
role_text Role.in_or text = member_of true text
role_text Role.in_and text = member_of false text

abbrev role_shapes : Role → Phrase → List Shape
role_shapes Role.whole phrase = phrase.shapes
role_shapes Role.in_or phrase = member_shapes true phrase
role_shapes Role.in_and phrase = member_shapes false phrase

abbrev pub SpellsAs : Role → Test → Type 0
SpellsAs role t = Spells ends (role_text role (text_of t)) (role_shapes role (phrase_of t))

plain_spelled : (role : Role) (bytes : List ℕ) (shapes : List Shape) → Spells ends bytes shapes → Spells ends (role_text role (plain bytes)) (role_shapes role (single shapes))
plain_spelled Role.whole bytes shapes s = s
plain_spelled Role.in_or bytes shapes s = s
plain_spelled Role.in_and bytes shapes s = s

single_spelled : (role : Role) (t : Test) → Single t → SpellsAs role t
single_spelled role t s = rw (s.text_is, s.phrase_is) (plain_spelled role s.bytes s.shapes s.spelled)

single_not : (part : Test) → SpellsAs Role.in_and part → Single (test.Not part)
single_not part s = record {
  bytes = codes "NOT " ++ member_of false (text_of part);
  shapes = word symbol.Not ∷ member_shapes false (phrase_of part);
  text_is = fold_not canon_layer part;
  phrase_is = fold_not shapes_layer part;
  spelled = spells_after spells_not s;
}

-- in parentheses, and without
wrapped : (in_list : Bool) (text : Text) (phrase : Phrase) → is_wrapped in_list text ≡ true → in_parens in_list phrase ≡ true → Spells ends text.bytes phrase.shapes → Spells ends (member_of in_list text) (member_shapes in_list phrase)
wrapped in_list text phrase e f s = rw (e, f) (spells_any (spells_at (spells_after spells_open s) spells_close refl))

unwrapped : (in_list : Bool) (text : Text) (phrase : Phrase) → is_wrapped in_list text ≡ false → in_parens in_list phrase ≡ false → Spells ends text.bytes phrase.shapes → Spells ends (member_of in_list text) (member_shapes in_list phrase)
unwrapped in_list text phrase e f s = rw (e, f) s

-- the members of a list
map_twice : {A B C : Type 0} (f : B → C) (g : A → B) (xs : List A) → map f (map g xs) ≡ map (λ x. f (g x)) xs
map_twice f g [] = refl
map_twice f g (x ∷ xs) = ap (λ t. f (g x) ∷ t) (map_twice f g xs)

list_spelled : (in_list : Bool) (sep : List ℕ) (s : Shape) → Spells any sep (s ∷ []) → ((rest : List ℕ) → Follows ends (sep ++ rest)) → (members : List Test) → EachSpells (λ t. member_of in_list (text_of t)) (λ t. member_shapes in_list (phrase_of t)) members
    → Spells ends (joined sep (map (member_of in_list) (map text_of members))) (between s (map (member_shapes in_list) (map phrase_of members)))
list_spelled in_list sep s spelled meets members each =
    rw (map_twice (member_of in_list) text_of members, map_twice (member_shapes in_list) phrase_of members)
    (spells_joined (λ t. member_of in_list (text_of t)) (λ t. member_shapes in_list (phrase_of t)) sep s spelled meets members each)

any_spelled : (members : List Test) → EachSpells (λ t. member_of true (text_of t)) (λ t. member_shapes true (phrase_of t)) members → Spells ends (text_of (test.Any members)).bytes (phrase_of (test.Any members)).shapes
any_spelled members each = rw (fold_any canon_layer members, fold_any shapes_layer members) (list_spelled true (separator true) (list_word true) spells_or (λ rest. refl) members each)

all_spelled : (members : List Test) → EachSpells (λ t. member_of false (text_of t)) (λ t. member_shapes false (phrase_of t)) members → Spells ends (text_of (test.All members)).bytes (phrase_of (test.All members)).shapes
all_spelled members each = rw (fold_all canon_layer members, fold_all shapes_layer members) (list_spelled false (separator false) (list_word false) spells_and (λ rest. refl) members each)

any_wrapped : (in_list : Bool) (members : List Test) → SpellsAs Role.whole (test.Any members) → Spells ends (member_of in_list (text_of (test.Any members))) (member_shapes in_list (phrase_of (test.Any members)))
any_wrapped in_list members s = wrapped in_list (text_of (test.Any members)) (phrase_of (test.Any members)) (ap (is_wrapped in_list) (fold_any canon_layer members)) (ap (in_parens in_list) (fold_any shapes_layer members)) s

mutual
  pub spells_fits : (grouped : Bool) (role : Role) (d : ℕ) (t : Test) → Fits grouped role d t → SpellsAs role t
  spells_fits grouped _ _ _ (Fits.leaf role d t valid) = single_spelled role t (single_leaf grouped t valid)
  spells_fits grouped _ _ _ (Fits.negated role d part fits) = single_spelled role (test.Not part) (single_not part (spells_fits grouped Role.in_and d part fits))
  spells_fits grouped _ _ _ (Fits.any_list d members two most each) = any_spelled members (spells_each grouped Role.in_or d members each)
  spells_fits grouped _ _ _ (Fits.any_in_or d members two most each) = any_wrapped true members (any_spelled members (spells_each grouped Role.in_or d members each))
  spells_fits grouped _ _ _ (Fits.any_in_and d members two most each) = any_wrapped false members (any_spelled members (spells_each grouped Role.in_or d members each))
  spells_fits grouped _ _ _ (Fits.all_list d members two most each) = all_spelled members (spells_each grouped Role.in_and d members each)
  spells_fits grouped _ _ _ (Fits.all_in_or d members two most each) =
      unwrapped true (text_of (test.All members)) (phrase_of (test.All members)) (ap (is_wrapped true) (fold_all canon_layer members)) (ap (in_parens true) (fold_all shapes_layer members)) (all_spelled members (spells_each grouped Role.in_and d members each))
  spells_fits grouped _ _ _ (Fits.all_in_and d members two most each) =
      wrapped false (text_of (test.All members)) (phrase_of (test.All members)) (ap (is_wrapped false) (fold_all canon_layer members)) (ap (in_parens false) (fold_all shapes_layer members)) (all_spelled members (spells_each grouped Role.in_and d members each))

  pub spells_each : (grouped : Bool) (role : Role) (d : ℕ) (ts : List Test) → FitsEach grouped role d ts → Every (SpellsAs role) ts
  spells_each grouped _ _ _ (FitsEach.no_members role d) = tt
  spells_each grouped _ _ _ (FitsEach.member role d t ts fits each) = (spells_fits grouped role d t fits, spells_each grouped role d ts each)
