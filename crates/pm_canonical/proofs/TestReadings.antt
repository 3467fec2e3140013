-- Conditions are read back.
use Rattle.std.proofs.Common.{◌≡◌, ◌⊎◌, ◌≤◌, ℕ, suc, zero, Bool, true, false, List, [], ◌∷◌, ◌++◌, length, map, refl, sym, ◌∙◌, ap, arith}
use Rattle.std.proofs.lemmas.List.{length-map}
use Rattle.pm_lexer.specs.declared.symbol.Symbol.TheVariants as symbol
use Rattle.pm_lexer.specs.Symbol.{is}
use Rattle.pm_grammar.specs.Language.{Lang, Is, IsMore, IsFurther, IsList, never}
use Rattle.pm_syntax.specs.declared.tree.Test.{Test}
use Rattle.pm_syntax.specs.declared.tree.Test.TheVariants as test
use Rattle.pm_syntax.specs.Grammar.{IsTest, IsPart, IsPartAnd, IsCondition, all_of, any_of}
use Rattle.pm_canonical.proofs.Shapes.{Shape, Phrase, sign, word, between, member_shapes, in_parens, list_word, shapes_layer, phrase_of}
use Rattle.pm_syntax.specs.Same.{unplaced_layer, unplaced_test}
use Rattle.pm_canonical.proofs.Valid.{ValidLeaf, Role, whole, in_or, in_and, Fits, leaf, negated, any_list, any_in_or, any_in_and, all_list, all_in_or, all_in_and, FitsEach, no_members, member}
use Rattle.pm_canonical.proofs.Combinators.{Reading, Each, shaped, mapped, left, right, bind, and_then, pure, list_read}
use Rattle.pm_canonical.proofs.Standing.{stands_not, stands_open, stands_close, stands_and, stands_or}
use Rattle.pm_canonical.proofs.Folds.{fold_any, fold_all, fold_not}
use Rattle.pm_canonical.proofs.LeafReadings.{SameTest, leaf_read, leaf_plain}

abbrev Part : Bool → ℕ → Lang Test
Part grouped d = IsPart grouped d never

abbrev PartAnd : Bool → ℕ → Lang Test
PartAnd grouped d = IsPartAnd never (Part grouped d)

abbrev pub Cond : Bool → ℕ → Lang Test
Cond grouped d = IsCondition grouped d never

-- a part alone is a list of one
part_and : (grouped : Bool) (d : ℕ) (G : Test → Type 0) (s : List Shape) → Reading (Part grouped d) G s → Reading (PartAnd grouped d) G s
unfolding IsMore
part_and grouped d G s p front e =
    let x = p front e in
    record { value = x.value; good = x.good; reads = λ next w h. x.reads (λ a. IsFurther never 256 (Is (is symbol.And)) (λ _. Part grouped d) (a ∷ []) (λ members. next (all_of members))) w (0, h) }

cond : (grouped : Bool) (d : ℕ) (G : Test → Type 0) (s : List Shape) → Reading (PartAnd grouped d) G s → Reading (Cond grouped d) G s
unfolding IsMore
cond grouped d G s p front e =
    let x = p front e in
    record { value = x.value; good = x.good; reads = λ next w h. x.reads (λ a. IsFurther never 256 (Is (is symbol.Or)) (λ _. PartAnd grouped d) (a ∷ []) (λ members. next (any_of members))) w (0, h) }

-- the cases of a part
abbrev Nots : Bool → ℕ → Lang Test
Nots grouped d next = Is (is symbol.Not) (λ _. Part grouped d (λ part. next (test.Not part)))

abbrev Parens : Bool → ℕ → Lang Test
Parens grouped d next = Is (is symbol.Open) (λ _. Cond grouped d (λ t. Is (is symbol.Close) (λ _. next t)))

abbrev Tail : Bool → ℕ → Lang Test
Tail grouped d next ts = Parens grouped d next ts ⊎ IsTest grouped never next ts

part_leaf : (grouped : Bool) (d : ℕ) (G : Test → Type 0) (s : List Shape) → Reading (IsTest grouped never) G s → Reading (Part grouped d) G s
unfolding IsPart
part_leaf grouped zero G s p = p
part_leaf grouped (suc d) G s p = right (Nots grouped d) (Tail grouped d) G s (right (Parens grouped d) (IsTest grouped never) G s p)

part_not : (grouped : Bool) (d : ℕ) (t : Test) (s : List Shape) → Reading (Part grouped d) (SameTest t) s → Reading (Part grouped (suc d)) (SameTest (test.Not t)) (word symbol.Not ∷ s)
unfolding IsPart
part_not grouped d t s p =
    left (Nots grouped d) (Tail grouped d) _ (word symbol.Not ∷ s)
    (and_then symbol.Not (word symbol.Not) stands_not (λ _ next. Part grouped d (λ part. next (test.Not part))) _ s
    (λ _ _. mapped (Part grouped d) (λ part. test.Not part) (SameTest t) _ s p (λ y same. fold_not unplaced_layer y ∙ ap (λ x. test.Not x) same ∙ sym (fold_not unplaced_layer t))))

part_parens : (grouped : Bool) (d : ℕ) (G : Test → Type 0) (s : List Shape) → Reading (Cond grouped d) G s → Reading (Part grouped (suc d)) G (sign symbol.Open ∷ s ++ sign symbol.Close ∷ [])
unfolding IsPart
part_parens grouped d G s p =
    right (Nots grouped d) (Tail grouped d) G _ (left (Parens grouped d) (IsTest grouped never) G (sign symbol.Open ∷ s ++ sign symbol.Close ∷ [])
    (and_then symbol.Open (sign symbol.Open) stands_open (λ _ next. Cond grouped d (λ t. Is (is symbol.Close) (λ _. next t))) G (s ++ sign symbol.Close ∷ [])
    (λ _ _. bind (Cond grouped d) (λ t next. Is (is symbol.Close) (λ _. next t)) G G s (sign symbol.Close ∷ []) p
    (λ t g. and_then symbol.Close (sign symbol.Close) stands_close (λ _ next. next t) G [] (λ _ _. pure G t g)))))

-- what a role reads, and which tokens
abbrev At : Bool → Role → ℕ → Lang Test
At grouped whole d = Cond grouped d
At grouped in_or d = PartAnd grouped d
At grouped in_and d = Part grouped d

abbrev pub shapes_at : Role → Phrase → List Shape
shapes_at whole phrase = phrase.shapes
shapes_at in_or phrase = member_shapes true phrase
shapes_at in_and phrase = member_shapes false phrase

-- a part in any role
raised : (grouped : Bool) (role : Role) (d : ℕ) (G : Test → Type 0) (s : List Shape) → Reading (Part grouped d) G s → Reading (At grouped role d) G s
raised grouped whole d G s p = cond grouped d G s (part_and grouped d G s p)
raised grouped in_or d G s p = part_and grouped d G s p
raised grouped in_and d G s p = p

-- what stands in no parentheses
bare : (phrase : Phrase) → ((b : Bool) → in_parens b phrase ≡ false) → (role : Role) → phrase.shapes ≡ shapes_at role phrase
bare phrase plain whole = refl
bare phrase plain in_or = rw (plain true) refl
bare phrase plain in_and = rw (plain false) refl

map_map : {A B C : Type 0} (f : B → C) (g : A → B) (xs : List A) → map (λ x. f (g x)) xs ≡ map f (map g xs)
map_map f g [] = refl
map_map f g (x ∷ xs) = ap (λ t. f (g x) ∷ t) (map_map f g xs)

-- a list of two members or more
same_length : {A B : Type 0} (u : A → B) (r xs : List A) → map u r ≡ map u xs → length r ≡ length xs
same_length u r xs e = sym (length-map r u) ∙ ap length e ∙ length-map xs u

any_same : (members r : List Test) → 2 ≤ length members → map unplaced_test r ≡ map unplaced_test members → SameTest (test.Any members) (any_of r)
any_same members [] two e = absurd (omega (arith, same_length unplaced_test [] members e))
any_same members (t ∷ []) two e = absurd (omega (arith, same_length unplaced_test (t ∷ []) members e))
any_same members (t ∷ u ∷ ts) two e = fold_any unplaced_layer (t ∷ u ∷ ts) ∙ ap (λ x. test.Any x) e ∙ sym (fold_any unplaced_layer members)

all_same : (members r : List Test) → 2 ≤ length members → map unplaced_test r ≡ map unplaced_test members → SameTest (test.All members) (all_of r)
all_same members [] two e = absurd (omega (arith, same_length unplaced_test [] members e))
all_same members (t ∷ []) two e = absurd (omega (arith, same_length unplaced_test (t ∷ []) members e))
all_same members (t ∷ u ∷ ts) two e = fold_all unplaced_layer (t ∷ u ∷ ts) ∙ ap (λ x. test.All x) e ∙ sym (fold_all unplaced_layer members)

any_shapes : (members : List Test) → between (list_word true) (map (λ t. member_shapes true (phrase_of t)) members) ≡ (phrase_of (test.Any members)).shapes
any_shapes members = ap (between (list_word true)) (map_map (member_shapes true) phrase_of members) ∙ ap (λ p. p.shapes) (sym (fold_any shapes_layer members))

all_shapes : (members : List Test) → between (list_word false) (map (λ t. member_shapes false (phrase_of t)) members) ≡ (phrase_of (test.All members)).shapes
all_shapes members = ap (between (list_word false)) (map_map (member_shapes false) phrase_of members) ∙ ap (λ p. p.shapes) (sym (fold_all shapes_layer members))

-- the lists
abbrev Read : Bool → Role → ℕ → Test → Type 1
Read grouped role d t = Reading (At grouped role d) (SameTest t) (shapes_at role (phrase_of t))

any_read : (grouped : Bool) (d : ℕ) (members : List Test) → 2 ≤ length members → length members ≤ 256 → Each (Read grouped in_or d) members → Read grouped whole d (test.Any members)
any_read grouped d members two most all =
    shaped (Cond grouped d) (SameTest (test.Any members)) _ _ (any_shapes members)
    (mapped (IsList never 256 (PartAnd grouped d) (is symbol.Or)) any_of (λ r. map unplaced_test r ≡ map unplaced_test members) (SameTest (test.Any members)) _
    (list_read 256 (PartAnd grouped d) symbol.Or (word symbol.Or) stands_or unplaced_test (λ t. member_shapes true (phrase_of t)) members all (omega arith) most)
    (λ r e. any_same members r two e))

all_read : (grouped : Bool) (d : ℕ) (members : List Test) → 2 ≤ length members → length members ≤ 256 → Each (Read grouped in_and d) members → Reading (PartAnd grouped d) (SameTest (test.All members)) (phrase_of (test.All members)).shapes
all_read grouped d members two most all =
    shaped (PartAnd grouped d) (SameTest (test.All members)) _ _ (all_shapes members)
    (mapped (IsList never 256 (Part grouped d) (is symbol.And)) all_of (λ r. map unplaced_test r ≡ map unplaced_test members) (SameTest (test.All members)) _
    (list_read 256 (Part grouped d) symbol.And (word symbol.And) stands_and unplaced_test (λ t. member_shapes false (phrase_of t)) members all (omega arith) most)
    (λ r e. all_same members r two e))

-- in parentheses
in_parens_any : (members : List Test) (b : Bool) → sign symbol.Open ∷ (phrase_of (test.Any members)).shapes ++ sign symbol.Close ∷ [] ≡ member_shapes b (phrase_of (test.Any members))
in_parens_any members b = rw (fold_any shapes_layer members) refl

in_parens_all : (members : List Test) → sign symbol.Open ∷ (phrase_of (test.All members)).shapes ++ sign symbol.Close ∷ [] ≡ member_shapes false (phrase_of (test.All members))
in_parens_all members = rw (fold_all shapes_layer members) refl

all_bare : (members : List Test) → (phrase_of (test.All members)).shapes ≡ member_shapes true (phrase_of (test.All members))
all_bare members = rw (fold_all shapes_layer members) refl

leaf_at : (grouped : Bool) (role : Role) (d : ℕ) (t : Test) → ValidLeaf grouped t → Read grouped role d t
leaf_at grouped role d t valid =
    raised grouped role d (SameTest t) _ (shaped (Part grouped d) (SameTest t) _ _ (bare (phrase_of t) (leaf_plain grouped t valid) role) (part_leaf grouped d (SameTest t) _ (leaf_read grouped t valid)))

not_bare : (t : Test) (b : Bool) → in_parens b (phrase_of (test.Not t)) ≡ false
not_bare t b = ap (in_parens b) (fold_not shapes_layer t)

not_at : (grouped : Bool) (role : Role) (d : ℕ) (t : Test) → Read grouped in_and d t → Read grouped role (suc d) (test.Not t)
not_at grouped role d t p =
    raised grouped role (suc d) (SameTest (test.Not t)) _
    (shaped (Part grouped (suc d)) (SameTest (test.Not t)) _ _ (ap (λ x. x.shapes) (sym (fold_not shapes_layer t)) ∙ bare (phrase_of (test.Not t)) (not_bare t) role) (part_not grouped d t _ p))

mutual
  pub fits_read : (grouped : Bool) (role : Role) (d : ℕ) (t : Test) → Fits grouped role d t → Read grouped role d t
  fits_read grouped _ _ _ (leaf role d t valid) = leaf_at grouped role d t valid
  fits_read grouped _ _ _ (negated role d t part) = not_at grouped role d t (fits_read grouped in_and d t part)
  fits_read grouped _ _ _ (any_list d members two most all) = any_read grouped d members two most (each_read grouped in_or d members all)
  fits_read grouped _ _ _ (any_in_or d members two most all) =
      part_and grouped (suc d) _ _ (shaped (Part grouped (suc d)) _ _ _ (in_parens_any members true) (part_parens grouped d _ _ (any_read grouped d members two most (each_read grouped in_or d members all))))
  fits_read grouped _ _ _ (any_in_and d members two most all) = shaped (Part grouped (suc d)) _ _ _ (in_parens_any members false) (part_parens grouped d _ _ (any_read grouped d members two most (each_read grouped in_or d members all)))
  fits_read grouped _ _ _ (all_list d members two most all) = cond grouped d _ _ (all_read grouped d members two most (each_read grouped in_and d members all))
  fits_read grouped _ _ _ (all_in_or d members two most all) = shaped (PartAnd grouped d) _ _ _ (all_bare members) (all_read grouped d members two most (each_read grouped in_and d members all))
  fits_read grouped _ _ _ (all_in_and d members two most all) = shaped (Part grouped (suc d)) _ _ _ (in_parens_all members) (part_parens grouped d _ _ (cond grouped d _ _ (all_read grouped d members two most (each_read grouped in_and d members all))))

  each_read : (grouped : Bool) (role : Role) (d : ℕ) (members : List Test) → FitsEach grouped role d members → Each (Read grouped role d) members
  each_read grouped _ _ _ (no_members role d) = tt
  each_read grouped _ _ _ (member role d t ts first rest) = (fits_read grouped role d t first, each_read grouped role d ts rest)
