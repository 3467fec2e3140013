-- A statement that a text is read as is formed.
use Rattle.std.proofs.Common.{◌≡◌, ◌<◌, ◌≤◌, ℕ, Bool, true, false, ◌&&◌, List, [], ◌∷◌, length, map, Option, None, Some, Ok, refl, ◌∙◌, ap, arith, nat_le}
use Rattle.std.proofs.lemmas.Bool.Decides.{nat_tests}
use Rattle.std.specs.List.{list_all}
use Rattle.pm_lexer.specs.declared.token.Token.{Token}
use Rattle.pm_lexer.specs.Tokens.{tokens_of}
use Rattle.pm_syntax.specs.declared.tree.Expr.{Expr}
use Rattle.pm_syntax.specs.declared.tree.Expr.TheVariants as expr
use Rattle.pm_syntax.specs.declared.tree.Literal.{Literal}
use Rattle.pm_syntax.specs.declared.tree.Literal.TheVariants as literal
use Rattle.pm_syntax.specs.declared.tree.Atom.{Atom}
use Rattle.pm_syntax.specs.declared.tree.Atom.TheVariants as atom
use Rattle.pm_syntax.specs.declared.tree.Items.{Items}
use Rattle.pm_syntax.specs.declared.tree.Items.TheVariants as items
use Rattle.pm_syntax.specs.declared.tree.Source.{Source}
use Rattle.pm_syntax.specs.declared.tree.Test.{Test}
use Rattle.pm_syntax.specs.declared.tree.Select.{Select}
use Rattle.pm_syntax.specs.Statement.{Reads}
use Rattle.pm_canonical.proofs.Valid.{Every, Where, ValidLiteral, ValidTerm, ValidAtom, ValidLeaf, ValidItems, ValidSource, Unjoined, Role, Fits, FitsEach}
use Rattle.pm_canonical.proofs.Folds.{fold_any, fold_all, fold_not, fold_compare, fold_null, fold_one_of, fold_between}
use Rattle.pm_canonical.proofs.Forming.{formed_tokens}
use Rattle.pm_canonical.proofs.ValidSelect.{valid_read}
use Rattle.pm_binder.proofs.Typed.{both_true}
use Rattle.pm_binder.specs.Laws.{is_short, atom_formed, formed_layer, test_formed, formed_if, StandsAlone, HasItems, IsFormed}

term_formed : (grouped : Bool) (e : Expr) → ValidTerm grouped e → atom_formed grouped (atom.Expr e) ≡ true
term_formed true e v = refl
term_formed false (expr.Column column) v = refl
term_formed false (expr.CountAll at) v = absurd v
term_formed false (expr.Call f column at) v = absurd v

is_within : (n : ℕ) → n ≤ 6 → nat_le n 6 ≡ true
is_within n h = grind (arith, nat_tests)

literal_short : (l : Literal) → ValidLiteral l → is_short l ≡ true
literal_short literal.Null v = refl
literal_short (literal.Number value decimals) v = is_within decimals v.few
literal_short (literal.Text text) v = refl

operand_formed : (grouped : Bool) (a : Atom) → ValidAtom grouped a → atom_formed grouped a ≡ true
operand_formed grouped (atom.Expr e) v = term_formed grouped e v
operand_formed grouped (atom.Literal l) v = literal_short l v

all_short : (ls : List Literal) → Every ValidLiteral ls → list_all is_short ls ≡ true
all_short [] v = refl
all_short (l ∷ ls) v = both_true (is_short l) (list_all is_short ls) (literal_short l v.0) (all_short ls v.1)

leaf_formed : (grouped : Bool) (t : Test) → ValidLeaf grouped t → test_formed grouped t ≡ true
leaf_formed grouped _ (ValidLeaf.compared how left right at a b) =
    fold_compare (formed_layer grouped) how left right at ∙ both_true (atom_formed grouped left) (atom_formed grouped right) (operand_formed grouped left a) (operand_formed grouped right b)
leaf_formed grouped _ (ValidLeaf.null_test of negated a) = fold_null (formed_layer grouped) of negated ∙ operand_formed grouped of a
leaf_formed grouped _ (ValidLeaf.listed of list negated at a b) =
    fold_one_of (formed_layer grouped) of list negated at ∙ both_true (atom_formed grouped of) (list_all is_short list) (operand_formed grouped of a) (all_short list b.each)
leaf_formed grouped _ (ValidLeaf.ranged of low high negated at a b c) =
    fold_between (formed_layer grouped) of low high negated at
    ∙ both_true (atom_formed grouped of) (atom_formed grouped low && atom_formed grouped high) (operand_formed grouped of a) (both_true (atom_formed grouped low) (atom_formed grouped high) (operand_formed grouped low b) (operand_formed grouped high c))

mutual
  fits_formed : (grouped : Bool) (role : Role) (d : ℕ) (t : Test) → Fits grouped role d t → test_formed grouped t ≡ true
  fits_formed grouped _ _ _ (Fits.leaf role d t valid) = leaf_formed grouped t valid
  fits_formed grouped _ _ _ (Fits.negated role d part fits) = fold_not (formed_layer grouped) part ∙ fits_formed grouped Role.in_and d part fits
  fits_formed grouped _ _ _ (Fits.any_list d members two most each) = fold_any (formed_layer grouped) members ∙ each_formed grouped Role.in_or d members each
  fits_formed grouped _ _ _ (Fits.any_in_or d members two most each) = fold_any (formed_layer grouped) members ∙ each_formed grouped Role.in_or d members each
  fits_formed grouped _ _ _ (Fits.any_in_and d members two most each) = fold_any (formed_layer grouped) members ∙ each_formed grouped Role.in_or d members each
  fits_formed grouped _ _ _ (Fits.all_list d members two most each) = fold_all (formed_layer grouped) members ∙ each_formed grouped Role.in_and d members each
  fits_formed grouped _ _ _ (Fits.all_in_or d members two most each) = fold_all (formed_layer grouped) members ∙ each_formed grouped Role.in_and d members each
  fits_formed grouped _ _ _ (Fits.all_in_and d members two most each) = fold_all (formed_layer grouped) members ∙ each_formed grouped Role.in_and d members each

  each_formed : (grouped : Bool) (role : Role) (d : ℕ) (ts : List Test) → FitsEach grouped role d ts → list_all (λ m. m) (map (test_formed grouped) ts) ≡ true
  each_formed grouped _ _ _ (FitsEach.no_members role d) = refl
  each_formed grouped _ _ _ (FitsEach.member role d t ts fits each) = both_true (test_formed grouped t) (list_all (λ m. m) (map (test_formed grouped) ts)) (fits_formed grouped role d t fits) (each_formed grouped role d ts each)

if_formed : (grouped : Bool) (t : Option Test) → Where (Fits grouped Role.whole 32) t → formed_if grouped t ≡ true
if_formed grouped None v = refl
if_formed grouped (Some t) v = fits_formed grouped Role.whole 32 t v

ons_formed : (sources : List Source) → Every ValidSource sources → list_all (λ source. formed_if false source.on) sources ≡ true
ons_formed [] v = refl
ons_formed (x ∷ xs) v = both_true (formed_if false x.on) (list_all (λ source. formed_if false source.on) xs) (if_formed false x.on v.0.on) (ons_formed xs v.1)

stands_alone : (sources : List Source) → 0 < length sources → Every ValidSource sources → Unjoined sources → StandsAlone sources
stands_alone [] some each first = absurd (omega (arith, some))
stands_alone (x ∷ xs) some each first = (first, each.0.unjoined first)

has_items : (s : Items) → ValidItems s → HasItems s
has_items (items.All at) v = tt
has_items (items.List list) v = λ none. let empty : length list ≡ 0 = ap length none in absurd (omega (arith, v.some))

pub readings_are_formed : (text : List ℕ) (tokens : List Token) (select : Select) → tokens_of text ≡ Ok tokens → Reads tokens select → IsFormed select
readings_are_formed text tokens select lexed read =
    let v = valid_read tokens select (formed_tokens text tokens lexed) read in
    record {
      items = has_items select.items v.items;
      first = stands_alone select.sources v.sources.some v.sources.each v.first;
      ons = ons_formed select.sources v.sources.each;
      filter = if_formed false select.filter v.filter;
      having = if_formed true select.having v.having;
    }
