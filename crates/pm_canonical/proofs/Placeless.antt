-- Canonical text says nothing of places.
use Rattle.std.proofs.Common.{◌≡◌, ℕ, List, [], ◌∷◌, ◌++◌, map, Option, Some, None, codes, refl, sym, ◌∙◌, ap, subst}
use Rattle.std.specs.List.{flat_map}
use Rattle.pm_grammar.specs.declared.names.PlacedName.{PlacedName}
use Rattle.pm_syntax.specs.declared.tree.ColumnName.{ColumnName}
use Rattle.pm_syntax.specs.declared.tree.Expr.{Expr}
use Rattle.pm_syntax.specs.declared.tree.Expr.TheVariants as expr
use Rattle.pm_syntax.specs.declared.tree.Item.{Item}
use Rattle.pm_syntax.specs.declared.tree.Items.{Items}
use Rattle.pm_syntax.specs.declared.tree.Items.TheVariants as items
use Rattle.pm_syntax.specs.declared.tree.Source.{Source}
use Rattle.pm_syntax.specs.declared.tree.Atom.{Atom}
use Rattle.pm_syntax.specs.declared.tree.Atom.TheVariants as atom
use Rattle.pm_syntax.specs.declared.tree.Test.{Test, roll-Test, map-Test}
use Rattle.pm_syntax.specs.declared.tree.Test.TheVariants as test
use Rattle.pm_syntax.specs.declared.tree.Test.TheOpen.{Test-F}
use Rattle.pm_syntax.specs.declared.tree.Test.TheOpen as layer
use Rattle.pm_syntax.specs.declared.tree.Test.TheFolds.{ind-Test}
use Rattle.pm_syntax.specs.declared.tree.OrderItem.{OrderItem}
use Rattle.pm_syntax.specs.declared.tree.Select.{Select}
use Rattle.pm_canonical.specs.Canon.{joined, canon_alias, canon_column, canon_expr, canon_atom, canon_layer, text_of, canon_test, canon_given, canon_item, canon_items, canon_source, join_words, canon_further, canon_sources, canon_key, canon_condition, canon_list, canon}
use Rattle.pm_syntax.specs.Same.{unplaced_option, unplaced_name, unplaced_column, unplaced_expr, unplaced_item, unplaced_items, unplaced_atom, unplaced_layer, unplaced_test, unplaced_source, unplaced_key, unplaced, SameStatement}
use Rattle.pm_canonical.proofs.Folds.{fold_any, fold_all, fold_not, fold_compare, fold_null, fold_one_of, fold_between}

map_with : {A B : Type 0} (f : A → B) (u : A → A) → ((x : A) → f (u x) ≡ f x) → (xs : List A) → map f (map u xs) ≡ map f xs
map_with f u e [] = refl
map_with f u e (x ∷ xs) = ap (λ y. y ∷ map f (map u xs)) (e x) ∙ ap (λ ys. f x ∷ ys) (map_with f u e xs)

placeless_alias : (alias : Option PlacedName) → canon_alias (unplaced_option unplaced_name alias) ≡ canon_alias alias
placeless_alias None = refl
placeless_alias (Some alias) = refl

placeless_column : (column : ColumnName) → canon_column (unplaced_column column) ≡ canon_column column
unfolding canon_column
placeless_column column = rw (placeless_alias column.alias) refl

placeless_expr : (e : Expr) → canon_expr (unplaced_expr e) ≡ canon_expr e
unfolding canon_expr
placeless_expr (expr.Column column) = placeless_column column
placeless_expr (expr.CountAll at) = refl
placeless_expr (expr.Call f column at) = rw (placeless_column column) refl

placeless_given : (given : Option PlacedName) → canon_given (unplaced_option unplaced_name given) ≡ canon_given given
unfolding canon_given
placeless_given None = refl
placeless_given (Some name) = refl

placeless_item : (item : Item) → canon_item (unplaced_item item) ≡ canon_item item
unfolding canon_item
placeless_item item = rw (placeless_expr item.expr, placeless_given item.given) refl

placeless_items : (s : Items) → canon_items (unplaced_items s) ≡ canon_items s
unfolding canon_items
placeless_items (items.All at) = refl
placeless_items (items.List list) = ap (joined (codes ", ")) (map_with canon_item unplaced_item placeless_item list)

placeless_atom : (a : Atom) → canon_atom (unplaced_atom a) ≡ canon_atom a
placeless_atom (atom.Expr e) = placeless_expr e
placeless_atom (atom.Literal l) = refl

-- the canonical text of a condition is that of the condition without its places
abbrev Placeless : Test → Type 0
Placeless t = text_of (unplaced_test t) ≡ text_of t

placeless_any : (members : List Test) → map text_of (map unplaced_test members) ≡ map text_of members → Placeless (test.Any members)
placeless_any members e =
    ap text_of (fold_any unplaced_layer members) ∙ fold_any canon_layer (map unplaced_test members) ∙ ap (λ m. canon_layer (layer.Any m)) e ∙ sym (fold_any canon_layer members)

placeless_all : (members : List Test) → map text_of (map unplaced_test members) ≡ map text_of members → Placeless (test.All members)
placeless_all members e =
    ap text_of (fold_all unplaced_layer members) ∙ fold_all canon_layer (map unplaced_test members) ∙ ap (λ m. canon_layer (layer.All m)) e ∙ sym (fold_all canon_layer members)

placeless_not : (part : Test) → Placeless part → Placeless (test.Not part)
placeless_not part e = ap text_of (fold_not unplaced_layer part) ∙ fold_not canon_layer (unplaced_test part) ∙ ap (λ m. canon_layer (layer.Not m)) e ∙ sym (fold_not canon_layer part)

members_placeless : (members : List ((t : Test) × Placeless t)) → map text_of (map unplaced_test (map (λ e. e.0) members)) ≡ map text_of (map (λ e. e.0) members)
members_placeless [] = refl
members_placeless (e ∷ es) = ap (λ y. y ∷ map text_of (map unplaced_test (map (λ e. e.0) es))) e.1 ∙ ap (λ ys. text_of e.0 ∷ ys) (members_placeless es)

-- by the layers of the condition
layer_placeless : (y : Test-F ((t : Test) × Placeless t)) → Placeless (roll-Test (map-Test ((t : Test) × Placeless t) Test (λ e. e.0) y))
layer_placeless (layer.Any members) = rw (test.rolls-Any (map (λ e. e.0) members)) (placeless_any (map (λ e. e.0) members) (members_placeless members))
layer_placeless (layer.All members) = rw (test.rolls-All (map (λ e. e.0) members)) (placeless_all (map (λ e. e.0) members) (members_placeless members))
layer_placeless (layer.Not part) = rw (test.rolls-Not part.0) (placeless_not part.0 part.1)
layer_placeless (layer.Compare how left right at) =
    rw (test.rolls-Compare how left right at) (ap text_of (fold_compare unplaced_layer how left right at) ∙ fold_compare canon_layer how (unplaced_atom left) (unplaced_atom right) 0
    ∙ rw (placeless_atom left, placeless_atom right) (sym (fold_compare canon_layer how left right at)))
layer_placeless (layer.IsNull of negated) =
    rw (test.rolls-IsNull of negated) (ap text_of (fold_null unplaced_layer of negated) ∙ fold_null canon_layer (unplaced_atom of) negated ∙ rw (placeless_atom of) (sym (fold_null canon_layer of negated)))
layer_placeless (layer.OneOf of list negated at) =
    rw (test.rolls-OneOf of list negated at) (ap text_of (fold_one_of unplaced_layer of list negated at) ∙ fold_one_of canon_layer (unplaced_atom of) list negated 0
    ∙ rw (placeless_atom of) (sym (fold_one_of canon_layer of list negated at)))
layer_placeless (layer.Between of low high negated at) =
    rw (test.rolls-Between of low high negated at) (ap text_of (fold_between unplaced_layer of low high negated at) ∙ fold_between canon_layer (unplaced_atom of) (unplaced_atom low) (unplaced_atom high) negated 0
    ∙ rw (placeless_atom of, placeless_atom low, placeless_atom high) (sym (fold_between canon_layer of low high negated at)))

placeless_test : (t : Test) → Placeless t
placeless_test = ind-Test Placeless (λ x y is. subst (λ z. Placeless (roll-Test z)) is (layer_placeless y))

placeless_condition : (words : List ℕ) (cond : Option Test) → canon_condition words (unplaced_option unplaced_test cond) ≡ canon_condition words cond
placeless_condition words None = refl
placeless_condition words (Some cond) = ap (λ t. words ++ t.bytes) (placeless_test cond)

placeless_source : (s : Source) → canon_source (unplaced_source s) ≡ canon_source s
unfolding canon_source
placeless_source s = rw (placeless_given s.alias) refl

placeless_further : (on : Option Test) (s : Source) → canon_further (unplaced_option unplaced_test on) (unplaced_source s) ≡ canon_further on s
placeless_further None s = ap (λ t. codes ", " ++ t) (placeless_source s)
placeless_further (Some on) s = ap (λ t. join_words s.left ++ t ++ codes " ON " ++ canon_test (unplaced_test on)) (placeless_source s) ∙ ap (λ t. join_words s.left ++ canon_source s ++ codes " ON " ++ t.bytes) (placeless_test on)

placeless_more : (sources : List Source) → flat_map (λ s. canon_further s.on s) (map unplaced_source sources) ≡ flat_map (λ s. canon_further s.on s) sources
placeless_more [] = refl
placeless_more (s ∷ ss) = ap (λ t. t ++ flat_map (λ s. canon_further s.on s) (map unplaced_source ss)) (placeless_further s.on s) ∙ ap (λ t. canon_further s.on s ++ t) (placeless_more ss)

placeless_sources : (sources : List Source) → canon_sources (map unplaced_source sources) ≡ canon_sources sources
placeless_sources [] = refl
placeless_sources (s ∷ ss) = ap (λ t. t ++ flat_map (λ s. canon_further s.on s) (map unplaced_source ss)) (placeless_source s) ∙ ap (λ t. canon_source s ++ t) (placeless_more ss)

placeless_key : (key : OrderItem) → canon_key (unplaced_key key) ≡ canon_key key
unfolding canon_key
placeless_key key = rw (placeless_expr key.expr) refl

placeless_list : {A : Type 0} (words : List ℕ) (f : A → List ℕ) (u : A → A) → ((x : A) → f (u x) ≡ f x) → (xs : List A) → canon_list words f (map u xs) ≡ canon_list words f xs
placeless_list words f u e [] = refl
placeless_list words f u e (x ∷ xs) = ap (λ t. words ++ joined (codes ", ") t) (map_with f u e (x ∷ xs))

placeless : (s : Select) → canon (unplaced s) ≡ canon s
unfolding canon unplaced
placeless s =
    rw (
      placeless_items s.items,
      placeless_sources s.sources,
      placeless_condition (codes " WHERE ") s.filter,
      placeless_list (codes " GROUP BY ") canon_column unplaced_column placeless_column s.groups,
      placeless_condition (codes " HAVING ") s.having,
      placeless_list (codes " ORDER BY ") canon_key unplaced_key placeless_key s.orders,
    ) refl

pub same_text : (a b : Select) → SameStatement a b → canon a ≡ canon b
same_text a b e = sym (placeless a) ∙ ap canon e ∙ placeless b
