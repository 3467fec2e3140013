-- A statement's canonical text is lexed as its shapes.
use Rattle.std.proofs.Common.{◌≡◌, ℕ, Bool, true, false, List, [], ◌∷◌, ◌++◌, map, Option, Some, None, Ok, if◌then◌else◌, codes, refl}
use Rattle.std.specs.List.{flat_map}
use Rattle.std.proofs.lemmas.List.{append_assoc, append-nil}
use Rattle.pm_lexer.specs.declared.token.Token.{Token}
use Rattle.pm_lexer.specs.declared.symbol.Symbol.TheVariants as symbol
use Rattle.pm_lexer.specs.Tokens.{tokens_of}
use Rattle.pm_grammar.specs.declared.names.PlacedName.{PlacedName}
use Rattle.pm_syntax.specs.declared.tree.Item.{Item}
use Rattle.pm_syntax.specs.declared.tree.Items.{Items}
use Rattle.pm_syntax.specs.declared.tree.Items.TheVariants as items
use Rattle.pm_syntax.specs.declared.tree.Source.{Source}
use Rattle.pm_syntax.specs.declared.tree.Test.{Test}
use Rattle.pm_syntax.specs.declared.tree.OrderItem.{OrderItem}
use Rattle.pm_syntax.specs.declared.tree.Select.{Select}
use Rattle.pm_canonical.specs.Canon.{joined, canon_column, canon_expr, canon_test, canon_given, canon_item, canon_items, canon_source, join_words, canon_further, canon_sources, canon_key, canon_condition, canon_list, canon}
use Rattle.pm_canonical.proofs.Shapes.{Shape, shape_of, end_shape, word, sign, between, shapes_column, shapes_expr, shapes_given, shapes_item, shapes_items, shapes_source, shapes_join, shapes_further, shapes_sources, shapes_key, shapes_condition, shapes_list, shapes_select}
use Rattle.pm_canonical.proofs.Valid.{Every, Where, ValidPlaced, ValidColumn, ValidExpr, ValidItem, ValidItems, ValidSource, Role, Fits, Valid}
use Rattle.pm_canonical.proofs.Runs.{Follows, follows_append}
use Rattle.pm_canonical.proofs.Spelling.{lexes_end, Spells, any, ends, spells_none, spells_both, spells_then, spells_after}
use Rattle.pm_canonical.proofs.Wording.{spells_select, spells_distinct, spells_from, spells_join, spells_left_join, spells_on, spells_where, spells_group, spells_having, spells_order, spells_desc, spells_as, spells_star, spells_comma}
use Rattle.pm_canonical.proofs.Spelled.{spells_any, ends_early, spells_name, spells_column, spells_expr, spells_joined, every_spells}
use Rattle.pm_canonical.proofs.SpelledTests.{four, spells_fits}

-- names after AS
spells_given : (given : Option PlacedName) → Where ValidPlaced given → Spells ends (canon_given given) (shapes_given given)
unfolding canon_given shapes_given
spells_given None valid = spells_none
spells_given (Some name) valid = spells_after spells_as (ends_early (spells_name name.text valid))

given_first : (given : Option PlacedName) → Follows ends (canon_given given)
unfolding canon_given
given_first None = tt
given_first (Some name) = refl

-- items
spells_item : (item : Item) → ValidItem item → Spells ends (canon_item item) (shapes_item item)
unfolding canon_item shapes_item
spells_item item valid = spells_then (ends_early (spells_expr item.expr valid.expr)) (spells_given item.given valid.given) (given_first item.given)

-- entries with commas between them
spells_entries : {A : Type 0} (P : A → Type 0) (f : A → List ℕ) (g : A → List Shape) → ((x : A) → P x → Spells ends (f x) (g x)) → (xs : List A) → Every P xs → Spells ends (joined (codes ", ") (map f xs)) (between (sign symbol.Comma) (map g xs))
spells_entries P f g spells xs every = spells_joined f g (codes ", ") (sign symbol.Comma) spells_comma (λ rest. refl) xs (every_spells P f g spells xs every)

spells_items : (items : Items) → ValidItems items → Spells ends (canon_items items) (shapes_items items)
unfolding canon_items shapes_items
spells_items (items.All at) valid = spells_any spells_star
spells_items (items.List list) valid = spells_entries ValidItem canon_item shapes_item spells_item list valid.each

-- sources
spells_source : (source : Source) → ValidSource source → Spells ends (canon_source source) (shapes_source source)
unfolding canon_source shapes_source
spells_source source valid = spells_then (ends_early (spells_name source.table.text valid.table)) (spells_given source.alias valid.alias) (given_first source.alias)

spells_join_words : (left : Bool) → Spells any (join_words left) (shapes_join left)
spells_join_words true = spells_left_join
spells_join_words false = spells_join

spells_further : (on : Option Test) (source : Source) → ValidSource source → Where (Fits false Role.whole 32) on → Spells ends (canon_further on source) (shapes_further on source)
spells_further None source valid fits = spells_after spells_comma (spells_source source valid)
spells_further (Some on) source valid fits =
    rw (four (join_words source.left) (canon_source source) (codes " ON ") (canon_test on))
    (spells_after (spells_join_words source.left) (spells_both (spells_source source valid) (spells_after spells_on (spells_fits false Role.whole 32 on fits)) (λ rest after. refl)))

further_first : (on : Option Test) (source : Source) (rest : List ℕ) → Follows ends (canon_further on source ++ rest)
further_first None source rest = refl
further_first (Some on) source rest = join_first source.left
  where
    join_first : (left : Bool) → Follows ends ((join_words left ++ canon_source source ++ codes " ON " ++ canon_test on) ++ rest)
    join_first true = refl
    join_first false = refl

more_first : (sources : List Source) → Follows ends (flat_map (λ s. canon_further s.on s) sources)
more_first [] = tt
more_first (s ∷ sources) = further_first s.on s (flat_map (λ s. canon_further s.on s) sources)

spells_more : (sources : List Source) → Every ValidSource sources → Spells ends (flat_map (λ s. canon_further s.on s) sources) (flat_map (λ s. shapes_further s.on s) sources)
spells_more [] every = spells_none
spells_more (s ∷ sources) every = spells_then (spells_further s.on s every.0 every.0.on) (spells_more sources every.1) (more_first sources)

spells_sources : (sources : List Source) → Every ValidSource sources → Spells ends (canon_sources sources) (shapes_sources sources)
spells_sources [] every = spells_none
spells_sources (s ∷ sources) every = spells_then (spells_source s every.0) (spells_more sources every.1) (more_first sources)

-- conditions and lists after their words
spells_condition : (grouped : Bool) (words : List ℕ) (s : Shape) → Spells any words (s ∷ []) → (cond : Option Test) → Where (Fits grouped Role.whole 32) cond → Spells ends (canon_condition words cond) (shapes_condition s cond)
spells_condition grouped words s spelled None fits = spells_none
spells_condition grouped words s spelled (Some cond) fits = spells_after spelled (spells_fits grouped Role.whole 32 cond fits)

condition_first : (words : List ℕ) → ((rest : List ℕ) → Follows ends (words ++ rest)) → (cond : Option Test) → Follows ends (canon_condition words cond)
condition_first words first None = tt
condition_first words first (Some cond) = first (canon_test cond)

spells_list : {A : Type 0} (P : A → Type 0) (f : A → List ℕ) (g : A → List Shape) (words : List ℕ) (shapes : List Shape) → Spells any words shapes → ((x : A) → P x → Spells ends (f x) (g x)) → (xs : List A) → Every P xs → Spells ends (canon_list words f xs) (shapes_list shapes g xs)
spells_list P f g words shapes spelled spells [] every = spells_none
spells_list P f g words shapes spelled spells (x ∷ xs) every = spells_after spelled (spells_entries P f g spells (x ∷ xs) every)

list_first : {A : Type 0} (f : A → List ℕ) (words : List ℕ) → ((rest : List ℕ) → Follows ends (words ++ rest)) → (xs : List A) → Follows ends (canon_list words f xs)
list_first f words first [] = tt
list_first f words first (x ∷ xs) = first (joined (codes ", ") (map f (x ∷ xs)))

spells_key : (key : OrderItem) → ValidExpr key.expr → Spells ends (canon_key key) (shapes_key key)
unfolding canon_key shapes_key
spells_key key valid =
    elim key.descending as (λ t. Spells ends (canon_expr key.expr ++ (if t then codes " DESC" else [])) (shapes_expr key.expr ++ (if t then word symbol.Desc ∷ [] else []))) [
      | true ↦ spells_both (ends_early (spells_expr key.expr valid)) spells_desc (λ rest after. refl)
      | false ↦ spells_then (ends_early (spells_expr key.expr valid)) spells_none tt
    ]

-- the whole
spells_distinct_part : (distinct : Bool) → Spells any (if distinct then codes "DISTINCT " else []) (if distinct then word symbol.Distinct ∷ [] else [])
spells_distinct_part true = spells_distinct
spells_distinct_part false = spells_none

nine : (a b c d e f g h i : List ℕ) → a ++ b ++ c ++ d ++ e ++ f ++ g ++ h ++ i ≡ a ++ (b ++ (c ++ (d ++ (e ++ (f ++ (g ++ (h ++ i)))))))
nine a b c d e f g h i = simp append_assoc

pub spells_statement : (s : Select) → Valid s → Spells ends (canon s) (shapes_select s)
unfolding canon shapes_select
spells_statement s valid =
    let filter = spells_condition false (codes " WHERE ") (word symbol.Where) spells_where s.filter valid.filter in
    let groups = spells_list ValidColumn canon_column shapes_column (codes " GROUP BY ") (word symbol.Group ∷ word symbol.By ∷ []) spells_group (λ c v. ends_early (spells_column c v)) s.groups valid.groups.each in
    let having = spells_condition true (codes " HAVING ") (word symbol.Having) spells_having s.having valid.having in
    let orders = spells_list (λ key. ValidExpr key.expr) canon_key shapes_key (codes " ORDER BY ") (word symbol.Order ∷ word symbol.By ∷ []) spells_order spells_key s.orders valid.orders.each in
    let orders_first = list_first canon_key (codes " ORDER BY ") (λ rest. refl) s.orders in
    let having_first = follows_append ends (canon_condition (codes " HAVING ") s.having) _ (condition_first (codes " HAVING ") (λ rest. refl) s.having) orders_first in
    let groups_first = follows_append ends (canon_list (codes " GROUP BY ") canon_column s.groups) _ (list_first canon_column (codes " GROUP BY ") (λ rest. refl) s.groups) having_first in
    let filter_first = follows_append ends (canon_condition (codes " WHERE ") s.filter) _ (condition_first (codes " WHERE ") (λ rest. refl) s.filter) groups_first in
    rw (nine (codes "SELECT ") (if s.distinct then codes "DISTINCT " else []) (canon_items s.items) (codes " FROM ") (canon_sources s.sources) (canon_condition (codes " WHERE ") s.filter)
    (canon_list (codes " GROUP BY ") canon_column s.groups) (canon_condition (codes " HAVING ") s.having) (canon_list (codes " ORDER BY ") canon_key s.orders))
    (spells_after spells_select (spells_after (spells_distinct_part s.distinct) (spells_both (spells_items s.items valid.items) (spells_after spells_from (spells_then (spells_sources s.sources valid.sources.each)
    (spells_then filter (spells_then groups (spells_then having orders orders_first) having_first) groups_first) filter_first)) (λ rest after. refl))))

pub canon_lexes : (s : Select) → Valid s → (tokens : List Token) × (tokens_of (canon s) ≡ Ok tokens) × (map shape_of tokens ≡ shapes_select s ++ end_shape ∷ [])
unfolding tokens_of
canon_lexes s valid = rw (append-nil (canon s)) at ((spells_statement s valid).lexes [] (end_shape ∷ []) tt lexes_end 0)
