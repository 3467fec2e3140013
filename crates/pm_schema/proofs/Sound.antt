-- Narrow tables that break no rule declare tables.
use Rattle.std.proofs.Common.{◌≡◌, ◌≤◌, ◌+◌, ◌++◌, ◌||◌, not, ℕ, zero, suc, Bool, true, false, List, [], ◌∷◌, Option, Some, None, length, map, take, cond, arith, refl}
use Rattle.std.specs.Prelude.{All}
use Rattle.std.specs.Str.{bytes_eq}
use Rattle.std.proofs.lemmas.List.{length-map}
use Rattle.std.proofs.lemmas.List.Elements.{All-cons, All-head, All-map, All-nil, All-tail}
use Rattle.pm_grammar.specs.declared.names.PlacedName.{PlacedName}
use Rattle.pm_values.specs.declared.limits.TheConstants.{MOST_COLUMNS}
use Rattle.pm_values.specs.Row.{AllBelow}
use Rattle.pm_values.specs.Order.{NamesColumns}
use Rattle.pm_values.specs.Table.{HasValidKind, RefersByOwn}
use Rattle.pm_schema.specs.declared.tree.ColumnText.{ColumnText}
use Rattle.pm_schema.specs.declared.tree.ReferenceText.{ReferenceText}
use Rattle.pm_schema.specs.declared.tree.TableText.{TableText}
use Rattle.pm_schema.specs.declared.rules.Rule.{Rule}
use Rattle.pm_schema.specs.declared.rules.Rule.TheVariants as rule
use Rattle.pm_schema.specs.declared.rules.Fault.TheVariants as fault
use Rattle.pm_schema.specs.declared.rules.Breach.{Breach}
use Rattle.pm_schema.specs.Rules.{breach_at, breaches, breaches_from, is_faulty, has, itself, key_breaches, name_of_column, order_breaches, first_of}
use Rattle.pm_schema.specs.References.{table_named, name_breaches, reference_breaches, all_reference_breaches, table_breaches, all_breaches, all_table_breaches, first_breach}
use Rattle.pm_schema.specs.Meaning.{IsNarrow, IsSound, AreNamed, AreNamedIn, IsNamedReference, columns_of, declared_column, declared_reference, number_in, numbers}
use Rattle.pm_schema.proofs.Breaches.{none_first}
use Rattle.pm_schema.proofs.Maps.{number_within}

-- where there is no first breach there is none
no_breach : (xs : List Breach) → first_of xs ≡ None → xs ≡ []
no_breach [] h = refl
no_breach (x ∷ xs) h = let some : true ≡ false = rw h at (none_first (x ∷ xs)) in absurd (cc some)

both_empty : (xs ys : List Breach) → xs ++ ys ≡ [] → (xs ≡ []) × (ys ≡ [])
both_empty [] ys h = (refl, h)
both_empty (x ∷ xs) ys h = absurd (cc h)

abbrev IsColumnName : List ColumnText → PlacedName → Type 0
IsColumnName columns name = has name_of_column columns name.text ≡ true

unbroken : (b : Bool) (at : ℕ) (r : Rule) → breach_at b at r ≡ [] → b ≡ false
unbroken true at r h = absurd (cc h)
unbroken false at r h = refl

-- names that break no rule are those of columns
names_found : (r : Rule) (columns : List ColumnText) (items : List PlacedName) (i : ℕ) (rest : List PlacedName) → breaches_from itself r fault.NoNewColumn columns items i rest ≡ [] → All (IsColumnName columns) rest
unfolding breaches_from
names_found r columns items i [] h = All-nil (IsColumnName columns)
names_found r columns items i (name ∷ rest) h =
    let faulty = is_faulty itself fault.NoNewColumn columns (take i items) name in
    let parts = both_empty (breach_at faulty name.at r) (breaches_from itself r fault.NoNewColumn columns items (i + 1) rest) h in
    All-cons (IsColumnName columns) name rest (sound (has name_of_column columns name.text) _ (unbroken faulty name.at r parts.0)) (names_found r columns items (i + 1) rest parts.1)
  where
    sound : (a b : Bool) → (not a || b) ≡ false → a ≡ true
    sound true b e = refl
    sound false b e = absurd (cc e)

named : (r : Rule) (columns : List ColumnText) (names : List PlacedName) → length columns ≤ MOST_COLUMNS → breaches itself r fault.NoNewColumn columns names ≡ [] → AreNamed columns names
named r columns names few none = record { few = few; each = names_found r columns names 0 names none }

-- the numbers of such names are below the width
numbers_below : (columns : List ColumnText) (names : List PlacedName) → All (IsColumnName columns) names → AllBelow (map (number_in columns) names) (length (map declared_column columns))
numbers_below columns [] each k lt = absurd (omega arith)
numbers_below columns (name ∷ names) each zero lt = rw (length-map columns declared_column) (number_within (λ c. bytes_eq c.name.text name.text) columns (All-head (IsColumnName columns) name names each))
numbers_below columns (name ∷ names) each (suc k) lt = numbers_below columns names (All-tail (IsColumnName columns) name names each) k (omega arith)

key_named : (columns : List ColumnText) (key : Option (List PlacedName)) → length columns ≤ MOST_COLUMNS → key_breaches columns key ≡ [] → AreNamedIn columns key
key_named columns None few none = tt
key_named columns (Some names) few none = named rule.KeyColumn columns names few (both_empty (breaches itself rule.KeyColumn fault.NoNewColumn columns names) (breaches itself rule.NullKey fault.Nullable columns names) none).0

order_named : (columns : List ColumnText) (order : Option (List PlacedName)) → length columns ≤ MOST_COLUMNS → order_breaches columns order ≡ [] → AreNamedIn columns order
order_named columns None few none = tt
order_named columns (Some names) few none = named rule.KeyColumn columns names few none

below : (columns : List ColumnText) (names : Option (List PlacedName)) → AreNamedIn columns names → NamesColumns (numbers columns names) (length (map declared_column columns))
below columns None known = tt
below columns (Some names) known = numbers_below columns names known.each

-- a schema of narrow tables has narrow targets
few_columns : (tables : List TableText) → All IsNarrow tables → (text : List ℕ) → length (columns_of (table_named tables text)) ≤ MOST_COLUMNS
few_columns [] narrow text = omega arith
few_columns (table ∷ tables) narrow text = of (bytes_eq table.name.text text) (few_columns tables (All-tail IsNarrow table tables narrow) text)
  where
    of : (b : Bool) → length (columns_of (table_named tables text)) ≤ MOST_COLUMNS → length (columns_of (cond b (Some table) (table_named tables text))) ≤ MOST_COLUMNS
    of true further = (All-head IsNarrow table tables narrow).columns
    of false further = further

reference_named : (tables : List TableText) (columns : List ColumnText) (reference : ReferenceText) → length columns ≤ MOST_COLUMNS → All IsNarrow tables
    → reference_breaches columns reference (table_named tables reference.target.text) ≡ [] → IsNamedReference tables columns reference
reference_named tables columns reference few narrow none =
    let (own, keys) = of (table_named tables reference.target.text) (few_columns tables narrow reference.target.text) none in
    record { own = own; keys = keys }
  where
    of : (target : Option TableText) → length (columns_of target) ≤ MOST_COLUMNS → reference_breaches columns reference target ≡ [] → AreNamed columns reference.columns × AreNamed (columns_of target) reference.keys
    of None few' h = absurd (cc h)
    of (Some target) few' h =
        let names = (both_empty (name_breaches columns target reference) _ h).0 in
        let parts = both_empty (breaches itself rule.RefColumn fault.NoNewColumn columns reference.columns) (breaches itself rule.RefColumn fault.NoNewColumn target.body.columns reference.keys) names in
        (named rule.RefColumn columns reference.columns few parts.0, named rule.RefColumn target.body.columns reference.keys few' parts.1)

references_named : (tables : List TableText) (columns : List ColumnText) (references : List ReferenceText) → length columns ≤ MOST_COLUMNS → All IsNarrow tables
    → all_reference_breaches tables columns references ≡ [] → All (IsNamedReference tables columns) references
unfolding all_reference_breaches
references_named tables columns [] few narrow none = All-nil (IsNamedReference tables columns)
references_named tables columns (reference ∷ references) few narrow none =
    let parts = both_empty (reference_breaches columns reference (table_named tables reference.target.text)) (all_reference_breaches tables columns references) none in
    All-cons (IsNamedReference tables columns) reference references (reference_named tables columns reference few narrow parts.0) (references_named tables columns references few narrow parts.1)

refers_by_own : (tables : List TableText) (columns : List ColumnText) (references : List ReferenceText) → All (IsNamedReference tables columns) references
    → All (RefersByOwn (length (map declared_column columns))) (map (declared_reference tables columns) references)
refers_by_own tables columns [] each = All-nil (RefersByOwn (length (map declared_column columns)))
refers_by_own tables columns (reference ∷ references) each =
    All-cons (RefersByOwn (length (map declared_column columns))) (declared_reference tables columns reference) (map (declared_reference tables columns) references)
    (numbers_below columns reference.columns (All-head (IsNamedReference tables columns) reference references each).own.each) (refers_by_own tables columns references (All-tail (IsNamedReference tables columns) reference references each))

table_sound : (tables : List TableText) (table : TableText) → All IsNarrow tables → IsNarrow table → table_breaches tables table ≡ [] → IsSound tables table
table_sound tables table all narrow none =
    let columns = table.body.columns in
    let lists = (both_empty _ (key_breaches columns table.body.key ++ (order_breaches columns table.body.order ++ all_reference_breaches tables columns table.body.references)) none).1 in
    let keys = both_empty (key_breaches columns table.body.key) (order_breaches columns table.body.order ++ all_reference_breaches tables columns table.body.references) lists in
    let others = both_empty (order_breaches columns table.body.order) (all_reference_breaches tables columns table.body.references) keys.1 in
    let key = key_named columns table.body.key narrow.columns keys.0 in
    let order = order_named columns table.body.order narrow.columns others.0 in
    let references = references_named tables columns table.body.references narrow.columns all others.1 in
    record {
      declaration = record {
        narrow = rw (length-map columns declared_column) narrow.columns;
        scales = All-map HasValidKind declared_column columns narrow.scales;
        key_named = below columns table.body.key key;
        order_named = below columns table.body.order order;
        references_named = refers_by_own tables columns table.body.references references;
      };
      key = key;
      order = order;
      references = references;
    }

tables_sound : (tables rest : List TableText) → All IsNarrow tables → All IsNarrow rest → all_table_breaches tables rest ≡ [] → All (IsSound tables) rest
unfolding all_table_breaches
tables_sound tables [] all narrow none = All-nil (IsSound tables)
tables_sound tables (table ∷ rest) all narrow none =
    let parts = both_empty (table_breaches tables table) (all_table_breaches tables rest) none in
    All-cons (IsSound tables) table rest (table_sound tables table all (All-head IsNarrow table rest narrow) parts.0) (tables_sound tables rest all (All-tail IsNarrow table rest narrow) parts.1)

-- narrow tables that break no rule are sound
pub sound_of : (tables : List TableText) → All IsNarrow tables → first_breach tables ≡ None → All (IsSound tables) tables
sound_of tables narrow none = tables_sound tables tables narrow narrow (both_empty _ (all_table_breaches tables tables) (no_breach (all_breaches tables) none)).1
