-- A schema that a text declares has tables with columns, and its lists of columns name none twice.
use Rattle.std.proofs.Common.{◌≡◌, ◌<◌, ◌+◌, ◌||◌, ◌&&◌, ◌==◌, ℕ, zero, suc, Bool, true, false, not, nat_eq, List, [], ◌∷◌, ◌++◌, length, length-append, map, take, get_or, append-nil, append_assoc, Option, Some, None, is_some, unwrap_or, refl, sym, ap, ◌∙◌, subst, arith}
use Rattle.std.specs.Prelude.{All}
use Rattle.std.specs.List.{list_all, list_any, AllByRecursion}
use Rattle.std.specs.Str.{bytes_eq}
use Rattle.std.proofs.lemmas.Bool.{or_parts, or_from, eqb-true, eq-eqb, not_from_false, false_from_ne_true}
use Rattle.std.proofs.lemmas.List.{length-map, map-append}
use Rattle.std.proofs.lemmas.List.Elements.{All-head, All-tail}
use Rattle.std.proofs.lemmas.List.Folds.{list_any-append}
use Rattle.std.proofs.lemmas.List.Quantifiers.{position-Some}
use Rattle.std.proofs.lemmas.Slice.Eq.{bytes_eq-Decides}
use Rattle.pm_lexer.specs.declared.token.Token.{Token}
use Rattle.pm_lexer.specs.declared.symbol.Symbol.TheVariants as symbol
use Rattle.pm_lexer.specs.Symbol.{is}
use Rattle.pm_lexer.proofs.Boundary.{bytes_same}
use Rattle.pm_lexer.specs.Pieces.{content_of}
use Rattle.pm_grammar.specs.declared.names.PlacedName.{PlacedName}
use Rattle.pm_grammar.specs.Language.{Lang, never, Is, IsMore, IsFurther, IsClause}
use Rattle.pm_grammar.specs.Reading.{named}
use Rattle.pm_grammar.proofs.Yields.{Yields, Any, IsShort, token_then, token_yields, then_yields, only_yields, or_yields, further_yields, list_yields}
use Rattle.pm_values.specs.declared.value.Kind.{Kind}
use Rattle.pm_values.specs.declared.value.Kind.TheVariants as kind
use Rattle.pm_values.specs.declared.limits.TheConstants.{MOST_COLUMNS, MOST_KEY_COLUMNS, MOST_REFERENCES}
use Rattle.pm_values.specs.Table.{Declaration}
use Rattle.pm_schema.specs.declared.terminals.Word.TheVariants as word
use Rattle.pm_schema.specs.declared.tree.ColumnText.{ColumnText}
use Rattle.pm_schema.specs.declared.tree.ReferenceText.{ReferenceText}
use Rattle.pm_schema.specs.declared.tree.Body.{Body}
use Rattle.pm_schema.specs.declared.tree.TableText.{TableText}
use Rattle.pm_schema.specs.declared.tables.TheConstants.{MOST_TABLES}
use Rattle.pm_schema.specs.declared.rules.Rule.{Rule}
use Rattle.pm_schema.specs.declared.rules.Rule.TheVariants as rule
use Rattle.pm_schema.specs.declared.rules.Fault.TheVariants as fault
use Rattle.pm_schema.specs.Terminals.{marked, is_name, is_clause, is_references, references_word, scale_of}
use Rattle.pm_schema.specs.Grammar.{IsName, IsNum, IsKind, IsNullable, IsNames, IsReference, IsColumn, IsReferences, IsKey, IsOrder, IsClauses, IsFurtherBody, IsBody, IsTable, IsNothing, IsSchema}
use Rattle.pm_schema.specs.declared.rules.Breach.{Breach}
use Rattle.pm_schema.specs.Rules.{first_of, breach_at, breaches, breaches_from, is_faulty, has, itself, key_breaches, name_of_column, order_breaches}
use Rattle.pm_schema.specs.References.{table_named, name_breaches, reference_breaches, all_reference_breaches, table_breaches, all_breaches, all_table_breaches}
use Rattle.pm_schema.specs.Answers.{Reads}
use Rattle.pm_schema.specs.Meaning.{Declares, columns_of, column_number, number_in, numbers, position_of, declared_column, declared_reference, declared_table}
use Rattle.pm_schema.proofs.Maps.{found}
use Rattle.pm_schema.proofs.Breaches.{none_first}
use Rattle.pm_query.specs.Bound.{differ, differ_if, names_once}
use Rattle.pm_binder.specs.Laws.{has_columns, AreTables}
use Rattle.pm_binder.proofs.Few.{empty_left, empty_right}
use Rattle.pm_binder.proofs.Typed.{and_left, and_right, both_true}

-- ---- tables have columns

num_yields : Yields IsNum Any
num_yields = token_then Any _ _ (λ _ _. token_then Any _ _ (λ _ _. token_then Any _ _ (λ scale _. token_then Any _ _ (λ _ _. only_yields Any (kind.Num (scale_of scale)) tt))))

kind_yields : Yields IsKind Any
kind_yields = or_yields Any _ _ (token_then Any _ _ (λ _ _. only_yields Any kind.Int tt)) (or_yields Any _ _ (token_then Any _ _ (λ _ _. only_yields Any kind.Text tt)) num_yields)

nullable_yields : Yields IsNullable Any
nullable_yields = or_yields Any _ _ (only_yields Any _ tt) (token_then Any _ _ (λ _ _. token_then Any _ _ (λ _ _. only_yields Any _ tt)))

column_yields : (names : Token → Bool) → Yields (IsColumn names) Any
column_yields names = token_then Any names _ (λ name _. then_yields Any Any IsKind (λ kind next. IsNullable (λ nullable. next (said name kind nullable))) kind_yields (λ kind _.
    then_yields Any Any IsNullable (λ nullable next. next (said name kind nullable)) nullable_yields (λ nullable _. only_yields Any (said name kind nullable) tt)))
  where
    said : Token → Kind → Bool → ColumnText
    said name kind nullable = record { name = named name; kind = kind; nullable = nullable }

name_yields : Yields IsName Any
name_yields = token_then Any _ _ (λ name _. only_yields Any _ tt)

names_yields : Yields (IsNames never) Any
names_yields = token_then Any _ _ (λ _ _. then_yields _ Any _ _ (list_yields MOST_KEY_COLUMNS IsName Any (is symbol.Comma) (omega arith) name_yields) (λ names _. token_then Any _ _ (λ _ _. only_yields Any names tt)))

clause_yields : (word : Token → Bool) → Yields (IsClause (is symbol.Comma) word (IsNames never)) Any
clause_yields word = or_yields Any _ _ (only_yields Any _ tt) (token_then Any (is symbol.Comma) _ (λ _ _. token_then Any word _ (λ _ _. then_yields Any Any (IsNames never) _ names_yields (λ names _. only_yields Any _ tt))))

reference_yields : (word : Token → Bool) → Yields (IsReference word never) Any
reference_yields word = token_then Any word _ (λ _ _. then_yields Any Any (IsNames never) _ names_yields (λ columns _. token_then Any _ _ (λ _ _.
    then_yields Any Any IsName (λ target next. IsNames never (λ keys. next (all columns target keys))) name_yields (λ target _. then_yields Any Any (IsNames never) (λ keys next. next (all columns target keys)) names_yields (λ keys _.
    only_yields Any (all columns target keys) tt)))))
  where
    all : List PlacedName → PlacedName → List PlacedName → ReferenceText
    all columns target keys = record { columns = columns; target = target; keys = keys }

references_yields : (word : Token → Bool) → Yields (IsReferences word never) Any
references_yields word = or_yields Any _ _ (only_yields Any _ tt) (token_then Any (is symbol.Comma) _ (λ _ _. then_yields Any Any (IsReference word never) _ (reference_yields word) (λ first _.
    then_yields _ Any _ _ (further_yields MOST_REFERENCES (Is (is symbol.Comma)) (λ _. IsReference is_references never) Any (token_yields (is symbol.Comma)) (λ _. reference_yields is_references) first (omega arith) tt) (λ all _. only_yields Any all tt))))

abbrev IsSome : {A : Type 0} → List A → Type 0
IsSome xs = 0 < length xs

abbrev HasSome : TableText → Type 0
HasSome table = IsSome table.body.columns

abbrev BodyHasSome : Body → Type 0
BodyHasSome body = IsSome body.columns

more_some : {A S : Type 0} (limit : ℕ) (Sep : Lang S) (P : S → Lang A) (Q : A → Type 0) → Yields Sep Any → ((s : S) → Yields (P s) Q)
    → (n : ℕ) (before : List A) → IsSome before → Yields (IsMore never limit Sep P n before) IsSome
unfolding IsMore
more_some limit Sep P Q sep entry zero before some next ts h = (before, ts, some, h)
more_some limit Sep P Q sep entry (suc n) before some next ts h =
    let s = sep _ ts h in
    let a = entry s.0 _ s.1 s.3.1 in
    more_some limit Sep P Q sep entry n (before ++ a.0 ∷ []) (omega (arith, length-append before (a.0 ∷ []))) next a.1 a.3

abbrev Referred : Option (List PlacedName) → Option (List PlacedName) → Lang (List ReferenceText)
Referred key order = IsReferences (references_word (is_some key || is_some order)) never

clauses_some : (columns : List ColumnText) → IsSome columns → Yields (IsClauses never columns) BodyHasSome
clauses_some columns some =
    then_yields Any BodyHasSome (IsKey never) (λ key next. IsOrder never (λ order. Referred key order (λ references. next (all key order references)))) (clause_yields (is_clause word.Key)) (λ key _.
    then_yields Any BodyHasSome (IsOrder never) (λ order next. Referred key order (λ references. next (all key order references))) (clause_yields (is symbol.Order)) (λ order _.
    then_yields Any BodyHasSome (Referred key order) (λ references next. next (all key order references)) (references_yields (references_word (is_some key || is_some order))) (λ references _.
    only_yields BodyHasSome (all key order references) some)))
  where
    all : Option (List PlacedName) → Option (List PlacedName) → List ReferenceText → Body
    all key order references = record { columns = columns; key = key; order = order; references = references }

further_some : (first : ColumnText) → Yields (IsFurther never MOST_COLUMNS (Is (is symbol.Comma)) (λ _. IsColumn (is symbol.Name)) (first ∷ [])) IsSome
further_some first next ts h =
    more_some MOST_COLUMNS (Is (is symbol.Comma)) (λ _. IsColumn (is symbol.Name)) Any (token_yields (is symbol.Comma)) (λ _. column_yields (is symbol.Name)) h.0 (first ∷ []) (omega arith) next ts h.1

body_some : Yields (IsBody never) BodyHasSome
body_some = then_yields Any BodyHasSome (IsColumn is_name) (λ first. IsFurtherBody never (first ∷ [])) (column_yields is_name) (λ first _.
    then_yields IsSome BodyHasSome (IsFurther never MOST_COLUMNS (Is (is symbol.Comma)) (λ _. IsColumn (is symbol.Name)) (first ∷ [])) (IsClauses never) (further_some first) clauses_some)

abbrev Ended : PlacedName → Token → Body → Lang TableText
Ended name file body next = Is (is symbol.Close) (λ _. Is (is symbol.Semicolon) (λ _. next (record { name = name; file = content_of file; body = body })))

abbrev Filed : PlacedName → Lang TableText
Filed name next = Is (is symbol.From) (λ _. Is (is symbol.Text) (λ file. Is (is symbol.Open) (λ _. IsBody never (λ body. Ended name file body next))))

table_some : Yields (IsTable never) HasSome
table_some = token_then HasSome _ (λ _ next. IsName (λ name. Filed name next)) (λ _ _. then_yields Any HasSome IsName Filed name_yields (λ name _.
    token_then HasSome _ _ (λ _ _. token_then HasSome _ _ (λ file _. token_then HasSome _ _ (λ _ _. then_yields BodyHasSome HasSome (IsBody never) (Ended name file) body_some (λ body some.
    token_then HasSome _ _ (λ _ _. token_then HasSome _ _ (λ _ _. only_yields HasSome (record { name = name; file = content_of file; body = body }) some))))))))

abbrev Last : List TableText → Lang (List TableText)
Last tables next = Is (is symbol.End) (λ _. next tables)

schema_some : Yields (IsSchema never) (IsShort HasSome MOST_TABLES)
schema_some = then_yields HasSome (IsShort HasSome MOST_TABLES) (IsTable never) (λ first next. IsFurther never MOST_TABLES IsNothing (λ _. IsTable never) (first ∷ []) (λ tables. Last tables next)) table_some (λ first some.
    then_yields (IsShort HasSome MOST_TABLES) (IsShort HasSome MOST_TABLES) (IsFurther never MOST_TABLES IsNothing (λ _. IsTable never) (first ∷ [])) Last
    (further_yields MOST_TABLES IsNothing (λ _. IsTable never) HasSome (only_yields Any tt tt) (λ _. table_some) first (omega arith) some)
    (λ tables short. token_then (IsShort HasSome MOST_TABLES) _ _ (λ _ _. only_yields (IsShort HasSome MOST_TABLES) tables short)))

reads_some : (tokens : List Token) (tables : List TableText) → Reads tokens tables → All HasSome tables
reads_some tokens tables h = let all = schema_some (λ found rest. (found ≡ tables) × (rest ≡ [])) (marked tokens) h in subst (All HasSome) all.3.0 all.2.each

not_none : (n : ℕ) → 0 < n → not (n == 0) ≡ true
not_none n h = not_from_false (n == 0) (false_from_ne_true (n == 0) (λ e. let z : n ≡ 0 = eqb-true n 0 e in omega (arith, h, z)))

all_have : (tables rest : List TableText) → All HasSome rest → list_all has_columns (map (declared_table tables) rest) ≡ true
all_have tables [] some = refl
all_have tables (table ∷ rest) some =
    let here : 0 < length (map declared_column table.body.columns) = rw (length-map table.body.columns declared_column) (All-head HasSome table rest some) in
    both_true (not (length (map declared_column table.body.columns) == 0)) (list_all has_columns (map (declared_table tables) rest))
    (not_none (length (map declared_column table.body.columns)) here) (all_have tables rest (All-tail HasSome table rest some))

-- ---- names of columns have different numbers

same_bytes : (xs ys : List ℕ) → xs ≡ ys → bytes_eq xs ys ≡ true
same_bytes xs ys e = (bytes_eq-Decides xs ys).1 e

-- the column of a name has that name
column_there : (columns : List ColumnText) (text : List ℕ) (d : ColumnText) → has name_of_column columns text ≡ true → bytes_eq (get_or columns (column_number columns text) d).name.text text ≡ true
column_there columns text d there = of (position_of columns text) refl
  where
    of : (o : Option ℕ) → position_of columns text ≡ o → bytes_eq (get_or columns (unwrap_or o 0) d).name.text text ≡ true
    of None e = absurd (found (λ column. bytes_eq column.name.text text) columns there e)
    of (Some i) e = (position-Some (λ column. bytes_eq column.name.text text) columns i d e).1

numbers_tell : (columns : List ColumnText) (a b : List ℕ) → has name_of_column columns a ≡ true → has name_of_column columns b ≡ true → bytes_eq b a ≡ false → nat_eq (column_number columns a) (column_number columns b) ≡ false
numbers_tell columns a b at bt unlike = false_from_ne_true (nat_eq (column_number columns a) (column_number columns b)) (λ e.
    let same : column_number columns a ≡ column_number columns b = eqb-true (column_number columns a) (column_number columns b) e in
    let d : ColumnText = record { name = record { text = []; at = 0 }; kind = kind.Int; nullable = false } in
    let of_a = bytes_same (get_or columns (column_number columns a) d).name.text a (column_there columns a d at) in
    let of_b = bytes_same (get_or columns (column_number columns b) d).name.text b (column_there columns b d bt) in
    let is : b ≡ a = sym of_b ∙ ap (λ i. (get_or columns i d).name.text) (sym same) ∙ of_a in
    let like : true ≡ false = sym (same_bytes b a is) ∙ unlike in
    cc like)

abbrev IsNamed : List ColumnText → PlacedName → Type 0
IsNamed columns name = has name_of_column columns name.text ≡ true

none_among : (columns : List ColumnText) (name : PlacedName) (before : List PlacedName) → IsNamed columns name → AllByRecursion (IsNamed columns) before → has itself before name.text ≡ false
    → list_any (nat_eq (number_in columns name)) (map (number_in columns) before) ≡ false
none_among columns name [] at named off = refl
none_among columns name (x ∷ before) at named off =
    let parts = or_parts (bytes_eq x.text name.text) (has itself before name.text) off in
    or_from (nat_eq (number_in columns name) (number_in columns x)) (list_any (nat_eq (number_in columns name)) (map (number_in columns) before))
    (numbers_tell columns name.text x.text at named.0 parts.0) (none_among columns name before at named.1 parts.1)

swapped : (x y : ℕ) → nat_eq x y ≡ false → nat_eq y x ≡ false
swapped x y h = false_from_ne_true (nat_eq y x) (λ e. let off : true ≡ false = sym (eq-eqb x y (sym (eqb-true y x e))) ∙ h in cc off)

is_off : (b : Bool) → not b ≡ true → b ≡ false
is_off true h = absurd (cc h)
is_off false h = refl

differ_push : (xs : List ℕ) (x : ℕ) → differ xs ≡ true → list_any (nat_eq x) xs ≡ false → differ (xs ++ x ∷ []) ≡ true
differ_push [] x d off = refl
differ_push (y ∷ xs) x d off =
    let parts = or_parts (nat_eq x y) (list_any (nat_eq x) xs) off in
    let here = is_off (list_any (nat_eq y) xs) (and_left (not (list_any (nat_eq y) xs)) (differ xs) d) in
    let any : list_any (nat_eq y) (xs ++ x ∷ []) ≡ false = list_any-append (nat_eq y) xs (x ∷ []) ∙ or_from (list_any (nat_eq y) xs) (nat_eq y x || false) here (or_from (nat_eq y x) false (swapped x y parts.0) refl) in
    rw (any, differ_push xs x (and_right (not (list_any (nat_eq y) xs)) (differ xs) d) parts.1) refl

taken : {A : Type 0} (before rest : List A) → take (length before) (before ++ rest) ≡ before
taken [] rest = refl
taken (x ∷ before) rest = ap (λ xs. x ∷ xs) (taken before rest)

all_pushed : {A : Type 0} (P : A → Type 0) (before : List A) (x : A) → AllByRecursion P before → P x → AllByRecursion P (before ++ x ∷ [])
all_pushed P [] x each here = (here, tt)
all_pushed P (y ∷ before) x each here = (each.0, all_pushed P before x each.1 here)

kept_apart : (a b : Bool) → (not a || b) ≡ false → (a ≡ true) × (b ≡ false)
kept_apart true b e = (refl, e)
kept_apart false b e = absurd (cc e)

no_breach : (xs : List Breach) → first_of xs ≡ None → xs ≡ []
no_breach [] h = refl
no_breach (x ∷ xs) h = let some : true ≡ false = rw h at (none_first (x ∷ xs)) in absurd (cc some)

unbroken : (b : Bool) (at : ℕ) (r : Rule) → breach_at b at r ≡ [] → b ≡ false
unbroken true at r h = absurd (cc h)
unbroken false at r h = refl

names_further : (r : Rule) (columns : List ColumnText) (names before rest : List PlacedName) → names ≡ before ++ rest → breaches_from itself r fault.NoNewColumn columns names (length before) rest ≡ []
    → AllByRecursion (IsNamed columns) before → differ (map (number_in columns) before) ≡ true → differ (map (number_in columns) names) ≡ true
unfolding breaches_from
names_further r columns names before [] is none named d = rw (is, append-nil before) d
names_further r columns names before (name ∷ rest) is none named d =
    let faulty = is_faulty itself fault.NoNewColumn columns (take (length before) names) name in
    let off : faulty ≡ false = unbroken faulty name.at r (empty_left (breach_at faulty name.at r) (breaches_from itself r fault.NoNewColumn columns names (length before + 1) rest) none) in
    let behind : take (length before) names ≡ before = ap (take (length before)) is ∙ taken before (name ∷ rest) in
    let parts = kept_apart (has name_of_column columns name.text) (has itself before name.text) (sym (ap (λ xs. is_faulty itself fault.NoNewColumn columns xs name) behind) ∙ off) in
    let long : length before + 1 ≡ length (before ++ name ∷ []) = sym (length-append before (name ∷ [])) in
    names_further r columns names (before ++ name ∷ []) rest (is ∙ sym (append_assoc before (name ∷ []) rest))
    (subst (λ i. breaches_from itself r fault.NoNewColumn columns names i rest ≡ []) long (empty_right (breach_at faulty name.at r) (breaches_from itself r fault.NoNewColumn columns names (length before + 1) rest) none))
    (all_pushed (IsNamed columns) before name named parts.0)
    (rw (map-append (number_in columns) before (name ∷ [])) (differ_push (map (number_in columns) before) (number_in columns name) d (none_among columns name before parts.0 named parts.1)))

names_differ : (r : Rule) (columns : List ColumnText) (names : List PlacedName) → breaches itself r fault.NoNewColumn columns names ≡ [] → differ (map (number_in columns) names) ≡ true
names_differ r columns names none = names_further r columns names [] names refl none tt refl

key_differs : (columns : List ColumnText) (key : Option (List PlacedName)) → key_breaches columns key ≡ [] → differ_if (numbers columns key) ≡ true
key_differs columns None none = refl
key_differs columns (Some names) none = names_differ rule.KeyColumn columns names (empty_left (breaches itself rule.KeyColumn fault.NoNewColumn columns names) (breaches itself rule.NullKey fault.Nullable columns names) none)

order_differs : (columns : List ColumnText) (order : Option (List PlacedName)) → order_breaches columns order ≡ [] → differ_if (numbers columns order) ≡ true
order_differs columns None none = refl
order_differs columns (Some names) none = names_differ rule.KeyColumn columns names none

reference_differs : (columns : List ColumnText) (reference : ReferenceText) (target : Option TableText) → reference_breaches columns reference target ≡ []
    → (differ (map (number_in columns) reference.columns) && differ (map (number_in (columns_of target)) reference.keys)) ≡ true
reference_differs columns reference None none = absurd (cc none)
reference_differs columns reference (Some target) none =
    let names = empty_left (name_breaches columns target reference) _ none in
    let own = breaches itself rule.RefColumn fault.NoNewColumn columns reference.columns in
    let keys = breaches itself rule.RefColumn fault.NoNewColumn target.body.columns reference.keys in
    both_true (differ (map (number_in columns) reference.columns)) (differ (map (number_in target.body.columns) reference.keys))
    (names_differ rule.RefColumn columns reference.columns (empty_left own keys names)) (names_differ rule.RefColumn target.body.columns reference.keys (empty_right own keys names))

references_differ : (tables : List TableText) (columns : List ColumnText) (references : List ReferenceText) → all_reference_breaches tables columns references ≡ []
    → list_all (λ reference. differ reference.columns && differ reference.keys) (map (declared_reference tables columns) references) ≡ true
unfolding all_reference_breaches
references_differ tables columns [] none = refl
references_differ tables columns (reference ∷ references) none =
    let own = reference_breaches columns reference (table_named tables reference.target.text) in
    let others = all_reference_breaches tables columns references in
    both_true (differ (map (number_in columns) reference.columns) && differ (map (number_in (columns_of (table_named tables reference.target.text))) reference.keys))
    (list_all (λ reference. differ reference.columns && differ reference.keys) (map (declared_reference tables columns) references))
    (reference_differs columns reference (table_named tables reference.target.text) (empty_left own others none)) (references_differ tables columns references (empty_right own others none))

table_differs : (tables : List TableText) (table : TableText) → table_breaches tables table ≡ [] → names_once (declared_table tables table) ≡ true
table_differs tables table none =
    let columns = table.body.columns in
    let references = all_reference_breaches tables columns table.body.references in
    let order = order_breaches columns table.body.order in
    let key = key_breaches columns table.body.key in
    let lists = empty_right (breaches name_of_column rule.DoubleColumn fault.Repeated [] columns) (key ++ (order ++ references)) none in
    let others = empty_right key (order ++ references) lists in
    let last = references_differ tables columns table.body.references (empty_right order references others) in
    both_true (differ_if (numbers columns table.body.key) && differ_if (numbers columns table.body.order)) (list_all (λ reference. differ reference.columns && differ reference.keys) (map (declared_reference tables columns) table.body.references))
    (both_true (differ_if (numbers columns table.body.key)) (differ_if (numbers columns table.body.order)) (key_differs columns table.body.key (empty_left key (order ++ references) lists)) (order_differs columns table.body.order (empty_left order references others)))
    last

all_differ : (tables rest : List TableText) → all_table_breaches tables rest ≡ [] → list_all names_once (map (declared_table tables) rest) ≡ true
unfolding all_table_breaches
all_differ tables [] none = refl
all_differ tables (table ∷ rest) none =
    let own = table_breaches tables table in
    let others = all_table_breaches tables rest in
    both_true (names_once (declared_table tables table)) (list_all names_once (map (declared_table tables) rest)) (table_differs tables table (empty_left own others none)) (all_differ tables rest (empty_right own others none))

pub declared_are_tables : (tokens : List Token) (schema : List Declaration) → Declares tokens schema → AreTables schema
declared_are_tables tokens schema (tables, read, kept, is) =
    let none = empty_right _ (all_table_breaches tables tables) (no_breach (all_breaches tables) kept) in
    subst AreTables (sym is) (record { columns = all_have tables tables (reads_some tokens tables read); named_once = all_differ tables tables none })
