-- The parts of a statement are read back.
use Rattle.std.proofs.Common.{◌≡◌, ◌⊎◌, Bool, true, false, List, [], ◌∷◌, ◌++◌, length, map, Option, Some, None, if◌then◌else◌, refl, sym, ◌∙◌, ap, arith}
use Rattle.std.specs.List.{flat_map}
use Rattle.std.proofs.lemmas.List.{append-nil}
use Rattle.pm_lexer.specs.declared.symbol.Symbol.{Symbol}
use Rattle.pm_lexer.specs.declared.symbol.Symbol.TheVariants as symbol
use Rattle.pm_lexer.specs.Symbol.{is}
use Rattle.pm_grammar.specs.Language.{Lang, Is, IsFurther, IsList, IsOptional, never}
use Rattle.pm_grammar.specs.declared.names.PlacedName.{PlacedName}
use Rattle.pm_syntax.specs.declared.tree.ColumnName.{ColumnName}
use Rattle.pm_syntax.specs.declared.tree.Expr.{Expr}
use Rattle.pm_syntax.specs.declared.tree.Item.{Item}
use Rattle.pm_syntax.specs.declared.tree.Items.{Items}
use Rattle.pm_syntax.specs.declared.tree.Items.TheVariants as items
use Rattle.pm_syntax.specs.declared.tree.Source.{Source}
use Rattle.pm_syntax.specs.declared.tree.Link.{Link}
use Rattle.pm_syntax.specs.declared.tree.Link.TheVariants as link
use Rattle.pm_syntax.specs.declared.tree.Test.{Test}
use Rattle.pm_syntax.specs.declared.tree.OrderItem.{OrderItem}
use Rattle.pm_syntax.specs.Grammar.{IsName, IsColumn, IsExpr, IsGiven, IsItem, IsItems, IsCondition, IsLink, IsJoinCondition, IsOn, is_left, IsSource, IsSources, IsFilter, IsGroups, IsHaving, IsDirection, IsKey, IsOrders}
use Rattle.pm_canonical.proofs.Shapes.{Shape, sign, word, between, shape_name, shapes_column, shapes_expr, shapes_given, shapes_item, shapes_items, shapes_source, shapes_further, shapes_sources, shapes_test, shapes_condition, shapes_list, shapes_key}
use Rattle.pm_syntax.specs.Same.{unplaced_option, unplaced_name, unplaced_column, unplaced_expr, unplaced_item, unplaced_items, unplaced_test, unplaced_source, unplaced_key}
use Rattle.pm_canonical.proofs.Valid.{Where, ValidList, ValidPart, ValidColumn, ValidExpr, ValidItem, ValidItems, ValidSource, Unjoined, Fits, whole}
use Rattle.pm_canonical.proofs.Combinators.{Reading, Stands, Entry, each, pure, shaped, better, mapped, left, right, bind, and_then, given, more_read, list_of}
use Rattle.pm_canonical.proofs.Standing.{stands_star, stands_comma, stands_join, stands_left, stands_on, stands_where, stands_group, stands_by, stands_having, stands_order, stands_desc}
use Rattle.pm_canonical.proofs.NameReadings.{name_read, column_read, expr_read, given_read}
use Rattle.pm_canonical.proofs.LeafReadings.{SameTest}
use Rattle.pm_canonical.proofs.TestReadings.{fits_read}

-- what a tree and another agree in
abbrev SameName : PlacedName → PlacedName → Type 0
SameName x y = unplaced_name y ≡ unplaced_name x

abbrev SameGiven : Option PlacedName → Option PlacedName → Type 0
SameGiven x y = unplaced_option unplaced_name y ≡ unplaced_option unplaced_name x

abbrev SameExpr : Expr → Expr → Type 0
SameExpr x y = unplaced_expr y ≡ unplaced_expr x

abbrev SameItem : Item → Item → Type 0
SameItem x y = unplaced_item y ≡ unplaced_item x

abbrev pub SameItems : Items → Items → Type 0
SameItems x y = unplaced_items y ≡ unplaced_items x

abbrev SameSource : Source → Source → Type 0
SameSource x y = unplaced_source y ≡ unplaced_source x

abbrev pub SameSources : List Source → List Source → Type 0
SameSources x y = map unplaced_source y ≡ map unplaced_source x

abbrev pub SameCondition : Option Test → Option Test → Type 0
SameCondition x y = unplaced_option unplaced_test y ≡ unplaced_option unplaced_test x

abbrev pub SameColumns : List ColumnName → List ColumnName → Type 0
SameColumns x y = map unplaced_column y ≡ map unplaced_column x

abbrev SameKey : OrderItem → OrderItem → Type 0
SameKey x y = unplaced_key y ≡ unplaced_key x

abbrev pub SameKeys : List OrderItem → List OrderItem → Type 0
SameKeys x y = map unplaced_key y ≡ map unplaced_key x

item_read : (item : Item) → Reading IsItem (SameItem item) (shapes_item item)
unfolding shapes_item
item_read item =
    bind IsExpr (λ e next. IsGiven (λ name. next (record { expr = e; given = name }))) (SameExpr item.expr) (SameItem item) (shapes_expr item.expr) (shapes_given item.given) (expr_read item.expr)
    (λ e f. mapped IsGiven (λ name. record { expr = e; given = name }) (SameGiven item.given) (SameItem item) (shapes_given item.given) (given_read item.given)
    (λ name g. ap (λ x. record { expr = x; given = unplaced_option unplaced_name name }) f ∙ ap (λ x. record { expr = unplaced_expr item.expr; given = x }) g))

abbrev StarOnly : Lang Items
StarOnly next = Is (is symbol.Star) (λ star. next (items.All star.at))

abbrev Listed : Lang Items
Listed next = IsList never 64 IsItem (is symbol.Comma) (λ list. next (items.List list))

pub items_read : (s : Items) → ValidItems s → Reading (IsItems never) (SameItems s) (shapes_items s)
unfolding shapes_items
items_read (items.All at) valid =
    left StarOnly Listed _ (sign symbol.Star ∷ []) (and_then symbol.Star (sign symbol.Star) stands_star (λ star next. next (items.All star.at)) (SameItems (items.All at)) [] (λ star _. pure _ (items.All star.at) refl))
items_read (items.List list) valid =
    right StarOnly Listed _ (between (sign symbol.Comma) (map shapes_item list))
    (mapped (IsList never 64 IsItem (is symbol.Comma)) (λ r. items.List r) (λ r. map unplaced_item r ≡ map unplaced_item list) (SameItems (items.List list)) _
    (list_of 64 IsItem symbol.Comma (sign symbol.Comma) stands_comma unplaced_item shapes_item ValidItem (λ item _. item_read item) list valid.some valid.within valid.each)
    (λ r e. ap (λ x. items.List x) e))

-- a source by its parts
abbrev made : Bool → PlacedName → Option PlacedName → Option Test → Source
made left table alias on = record { table = table; alias = alias; on = on; left = left }

source_same : (left : Bool) (table x : PlacedName) (alias y : Option PlacedName) (on z : Option Test) → SameName table x → SameGiven alias y → SameCondition on z → SameSource (made left table alias on) (made left x y z)
source_same left table x alias y on z e f g =
    ap (λ a. record { table = a; alias = unplaced_option unplaced_name y; on = unplaced_option unplaced_test z; left = left }) e
    ∙ ap (λ a. record { table = unplaced_name table; alias = a; on = unplaced_option unplaced_test z; left = left }) f
    ∙ ap (λ a. record { table = unplaced_name table; alias = unplaced_option unplaced_name alias; on = a; left = left }) g

source_with : (l : Link) (table : PlacedName) (alias : Option PlacedName) (on : Option Test) (s : List Shape) → Reading (IsOn 32 never l) (SameCondition on) s
    → Reading (IsSource 32 never l) (SameSource (made (is_left l) table alias on)) (shape_name table.text ∷ shapes_given alias ++ s)
source_with l table alias on s p =
    bind IsName (λ x next. IsGiven (λ y. IsOn 32 never l (λ z. next (made (is_left l) x y z)))) (SameName table) _ (shape_name table.text ∷ []) (shapes_given alias ++ s) (name_read table)
    (λ x e. bind IsGiven (λ y next. IsOn 32 never l (λ z. next (made (is_left l) x y z))) (SameGiven alias) _ (shapes_given alias) s (given_read alias)
    (λ y f. mapped (IsOn 32 never l) (λ z. made (is_left l) x y z) (SameCondition on) _ s p (λ z g. source_same (is_left l) table x alias y on z e f g)))

source_alone : (table : PlacedName) (alias : Option PlacedName) → Reading (IsSource 32 never link.Comma) (SameSource (made false table alias None)) (shape_name table.text ∷ shapes_given alias)
source_alone table alias = shaped _ _ _ _ (append-nil (shape_name table.text ∷ shapes_given alias)) (source_with link.Comma table alias None [] (pure (SameCondition None) None refl))

join_condition : (on : Test) → Fits false whole 32 on → Reading (IsJoinCondition 32 never) (SameCondition (Some on)) (word symbol.On ∷ shapes_test on)
join_condition on fits =
    and_then symbol.On (word symbol.On) stands_on (λ _ next. IsCondition false 32 never (λ cond. next (Some cond))) (SameCondition (Some on)) (shapes_test on)
    (λ _ _. mapped (IsCondition false 32 never) (λ cond. Some cond) (SameTest on) (SameCondition (Some on)) (shapes_test on) (fits_read false whole 32 on fits) (λ y e. ap (λ x. Some x) e))

abbrev joined_shapes : PlacedName → Option PlacedName → Test → List Shape
joined_shapes table alias on = shape_name table.text ∷ shapes_given alias ++ word symbol.On ∷ shapes_test on

-- the first source, and those after it
first_read : (s : Source) → s.on ≡ None → s.left ≡ false → Reading (IsSource 32 never link.Comma) (SameSource s) (shapes_source s)
unfolding shapes_source
first_read s alone inner =
    better (IsSource 32 never link.Comma) (SameSource (made false s.table s.alias None)) (SameSource s) (shape_name s.table.text ∷ shapes_given s.alias)
    (λ y e. e ∙ ap (λ x. unplaced_source (made false s.table s.alias x)) (sym alone) ∙ ap (λ x. unplaced_source (made x s.table s.alias s.on)) (sym inner)) (source_alone s.table s.alias)

abbrev Commas : Type 0 → Lang Source
Commas C next = Is (is symbol.Comma) (λ _ ts. C × IsSource 32 never link.Comma next ts)

abbrev Joins : Link → Type 0 → Lang Source
Joins l C next = Is (is symbol.Join) (λ _ ts. C × IsSource 32 never l next ts)

abbrev Inners : Type 0 → Lang Source
Inners C next = Is (is symbol.Inner) (λ _. Joins link.Join C next)

abbrev Outers : Type 0 → Lang Source
Outers C next = IsOptional (is symbol.Outer) (λ _. Joins link.LeftJoin C next)

abbrev Lefts : Type 0 → Lang Source
Lefts C next = Is (is symbol.Left) (λ _. Outers C next)

join_read : (l : Link) (C : Type 0) → C → (table : PlacedName) (alias : Option PlacedName) (on : Test) → Reading (IsOn 32 never l) (SameCondition (Some on)) (word symbol.On ∷ shapes_test on)
    → Reading (Joins l C) (SameSource (made (is_left l) table alias (Some on))) (word symbol.Join ∷ joined_shapes table alias on)
join_read l C c table alias on p =
    and_then symbol.Join (word symbol.Join) stands_join (λ _ next ts. C × IsSource 32 never l next ts) _ (joined_shapes table alias on)
    (λ _ _. given (IsSource 32 never l) _ _ C c (source_with l table alias (Some on) (word symbol.On ∷ shapes_test on) p))

outer_read : (C : Type 0) → C → (table : PlacedName) (alias : Option PlacedName) (on : Test) → Fits false whole 32 on → Reading (Outers C) (SameSource (made true table alias (Some on))) (word symbol.Join ∷ joined_shapes table alias on)
outer_read C c table alias on fits =
    bind (IsOptional (is symbol.Outer)) (λ _. Joins link.LeftJoin C) (λ _. Unit {0}) (SameSource (made true table alias (Some on))) [] (word symbol.Join ∷ joined_shapes table alias on)
    (left (λ next. next None) (λ next. Is (is symbol.Outer) (λ t. next (Some t))) (λ _. Unit {0}) [] (pure (λ _. Unit {0}) None tt))
    (λ _ _. join_read link.LeftJoin C c table alias on (join_condition on fits))

further_with : (table : PlacedName) (alias : Option PlacedName) (on : Option Test) (outer : Bool) → Where (Fits false whole 32) on → (on ≡ None → outer ≡ false)
    → Entry IsLink (IsSource 32 never) (SameSource (made outer table alias on)) (shapes_further on (made outer table alias on))
unfolding shapes_source
further_with table alias None true fits unjoined C c = absurd (let bad = unjoined refl in cc bad)
further_with table alias None false fits unjoined C c =
    left (Commas C) (λ next ts. Joins link.Join C next ts ⊎ Inners C next ts ⊎ Lefts C next ts) _ (sign symbol.Comma ∷ shape_name table.text ∷ shapes_given alias)
    (and_then symbol.Comma (sign symbol.Comma) stands_comma (λ _ next ts. C × IsSource 32 never link.Comma next ts) _ (shape_name table.text ∷ shapes_given alias)
    (λ _ _. given (IsSource 32 never link.Comma) _ _ C c (source_alone table alias)))
further_with table alias (Some on) false fits unjoined C c =
    right (Commas C) (λ next ts. Joins link.Join C next ts ⊎ Inners C next ts ⊎ Lefts C next ts) _ _
    (left (Joins link.Join C) (λ next ts. Inners C next ts ⊎ Lefts C next ts) _ (word symbol.Join ∷ joined_shapes table alias on) (join_read link.Join C c table alias on (join_condition on fits)))
further_with table alias (Some on) true fits unjoined C c =
    right (Commas C) (λ next ts. Joins link.Join C next ts ⊎ Inners C next ts ⊎ Lefts C next ts) _ _
    (right (Joins link.Join C) (λ next ts. Inners C next ts ⊎ Lefts C next ts) _ _ (right (Inners C) (Lefts C) _ (word symbol.Left ∷ word symbol.Join ∷ joined_shapes table alias on)
    (and_then symbol.Left (word symbol.Left) stands_left (λ _. Outers C) _ (word symbol.Join ∷ joined_shapes table alias on) (λ _ _. outer_read C c table alias on fits))))

pub sources_read : (sources : List Source) → ValidList 64 ValidSource sources → Unjoined sources → Reading (IsSources 32 never) (SameSources sources) (shapes_sources sources)
sources_read [] valid alone = let some = valid.some in absurd (omega arith)
sources_read (first ∷ others) valid alone =
    bind (IsSource 32 never link.Comma) (λ x. IsFurther never 64 IsLink (IsSource 32 never) (x ∷ [])) (SameSource first) (SameSources (first ∷ others)) (shapes_source first) (flat_map (λ s. shapes_further s.on s) others) (first_read first alone (valid.each.0.unjoined alone))
    (λ x same front e.
    let most = valid.within in
    let r = more_read 64 IsLink (IsSource 32 never) unplaced_source (λ s. shapes_further s.on s) (x ∷ []) others
    (each ValidSource (λ s. Entry IsLink (IsSource 32 never) (SameSource s) (shapes_further s.on s)) (λ s v. further_with s.table s.alias s.on s.left v.on v.unjoined) others valid.each.1)
    (omega arith) (length others) refl (unplaced_source first ∷ []) (ap (λ y. y ∷ []) same) front e in
    record { value = r.value; good = r.good; reads = λ next w n. (length others, r.reads next w n) })

-- [ WHERE cond ] and [ HAVING cond ]
abbrev Conditioned : Symbol → Bool → Lang (Option Test)
Conditioned s grouped next = Is (is s) (λ _. IsCondition grouped 32 never (λ cond. next (Some cond)))

condition_read : (s : Symbol) (stands : Stands s (word s)) (grouped : Bool) (cond : Option Test) → Where (Fits grouped whole 32) cond
    → Reading (λ next ts. next None ts ⊎ Conditioned s grouped next ts) (SameCondition cond) (shapes_condition (word s) cond)
condition_read s stands grouped None fits = left (λ next. next None) (Conditioned s grouped) _ [] (pure (SameCondition None) None refl)
condition_read s stands grouped (Some cond) fits =
    right (λ next. next None) (Conditioned s grouped) _ (word s ∷ shapes_test cond)
    (and_then s (word s) stands (λ _ next. IsCondition grouped 32 never (λ c. next (Some c))) (SameCondition (Some cond)) (shapes_test cond)
    (λ _ _. mapped (IsCondition grouped 32 never) (λ c. Some c) (SameTest cond) (SameCondition (Some cond)) (shapes_test cond) (fits_read grouped whole 32 cond fits) (λ y e. ap (λ x. Some x) e)))

pub filter_read : (cond : Option Test) → Where (Fits false whole 32) cond → Reading (IsFilter 32 never) (SameCondition cond) (shapes_condition (word symbol.Where) cond)
filter_read cond fits = condition_read symbol.Where stands_where false cond fits

pub having_read : (cond : Option Test) → Where (Fits true whole 32) cond → Reading (IsHaving 32 never) (SameCondition cond) (shapes_condition (word symbol.Having) cond)
having_read cond fits = condition_read symbol.Having stands_having true cond fits

-- [ GROUP BY column { "," column } ] and [ ORDER BY key { "," key } ]
abbrev By : {A : Type 0} → Symbol → Lang A → Lang (List A)
By s P next = Is (is s) (λ _. Is (is symbol.By) (λ _. IsList never 64 P (is symbol.Comma) next))

part_read : {A B : Type 0} (s : Symbol) (stands : Stands s (word s)) (P : Lang A) (u : A → B) (f : A → List Shape) (V : A → Type 0) → ((x : A) → V x → Reading P (λ y. u y ≡ u x) (f x)) → (xs : List A) → ValidPart 64 V xs
    → Reading (λ next ts. next [] ts ⊎ By s P next ts) (λ r. map u r ≡ map u xs) (shapes_list (word s ∷ word symbol.By ∷ []) f xs)
part_read s stands P u f V entry [] valid = left (λ next. next []) (By s P) _ [] (pure _ [] refl)
part_read s stands P u f V entry (x ∷ xs) valid =
    right (λ next. next []) (By s P) _ (word s ∷ word symbol.By ∷ between (sign symbol.Comma) (map f (x ∷ xs)))
    (and_then s (word s) stands (λ _ next. Is (is symbol.By) (λ _. IsList never 64 P (is symbol.Comma) next)) _ (word symbol.By ∷ between (sign symbol.Comma) (map f (x ∷ xs)))
    (λ _ _. and_then symbol.By (word symbol.By) stands_by (λ _ next. IsList never 64 P (is symbol.Comma) next) _ (between (sign symbol.Comma) (map f (x ∷ xs)))
    (λ _ _. list_of 64 P symbol.Comma (sign symbol.Comma) stands_comma u f V entry (x ∷ xs) (omega arith) valid.within valid.each)))

pub groups_read : (groups : List ColumnName) → ValidPart 64 ValidColumn groups → Reading (IsGroups never) (SameColumns groups) (shapes_list (word symbol.Group ∷ word symbol.By ∷ []) shapes_column groups)
groups_read groups valid = part_read symbol.Group stands_group IsColumn unplaced_column shapes_column ValidColumn (λ c _. column_read c) groups valid

direction_read : (descending : Bool) → Reading IsDirection (λ y. y ≡ descending) (if descending then word symbol.Desc ∷ [] else [])
direction_read false = left (λ next. next false) (λ next ts. Is (is symbol.Asc) (λ _. next false) ts ⊎ Is (is symbol.Desc) (λ _. next true) ts) _ [] (pure _ false refl)
direction_read true =
    right (λ next. next false) (λ next ts. Is (is symbol.Asc) (λ _. next false) ts ⊎ Is (is symbol.Desc) (λ _. next true) ts) _ (word symbol.Desc ∷ [])
    (right (λ next. Is (is symbol.Asc) (λ _. next false)) (λ next. Is (is symbol.Desc) (λ _. next true)) _ (word symbol.Desc ∷ [])
    (and_then symbol.Desc (word symbol.Desc) stands_desc (λ _ next. next true) _ [] (λ _ _. pure _ true refl)))

key_read : (key : OrderItem) → Reading IsKey (SameKey key) (shapes_key key)
unfolding shapes_key
key_read key =
    bind IsExpr (λ e next. IsDirection (λ down. next (record { expr = e; descending = down }))) (SameExpr key.expr) (SameKey key) (shapes_expr key.expr) (if key.descending then word symbol.Desc ∷ [] else []) (expr_read key.expr)
    (λ e f. mapped IsDirection (λ down. record { expr = e; descending = down }) (λ y. y ≡ key.descending) (SameKey key) _ (direction_read key.descending)
    (λ down g. ap (λ x. record { expr = x; descending = down }) f ∙ ap (λ x. record { expr = unplaced_expr key.expr; descending = x }) g))

pub orders_read : (orders : List OrderItem) → ValidPart 64 (λ key. ValidExpr key.expr) orders → Reading (IsOrders never) (SameKeys orders) (shapes_list (word symbol.Order ∷ word symbol.By ∷ []) shapes_key orders)
orders_read orders valid = part_read symbol.Order stands_order IsKey unplaced_key shapes_key (λ key. ValidExpr key.expr) (λ key _. key_read key) orders valid
