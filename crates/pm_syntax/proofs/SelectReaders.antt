-- The productions of the parts of a statement, and of a whole one.
use Rattle.std.proofs.Common.{◌≡◌, ℕ, true, false, List, [], ◌∷◌, length, Ok, Option, Some, None, refl, inl, inr, is_some, arith}
use Rattle.pm_lexer.specs.declared.token.Token.{Token}
use Rattle.pm_lexer.specs.declared.symbol.Symbol.{Symbol}
use Rattle.pm_lexer.specs.declared.symbol.Symbol.TheVariants as symbol
use Rattle.pm_lexer.specs.Symbol.{same_symbol, is}
use Rattle.pm_grammar.specs.Language.{Gate, Is, IsFurther, IsList, IsOptional}
use Rattle.pm_grammar.specs.Reading.{Read, ◌>>=◌, token_at, named, optional_at}
use Rattle.pm_grammar.specs.declared.names.PlacedName.{PlacedName}
use Rattle.pm_grammar.proofs.Phrases.{Phrase, Next, Reader, Nothing, Began}
use Rattle.pm_grammar.proofs.Readers.{Then, Or, Same, then_law, then_began}
use Rattle.pm_grammar.proofs.Lists.{Peek, Further, further_able, more_clear}
use Rattle.pm_grammar.proofs.Furthers.{Parts, further_law}
use Rattle.pm_grammar.proofs.Sets.{AnyOf, none_other, within, disjoint}
use Rattle.pm_syntax.specs.declared.tree.ColumnName.{ColumnName}
use Rattle.pm_syntax.specs.declared.tree.Expr.{Expr}
use Rattle.pm_syntax.specs.declared.tree.Item.{Item}
use Rattle.pm_syntax.specs.declared.tree.Items.{Items}
use Rattle.pm_syntax.specs.declared.tree.Items.TheVariants as items
use Rattle.pm_syntax.specs.declared.tree.Source.{Source}
use Rattle.pm_syntax.specs.declared.tree.Link.{Link}
use Rattle.pm_syntax.specs.declared.tree.Link.TheVariants as link
use Rattle.pm_syntax.specs.declared.tree.Test.{Test}
use Rattle.pm_syntax.specs.declared.tree.OrderItem.{OrderItem}
use Rattle.pm_syntax.specs.declared.tree.Select.{Select}
use Rattle.pm_syntax.specs.Terminals.{begins_link}
use Rattle.pm_syntax.specs.Grammar.{IsName, IsExpr, IsGiven, IsItem, IsItems, IsLink, IsJoinCondition, IsOn, is_left, IsSource, IsSources, IsFilter, IsGroups, IsHaving, IsDirection, IsKey, IsOrders, IsSelect}
use Rattle.pm_syntax.specs.Reading.{given_at, item_at, items_at, link_at, join_condition_at, on_at, source_at, more_sources_at, sources_at, where_at, having_at, groups_at, direction_at, key_at, orders_at, select_at}
use Rattle.pm_grammar.proofs.Productions.{Production, begins_of, done, symbol_then, mapped, followed, maybe_followed, wider, looser, same, choose, after, optional, may, list, peeks, reversed}
use Rattle.pm_syntax.proofs.ExprReaders.{names, columns, column_began, exprs, expr_began, one_of_four, four_of_one}
use Rattle.pm_syntax.proofs.PartReaders.{Conds, cond_ends, conditions}

-- a list whose entries begin with names
name_peeks : {A : Type 0} {ends : List Symbol} {P : Phrase A} {d : ℕ} {p : List Token → Read A} → Production false (symbol.Name ∷ []) ends P d p → ((t : Token) → is symbol.Name t ≡ true → Began P d [] (t ∷ [])) → Peek (AnyOf ends) P d (token_at (is symbol.Name))
name_peeks first began = peeks (is symbol.Name) (λ t e. inl e) (λ t h. elim h [ inl e ↦ e | inr none ↦ absurd none ]) first (λ t h. elim h [ inl e ↦ began t e | inr none ↦ absurd none ])

-- [ [ AS ] name ]
abbrev Named : Phrase (Option PlacedName)
Named _ _ next = IsName (λ name. next (Some name))

abbrev pub given_symbols : List Symbol
given_symbols = symbol.As ∷ symbol.Name ∷ []

givens : (d : ℕ) → Production true given_symbols given_symbols (λ _ _. IsGiven) d given_at
unfolding given_at same_symbol
givens d =
    same (reversed (Then (λ _ _. Is (is symbol.As)) (λ _. Named)) Named (λ _ _ next. next None))
    (after symbol.As refl (mapped {P = λ _ _. IsName} (λ name. Some name) (names {ends = given_symbols} d)) (choose symbol.Name (mapped {P = λ _ _. IsName} (λ name. Some name) (names d)) (done None) refl refl) refl refl)

-- item = expr [ [ AS ] name ]
abbrev pub item_ends : List Symbol
item_ends = symbol.Point ∷ symbol.Open ∷ given_symbols

abbrev Given : Expr → Phrase Item
Given e _ _ next = IsGiven (λ given. next (record { expr = e; given = given }))

pub item_list : (d : ℕ) → Production false (symbol.Name ∷ []) item_ends (λ _ _. IsItem) d item_at
unfolding item_at same_symbol
item_list d =
    followed {P = λ _ _. IsExpr} {Q = Given} _ (exprs d) (λ e. mapped {P = λ _ _. IsGiven} (λ given. record { expr = e; given = given }) (wider given_symbols item_ends refl (givens d))) refl refl

item_began : (t : Token) → is symbol.Name t ≡ true → (d : ℕ) → Began (λ _ _. IsItem) d [] (t ∷ [])
item_began t e d = then_began {Q = Given} (λ a. record { more = []; value = record { expr = a; given = None }; ends = λ d' g next v le o h. inl h }) (expr_began t e d)

all_items : (d : ℕ) → Production false (symbol.Star ∷ symbol.Name ∷ []) (symbol.Comma ∷ item_ends) (λ _ g. IsItems g) d items_at
unfolding items_at same_symbol
all_items d =
    choose symbol.Star (symbol_then symbol.Star refl (λ star. done (items.All star.at)))
    (mapped {P = λ _ g. IsList g 64 IsItem (is symbol.Comma)} (λ list. items.List list) (list symbol.Comma refl 64 (item_list d) (name_peeks (item_list d) (λ t e. item_began t e d)) refl)) refl refl

-- "," | [ INNER ] JOIN | LEFT [ OUTER ] JOIN
abbrev Joined : Link → Phrase Link
Joined l _ _ next = Is (is symbol.Join) (λ _. next l)

abbrev Outer : Phrase Link
Outer _ _ next = IsOptional (is symbol.Outer) (λ _. Is (is symbol.Join) (λ _. next link.LeftJoin))

joined : {ends : List Symbol} (l : Link) (d : ℕ) → Production false (symbol.Join ∷ []) ends (Joined l) d (λ ts. token_at (is symbol.Join) ts >>= λ join. Ok (l, join.1))
unfolding same_symbol
joined l d = symbol_then symbol.Join refl (λ _. done l)

link_same : Same (Or (Then (λ _ _. Is (is symbol.Comma)) (λ _ _ _ next. next link.Comma)) (Or (Then (λ _ _. Is (is symbol.Inner)) (λ _. Joined link.Join)) (Or (Then (λ _ _. Is (is symbol.Left)) (λ _. Outer)) (Joined link.Join)))) (λ _ _. IsLink)
link_same = record {
  to = λ d g next ts h. elim h [ inl c ↦ inl c | inr o ↦ elim o [ inl i ↦ inr (inr (inl i)) | inr p ↦ elim p [ inl l ↦ inr (inr (inr l)) | inr j ↦ inr (inl j) ] ] ];
  from = λ d g next ts h. elim h [ inl c ↦ inl c | inr o ↦ elim o [ inl j ↦ inr (inr (inr j)) | inr p ↦ elim p [ inl i ↦ inr (inl i) | inr l ↦ inr (inr (inl l)) ] ] ];
}

abbrev pub link_firsts : List Symbol
link_firsts = symbol.Comma ∷ symbol.Inner ∷ symbol.Left ∷ symbol.Join ∷ []

pub links : {ends : List Symbol} (d : ℕ) → Production false link_firsts ends (λ _ _. IsLink) d link_at
unfolding link_at same_symbol
links {ends} d =
    same link_same (after symbol.Comma refl (done link.Comma) (after symbol.Inner refl (joined link.Join d)
    (after symbol.Left refl (maybe_followed {P = λ _ _. IsOptional (is symbol.Outer)} {Q = λ _. Joined link.LeftJoin} (λ outer. token_at (is symbol.Join) outer.1 >>= λ join. Ok (link.LeftJoin, join.1)) (may symbol.Outer refl) (λ _. joined link.LeftJoin d) refl refl)
    (joined link.Join d) refl refl) refl refl) refl refl)

abbrev link_starts : List Symbol
link_starts = symbol.Comma ∷ symbol.Join ∷ symbol.Inner ∷ symbol.Left ∷ []

link_first : (t : Token) → begins_link t ≡ true → AnyOf link_starts t
link_first t e = one_of_four (is symbol.Comma t) (is symbol.Join t) (is symbol.Inner t) (is symbol.Left t) e

first_link : (t : Token) → AnyOf link_firsts t → begins_link t ≡ true
unfolding same_symbol
first_link t h = four_of_one (is symbol.Comma t) (is symbol.Join t) (is symbol.Inner t) (is symbol.Left t) (within link_firsts link_starts refl t h)

-- source = name [ [ AS ] name ], with its condition
abbrev pub source_ends : List Symbol
source_ends = symbol.Point ∷ symbol.Open ∷ symbol.And ∷ symbol.Or ∷ given_symbols

abbrev On : Link → Phrase (Option Test)
On l d g = IsOn d g l

join_conditions : (d : ℕ) → Production false (symbol.On ∷ []) source_ends IsJoinCondition d (join_condition_at d)
unfolding join_condition_at same_symbol
join_conditions d = symbol_then symbol.On refl (λ _. mapped {P = Conds false} (λ cond. Some cond) (wider cond_ends source_ends refl (conditions false d)))

ons : (l : Link) (d : ℕ) → Production true (symbol.On ∷ []) source_ends (On l) d (on_at d l)
unfolding on_at same_symbol
ons link.Comma d = looser [] (symbol.On ∷ []) refl (done None)
ons link.Join d = looser (symbol.On ∷ []) (symbol.On ∷ []) refl (join_conditions d)
ons link.LeftJoin d = looser (symbol.On ∷ []) (symbol.On ∷ []) refl (join_conditions d)

abbrev made_source : Link → PlacedName → Option PlacedName → Option Test → Source
made_source l table alias on = record { table = table; alias = alias; on = on; left = is_left l }

abbrev Linked : Link → PlacedName → Option PlacedName → Phrase Source
Linked l table alias d g next = IsOn d g l (λ on. next (made_source l table alias on))

abbrev Aliased : Link → PlacedName → Phrase Source
Aliased l table d g next = IsGiven (λ alias. Linked l table alias d g next)

abbrev pub Sourced : Link → Phrase Source
Sourced l d g = IsSource d g l

pub sources : (l : Link) (d : ℕ) → Production false (symbol.Name ∷ []) source_ends (Sourced l) d (source_at d l)
unfolding source_at same_symbol
sources l d =
    followed {first_ends = []} {P = λ _ _. IsName} {Q = Aliased l} _ (names d)
    (λ table. maybe_followed {P = λ _ _. IsGiven} {Q = Linked l table} (λ alias. on_at d l alias.1 >>= λ on. Ok (made_source l table alias.0 on.0, on.1)) (givens d) (λ alias. mapped {P = On l} (λ on. made_source l table alias on) (ons l d)) refl refl) refl refl

source_began : (l : Link) (t : Token) → is symbol.Name t ≡ true → (d : ℕ) → Began (Sourced l) d [] (t ∷ [])
source_began l t e d =
    then_began {P = λ _ _. IsName} {Q = Aliased l} (λ table. then_began {P = λ _ _. IsGiven} {Q = Linked l table} (λ alias. (mapped {P = On l} (λ on. made_source l table alias on) (ons l d)).reads.able)
    (record { more = []; value = None; ends = λ d' g next v le o h. inl h }))
    (record { more = []; value = named t; ends = λ d' g next v le o h. (e, h) })

-- sources = source { "," source | [ INNER ] JOIN source ON cond | LEFT [ OUTER ] JOIN source ON cond }
abbrev pub sources_ends : List Symbol
sources_ends = symbol.Comma ∷ symbol.Join ∷ symbol.Inner ∷ symbol.Left ∷ source_ends

no_link : (d : ℕ) (g : Gate) (next : Next Link) (t : Token) (ts : List Token) → AnyOf source_ends t → IsLink next (t ∷ ts) → ⊥
unfolding same_symbol
no_link d g next t ts s h = disjoint link_firsts source_ends refl t (begins_of link_firsts (links {ends = []} d).leads d g next (t ∷ ts) h) s

pub source_parts : (d : ℕ) → Parts (AnyOf sources_ends) (AnyOf source_ends) (λ _ _. IsLink) Sourced begins_link link_at (token_at (is symbol.Name)) (source_at d) d
unfolding same_symbol
source_parts d = record {
  reads_sep = (links {ends = []} d).reads;
  no_sep = λ ts e d g next w heads h. none_other Nothing (λ _ _. IsLink) (AnyOf link_firsts) begins_link (begins_of link_firsts (links {ends = []} d).leads) first_link ts e d g next w (λ a t us s n. s) heads h;
  reads = λ l. (sources l d).reads;
  looks = λ l. name_peeks (sources l d) (λ t e. source_began l t e d);
  ends_list = λ t e. within link_starts sources_ends refl t (link_first t e);
  apart = no_link;
  within = λ t s. inr (inr (inr (inr s)));
}

source_list : (d : ℕ) → Production false (symbol.Name ∷ []) sources_ends IsSources d (sources_at d)
unfolding sources_at
source_list d =
    let k = source_parts d in
    let first = sources link.Comma d in
    record {
      reads = record {
        law = λ ts. then_law (AnyOf sources_ends) (AnyOf source_ends) (Sourced link.Comma) (λ a. Further 64 (λ _ _. IsLink) Sourced (a ∷ [])) d ts (source_at d link.Comma ts)
            (λ first. more_sources_at d (first.0 ∷ []) first.1) (first.reads.law ts)
            (λ a r e. further_law 64 k (length r) (a ∷ []) r (omega arith)) (λ a. further_able 64 _ _ (a ∷ []) d)
            (λ a d' g next avoids t us s h. more_clear (AnyOf sources_ends) (AnyOf source_ends) 64 (λ _ _. IsLink) Sourced [] (λ t s. inr (inr (inr (inr s)))) no_link h.0 a d' g next avoids t us s h.1);
        able = then_began (λ a. further_able 64 (λ _ _. IsLink) Sourced (a ∷ []) d) first.reads.able;
      };
      leads = λ d g next w h. inl (begins_of (symbol.Name ∷ []) (sources link.Comma d).leads d g (λ a. IsFurther g 64 IsLink (IsSource d g) (a ∷ []) next) w h);
    }

-- [ WHERE cond ] and [ HAVING cond ]
filters : (d : ℕ) → Production true (symbol.Where ∷ []) (symbol.Where ∷ cond_ends) IsFilter d (where_at d)
unfolding where_at same_symbol
filters d = optional symbol.Where refl None (mapped {P = Conds false} (λ cond. Some cond) (wider cond_ends (symbol.Where ∷ cond_ends) refl (conditions false d))) refl

havings : (d : ℕ) → Production true (symbol.Having ∷ []) (symbol.Having ∷ cond_ends) IsHaving d (having_at d)
unfolding having_at same_symbol
havings d = optional symbol.Having refl None (mapped {P = Conds true} (λ cond. Some cond) (wider cond_ends (symbol.Having ∷ cond_ends) refl (conditions true d))) refl

-- [ GROUP BY column { "," column } ]
abbrev group_ends : List Symbol
group_ends = symbol.Group ∷ symbol.Comma ∷ symbol.Point ∷ []

groups : (d : ℕ) → Production true (symbol.Group ∷ []) group_ends (λ _ g. IsGroups g) d groups_at
unfolding groups_at same_symbol
groups d =
    optional symbol.Group refl [] (wider (symbol.Comma ∷ symbol.Point ∷ []) group_ends refl
    (symbol_then symbol.By refl (λ _. list symbol.Comma refl 64 (columns d) (name_peeks (columns d) (λ t e. column_began t e d)) refl))) refl

-- key = expr [ ASC | DESC ]
abbrev pub direction_symbols : List Symbol
direction_symbols = symbol.Desc ∷ symbol.Asc ∷ []

directions : (d : ℕ) → Production true direction_symbols direction_symbols (λ _ _. IsDirection) d direction_at
unfolding direction_at same_symbol
directions d =
    same (reversed (Then (λ _ _. Is (is symbol.Desc)) (λ _ _ _ next. next true)) (Then (λ _ _. Is (is symbol.Asc)) (λ _ _ _ next. next false)) (λ _ _ next. next false))
    (after symbol.Desc refl (done true) (after symbol.Asc refl (done false) (done false) refl refl) refl refl)

abbrev pub key_ends : List Symbol
key_ends = symbol.Point ∷ symbol.Open ∷ direction_symbols

abbrev Directed : Expr → Phrase OrderItem
Directed e _ _ next = IsDirection (λ descending. next (record { expr = e; descending = descending }))

pub keys : (d : ℕ) → Production false (symbol.Name ∷ []) key_ends (λ _ _. IsKey) d key_at
unfolding key_at same_symbol
keys d = followed {P = λ _ _. IsExpr} {Q = Directed} _ (exprs d) (λ e. mapped {P = λ _ _. IsDirection} (λ descending. record { expr = e; descending = descending }) (wider direction_symbols key_ends refl (directions d))) refl refl

key_began : (t : Token) → is symbol.Name t ≡ true → (d : ℕ) → Began (λ _ _. IsKey) d [] (t ∷ [])
key_began t e d = then_began {Q = Directed} (λ a. record { more = []; value = record { expr = a; descending = false }; ends = λ d' g next v le o h. inl h }) (expr_began t e d)

-- [ ORDER BY key { "," key } ]
abbrev order_ends : List Symbol
order_ends = symbol.Order ∷ symbol.Comma ∷ key_ends

orders : (d : ℕ) → Production true (symbol.Order ∷ []) order_ends (λ _ g. IsOrders g) d orders_at
unfolding orders_at same_symbol
orders d =
    optional symbol.Order refl [] (wider (symbol.Comma ∷ key_ends) order_ends refl
    (symbol_then symbol.By refl (λ _. list symbol.Comma refl 64 (keys d) (name_peeks (keys d) (λ t e. key_began t e d)) refl))) refl

-- the rest of a statement, part by part
abbrev Ending : Select → Phrase Select
Ending select _ _ next = IsOptional (is symbol.Semicolon) (λ _. Is (is symbol.End) (λ _. next select))

abbrev Ordered : (List OrderItem → Select) → Phrase Select
Ordered f d g next = IsOrders g (λ orders. Ending (f orders) d g next)

abbrev Having : (Option Test → List OrderItem → Select) → Phrase Select
Having f d g next = IsHaving d g (λ having. Ordered (f having) d g next)

abbrev Grouped : (List ColumnName → Option Test → List OrderItem → Select) → Phrase Select
Grouped f d g next = IsGroups g (λ groups. Having (f groups) d g next)

abbrev Filtered : (Option Test → List ColumnName → Option Test → List OrderItem → Select) → Phrase Select
Filtered f d g next = IsFilter d g (λ filter. Grouped (f filter) d g next)

-- and their readings
abbrev ending_at : Select → List Token → Read Select
ending_at s ts = let semicolon = optional_at (is symbol.Semicolon) ts in token_at (is symbol.End) semicolon.1 >>= λ end. Ok (s, end.1)

abbrev ordered_at : (List OrderItem → Select) → List Token → Read Select
ordered_at f ts = orders_at ts >>= λ orders. ending_at (f orders.0) orders.1

abbrev having_and : ℕ → (Option Test → List OrderItem → Select) → List Token → Read Select
having_and d f ts = having_at d ts >>= λ having. ordered_at (f having.0) having.1

abbrev grouped_at : ℕ → (List ColumnName → Option Test → List OrderItem → Select) → List Token → Read Select
grouped_at d f ts = groups_at ts >>= λ groups. having_and d (f groups.0) groups.1

abbrev filtered_at : ℕ → (Option Test → List ColumnName → Option Test → List OrderItem → Select) → List Token → Read Select
filtered_at d f ts = where_at d ts >>= λ filter. grouped_at d (f filter.0) filter.1

ending : (s : Select) (d : ℕ) → Production false (symbol.Semicolon ∷ symbol.End ∷ []) [] (Ending s) d (ending_at s)
unfolding same_symbol
ending s d =
    maybe_followed {P = λ _ _. IsOptional (is symbol.Semicolon)} {Q = λ _ _ _ next. Is (is symbol.End) (λ _. next s)} (λ semicolon. token_at (is symbol.End) semicolon.1 >>= λ end. Ok (s, end.1))
    (may symbol.Semicolon refl) (λ _. symbol_then symbol.End refl (λ _. done s)) refl refl

ordered : (f : List OrderItem → Select) (d : ℕ) → Production false (symbol.Order ∷ symbol.Semicolon ∷ symbol.End ∷ []) [] (Ordered f) d (ordered_at f)
unfolding same_symbol
ordered f d = maybe_followed {P = λ _ g. IsOrders g} {Q = λ orders. Ending (f orders)} (λ orders. ending_at (f orders.0) orders.1) (orders d) (λ orders. ending (f orders) d) refl refl

had : (f : Option Test → List OrderItem → Select) (d : ℕ) → Production false (symbol.Having ∷ symbol.Order ∷ symbol.Semicolon ∷ symbol.End ∷ []) [] (Having f) d (having_and d f)
unfolding same_symbol
had f d = maybe_followed {P = IsHaving} {Q = λ having. Ordered (f having)} (λ having. ordered_at (f having.0) having.1) (havings d) (λ having. ordered (f having) d) refl refl

grouped : (f : List ColumnName → Option Test → List OrderItem → Select) (d : ℕ) → Production false (symbol.Group ∷ symbol.Having ∷ symbol.Order ∷ symbol.Semicolon ∷ symbol.End ∷ []) [] (Grouped f) d (grouped_at d f)
unfolding same_symbol
grouped f d = maybe_followed {P = λ _ g. IsGroups g} {Q = λ groups. Having (f groups)} (λ groups. having_and d (f groups.0) groups.1) (groups d) (λ groups. had (f groups) d) refl refl

abbrev tail_firsts : List Symbol
tail_firsts = symbol.Where ∷ symbol.Group ∷ symbol.Having ∷ symbol.Order ∷ symbol.Semicolon ∷ symbol.End ∷ []

filtered : (f : Option Test → List ColumnName → Option Test → List OrderItem → Select) (d : ℕ) → Production false tail_firsts [] (Filtered f) d (filtered_at d f)
unfolding same_symbol
filtered f d = maybe_followed {P = IsFilter} {Q = λ filter. Grouped (f filter)} (λ filter. grouped_at d (f filter.0) filter.1) (filters d) (λ filter. grouped (f filter) d) refl refl

-- select = SELECT [ DISTINCT ] items FROM sources ..
abbrev made : Option Token → Items → List Source → Option Test → List ColumnName → Option Test → List OrderItem → Select
made distinct items sources filter groups having orders = record { distinct = is_some distinct; items = items; sources = sources; filter = filter; groups = groups; having = having; orders = orders }

abbrev AfterItems : Option Token → Items → Phrase Select
AfterItems distinct items d g next = Is (is symbol.From) (λ _. IsSources d g (λ sources. Filtered (made distinct items sources) d g next))

abbrev after_items_at : ℕ → Option Token → Items × List Token → Read Select
after_items_at d distinct items = token_at (is symbol.From) items.1 >>= λ from. sources_at d from.1 >>= λ sources. filtered_at d (made distinct items.0 sources.0) sources.1

abbrev AfterDistinct : Option Token → Phrase Select
AfterDistinct distinct d g next = IsItems g (λ items. AfterItems distinct items d g next)

abbrev after_distinct_at : ℕ → Option Token × List Token → Read Select
after_distinct_at d distinct = items_at distinct.1 >>= λ items. after_items_at d distinct.0 items

selects : (d : ℕ) → Production false (symbol.Select ∷ []) [] IsSelect d (select_at d)
unfolding select_at same_symbol
selects d =
    symbol_then symbol.Select refl (λ _.
    maybe_followed {P = λ _ _. IsOptional (is symbol.Distinct)} {Q = AfterDistinct} (after_distinct_at d) (may symbol.Distinct refl)
    (λ distinct. followed {P = λ _ g. IsItems g} {Q = AfterItems distinct} (after_items_at d distinct) (all_items d)
    (λ items. symbol_then symbol.From refl (λ _. followed {P = IsSources} {Q = λ sources. Filtered (made distinct items sources)} (λ sources. filtered_at d (made distinct items sources.0) sources.1) (source_list d) (λ sources. filtered (made distinct items sources) d) refl refl))
    refl refl) refl refl)

pub select_reader : (d : ℕ) → Reader Nothing IsSelect d (select_at d)
select_reader d = (selects d).reads
