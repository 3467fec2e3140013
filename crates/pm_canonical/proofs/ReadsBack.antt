-- Tokens of the shapes of a statement are read as that statement.
use Rattle.std.proofs.Common.{◌≡◌, List, [], ◌∷◌, ◌++◌, map, Option, Some, None, is_some, if◌then◌else◌, refl, sym, ◌∙◌}
use Rattle.std.proofs.lemmas.List.{append_assoc, append-nil}
use Rattle.pm_lexer.specs.declared.token.Token.{Token}
use Rattle.pm_lexer.specs.declared.symbol.Symbol.TheVariants as symbol
use Rattle.pm_lexer.specs.Symbol.{is, same_symbol}
use Rattle.pm_grammar.specs.Language.{Lang, Is, never}
use Rattle.pm_syntax.specs.declared.tree.ColumnName.{ColumnName}
use Rattle.pm_syntax.specs.declared.tree.Items.{Items}
use Rattle.pm_syntax.specs.declared.tree.Source.{Source}
use Rattle.pm_syntax.specs.declared.tree.Test.{Test}
use Rattle.pm_syntax.specs.declared.tree.OrderItem.{OrderItem}
use Rattle.pm_syntax.specs.declared.tree.Select.{Select}
use Rattle.pm_grammar.specs.Language.{IsOptional}
use Rattle.pm_syntax.specs.Grammar.{IsItems, IsSources, IsFilter, IsGroups, IsHaving, IsOrders, IsSelect}
use Rattle.pm_syntax.specs.Statement.{Reads}
use Rattle.pm_canonical.proofs.Shapes.{Shape, shape_of, end_shape, word, shapes_column, shapes_items, shapes_sources, shapes_condition, shapes_list, shapes_key, shapes_select}
use Rattle.pm_syntax.specs.Same.{unplaced, SameStatement}
use Rattle.pm_canonical.proofs.Valid.{Valid}
use Rattle.pm_canonical.proofs.Combinators.{Whole, Reading, Stands, passes, pure, left, bind, and_then}
use Rattle.pm_canonical.proofs.Standing.{stands_select, stands_distinct, stands_from}
use Rattle.pm_canonical.proofs.LeafReadings.{optional_read}
use Rattle.pm_canonical.proofs.PartsReadings.{SameItems, SameSources, SameCondition, SameColumns, SameKeys, items_read, sources_read, filter_read, groups_read, having_read, orders_read}

-- a statement by its parts, and the languages of its last parts
abbrev built : Option Token → Items → List Source → Option Test → List ColumnName → Option Test → List OrderItem → Select
built distinct items sources filter groups having orders =
    record { distinct = is_some distinct; items = items; sources = sources; filter = filter; groups = groups; having = having; orders = orders }

abbrev Ended : Select → Lang Select
Ended s next = IsOptional (is symbol.Semicolon) (λ _. Is (is symbol.End) (λ _. next s))

abbrev Ordered : (List OrderItem → Select) → Lang Select
Ordered f next = IsOrders never (λ x. Ended (f x) next)

abbrev Had : (Option Test → List OrderItem → Select) → Lang Select
Had f next = IsHaving 32 never (λ x. Ordered (f x) next)

abbrev Grouped : (List ColumnName → Option Test → List OrderItem → Select) → Lang Select
Grouped f next = IsGroups never (λ x. Had (f x) next)

abbrev Filtered : (Option Test → List ColumnName → Option Test → List OrderItem → Select) → Lang Select
Filtered f next = IsFilter 32 never (λ x. Grouped (f x) next)

abbrev Sourced : (List Source → Option Test → List ColumnName → Option Test → List OrderItem → Select) → Lang Select
Sourced f next = IsSources 32 never (λ x. Filtered (f x) next)

abbrev Itemed : (Items → List Source → Option Test → List ColumnName → Option Test → List OrderItem → Select) → Lang Select
Itemed f next = IsItems never (λ x. Is (is symbol.From) (λ _. Sourced (f x) next))

abbrev Same : Select → Select → Type 0
Same s y = unplaced y ≡ unplaced s

end_stands : Stands symbol.End end_shape
unfolding same_symbol
end_stands = refl

end_read : (s y : Select) → Same s y → Reading (Ended y) (Same s) (end_shape ∷ [])
end_read s y same =
    bind (IsOptional (is symbol.Semicolon)) (λ _ next. Is (is symbol.End) (λ _. next y)) (λ _. Unit {0}) (Same s) [] (end_shape ∷ [])
    (left (λ next. next None) (λ next. Is (is symbol.Semicolon) (λ t. next (Some t))) (λ _. Unit {0}) [] (pure (λ _. Unit {0}) None tt))
    (λ _ _. and_then symbol.End end_shape end_stands (λ _ next. next y) (Same s) [] (λ _ _. pure (Same s) y same))

-- statements whose parts agree
same_select : (s : Select) (distinct : Option Token) (items : Items) (sources : List Source) (filter : Option Test) (groups : List ColumnName) (having : Option Test) (orders : List OrderItem)
    → is_some distinct ≡ s.distinct → SameItems s.items items → SameSources s.sources sources → SameCondition s.filter filter → SameColumns s.groups groups → SameCondition s.having having → SameKeys s.orders orders
    → Same s (built distinct items sources filter groups having orders)
unfolding unplaced
same_select s distinct items sources filter groups having orders e1 e2 e3 e4 e5 e6 e7 = rw (e1, e2, e3, e4, e5, e6, e7) refl

abbrev tail_shapes : Select → List Shape
tail_shapes s =
    shapes_sources s.sources ++ (shapes_condition (word symbol.Where) s.filter ++ (shapes_list (word symbol.Group ∷ word symbol.By ∷ []) shapes_column s.groups
    ++ (shapes_condition (word symbol.Having) s.having ++ (shapes_list (word symbol.Order ∷ word symbol.By ∷ []) shapes_key s.orders ++ end_shape ∷ []))))

tail_read : (s : Select) → Valid s → (distinct : Option Token) (items : Items) → is_some distinct ≡ s.distinct → SameItems s.items items → Reading (Sourced (built distinct items)) (Same s) (tail_shapes s)
tail_read s valid distinct items e1 e2 =
    bind (IsSources 32 never) (λ x. Filtered (built distinct items x)) (SameSources s.sources) (Same s) _ _ (sources_read s.sources valid.sources valid.first)
    (λ sources e3. bind (IsFilter 32 never) (λ x. Grouped (built distinct items sources x)) (SameCondition s.filter) (Same s) _ _ (filter_read s.filter valid.filter)
    (λ filter e4. bind (IsGroups never) (λ x. Had (built distinct items sources filter x)) (SameColumns s.groups) (Same s) _ _ (groups_read s.groups valid.groups)
    (λ groups e5. bind (IsHaving 32 never) (λ x. Ordered (built distinct items sources filter groups x)) (SameCondition s.having) (Same s) _ _ (having_read s.having valid.having)
    (λ having e6. bind (IsOrders never) (λ x. Ended (built distinct items sources filter groups having x)) (SameKeys s.orders) (Same s) _ (end_shape ∷ []) (orders_read s.orders valid.orders)
    (λ orders e7. end_read s (built distinct items sources filter groups having orders) (same_select s distinct items sources filter groups having orders e1 e2 e3 e4 e5 e6 e7))))))

abbrev whole_shapes : Select → List Shape
whole_shapes s = word symbol.Select ∷ ((if s.distinct then word symbol.Distinct ∷ [] else []) ++ (shapes_items s.items ++ (word symbol.From ∷ tail_shapes s)))

whole_is : (s : Select) → whole_shapes s ≡ shapes_select s ++ end_shape ∷ []
unfolding shapes_select
whole_is s = simp append_assoc

whole_read : (s : Select) → Valid s → Reading (IsSelect 32 never) (Same s) (whole_shapes s)
whole_read s valid =
    and_then symbol.Select (word symbol.Select) stands_select (λ _ next. IsOptional (is symbol.Distinct) (λ d. Itemed (built d) next)) (Same s) _
    (λ _ _. bind (IsOptional (is symbol.Distinct)) (λ d. Itemed (built d)) (λ d. is_some d ≡ s.distinct) (Same s) (if s.distinct then word symbol.Distinct ∷ [] else []) _
    (optional_read (is symbol.Distinct) (word symbol.Distinct) (passes symbol.Distinct (word symbol.Distinct) stands_distinct) s.distinct)
    (λ d e1. bind (IsItems never) (λ x next. Is (is symbol.From) (λ _. Sourced (built d x) next)) (SameItems s.items) (Same s) (shapes_items s.items) (word symbol.From ∷ tail_shapes s) (items_read s.items valid.items)
    (λ x e2. and_then symbol.From (word symbol.From) stands_from (λ _ next. Sourced (built d x) next) (Same s) (tail_shapes s) (λ _ _. tail_read s valid d x e1 e2))))

-- what is read back
pub record Again (tokens : List Token) (s : Select) : Type 0 where
  pub select : Select
  pub reads : Reads tokens select
  pub same : SameStatement s select

pub reads_back : (s : Select) → Valid s → (tokens : List Token) → map shape_of tokens ≡ shapes_select s ++ end_shape ∷ [] → Again tokens s
reads_back s valid tokens e =
    let x = whole_read s valid tokens (e ∙ sym (whole_is s)) in
    record { select = x.value; reads = rw (append-nil tokens) at (x.reads (Whole x.value) [] (refl, refl)); same = sym x.good }
