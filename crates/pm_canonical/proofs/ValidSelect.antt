-- Statements that reading gives are valid.
use Rattle.std.proofs.Common.{◌≡◌, ◌⊎◌, suc, Bool, true, false, List, [], ◌∷◌, length, Option, Some, None, is_some, refl, sym, ap, subst, arith, length-append}
use Rattle.std.specs.List.{All}
use Rattle.pm_lexer.specs.declared.token.Token.{Token}
use Rattle.pm_lexer.specs.declared.symbol.Symbol.{Symbol}
use Rattle.pm_lexer.specs.declared.symbol.Symbol.TheVariants as symbol
use Rattle.pm_lexer.specs.Symbol.{is}
use Rattle.pm_grammar.specs.Language.{Lang, Is, IsFurther, IsList, never}
use Rattle.pm_syntax.specs.declared.tree.ColumnName.{ColumnName}
use Rattle.pm_syntax.specs.declared.tree.Items.{Items}
use Rattle.pm_syntax.specs.declared.tree.Items.TheVariants as items
use Rattle.pm_syntax.specs.declared.tree.Source.{Source}
use Rattle.pm_syntax.specs.declared.tree.Link.{Link}
use Rattle.pm_syntax.specs.declared.tree.Link.TheVariants as link
use Rattle.pm_grammar.specs.declared.names.PlacedName.{PlacedName}
use Rattle.pm_syntax.specs.declared.tree.Test.{Test}
use Rattle.pm_syntax.specs.declared.tree.OrderItem.{OrderItem}
use Rattle.pm_syntax.specs.declared.tree.Select.{Select}
use Rattle.pm_grammar.specs.Language.{IsOptional}
use Rattle.pm_syntax.specs.Grammar.{IsName, IsColumn, IsExpr, IsGiven, IsItem, IsItems, IsCondition, IsLink, IsJoinCondition, IsOn, is_left, IsSource, IsSources, IsFilter, IsGroups, IsHaving, IsDirection, IsKey, IsOrders, IsSelect}
use Rattle.pm_syntax.specs.Statement.{Reads}
use Rattle.pm_canonical.proofs.Combinators.{Whole}
use Rattle.pm_canonical.proofs.Valid.{Every, Where, ValidList, ValidPart, ValidPlaced, ValidColumn, ValidExpr, ValidItem, ValidItems, ValidSource, Unjoined, Fits, whole, Valid}
use Rattle.pm_canonical.proofs.Formed.{IsFormed}
use Rattle.pm_canonical.proofs.Sound.{Sound, Grown, sound, sound_bind, sound_map, sound_better, sound_after, sound_or, sound_further, sound_list}
use Rattle.pm_canonical.proofs.ValidReads.{sound_name, sound_column, sound_given, sound_expr, sound_optional}
use Rattle.pm_canonical.proofs.ValidTests.{sound_condition}

abbrev Nothing : {A : Type 0} → A → Type 0
Nothing x = Unit {0}

sound_item : Sound IsItem ValidItem
sound_item =
    sound_bind IsExpr (λ e next. IsGiven (λ name. next (record { expr = e; given = name }))) ValidExpr ValidItem sound_expr
    (λ e ev. sound_map IsGiven (λ name. record { expr = e; given = name }) (Where ValidPlaced) ValidItem sound_given (λ name v. record { expr = ev; given = v }))

sound_items : Sound (IsItems never) ValidItems
sound_items =
    sound_or (λ next. Is (is symbol.Star) (λ star. next (items.All star.at))) (λ next. IsList never 64 IsItem (is symbol.Comma) (λ list. next (items.List list))) ValidItems
    (sound_after (is symbol.Star) (λ star next. next (items.All star.at)) ValidItems (λ star _ _. sound ValidItems (items.All star.at) tt))
    (sound_map (IsList never 64 IsItem (is symbol.Comma)) (λ list. items.List list) (ValidList 64 ValidItem) ValidItems (sound_list 64 IsItem (is symbol.Comma) ValidItem (omega arith) sound_item) (λ list v. v))

-- sources: the first has no condition
record ValidOn (l : Link) (on : Option Test) : Type 0 where
  fits : Where (Fits false whole 32) on
  alone : l ≡ link.Comma → on ≡ None
  unjoined : on ≡ None → is_left l ≡ false

sound_condition_of : (l : Link) → (l ≡ link.Comma → ⊥) → Sound (IsJoinCondition 32 never) (ValidOn l)
sound_condition_of l joins =
    sound_after (is symbol.On) (λ _ next. IsCondition false 32 never (λ cond. next (Some cond))) (ValidOn l)
    (λ _ _ _. sound_map (IsCondition false 32 never) (λ cond. Some cond) (Fits false whole 32) (ValidOn l) (sound_condition false 32)
    (λ cond fits. record { fits = fits; alone = λ e. absurd (joins e); unjoined = λ e. absurd (cc e) }))

sound_on : (l : Link) → Sound (IsOn 32 never l) (ValidOn l)
sound_on link.Comma = sound (ValidOn link.Comma) None (record { fits = tt; alone = λ _. refl; unjoined = λ _. refl })
sound_on link.Join = sound_condition_of link.Join (λ e. cc e)
sound_on link.LeftJoin = sound_condition_of link.LeftJoin (λ e. cc e)

record ValidLinked (l : Link) (s : Source) : Type 0 where
  source : ValidSource s
  alone : l ≡ link.Comma → s.on ≡ None

abbrev made : Link → PlacedName → Option PlacedName → Option Test → Source
made l table alias on = record { table = table; alias = alias; on = on; left = is_left l }

sound_source : (l : Link) → Sound (IsSource 32 never l) (ValidLinked l)
sound_source l =
    sound_bind IsName (λ table next. IsGiven (λ alias. IsOn 32 never l (λ on. next (made l table alias on)))) ValidPlaced (ValidLinked l) sound_name
    (λ table tv. sound_bind IsGiven (λ alias next. IsOn 32 never l (λ on. next (made l table alias on))) (Where ValidPlaced) (ValidLinked l) sound_given
    (λ alias av. sound_map (IsOn 32 never l) (λ on. made l table alias on) (ValidOn l) (ValidLinked l) (sound_on l)
    (λ on v. record { source = record { table = tv; alias = av; on = v.fits; unjoined = v.unjoined }; alone = v.alone })))

sound_join : (l : Link) → Sound (λ next. Is (is symbol.Join) (λ _. next l)) Nothing
sound_join l = sound_after (is symbol.Join) (λ _ next. next l) Nothing (λ _ _ _. sound Nothing l tt)

sound_outer : Sound (λ next. IsOptional (is symbol.Outer) (λ _. Is (is symbol.Join) (λ _. next link.LeftJoin))) Nothing
sound_outer = sound_bind (IsOptional (is symbol.Outer)) (λ _ next. Is (is symbol.Join) (λ _. next link.LeftJoin)) Nothing Nothing (sound_optional (is symbol.Outer)) (λ _ _. sound_join link.LeftJoin)

sound_link : Sound IsLink Nothing
sound_link =
    sound_or (λ next. Is (is symbol.Comma) (λ _. next link.Comma)) _ Nothing (sound_after (is symbol.Comma) (λ _ next. next link.Comma) Nothing (λ _ _ _. sound Nothing link.Comma tt))
    (sound_or (λ next. Is (is symbol.Join) (λ _. next link.Join)) _ Nothing (sound_join link.Join)
    (sound_or (λ next. Is (is symbol.Inner) (λ _. Is (is symbol.Join) (λ _. next link.Join))) _ Nothing
    (sound_after (is symbol.Inner) (λ _ next. Is (is symbol.Join) (λ _. next link.Join)) Nothing (λ _ _ _. sound_join link.Join))
    (sound_after (is symbol.Left) (λ _ next. IsOptional (is symbol.Outer) (λ _. Is (is symbol.Join) (λ _. next link.LeftJoin))) Nothing (λ _ _ _. sound_outer))))

record ValidSources (sources : List Source) : Type 0 where
  list : ValidList 64 ValidSource sources
  first : Unjoined sources

grown_sources : (first : Source) → first.on ≡ None → (sources : List Source) → Grown 64 ValidSource (first ∷ []) sources → ValidSources sources
grown_sources first alone sources g = record {
  list = record { some = omega (arith, ap length g.is, length-append (first ∷ []) g.more); within = g.within; each = g.each };
  first = subst Unjoined (sym g.is) alone;
}

sound_sources : Sound (IsSources 32 never) ValidSources
sound_sources =
    sound_bind (IsSource 32 never link.Comma) (λ first. IsFurther never 64 IsLink (IsSource 32 never) (first ∷ [])) (ValidLinked link.Comma) ValidSources (sound_source link.Comma)
    (λ first v. sound_better (IsFurther never 64 IsLink (IsSource 32 never) (first ∷ [])) (Grown 64 ValidSource (first ∷ [])) ValidSources (grown_sources first (v.alone refl))
    (sound_further 64 IsLink (IsSource 32 never) ValidSource sound_link (λ l. sound_better (IsSource 32 never l) (ValidLinked l) ValidSource (λ s w. w.source) (sound_source l)) (first ∷ []) (v.source, tt) (omega arith)))

-- the parts that may be left out
sound_where : (s : Symbol) (grouped : Bool) → Sound (λ next ts. next None ts ⊎ Is (is s) (λ _. IsCondition grouped 32 never (λ cond. next (Some cond))) ts) (Where (Fits grouped whole 32))
sound_where s grouped =
    sound_or (λ next. next None) (λ next. Is (is s) (λ _. IsCondition grouped 32 never (λ cond. next (Some cond)))) (Where (Fits grouped whole 32)) (sound (Where (Fits grouped whole 32)) None tt)
    (sound_after (is s) (λ _ next. IsCondition grouped 32 never (λ cond. next (Some cond))) (Where (Fits grouped whole 32))
    (λ _ _ _. sound_map (IsCondition grouped 32 never) (λ cond. Some cond) (Fits grouped whole 32) (Where (Fits grouped whole 32)) (sound_condition grouped 32) (λ cond fits. fits)))

sound_by : {A : Type 0} (s : Symbol) (P : Lang A) (V : A → Type 0) → Sound P V → Sound (λ next ts. next [] ts ⊎ Is (is s) (λ _. Is (is symbol.By) (λ _. IsList never 64 P (is symbol.Comma) next)) ts) (ValidPart 64 V)
sound_by s P V p =
    sound_or (λ next. next []) (λ next. Is (is s) (λ _. Is (is symbol.By) (λ _. IsList never 64 P (is symbol.Comma) next))) (ValidPart 64 V) (sound (ValidPart 64 V) [] (record { within = omega arith; each = tt }))
    (sound_after (is s) (λ _ next. Is (is symbol.By) (λ _. IsList never 64 P (is symbol.Comma) next)) (ValidPart 64 V)
    (λ _ _ _. sound_after (is symbol.By) (λ _. IsList never 64 P (is symbol.Comma)) (ValidPart 64 V)
    (λ _ _ _. sound_better (IsList never 64 P (is symbol.Comma)) (ValidList 64 V) (ValidPart 64 V) (λ xs v. record { within = v.within; each = v.each }) (sound_list 64 P (is symbol.Comma) V (omega arith) p))))

sound_direction : Sound IsDirection Nothing
sound_direction =
    sound_or (λ next. next false) _ Nothing (sound Nothing false tt)
    (sound_or (λ next. Is (is symbol.Asc) (λ _. next false)) (λ next. Is (is symbol.Desc) (λ _. next true)) Nothing
    (sound_after (is symbol.Asc) (λ _ next. next false) Nothing (λ _ _ _. sound Nothing false tt))
    (sound_after (is symbol.Desc) (λ _ next. next true) Nothing (λ _ _ _. sound Nothing true tt)))

abbrev ValidKey : OrderItem → Type 0
ValidKey key = ValidExpr key.expr

sound_key : Sound IsKey ValidKey
sound_key =
    sound_bind IsExpr (λ e next. IsDirection (λ down. next (record { expr = e; descending = down }))) ValidExpr ValidKey sound_expr
    (λ e v. sound_map IsDirection (λ down. record { expr = e; descending = down }) Nothing ValidKey sound_direction (λ down _. v))

-- the whole statement
sound_end : (s : Select) → Valid s → Sound (λ next. IsOptional (is symbol.Semicolon) (λ _. Is (is symbol.End) (λ _. next s))) Valid
sound_end s valid =
    sound_bind (IsOptional (is symbol.Semicolon)) (λ _ next. Is (is symbol.End) (λ _. next s)) Nothing Valid (sound_optional (is symbol.Semicolon))
    (λ _ _. sound_after (is symbol.End) (λ _ next. next s) Valid (λ _ _ _. sound Valid s valid))

abbrev Later : (List Source → Option Test → List ColumnName → Option Test → List OrderItem → Select) → Lang Select
Later f next =
    IsSources 32 never (λ sources. IsFilter 32 never (λ filter. IsGroups never (λ groups. IsHaving 32 never (λ having. IsOrders never (λ orders. IsOptional (is symbol.Semicolon) (λ _. Is (is symbol.End) (λ _.
    next (f sources filter groups having orders))))))))

sound_later : (f : List Source → Option Test → List ColumnName → Option Test → List OrderItem → Select)
    → ((sources : List Source) (filter : Option Test) (groups : List ColumnName) (having : Option Test) (orders : List OrderItem)
    → ValidSources sources → Where (Fits false whole 32) filter → ValidPart 64 ValidColumn groups → Where (Fits true whole 32) having → ValidPart 64 ValidKey orders → Valid (f sources filter groups having orders))
    → Sound (Later f) Valid
sound_later f valid =
    sound_bind (IsSources 32 never) (λ sources next. IsFilter 32 never (λ filter. IsGroups never (λ groups. IsHaving 32 never (λ having. IsOrders never (λ orders. IsOptional (is symbol.Semicolon) (λ _. Is (is symbol.End) (λ _.
    next (f sources filter groups having orders)))))))) ValidSources Valid sound_sources
    (λ sources v1. sound_bind (IsFilter 32 never) (λ filter next. IsGroups never (λ groups. IsHaving 32 never (λ having. IsOrders never (λ orders. IsOptional (is symbol.Semicolon) (λ _. Is (is symbol.End) (λ _.
    next (f sources filter groups having orders))))))) (Where (Fits false whole 32)) Valid (sound_where symbol.Where false)
    (λ filter v2. sound_bind (IsGroups never) (λ groups next. IsHaving 32 never (λ having. IsOrders never (λ orders. IsOptional (is symbol.Semicolon) (λ _. Is (is symbol.End) (λ _.
    next (f sources filter groups having orders)))))) (ValidPart 64 ValidColumn) Valid (sound_by symbol.Group IsColumn ValidColumn sound_column)
    (λ groups v3. sound_bind (IsHaving 32 never) (λ having next. IsOrders never (λ orders. IsOptional (is symbol.Semicolon) (λ _. Is (is symbol.End) (λ _.
    next (f sources filter groups having orders))))) (Where (Fits true whole 32)) Valid (sound_where symbol.Having true)
    (λ having v4. sound_bind (IsOrders never) (λ orders next. IsOptional (is symbol.Semicolon) (λ _. Is (is symbol.End) (λ _.
    next (f sources filter groups having orders)))) (ValidPart 64 ValidKey) Valid (sound_by symbol.Order IsKey ValidKey sound_key)
    (λ orders v5. sound_end (f sources filter groups having orders) (valid sources filter groups having orders v1 v2 v3 v4 v5))))))

abbrev built : Option Token → Items → List Source → Option Test → List ColumnName → Option Test → List OrderItem → Select
built distinct items sources filter groups having orders =
    record { distinct = is_some distinct; items = items; sources = sources; filter = filter; groups = groups; having = having; orders = orders }

sound_select : Sound (IsSelect 32 never) Valid
sound_select =
    sound_after (is symbol.Select) (λ _ next. IsOptional (is symbol.Distinct) (λ d. IsItems never (λ i. Is (is symbol.From) (λ _. Later (built d i) next)))) Valid
    (λ _ _ _. sound_bind (IsOptional (is symbol.Distinct)) (λ d next. IsItems never (λ i. Is (is symbol.From) (λ _. Later (built d i) next))) Nothing Valid (sound_optional (is symbol.Distinct))
    (λ d _. sound_bind (IsItems never) (λ i next. Is (is symbol.From) (λ _. Later (built d i) next)) ValidItems Valid sound_items
    (λ i iv. sound_after (is symbol.From) (λ _ next. Later (built d i) next) Valid
    (λ _ _ _. sound_later (built d i) (λ sources filter groups having orders v1 v2 v3 v4 v5. record { items = iv; sources = v1.list; first = v1.first; filter = v2; groups = v3; having = v4; orders = v5 })))))

every_of_all : {A : Type 0} (P : A → Type 0) (xs : List A) → All P xs → Every P xs
every_of_all P [] all = tt
every_of_all P (x ∷ xs) all = (all 0 x (omega arith), every_of_all P xs (λ k d less. all (suc k) d (omega arith)))

pub valid_read : (tokens : List Token) (select : Select) → All IsFormed tokens → Reads tokens select → Valid select
valid_read tokens select formed reads =
    let x = sound_select (Whole select) tokens (every_of_all IsFormed tokens formed) reads in
    subst Valid x.follows.0 x.valid
