use Rattle.std.proofs.Common.{◌≡◌, ◌≤◌, ◌<◌, ◌+◌, ◌^◌, length, Ok, Err, ap, sym, subst, ◌∙◌, arith, inl}
use Rattle.std.proofs.lemmas.Result.{err_from_is_err_and}
use Rattle.pm_names.specs.Breaches.{verdict}
use Rattle.pm_names.specs.Sources.{known_columns}
use Rattle.pm_binder.specs.Conjuncts.{conjuncts, join_breaches}
use Rattle.pm_binder.specs.Grouping.{terms_of, grouping_breaches, shape_of}
use Rattle.pm_binder.specs.Bound.{text_breaches, resolved, query_of, query}
use Rattle.pm_binder.proofs.Outcomes.{second_told, third_told, none_told}
use Rattle.pm_binder.proofs.Shapes.{few_columns}
use Rattle.pm_binder.proofs.binding.bound_further.Goals as goal

pub returns-in_err-check_grouping : goal.returns-in_err-check_grouping
returns-in_err-check_grouping c =
    let schema = c.args.schema.now in
    let select = c.args.select.now in
    let p = err_from_is_err_and c.from_residual-in_err-check_grouping.result c.from_residual-in_err-check_grouping.ensures.1 in
    let known : c.as_slice-known.result.now ≡ known_columns schema select.sources = c.as_slice-known.ensures ∙ c.in_ok-known.ensures.value ∙ ap (known_columns schema) c.as_slice-sources.ensures in
    let terms : c.in_ok-terms.terms ≡ resolved schema select = c.in_ok-terms.ensures ∙ ap (λ k. terms_of k select) known in
    inl (
    second_told _ (text_breaches schema select) (grouping_breaches (resolved schema select)) (join_breaches schema select.sources (conjuncts schema select.sources select.filter)) (query schema select) _
    c.in_ok-check_text.ensures (c.in_err-check_grouping.ensures ∙ ap (λ t. verdict (grouping_breaches t)) terms) (p.1 ∙ ap Err p.2))

pub returns-in_err-check_joins : goal.returns-in_err-check_joins
returns-in_err-check_joins c =
    let schema = c.args.schema.now in
    let select = c.args.select.now in
    let p = err_from_is_err_and c.from_residual-in_err-check_joins.result c.from_residual-in_err-check_joins.ensures.1 in
    let known : c.as_slice-known.result.now ≡ known_columns schema select.sources = c.as_slice-known.ensures ∙ c.in_ok-known.ensures.value ∙ ap (known_columns schema) c.as_slice-sources.ensures in
    let terms : c.in_ok-terms.terms ≡ resolved schema select = c.in_ok-terms.ensures ∙ ap (λ k. terms_of k select) known in
    let found : c.as_slice.result.now ≡ conjuncts schema select.sources select.filter = c.as_slice.ensures ∙ c.in_ok-found.ensures ∙ ap (λ s. conjuncts schema s select.filter) c.as_slice-sources.ensures in
    inl (
    third_told _ (text_breaches schema select) (grouping_breaches (resolved schema select)) (join_breaches schema select.sources (conjuncts schema select.sources select.filter)) (query schema select) _
    c.in_ok-check_text.ensures (c.in_ok-check_grouping.ensures ∙ ap (λ t. verdict (grouping_breaches t)) terms)
    (c.in_err-check_joins.ensures ∙ ap (λ s. verdict (join_breaches schema s c.as_slice.result.now)) c.as_slice-sources.ensures ∙ ap (λ f. verdict (join_breaches schema select.sources f)) found)
    (p.1 ∙ ap Err p.2))

pub assembled-requires-clause-shape : goal.assembled-requires-clause-shape
assembled-requires-clause-shape c =
    let schema = c.args.schema.now in
    let select = c.args.select.now in
    let known : c.as_slice-known.result.now ≡ known_columns schema select.sources = c.as_slice-known.ensures ∙ c.in_ok-known.ensures.value ∙ ap (known_columns schema) c.as_slice-sources.ensures in
    let terms : c.in_ok-terms.terms ≡ resolved schema select = c.in_ok-terms.ensures ∙ ap (λ k. terms_of k select) known in
    let same : c.in_ok-known.known ≡ known_columns schema select.sources = c.in_ok-known.ensures.value ∙ ap (known_columns schema) c.as_slice-sources.ensures in
    let long : length c.as_slice-sources.result.now ≡ length select.sources = ap length c.as_slice-sources.ensures in
    let narrow : length c.in_ok-known.known ≤ 512 = omega (arith, c.in_ok-known.ensures.narrow, c.requires.few) in
    let low : length (known_columns schema select.sources) ≤ 512 = rw same at narrow in
    subst (λ t. length (shape_of t).keys + length (shape_of t).calls < 2 ^ 32) (sym terms) (few_columns (known_columns schema select.sources) select low)

pub returns : goal.returns
returns c =
    let schema = c.args.schema.now in
    let select = c.args.select.now in
    let known : c.as_slice-known.result.now ≡ known_columns schema select.sources = c.as_slice-known.ensures ∙ c.in_ok-known.ensures.value ∙ ap (known_columns schema) c.as_slice-sources.ensures in
    let terms : c.in_ok-terms.terms ≡ resolved schema select = c.in_ok-terms.ensures ∙ ap (λ k. terms_of k select) known in
    let found : c.as_slice.result.now ≡ conjuncts schema select.sources select.filter = c.as_slice.ensures ∙ c.in_ok-found.ensures ∙ ap (λ s. conjuncts schema s select.filter) c.as_slice-sources.ensures in
    let whole : c.in_ok-found.found ≡ conjuncts schema select.sources select.filter = c.in_ok-found.ensures ∙ ap (λ s. conjuncts schema s select.filter) c.as_slice-sources.ensures in
    let made : c.in_ok-assembled.field-0 ≡ query schema select =
    c.in_ok-assembled.ensures ∙ ap (λ k. query_of schema select k c.in_ok-terms.terms c.in_ok-found.found) known ∙ ap (λ t. query_of schema select (known_columns schema select.sources) t c.in_ok-found.found) terms
    ∙ ap (λ f. query_of schema select (known_columns schema select.sources) (resolved schema select) f) whole in
    inl (
    ap Ok made ∙ sym (
    none_told (text_breaches schema select) (grouping_breaches (resolved schema select)) (join_breaches schema select.sources (conjuncts schema select.sources select.filter)) (query schema select)
    c.in_ok-check_text.ensures (c.in_ok-check_grouping.ensures ∙ ap (λ t. verdict (grouping_breaches t)) terms)
    (c.in_ok-check_joins.ensures ∙ ap (λ s. verdict (join_breaches schema s c.as_slice.result.now)) c.as_slice-sources.ensures ∙ ap (λ f. verdict (join_breaches schema select.sources f)) found)))
