use Rattle.std.proofs.Common.{◌≡◌, List, Result, Ok, Err, ap, sym, ◌∙◌, inl, inr}
use Rattle.std.specs.Prelude.{◌⊎◌, IfOk, IsErrOf}
use Rattle.pm_syntax.specs.declared.tree.Select.{Select}
use Rattle.pm_values.specs.Table.{Declaration}
use Rattle.pm_query.specs.declared.query.Query.{Query}
use Rattle.pm_query.specs.Bound.{IsBound}
use Rattle.pm_names.specs.declared.fault.BindBad.{BindBad}
use Rattle.pm_names.specs.declared.fault.BindBad.TheVariants as bad
use Rattle.pm_names.specs.Breaches.{verdict, outcome}
use Rattle.pm_names.specs.Sources.{from_breaches}
use Rattle.pm_binder.specs.Bound.{further_breaches, query, bound}
use Rattle.pm_binder.specs.Laws.{IsFormed, AreTables, AsksForRowsOf}
use Rattle.pm_names.proofs.Along.{none_from_ok}
use Rattle.pm_binder.proofs.Few.{few_sources}
use Rattle.pm_binder.proofs.BoundQueries.{queries_are_bound}
use Rattle.pm_binder.proofs.Outcomes.{outcome_after}
use Rattle.pm_binder.proofs.RowLaw.{rows_are_answers}
use Rattle.pm_binder.proofs.binding.bind.Goals as goal

pub bound_further-requires-clause-few : goal.bound_further-requires-clause-few
bound_further-requires-clause-few c =
    let none : Ok tt ≡ verdict (from_breaches c.args.schema.now c.args.select.now.sources) =
    c.in_ok-check_sources.ensures ∙ ap (λ s. verdict (from_breaches s c.as_slice.result.now)) c.as_slice-schema.ensures ∙ ap (λ s. verdict (from_breaches c.args.schema.now s)) c.as_slice.ensures in
    few_sources c.args.schema.now c.args.select.now.sources (none_from_ok (from_breaches c.args.schema.now c.args.select.now.sources) (sym none))

of_query : (select : Select) (schema : List Declaration) (r : Result Query BindBad) → (r ≡ bound select schema) ⊎ IsErrOf r bad.Memory → IfOk r (λ found. IsFormed select → AreTables schema → IsBound found)
of_query select schema (Ok found) (inl is) = λ formed tables. queries_are_bound select schema found formed tables (sym is)
of_query select schema (Ok found) (inr h) = absurd (cc h)
of_query select schema (Err e) is = tt

of_rows : (select : Select) (schema : List Declaration) (r : Result Query BindBad) → (r ≡ bound select schema) ⊎ IsErrOf r bad.Memory → IfOk r (λ found. IsFormed select → AsksForRowsOf select schema found)
of_rows select schema (Ok found) (inl is) = λ formed. rows_are_answers select schema found formed (sym is)
of_rows select schema (Ok found) (inr h) = absurd (cc h)
of_rows select schema (Err e) is = tt

pub returns : goal.returns
returns c =
    let schema = c.args.schema.now in
    let select = c.args.select.now in
    let none : Ok tt ≡ verdict (from_breaches schema select.sources) =
    c.in_ok-check_sources.ensures ∙ ap (λ s. verdict (from_breaches s c.as_slice.result.now)) c.as_slice-schema.ensures ∙ ap (λ s. verdict (from_breaches schema s)) c.as_slice.ensures in
    let exact : (c.bound_further.result ≡ bound select schema) ⊎ IsErrOf c.bound_further.result bad.Memory =
    elim c.bound_further.ensures [
      | inl is ↦ inl (is ∙ ap (λ s. outcome (further_breaches s select) (query s select)) c.as_slice-schema.ensures ∙ sym (outcome_after (from_breaches schema select.sources) (further_breaches schema select) (query schema select) none))
      | inr memory ↦ inr memory
    ] in
    record { exact = exact; query = of_query select schema c.bound_further.result exact; rows = of_rows select schema c.bound_further.result exact }
