-- what is promised of the plan that is built
use Rattle.std.proofs.Common.{◌≡◌, sym, ap, ◌∙◌, subst, None}
use Rattle.pm_plan.specs.declared.plan.Plan.{Plan}
use Rattle.pm_plan.specs.Outputs.{output}
use Rattle.pm_plan.specs.Tree.{Tree}
use Rattle.pm_plan.specs.Preorder.{tree_of, nodes_of}
use Rattle.pm_plan.specs.Kinds.{kinds_of}
use Rattle.pm_plan.specs.Valid.{IsValid}
use Rattle.pm_work.specs.First.{Sizes, too_wide}
use Rattle.pm_work.specs.Fits.{Fits}
use Rattle.pm_query.specs.declared.query.Query.{Query}
use Rattle.pm_query.specs.declared.query.Choice.{Choice}
use Rattle.pm_query.specs.Bound.{IsBound}
use Rattle.pm_query.specs.Build.{decls_in, tree_for, plan_for}
use Rattle.pm_answers.specs.Databases.{IsNarrow}
use Rattle.pm_answers.proofs.BuiltRows.{plan-rows}
use Rattle.pm_answers.proofs.ValidPlans.{built-valid, built-fits}
use Rattle.pm_build.specs.Built.{HasRowsOf, FitsDatabases}

pub plan_is : (query : Query) (sizes : Sizes) (choice : Choice) (tree : Tree) (plan : Plan) → tree ≡ tree_for query sizes choice
    → plan ≡ record { nodes = nodes_of tree 1; heads = query.heads; kinds = kinds_of (decls_in query) tree }
    → plan ≡ plan_for query sizes choice
plan_is query sizes choice tree plan e made =
    let of : Tree → Plan = λ t. record { nodes = nodes_of t 1; heads = query.heads; kinds = kinds_of (decls_in query) t } in made ∙ ap of e

module _ (query : Query) (sizes : Sizes) (choice : Choice) (plan : Plan) (is : plan ≡ plan_for query sizes choice) (bound : IsBound query) where
  pub promised_rows : HasRowsOf query plan
  promised_rows db of = ap (λ (p : Plan). output db (tree_of p.nodes)) is ∙ plan-rows query sizes choice db bound of

  pub promised_valid : IsNarrow query → IsValid plan (decls_in query)
  promised_valid narrow = subst (λ p. IsValid p (decls_in query)) (sym is) (built-valid query bound narrow choice sizes)

  pub promised_fits : IsNarrow query → None ≡ too_wide sizes (tree_for query sizes choice) → FitsDatabases query sizes plan
  promised_fits narrow none db meets same =
      subst (λ p. Fits p db) (sym is) (built-fits query bound narrow choice sizes db meets (ap (λ s. too_wide s (tree_for query sizes choice)) same ∙ sym none))
