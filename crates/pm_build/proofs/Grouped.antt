-- what stands above the joins
use Rattle.std.proofs.Common.{◌≡◌, ◌<◌, ◌≤◌, ◌+◌, ℕ, true, false, List, [], ◌∷◌, ◌++◌, length, get_or, take, sym, ap, ◌∙◌, arith}
use Rattle.std.specs.Prelude.{if◌then◌else◌}
use Rattle.std.proofs.lemmas.List.{take_more, length-take-le}
use Rattle.pm_plan.specs.Tree.{Tree, Over, Project, Group}
use Rattle.pm_work.specs.First.{Sizes}
use Rattle.pm_query.specs.declared.query.Query.{Query}
use Rattle.pm_query.specs.declared.query.Choice.{Choice}
use Rattle.pm_query.specs.Answer.{selected_orders}
use Rattle.pm_query.specs.Build.{decls_in, join_tree, sort_if, group_if, numbers_from, tree_for}
use Rattle.pm_build.proofs.Orders.{numbers_from-push}

-- ---- positions

pub positions_more : (outputs made new : List ℕ) (i : ℕ) → i < length outputs → made ≡ numbers_from 0 (take i outputs) → new ≡ made ++ i ∷ [] → new ≡ numbers_from 0 (take (i + 1) outputs)
positions_more outputs made new i h before after =
    let few : i ≤ length outputs = omega arith in
    let long : 0 + length (take i outputs) ≡ i = omega (arith, length-take-le i outputs few) in
    after ∙ ap (λ s. s ++ i ∷ []) before
    ∙ sym (
    ap (numbers_from 0) (take_more outputs i 0 h) ∙ numbers_from-push 0 (take i outputs) (get_or outputs i 0)
    ∙ ap (λ k. numbers_from 0 (take i outputs) ++ k ∷ []) long
    )

-- ---- the tree

module _ (query : Query) (sizes : Sizes) (choice : Choice) where
  abbrev once : Tree → Tree
  once rows = sort_if (selected_orders query) (Over (Group (numbers_from 0 query.outputs) []) (Over (Project query.outputs) rows))

  abbrev plain : Tree → Tree
  plain rows = Over (Project query.outputs) (sort_if query.orders rows)

  abbrev under : Tree
  under = group_if query (join_tree choice (decls_in query) sizes query.conjuncts query.sources)

  pub tree_distinct : (joined rows made : Tree) → joined ≡ join_tree choice (decls_in query) sizes query.conjuncts query.sources → rows ≡ group_if query joined → query.distinct ≡ true
      → made ≡ sort_if (selected_orders query) (Over (Group (numbers_from 0 query.outputs) []) (Over (Project query.outputs) rows)) → made ≡ tree_for query sizes choice
  tree_distinct joined rows made j r d e = e ∙ ap once (r ∙ ap (group_if query) j) ∙ sym (ap (λ b. if b then once under else plain under) d)

  pub tree_sorted : (joined rows made : Tree) → joined ≡ join_tree choice (decls_in query) sizes query.conjuncts query.sources → rows ≡ group_if query joined → query.distinct ≡ false
      → made ≡ Over (Project query.outputs) (sort_if query.orders rows) → made ≡ tree_for query sizes choice
  tree_sorted joined rows made j r d e = e ∙ ap plain (r ∙ ap (group_if query) j) ∙ sym (ap (λ b. if b then once under else plain under) d)
