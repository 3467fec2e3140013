use Rattle.std.proofs.Common.{◌∙◌, ap, subst}
use Rattle.std.specs.Prelude.{All}
use Rattle.pm_values.specs.Table.{IsDeclaration}
use Rattle.pm_work.specs.First.{too_wide}
use Rattle.pm_joining.specs.declared.tree.Tree.{Tree}
use Rattle.pm_joining.specs.Tables.{table_decls}
use Rattle.pm_joining.specs.Trees.{tree_of}
use Rattle.pm_build.proofs.Joined.{few_nodes}
use Rattle.pm_build.proofs.Promised.{plan_is, promised_rows, promised_valid, promised_fits}
use Rattle.pm_build.proofs.building.build.Goals as goal

pub plan_of-requires : goal.plan_of-requires
plan_of-requires c = few_nodes c.args.query.now c.args.sizes.now c.args.choice (tree_of c.in_ok-tree.tree) c.requires.bound c.in_ok-tree.ensures

pub returns-in_ok-plan_of-in-None-clause-rows : goal.returns-in_ok-plan_of-in-None-clause-rows
returns-in_ok-plan_of-in-None-clause-rows c =
    let query = c.args.query.now in
    let sizes = c.args.sizes.now in
    promised_rows query sizes c.args.choice c.in_ok-plan_of-in-None.field-0
    (plan_is query sizes c.args.choice (tree_of c.in_ok-tree.tree) c.in_ok-plan_of-in-None.field-0 c.in_ok-tree.ensures c.in_ok-plan_of-in-None.ensures) c.requires.bound

pub returns-in_ok-plan_of-in-None-clause-valid : goal.returns-in_ok-plan_of-in-None-clause-valid
returns-in_ok-plan_of-in-None-clause-valid c =
    let query = c.args.query.now in
    let sizes = c.args.sizes.now in
    promised_valid query sizes c.args.choice c.in_ok-plan_of-in-None.field-0
    (plan_is query sizes c.args.choice (tree_of c.in_ok-tree.tree) c.in_ok-plan_of-in-None.field-0 c.in_ok-tree.ensures c.in_ok-plan_of-in-None.ensures) c.requires.bound
    (record { tables = subst (λ ts. All IsDeclaration (table_decls ts)) c.as_slice.ensures c.tables_are_declared.ensures; outputs = c.requires.narrow })

pub returns-in_ok-plan_of-in-None-clause-fits : goal.returns-in_ok-plan_of-in-None-clause-fits
returns-in_ok-plan_of-in-None-clause-fits c =
    let query = c.args.query.now in
    let sizes = c.args.sizes.now in
    promised_fits query sizes c.args.choice c.in_ok-plan_of-in-None.field-0
    (plan_is query sizes c.args.choice (tree_of c.in_ok-tree.tree) c.in_ok-plan_of-in-None.field-0 c.in_ok-tree.ensures c.in_ok-plan_of-in-None.ensures) c.requires.bound
    (record { tables = subst (λ ts. All IsDeclaration (table_decls ts)) c.as_slice.ensures c.tables_are_declared.ensures; outputs = c.requires.narrow })
    (c.in-None.ensures ∙ ap (λ (t : Tree). too_wide sizes (tree_of t)) c.get.ensures ∙ ap (too_wide sizes) c.in_ok-tree.ensures)
