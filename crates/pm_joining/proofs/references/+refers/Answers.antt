use Rattle.std.proofs.Common.{◌+◌, not, refl, sym, ap, ◌∙◌}
use Rattle.pm_plan.specs.Tree.{pads}
use Rattle.pm_plan.specs.Kinds.{width}
use Rattle.pm_plan.specs.References.{entries, padded_if, refers_to}
use Rattle.pm_plan.specs.Fitting.{unpadded}
use Rattle.pm_plan.specs.Roots.{method_of}
use Rattle.pm_plan.proofs.Referring.{any_refers, one_refers, any_refers-append, any_refers-padded}
use Rattle.pm_plan.proofs.Tests.{or_false, and_true, and_false}
use Rattle.pm_joining.specs.declared.tree.Tree.{Tree}
use Rattle.pm_joining.specs.Tables.{table_decls}
use Rattle.pm_joining.specs.Trees.{tree_of}
use Rattle.pm_joining.proofs.Shapes.{join_is, index_is}
use Rattle.pm_joining.proofs.references.+refers.Goals as goal

pub returns-then-not-pads : goal.returns-then-not-pads
returns-then-not-pads t c =
    let decls = table_decls c.args.tables.now in
    let target = c.args.target in
    let pairs = c.args.pairs.now in
    let from = c.args.from in
    let refer = any_refers decls target pairs in
    let j = c.in-Join in
    let pad = pads (method_of j.method) in
    let lefts = entries decls (tree_of j.left) from in
    let rights = entries decls (tree_of j.right) (from + width decls (tree_of j.left)) in
    let first = c.refers-in-Join.ensures ∙ ap (λ (x : Tree). refer (entries decls (tree_of x) from)) c.get-in-Join.ensures in
    let wide = c.width.ensures ∙ ap (λ (x : Tree). width decls (tree_of x)) c.get-in-Join-2.ensures in
    let second = c.refers-then-not-pads.ensures
    ∙ ap (λ (x : Tree). refer (entries decls (tree_of x) (from + c.width.result))) c.get-then-not-pads.ensures
    ∙ ap (λ w. refer (entries decls (tree_of j.right) (from + w))) wide in
    let found = and_true (ap not c.pads.ensures) (ap not c.if-not-pads.true) second refl in
    or_false first c.if-refers.false (found ∙ sym (any_refers-padded decls target pairs pad rights))
    (ap (λ x. refer (entries decls x from)) (join_is c.args.tree.now j.method j.on j.left j.right j.is) ∙ any_refers-append decls target pairs lefts (padded_if pad rights))

pub returns-else-not-pads : goal.returns-else-not-pads
returns-else-not-pads t c =
    let decls = table_decls c.args.tables.now in
    let target = c.args.target in
    let pairs = c.args.pairs.now in
    let from = c.args.from in
    let refer = any_refers decls target pairs in
    let j = c.in-Join in
    let pad = pads (method_of j.method) in
    let lefts = entries decls (tree_of j.left) from in
    let rights = entries decls (tree_of j.right) (from + width decls (tree_of j.left)) in
    let first = c.refers-in-Join.ensures ∙ ap (λ (x : Tree). refer (entries decls (tree_of x) from)) c.get-in-Join.ensures in
    let found = and_false (refer rights) (ap not c.pads.ensures) (ap not c.if-not-pads.false) refl in
    or_false first c.if-refers.false (found ∙ sym (any_refers-padded decls target pairs pad rights))
    (ap (λ x. refer (entries decls x from)) (join_is c.args.tree.now j.method j.on j.left j.right j.is) ∙ any_refers-append decls target pairs lefts (padded_if pad rights))

pub returns-else-refers-2 : goal.returns-else-refers-2
returns-else-refers-2 t c =
    let decls = table_decls c.args.tables.now in
    let target = c.args.target in
    let pairs = c.args.pairs.now in
    let from = c.args.from in
    let refer = any_refers decls target pairs in
    let i = c.in-Index in
    let lefts = entries decls (tree_of i.left) from in
    let last = unpadded i.seek.table (from + width decls (tree_of i.left)) in
    let first = c.refers-in-Index.ensures ∙ ap (λ (x : Tree). refer (entries decls (tree_of x) from)) c.get-in-Index.ensures in
    let wide = c.width-in-Index.ensures ∙ ap (λ (x : Tree). width decls (tree_of x)) c.get-in-Index-2.ensures in
    let second = c.refers_to-in-Index.ensures ∙ ap (λ w. refers_to decls target pairs (unpadded i.seek.table (from + w))) wide ∙ one_refers decls target pairs last in
    or_false first c.if-refers-2.false second
    (ap (λ x. refer (entries decls x from)) (index_is c.args.tree.now i.left i.seek i.cond i.is) ∙ any_refers-append decls target pairs lefts _)
