use Rattle.std.proofs.Common.{◌+◌, if◌then◌else◌, [], not, refl, sym, ap, ◌∙◌, arith}
use Rattle.pm_plan.specs.Tree.{Tree, pads}
use Rattle.pm_plan.specs.Preorder.{Rooted}
use Rattle.pm_plan.specs.Kinds.{width}
use Rattle.pm_plan.specs.References.{entries, padded_if}
use Rattle.pm_plan.specs.Fitting.{unpadded}
use Rattle.pm_plan.specs.Roots.{method_of}
use Rattle.pm_plan.proofs.Inversion.{OverOne, OverTwo, OverSeek, begins, none_stands, no_seek, rooted_same, right_at, seek_at}
use Rattle.pm_plan.proofs.Referring.{refers_to-cut, any_refers, one_refers, any_refers-append, any_refers-padded}
use Rattle.pm_plan.proofs.Tests.{or_true, or_false, and_true, and_false}
use Rattle.pm_plan.proofs.references.+refers_at.Goals as goal

pub returns-in_default : goal.returns-in_default
returns-in_default t c = λ u first h e small. absurd (none_stands _ (Rooted u) _ c.in_default.ensures.node h)

pub returns-in-Seek : goal.returns-in-Seek
returns-in-Seek t c = λ u first h e small. absurd (no_seek u _ (begins _ (Rooted u) _ _ _ c.in-Seek.is c.in-Some.ensures.node h))

pub returns-in-Scan : goal.returns-in-Scan
returns-in-Scan t c =
    λ u first h e small. let decls = c.args.decls.now in
    let target = c.args.target in
    let pairs = c.args.pairs.now in
    let is = rooted_same (begins _ (Rooted u) _ _ _ c.in-Scan.is c.in-Some.ensures.node h) in
    c.refers_to.ensures ∙ refers_to-cut decls 4294967296 target c.in-Scan.table c.args.from first pairs e small ∙ one_refers decls target pairs (unpadded c.in-Scan.table first)
    ∙ sym (ap (λ (v : Tree). any_refers decls target pairs (entries decls v first)) is)

pub returns-then-keeps_columns : goal.returns-then-keeps_columns
returns-then-keeps_columns t c =
    λ u first h e small. let decls = c.args.decls.now in
    let refer = any_refers decls c.args.target c.args.pairs.now in
    let i : OverOne _ _ _ _ _ = begins _ (Rooted u) _ _ _ c.in-Over.is c.in-Some.ensures.node h in
    c.refers_at.ensures i.tree first i.stands e small
    ∙ sym (ap (λ (v : Tree). refer (entries decls v first)) (rooted_same i.is)
    ∙ ap (λ b. refer (if b then entries decls i.tree first else [])) (sym c.keeps_columns.ensures ∙ c.if-keeps_columns.true))

pub returns-else-keeps_columns : goal.returns-else-keeps_columns
returns-else-keeps_columns t c =
    λ u first h e small. let decls = c.args.decls.now in
    let refer = any_refers decls c.args.target c.args.pairs.now in
    let i : OverOne _ _ _ _ _ = begins _ (Rooted u) _ _ _ c.in-Over.is c.in-Some.ensures.node h in
    c.if-keeps_columns.false
    ∙ sym (ap (λ (v : Tree). refer (entries decls v first)) (rooted_same i.is)
    ∙ ap (λ b. refer (if b then entries decls i.tree first else [])) (sym c.keeps_columns.ensures ∙ c.if-keeps_columns.false))

pub returns-then-refers_at : goal.returns-then-refers_at
returns-then-refers_at t c =
    λ u first h e small. let decls = c.args.decls.now in
    let target = c.args.target in
    let pairs = c.args.pairs.now in
    let i : OverTwo _ _ _ _ _ _ _ = begins _ (Rooted u) _ _ _ c.in-Join.is c.in-Some.ensures.node h in
    let left = entries decls i.left_tree first in
    sym c.if-refers_at.true
    ∙ or_true _ (c.refers_at-in-Join.ensures i.left_tree first i.left_stands e small) c.if-refers_at.true
    (ap (λ (v : Tree). any_refers decls target pairs (entries decls v first)) (rooted_same i.is) ∙ any_refers-append decls target pairs left _)

pub returns-then-not-pads : goal.returns-then-not-pads
returns-then-not-pads t c =
    λ u first h e small. let decls = c.args.decls.now in
    let target = c.args.target in
    let pairs = c.args.pairs.now in
    let i : OverTwo _ _ _ _ _ _ _ = begins _ (Rooted u) _ _ _ c.in-Join.is c.in-Some.ensures.node h in
    let pad = pads (method_of c.in-Join.method) in
    let right = entries decls i.right_tree (first + width decls i.left_tree) in
    let wide = c.width_at.ensures.value (Rooted i.left_tree) i.left_stands in
    let there = c.refers_at-then-not-pads.ensures i.right_tree (first + width decls i.left_tree) (right_at _ _ _ _ _ _ _ _ i c.number_after.ensures)
    (omega (arith, c.capped_sum-next.ensures, wide, e)) small in
    let found = and_true (ap not c.pads.ensures) (ap not c.if-not-pads.true) there refl in
    or_false (c.refers_at-in-Join.ensures i.left_tree first i.left_stands e small) c.if-refers_at.false (found ∙ sym (any_refers-padded decls target pairs pad right))
    (ap (λ (v : Tree). any_refers decls target pairs (entries decls v first)) (rooted_same i.is)
    ∙ any_refers-append decls target pairs (entries decls i.left_tree first) (padded_if pad right))

pub returns-else-not-pads : goal.returns-else-not-pads
returns-else-not-pads t c =
    λ u first h e small. let decls = c.args.decls.now in
    let target = c.args.target in
    let pairs = c.args.pairs.now in
    let i : OverTwo _ _ _ _ _ _ _ = begins _ (Rooted u) _ _ _ c.in-Join.is c.in-Some.ensures.node h in
    let pad = pads (method_of c.in-Join.method) in
    let right = entries decls i.right_tree (first + width decls i.left_tree) in
    let found = and_false (any_refers decls target pairs right) (ap not c.pads.ensures) (ap not c.if-not-pads.false) refl in
    or_false (c.refers_at-in-Join.ensures i.left_tree first i.left_stands e small) c.if-refers_at.false (found ∙ sym (any_refers-padded decls target pairs pad right))
    (ap (λ (v : Tree). any_refers decls target pairs (entries decls v first)) (rooted_same i.is)
    ∙ any_refers-append decls target pairs (entries decls i.left_tree first) (padded_if pad right))

pub returns-then-refers_at-2 : goal.returns-then-refers_at-2
returns-then-refers_at-2 t c =
    λ u first h e small. let decls = c.args.decls.now in
    let target = c.args.target in
    let pairs = c.args.pairs.now in
    let i : OverSeek _ _ _ _ _ _ = begins _ (Rooted u) _ _ _ c.in-Index.is c.in-Some.ensures.node h in
    let left = entries decls i.left_tree first in
    sym c.if-refers_at-2.true
    ∙ or_true _ (c.refers_at-in-Index.ensures i.left_tree first i.left_stands e small) c.if-refers_at-2.true
    (ap (λ (v : Tree). any_refers decls target pairs (entries decls v first)) (rooted_same i.is) ∙ any_refers-append decls target pairs left _)

pub returns-else-refers_at-2 : goal.returns-else-refers_at-2
returns-else-refers_at-2 t c =
    λ u first h e small. let decls = c.args.decls.now in
    let target = c.args.target in
    let pairs = c.args.pairs.now in
    let i : OverSeek _ _ _ _ _ _ = begins _ (Rooted u) _ _ _ c.in-Index.is c.in-Some.ensures.node h in
    let next = first + width decls i.left_tree in
    let wide = c.width_at-in-Index.ensures.value (Rooted i.left_tree) i.left_stands in
    let found = c.seek_refers.ensures i.sought (c.args.n + 1) (seek_at _ _ _ _ _ _ _ i c.number_after-in-Index.ensures)
    ∙ refers_to-cut decls 4294967296 target i.sought.table _ next pairs (omega (arith, c.capped_sum-next-in-Index.ensures, wide, e)) small
    ∙ one_refers decls target pairs (unpadded i.sought.table next) in
    or_false (c.refers_at-in-Index.ensures i.left_tree first i.left_stands e small) c.if-refers_at-2.false found
    (ap (λ (v : Tree). any_refers decls target pairs (entries decls v first)) (rooted_same i.is)
    ∙ any_refers-append decls target pairs (entries decls i.left_tree first) _)
