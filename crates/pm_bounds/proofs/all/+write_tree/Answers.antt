use Rattle.std.proofs.Common.{◌≡◌, ◌+◌, length, refl, sym, ap, subst, ◌∙◌, arith}
use Rattle.pm_plan.specs.declared.root.Root.TheVariants as root
use Rattle.pm_plan.specs.Tree.{size}
use Rattle.pm_plan.specs.Preorder.{Rooted, node_at}
use Rattle.pm_plan.specs.Roots.{unary_of, method_of}
use Rattle.pm_plan.proofs.Inversion.{OverOne, OverTwo, OverSeek, begins, none_stands, no_seek, rooted_same, right_at, seek_at}
use Rattle.pm_bounds.specs.Moment.{EachReadBy, bound_in, plan_bounds}
use Rattle.pm_bounds.proofs.Narrow.{size_pos}
use Rattle.pm_bounds.proofs.Trees.{found, no_reads, child_entry, entry_left, seek_entry, written_of, own_written, over_written, join_written, index_written, seek_within}
use Rattle.pm_bounds.proofs.all.+write_tree.Goals as goal

pub unreachable-requires : goal.unreachable-requires
unreachable-requires t c = none_stands _ (Rooted c.requires.stands.0) _ (c.in_default.ensures.node ∙ ap (λ ns. node_at ns c.args.n) c.as_slice.ensures) c.requires.stands.1

pub unreachable-requires-in-Seek : goal.unreachable-requires-in-Seek
unreachable-requires-in-Seek t c = no_seek c.requires.stands.0 _ (begins _ (Rooted c.requires.stands.0) _ _ _ c.in-Seek.is (c.in-Some.ensures.node ∙ ap (λ ns. node_at ns c.args.n) c.as_slice.ensures) c.requires.stands.1)

pub write_tree-requires : goal.write_tree-requires
write_tree-requires t c =
    let i : OverOne c.args.plan.now.nodes (Rooted c.requires.stands.0) c.args.n (unary_of c.in-Over.op) c.in-Over.child = begins _ (Rooted c.requires.stands.0) _ _ _ c.in-Over.is (c.in-Some.ensures.node ∙ ap (λ ns. node_at ns c.args.n) c.as_slice.ensures) c.requires.stands.1 in
    (omega (arith, c.in-Some.ensures.within, ap length c.as_slice.ensures), (c.requires.moment, (omega arith, (omega arith, (i.tree, i.stands)))))

pub write_bound-requires-in-Over-clause-read : goal.write_bound-requires-in-Over-clause-read
write_bound-requires-in-Over-clause-read t c =
    let i : OverOne c.args.plan.now.nodes (Rooted c.requires.stands.0) c.args.n (unary_of c.in-Over.op) c.in-Over.child = begins _ (Rooted c.requires.stands.0) _ _ _ c.in-Over.is (c.in-Some.ensures.node ∙ ap (λ ns. node_at ns c.args.n) c.as_slice.ensures) c.requires.stands.1 in
    no_reads c.args.plan.now c.args.gauges.now (root.Over c.in-Over.op c.in-Over.child) c.args.n _ (found (c.in-Some.ensures.node ∙ ap (λ ns. node_at ns c.args.n) c.as_slice.ensures) c.in-Over.is)
    (child_entry c.args.plan.now c.args.gauges.now i.tree (c.args.n + 1) c.in-Over.child _ i.child_is (c.write_tree.ensures.written i.tree i.stands))

pub write_tree-requires-in-Join : goal.write_tree-requires-in-Join
write_tree-requires-in-Join t c =
    let i : OverTwo c.args.plan.now.nodes (Rooted c.requires.stands.0) c.args.n (method_of c.in-Join.method) (record { pairs = c.in-Join.pairs.now; unique = c.in-Join.unique }) c.in-Join.left c.in-Join.right = begins _ (Rooted c.requires.stands.0) _ _ _ c.in-Join.is (c.in-Some.ensures.node ∙ ap (λ ns. node_at ns c.args.n) c.as_slice.ensures) c.requires.stands.1 in
    (omega (arith, c.in-Some.ensures.within, ap length c.as_slice.ensures), (c.requires.moment, (omega arith, (omega arith, (i.left_tree, i.left_stands)))))

pub write_tree-requires-in-Join-2 : goal.write_tree-requires-in-Join-2
write_tree-requires-in-Join-2 t c =
    let i : OverTwo c.args.plan.now.nodes (Rooted c.requires.stands.0) c.args.n (method_of c.in-Join.method) (record { pairs = c.in-Join.pairs.now; unique = c.in-Join.unique }) c.in-Join.left c.in-Join.right = begins _ (Rooted c.requires.stands.0) _ _ _ c.in-Join.is (c.in-Some.ensures.node ∙ ap (λ ns. node_at ns c.args.n) c.as_slice.ensures) c.requires.stands.1 in (
      omega (arith, c.in-Some.ensures.within, ap length c.as_slice.ensures, c.number_after.ensures),
      (c.requires.moment, (omega arith, (omega (arith, c.number_after.ensures), (i.right_tree, right_at _ (Rooted c.requires.stands.0) _ _ _ _ _ _ i c.number_after.ensures)))),
    )

pub write_bound-requires-in-Join-clause-read : goal.write_bound-requires-in-Join-clause-read
write_bound-requires-in-Join-clause-read t c =
    let i : OverTwo c.args.plan.now.nodes (Rooted c.requires.stands.0) c.args.n (method_of c.in-Join.method) (record { pairs = c.in-Join.pairs.now; unique = c.in-Join.unique }) c.in-Join.left c.in-Join.right = begins _ (Rooted c.requires.stands.0) _ _ _ c.in-Join.is (c.in-Some.ensures.node ∙ ap (λ ns. node_at ns c.args.n) c.as_slice.ensures) c.requires.stands.1 in
    let right = right_at _ (Rooted c.requires.stands.0) _ _ _ _ _ _ i c.number_after.ensures in
    no_reads c.args.plan.now c.args.gauges.now (root.Join c.in-Join.method c.in-Join.left c.in-Join.right c.in-Join.pairs c.in-Join.unique) c.args.n _ (found (c.in-Some.ensures.node ∙ ap (λ ns. node_at ns c.args.n) c.as_slice.ensures) c.in-Join.is) (
      entry_left c.args.plan.now c.args.gauges.now i.left_tree i.right_tree (c.args.n + 1) c.number_after.result c.in-Join.left _ _ i.left_is (omega (arith, c.number_after.ensures, i.right_is, size_pos i.left_tree))
          (c.write_tree-in-Join.ensures.written i.left_tree i.left_stands) (c.write_tree-in-Join-2.ensures.left i.right_tree right),
      child_entry c.args.plan.now c.args.gauges.now i.right_tree c.number_after.result c.in-Join.right _ (omega (arith, c.number_after.ensures, i.right_is)) (c.write_tree-in-Join-2.ensures.written i.right_tree right),
    )

pub write_tree-requires-in-Index : goal.write_tree-requires-in-Index
write_tree-requires-in-Index t c =
    let i : OverSeek c.args.plan.now.nodes (Rooted c.requires.stands.0) c.args.n c.in-Index.cond.now c.in-Index.left c.in-Index.seek = begins _ (Rooted c.requires.stands.0) _ _ _ c.in-Index.is (c.in-Some.ensures.node ∙ ap (λ ns. node_at ns c.args.n) c.as_slice.ensures) c.requires.stands.1 in
    (omega (arith, c.in-Some.ensures.within, ap length c.as_slice.ensures), (c.requires.moment, (omega arith, (omega arith, (i.left_tree, i.left_stands)))))

pub write_bound-requires-in-Index-clause-node : goal.write_bound-requires-in-Index-clause-node
write_bound-requires-in-Index-clause-node t c =
    let i : OverSeek c.args.plan.now.nodes (Rooted c.requires.stands.0) c.args.n c.in-Index.cond.now c.in-Index.left c.in-Index.seek = begins _ (Rooted c.requires.stands.0) _ _ _ c.in-Index.is (c.in-Some.ensures.node ∙ ap (λ ns. node_at ns c.args.n) c.as_slice.ensures) c.requires.stands.1 in
    seek_within c.args.plan.now.nodes c.number_after-in-Index.result (c.args.n + 1) i.sought (omega (arith, c.number_after-in-Index.ensures)) (seek_at _ (Rooted c.requires.stands.0) _ _ _ _ _ i c.number_after-in-Index.ensures)

pub write_bound-requires-in-Index-clause-read : goal.write_bound-requires-in-Index-clause-read
write_bound-requires-in-Index-clause-read t c =
    let i : OverSeek c.args.plan.now.nodes (Rooted c.requires.stands.0) c.args.n c.in-Index.cond.now c.in-Index.left c.in-Index.seek = begins _ (Rooted c.requires.stands.0) _ _ _ c.in-Index.is (c.in-Some.ensures.node ∙ ap (λ ns. node_at ns c.args.n) c.as_slice.ensures) c.requires.stands.1 in
    subst (EachReadBy (λ m. bound_in c.write_tree-in-Index.new.into m ≡ bound_in (plan_bounds c.args.plan.now c.args.gauges.now) m)) (sym (seek_at _ (Rooted c.requires.stands.0) _ _ _ _ _ i c.number_after-in-Index.ensures))
    (child_entry c.args.plan.now c.args.gauges.now i.left_tree (c.args.n + 1) (c.args.n + 1) _ refl (c.write_tree-in-Index.ensures.written i.left_tree i.left_stands))

pub write_bound-requires-in-Index-2-clause-read : goal.write_bound-requires-in-Index-2-clause-read
write_bound-requires-in-Index-2-clause-read t c =
    let i : OverSeek c.args.plan.now.nodes (Rooted c.requires.stands.0) c.args.n c.in-Index.cond.now c.in-Index.left c.in-Index.seek = begins _ (Rooted c.requires.stands.0) _ _ _ c.in-Index.is (c.in-Some.ensures.node ∙ ap (λ ns. node_at ns c.args.n) c.as_slice.ensures) c.requires.stands.1 in
    let there = seek_within c.args.plan.now.nodes c.number_after-in-Index.result (c.args.n + 1) i.sought (omega (arith, c.number_after-in-Index.ensures)) (seek_at _ (Rooted c.requires.stands.0) _ _ _ _ _ i c.number_after-in-Index.ensures) in
    no_reads c.args.plan.now c.args.gauges.now (root.Index c.in-Index.left c.in-Index.seek c.in-Index.cond) c.args.n _ (found (c.in-Some.ensures.node ∙ ap (λ ns. node_at ns c.args.n) c.as_slice.ensures) c.in-Index.is)
    (seek_entry c.args.plan.now c.args.gauges.now c.in-Index.seek c.number_after-in-Index.result _ _ c.write_bound-in-Index.ensures (omega (arith, there.first, there.last)) (omega (arith, i.seek_is, c.number_after-in-Index.ensures)))

pub returns-in-Scan-clause-written : goal.returns-in-Scan-clause-written
returns-in-Scan-clause-written t c = λ u h.
    let same = rooted_same (begins _ (Rooted u) _ _ _ c.in-Scan.is (c.in-Some.ensures.node ∙ ap (λ ns. node_at ns c.args.n) c.as_slice.ensures) h) in
    (written_of c.args.plan.now c.args.gauges.now c.args.n c.requires.first u c.args.n _ _ (omega (arith, ap size same)) (own_written c.args.plan.now c.args.gauges.now c.args.n c.requires.first _ _ c.write_bound.ensures (omega (arith, c.in-Some.ensures.within, ap length c.as_slice.ensures)))).0

pub returns-in-Scan-clause-left : goal.returns-in-Scan-clause-left
returns-in-Scan-clause-left t c = λ u h.
    let same = rooted_same (begins _ (Rooted u) _ _ _ c.in-Scan.is (c.in-Some.ensures.node ∙ ap (λ ns. node_at ns c.args.n) c.as_slice.ensures) h) in
    (written_of c.args.plan.now c.args.gauges.now c.args.n c.requires.first u c.args.n _ _ (omega (arith, ap size same)) (own_written c.args.plan.now c.args.gauges.now c.args.n c.requires.first _ _ c.write_bound.ensures (omega (arith, c.in-Some.ensures.within, ap length c.as_slice.ensures)))).1

pub returns-in-Over-clause-written : goal.returns-in-Over-clause-written
returns-in-Over-clause-written t c = λ u h.
    let i : OverOne c.args.plan.now.nodes (Rooted u) c.args.n (unary_of c.in-Over.op) c.in-Over.child = begins _ (Rooted u) _ _ _ c.in-Over.is (c.in-Some.ensures.node ∙ ap (λ ns. node_at ns c.args.n) c.as_slice.ensures) h in
    (over_written c.args.plan.now c.args.gauges.now c.args.n c.requires.first u i.tree (unary_of c.in-Over.op) _ _ _ (rooted_same i.is)
    (c.write_tree.ensures.written i.tree i.stands) (c.write_tree.ensures.left i.tree i.stands) c.write_bound-in-Over.ensures (omega (arith, c.in-Some.ensures.within, ap length c.as_slice.ensures))).0

pub returns-in-Join-clause-written : goal.returns-in-Join-clause-written
returns-in-Join-clause-written t c = λ u h.
    let i : OverTwo c.args.plan.now.nodes (Rooted u) c.args.n (method_of c.in-Join.method) (record { pairs = c.in-Join.pairs.now; unique = c.in-Join.unique }) c.in-Join.left c.in-Join.right = begins _ (Rooted u) _ _ _ c.in-Join.is (c.in-Some.ensures.node ∙ ap (λ ns. node_at ns c.args.n) c.as_slice.ensures) h in
    let right = right_at _ (Rooted u) _ _ _ _ _ _ i c.number_after.ensures in
    (join_written c.args.plan.now c.args.gauges.now c.args.n c.requires.first u i.left_tree i.right_tree (method_of c.in-Join.method) (record { pairs = c.in-Join.pairs.now; unique = c.in-Join.unique }) c.number_after.result _ _ _ _
    (rooted_same i.is) (omega (arith, c.number_after.ensures, i.right_is))
    (c.write_tree-in-Join.ensures.written i.left_tree i.left_stands) (c.write_tree-in-Join.ensures.left i.left_tree i.left_stands)
    (c.write_tree-in-Join-2.ensures.written i.right_tree right) (c.write_tree-in-Join-2.ensures.left i.right_tree right) c.write_bound-in-Join.ensures (omega (arith, c.in-Some.ensures.within, ap length c.as_slice.ensures))).0

pub returns-in-Index-clause-written : goal.returns-in-Index-clause-written
returns-in-Index-clause-written t c = λ u h.
    let i : OverSeek c.args.plan.now.nodes (Rooted u) c.args.n c.in-Index.cond.now c.in-Index.left c.in-Index.seek = begins _ (Rooted u) _ _ _ c.in-Index.is (c.in-Some.ensures.node ∙ ap (λ ns. node_at ns c.args.n) c.as_slice.ensures) h in
    let there = seek_within c.args.plan.now.nodes c.number_after-in-Index.result (c.args.n + 1) i.sought (omega (arith, c.number_after-in-Index.ensures)) (seek_at _ (Rooted u) _ _ _ _ _ i c.number_after-in-Index.ensures) in
    (index_written c.args.plan.now c.args.gauges.now c.args.n c.requires.first u i.left_tree i.sought c.in-Index.cond.now c.number_after-in-Index.result _ _ _ _
    (rooted_same i.is) (omega (arith, c.number_after-in-Index.ensures, i.seek_is))
    (c.write_tree-in-Index.ensures.written i.left_tree i.left_stands) (c.write_tree-in-Index.ensures.left i.left_tree i.left_stands)
    c.write_bound-in-Index.ensures (omega (arith, there.first, there.last)) c.write_bound-in-Index-2.ensures (omega arith)).0

pub returns-in-Over-clause-left : goal.returns-in-Over-clause-left
returns-in-Over-clause-left t c = λ u h.
    let i : OverOne c.args.plan.now.nodes (Rooted u) c.args.n (unary_of c.in-Over.op) c.in-Over.child = begins _ (Rooted u) _ _ _ c.in-Over.is (c.in-Some.ensures.node ∙ ap (λ ns. node_at ns c.args.n) c.as_slice.ensures) h in
    (over_written c.args.plan.now c.args.gauges.now c.args.n c.requires.first u i.tree (unary_of c.in-Over.op) _ _ _ (rooted_same i.is)
    (c.write_tree.ensures.written i.tree i.stands) (c.write_tree.ensures.left i.tree i.stands) c.write_bound-in-Over.ensures (omega (arith, c.in-Some.ensures.within, ap length c.as_slice.ensures))).1

pub returns-in-Join-clause-left : goal.returns-in-Join-clause-left
returns-in-Join-clause-left t c = λ u h.
    let i : OverTwo c.args.plan.now.nodes (Rooted u) c.args.n (method_of c.in-Join.method) (record { pairs = c.in-Join.pairs.now; unique = c.in-Join.unique }) c.in-Join.left c.in-Join.right = begins _ (Rooted u) _ _ _ c.in-Join.is (c.in-Some.ensures.node ∙ ap (λ ns. node_at ns c.args.n) c.as_slice.ensures) h in
    let right = right_at _ (Rooted u) _ _ _ _ _ _ i c.number_after.ensures in
    (join_written c.args.plan.now c.args.gauges.now c.args.n c.requires.first u i.left_tree i.right_tree (method_of c.in-Join.method) (record { pairs = c.in-Join.pairs.now; unique = c.in-Join.unique }) c.number_after.result _ _ _ _
    (rooted_same i.is) (omega (arith, c.number_after.ensures, i.right_is))
    (c.write_tree-in-Join.ensures.written i.left_tree i.left_stands) (c.write_tree-in-Join.ensures.left i.left_tree i.left_stands)
    (c.write_tree-in-Join-2.ensures.written i.right_tree right) (c.write_tree-in-Join-2.ensures.left i.right_tree right) c.write_bound-in-Join.ensures (omega (arith, c.in-Some.ensures.within, ap length c.as_slice.ensures))).1

pub returns-in-Index-clause-left : goal.returns-in-Index-clause-left
returns-in-Index-clause-left t c = λ u h.
    let i : OverSeek c.args.plan.now.nodes (Rooted u) c.args.n c.in-Index.cond.now c.in-Index.left c.in-Index.seek = begins _ (Rooted u) _ _ _ c.in-Index.is (c.in-Some.ensures.node ∙ ap (λ ns. node_at ns c.args.n) c.as_slice.ensures) h in
    let there = seek_within c.args.plan.now.nodes c.number_after-in-Index.result (c.args.n + 1) i.sought (omega (arith, c.number_after-in-Index.ensures)) (seek_at _ (Rooted u) _ _ _ _ _ i c.number_after-in-Index.ensures) in
    (index_written c.args.plan.now c.args.gauges.now c.args.n c.requires.first u i.left_tree i.sought c.in-Index.cond.now c.number_after-in-Index.result _ _ _ _
    (rooted_same i.is) (omega (arith, c.number_after-in-Index.ensures, i.seek_is))
    (c.write_tree-in-Index.ensures.written i.left_tree i.left_stands) (c.write_tree-in-Index.ensures.left i.left_tree i.left_stands)
    c.write_bound-in-Index.ensures (omega (arith, there.first, there.last)) c.write_bound-in-Index-2.ensures (omega arith)).1
