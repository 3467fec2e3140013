use Rattle.std.proofs.Common.{◌+◌, arith}
use Rattle.pm_plan.specs.Tree.{Tree, On}
use Rattle.pm_plan.specs.Preorder.{Rooted, IsTreeAt}
use Rattle.pm_plan.specs.Roots.{unary_of, method_of}
use Rattle.pm_plan.proofs.Inversion.{OverOne, OverTwo, OverSeek, begins, none_stands, no_seek, rooted_same, right_at, seek_at}
use Rattle.pm_bounds.proofs.Firsts.{IsFirst, first_scan, first_over, first_join, first_index}
use Rattle.pm_bounds.proofs.first_bounds.+first_of.Goals as goal

pub unreachable-requires : goal.unreachable-requires
unreachable-requires t c = none_stands _ (Rooted c.requires.0) _ c.in_default.ensures.node c.requires.1

pub unreachable-requires-in-Seek : goal.unreachable-requires-in-Seek
unreachable-requires-in-Seek t c = no_seek c.requires.0 _ (begins _ (Rooted c.requires.0) _ _ _ c.in-Seek.is c.in-Some.ensures.node c.requires.1)

pub first_of-child-requires : goal.first_of-child-requires
first_of-child-requires t c =
    let i : OverOne c.args.nodes.now (Rooted c.requires.0) c.args.n (unary_of c.in-Over.op) c.in-Over.child = begins _ (Rooted c.requires.0) _ _ _ c.in-Over.is c.in-Some.ensures.node c.requires.1 in
    (omega (arith, c.in-Some.ensures.within), (i.tree, i.stands))

pub first_of-left-requires : goal.first_of-left-requires
first_of-left-requires t c =
    let i : OverTwo c.args.nodes.now (Rooted c.requires.0) c.args.n (method_of c.in-Join.method) (record { pairs = c.in-Join.pairs.now; unique = c.in-Join.unique }) c.in-Join.left c.in-Join.right = begins _ (Rooted c.requires.0) _ _ _ c.in-Join.is c.in-Some.ensures.node c.requires.1 in
    (omega (arith, c.in-Some.ensures.within), (i.left_tree, i.left_stands))

pub first_of-right-requires : goal.first_of-right-requires
first_of-right-requires t c =
    let i : OverTwo c.args.nodes.now (Rooted c.requires.0) c.args.n (method_of c.in-Join.method) (record { pairs = c.in-Join.pairs.now; unique = c.in-Join.unique }) c.in-Join.left c.in-Join.right = begins _ (Rooted c.requires.0) _ _ _ c.in-Join.is c.in-Some.ensures.node c.requires.1 in
    (omega (arith, c.in-Some.ensures.within, c.number_after.ensures), (i.right_tree, right_at _ (Rooted c.requires.0) _ _ _ _ _ _ i c.number_after.ensures))

pub first_of-left-requires-in-Index : goal.first_of-left-requires-in-Index
first_of-left-requires-in-Index t c =
    let i : OverSeek c.args.nodes.now (Rooted c.requires.0) c.args.n c.in-Index.cond.now c.in-Index.left c.in-Index.seek = begins _ (Rooted c.requires.0) _ _ _ c.in-Index.is c.in-Some.ensures.node c.requires.1 in
    (omega (arith, c.in-Some.ensures.within), (i.left_tree, i.left_stands))

pub first_seek-seek-requires : goal.first_seek-seek-requires
first_seek-seek-requires t c =
    let i : OverSeek c.args.nodes.now (Rooted c.requires.0) c.args.n c.in-Index.cond.now c.in-Index.left c.in-Index.seek = begins _ (Rooted c.requires.0) _ _ _ c.in-Index.is c.in-Some.ensures.node c.requires.1 in
    (i.sought, c.args.n + 1, seek_at _ (Rooted c.requires.0) _ _ _ _ _ i c.number_after-in-Index.ensures)

pub returns-in-Scan : goal.returns-in-Scan
returns-in-Scan t c =
    let first : (u : Tree) → IsTreeAt c.args.nodes.now u c.args.n → IsFirst c.args.sizes.now u c.from-hi.result c.from-hi.result = λ u h.
    first_scan c.args.sizes.now u c.in-Scan.table c.in-Scan.label.now _ _ (rooted_same (begins _ (Rooted u) _ _ _ c.in-Scan.is c.in-Some.ensures.node h)) c.from-hi.ensures c.size_in.ensures (omega arith) in
    record { hi = λ u h. (first u h).upper; sum = λ u h. (first u h).sum }

pub returns-in-Over : goal.returns-in-Over
returns-in-Over t c =
    let first : (u : Tree) → IsTreeAt c.args.nodes.now u c.args.n → IsFirst c.args.sizes.now u c.hi_over-hi.result c.add_capped.result = λ u h.
    let i : OverOne c.args.nodes.now (Rooted u) c.args.n (unary_of c.in-Over.op) c.in-Over.child = begins _ (Rooted u) _ _ _ c.in-Over.is c.in-Some.ensures.node h in
    first_over c.args.sizes.now u i.tree (unary_of c.in-Over.op) _ _ _ _ _ (rooted_same i.is)
    (record { upper = c.first_of-child.ensures.hi i.tree i.stands; sum = c.first_of-child.ensures.sum i.tree i.stands }) c.uncounted.ensures c.hi_over-hi.ensures c.add_capped.ensures in
    record { hi = λ u h. (first u h).upper; sum = λ u h. (first u h).sum }

pub returns-in-Join : goal.returns-in-Join
returns-in-Join t c =
    let on : On = record { pairs = c.in-Join.pairs.now; unique = c.in-Join.unique } in
    let first : (u : Tree) → IsTreeAt c.args.nodes.now u c.args.n → IsFirst c.args.sizes.now u c.hi_joined-hi.result c.add_capped-in-Join-2.result = λ u h.
    let i : OverTwo c.args.nodes.now (Rooted u) c.args.n (method_of c.in-Join.method) on c.in-Join.left c.in-Join.right = begins _ (Rooted u) _ _ _ c.in-Join.is c.in-Some.ensures.node h in
    let right = right_at _ (Rooted u) _ _ _ _ _ _ i c.number_after.ensures in
    first_join c.args.sizes.now u i.left_tree i.right_tree (method_of c.in-Join.method) on _ _ _ _ _ _ _ _ _ (rooted_same i.is)
    (record { upper = c.first_of-left.ensures.hi i.left_tree i.left_stands; sum = c.first_of-left.ensures.sum i.left_tree i.left_stands })
    (record { upper = c.first_of-right.ensures.hi i.right_tree right; sum = c.first_of-right.ensures.sum i.right_tree right })
    c.uncounted-in-Join.ensures c.uncounted-in-Join-2.ensures c.hi_joined-hi.ensures c.add_capped-in-Join.ensures c.add_capped-in-Join-2.ensures in
    record { hi = λ u h. (first u h).upper; sum = λ u h. (first u h).sum }

pub returns-in-Index : goal.returns-in-Index
returns-in-Index t c =
    let first : (u : Tree) → IsTreeAt c.args.nodes.now u c.args.n → IsFirst c.args.sizes.now u c.index_hi-hi.result c.add_capped-in-Index-2.result = λ u h.
    let i : OverSeek c.args.nodes.now (Rooted u) c.args.n c.in-Index.cond.now c.in-Index.left c.in-Index.seek = begins _ (Rooted u) _ _ _ c.in-Index.is c.in-Some.ensures.node h in
    first_index c.args.sizes.now u i.left_tree i.sought c.in-Index.cond.now _ _ _ _ _ _ _ (rooted_same i.is)
    (record { upper = c.first_of-left-in-Index.ensures.hi i.left_tree i.left_stands; sum = c.first_of-left-in-Index.ensures.sum i.left_tree i.left_stands })
    (c.first_seek-seek.ensures i.sought (c.args.n + 1) (seek_at _ (Rooted u) _ _ _ _ _ i c.number_after-in-Index.ensures))
    c.uncounted-in-Index.ensures c.index_hi-hi.ensures c.add_capped-in-Index.ensures c.add_capped-in-Index-2.ensures in
    record { hi = λ u h. (first u h).upper; sum = λ u h. (first u h).sum }
