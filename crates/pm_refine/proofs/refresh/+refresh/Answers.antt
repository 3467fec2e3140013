use Rattle.std.proofs.Common.{◌≡◌, ◌+◌, ◌-◌, length, refl, sym, ap, subst, ◌∙◌, inl, arith}
use Rattle.pm_plan.specs.declared.root.Root.TheVariants as root
use Rattle.pm_plan.specs.Tree.{size}
use Rattle.pm_plan.specs.Preorder.{Rooted, node_at}
use Rattle.pm_plan.specs.Roots.{unary_of, method_of}
use Rattle.pm_plan.proofs.Inversion.{OverOne, OverTwo, OverSeek, begins, none_stands, no_seek, rooted_same}
use Rattle.pm_bounds.specs.Moment.{EachReadBy, bound_in, plan_bounds}
use Rattle.pm_bounds.proofs.Narrow.{size_pos}
use Rattle.pm_bounds.proofs.Trees.{found, no_reads, seek_entry}
use Rattle.pm_refine.proofs.Stale.{later_moment, fits_at, still_between, set_still_between, unchanged, over_stale, left_stale, right_stale, join_refreshed, over_refreshed, scan_refreshed, index_left_stale, seek_there, index_refreshed}
use Rattle.pm_refine.proofs.refresh.+refresh.Goals as goal

pub unreachable-requires : goal.unreachable-requires
unreachable-requires t c = none_stands _ (Rooted c.requires.stale.tree) _ (c.in_default.ensures.node ∙ ap (λ ns. node_at ns c.args.n) c.as_slice.ensures) c.requires.stale.stands

pub unreachable-requires-in-Seek : goal.unreachable-requires-in-Seek
unreachable-requires-in-Seek t c = no_seek c.requires.stale.tree _ (begins _ (Rooted c.requires.stale.tree) _ _ _ c.in-Seek.is (c.in-Some.ensures.node ∙ ap (λ ns. node_at ns c.args.n) c.as_slice.ensures) c.requires.stale.stands)

pub returns-then-is_outside-clause-refreshed : goal.returns-then-is_outside-clause-refreshed
returns-then-is_outside-clause-refreshed t c = unchanged c.args.plan.now c.args.node c.args.gauges.now c.args.n c.args.upto c.args.bounds.now c.requires.stale (c.is_outside.ensures.0 c.if-is_outside.true)

-- ---- a scan

pub rewrite-requires-clause-moment : goal.rewrite-requires-clause-moment
rewrite-requires-clause-moment t c = later_moment c.args.plan.now c.args.node c.args.gauges.now c.args.n c.args.upto c.args.bounds.now c.requires.stale

pub rewrite-requires-clause-read : goal.rewrite-requires-clause-read
rewrite-requires-clause-read t c = no_reads c.args.plan.now c.args.gauges.now (root.Scan c.in-Scan.table c.in-Scan.label) c.args.n _ (found (c.in-Some.ensures.node ∙ ap (λ ns. node_at ns c.args.n) c.as_slice.ensures) c.in-Scan.is) tt

pub rewrite-requires-clause-fit : goal.rewrite-requires-clause-fit
rewrite-requires-clause-fit t c = fits_at c.args.plan.now c.args.node c.args.gauges.now c.args.n c.args.upto c.args.bounds.now c.requires.stale c.args.n _ (omega (arith, c.in-Some.ensures.within, ap length c.as_slice.ensures, c.requires.stale.room, c.requires.stale.first)) c.requires.stale.room c.requires.stale.between

pub returns-in-Scan-clause-refreshed : goal.returns-in-Scan-clause-refreshed
returns-in-Scan-clause-refreshed t c =
    let same = rooted_same (begins _ (Rooted c.requires.stale.tree) _ _ _ c.in-Scan.is (c.in-Some.ensures.node ∙ ap (λ ns. node_at ns c.args.n) c.as_slice.ensures) c.requires.stale.stands) in
    scan_refreshed c.args.plan.now c.args.node c.args.gauges.now c.args.n c.args.upto c.args.bounds.now c.requires.stale _ (ap size same) c.rewrite.ensures.written (omega (arith, c.in-Some.ensures.within, ap length c.as_slice.ensures, c.requires.stale.room, c.requires.stale.first))

-- ---- an operator over a child

pub refresh-requires : goal.refresh-requires
refresh-requires t c =
    let i : OverOne c.args.plan.now.nodes (Rooted c.requires.stale.tree) c.args.n (unary_of c.in-Over.op) c.in-Over.child = begins _ (Rooted c.requires.stale.tree) _ _ _ c.in-Over.is (c.in-Some.ensures.node ∙ ap (λ ns. node_at ns c.args.n) c.as_slice.ensures) c.requires.stale.stands in
    (omega (arith, c.in-Some.ensures.within, ap length c.as_slice.ensures, i.child_is), (over_stale c.args.plan.now c.args.node c.args.gauges.now c.args.n c.args.upto c.args.bounds.now c.requires.stale (unary_of c.in-Over.op) c.in-Over.child i, c.requires.sums))

pub rewrite-requires-in-Over-clause-moment : goal.rewrite-requires-in-Over-clause-moment
rewrite-requires-in-Over-clause-moment t c = later_moment c.args.plan.now c.args.node c.args.gauges.now c.args.n c.args.upto c.args.bounds.now c.requires.stale

pub rewrite-requires-in-Over-clause-read : goal.rewrite-requires-in-Over-clause-read
rewrite-requires-in-Over-clause-read t c =
    let i : OverOne c.args.plan.now.nodes (Rooted c.requires.stale.tree) c.args.n (unary_of c.in-Over.op) c.in-Over.child = begins _ (Rooted c.requires.stale.tree) _ _ _ c.in-Over.is (c.in-Some.ensures.node ∙ ap (λ ns. node_at ns c.args.n) c.as_slice.ensures) c.requires.stale.stands in
    no_reads c.args.plan.now c.args.gauges.now (root.Over c.in-Over.op c.in-Over.child) c.args.n _ (found (c.in-Some.ensures.node ∙ ap (λ ns. node_at ns c.args.n) c.as_slice.ensures) c.in-Over.is)
    (c.refresh.ensures.refreshed.inside (c.in-Over.child - 1) (omega arith) (omega (arith, i.child_is, c.requires.stale.ends, c.requires.stale.first, size_pos i.tree, ap size (rooted_same i.is))))

pub rewrite-requires-in-Over-clause-fit : goal.rewrite-requires-in-Over-clause-fit
rewrite-requires-in-Over-clause-fit t c =
    fits_at c.args.plan.now c.args.node c.args.gauges.now c.args.n c.args.upto c.args.bounds.now c.requires.stale c.args.n _ (omega (arith, c.in-Some.ensures.within, ap length c.as_slice.ensures, c.requires.stale.room, c.requires.stale.first)) (omega (arith, c.requires.stale.room)) (still_between c.args.plan.now c.args.node c.args.gauges.now c.args.n c.args.upto c.args.bounds.now c.requires.stale _ _ _ _ c.refresh.ensures.refreshed c.requires.stale.between)

pub returns-in-Over-clause-refreshed : goal.returns-in-Over-clause-refreshed
returns-in-Over-clause-refreshed t c =
    let i : OverOne c.args.plan.now.nodes (Rooted c.requires.stale.tree) c.args.n (unary_of c.in-Over.op) c.in-Over.child = begins _ (Rooted c.requires.stale.tree) _ _ _ c.in-Over.is (c.in-Some.ensures.node ∙ ap (λ ns. node_at ns c.args.n) c.as_slice.ensures) c.requires.stale.stands in
    over_refreshed c.args.plan.now c.args.node c.args.gauges.now c.args.n c.args.upto c.args.bounds.now c.requires.stale (unary_of c.in-Over.op) c.in-Over.child i _ _ c.refresh.ensures.refreshed c.rewrite-in-Over.ensures.written (omega (arith, c.in-Some.ensures.within, ap length c.as_slice.ensures, c.requires.stale.room, c.requires.stale.first))

-- ---- a join

pub refresh-requires-in-Join : goal.refresh-requires-in-Join
refresh-requires-in-Join t c =
    let i : OverTwo c.args.plan.now.nodes (Rooted c.requires.stale.tree) c.args.n (method_of c.in-Join.method) (record { pairs = c.in-Join.pairs.now; unique = c.in-Join.unique }) c.in-Join.left c.in-Join.right = begins _ (Rooted c.requires.stale.tree) _ _ _ c.in-Join.is (c.in-Some.ensures.node ∙ ap (λ ns. node_at ns c.args.n) c.as_slice.ensures) c.requires.stale.stands in
    (omega (arith, c.in-Some.ensures.within, ap length c.as_slice.ensures, i.left_is), (left_stale c.args.plan.now c.args.node c.args.gauges.now c.args.n c.args.upto c.args.bounds.now c.requires.stale (method_of c.in-Join.method) (record { pairs = c.in-Join.pairs.now; unique = c.in-Join.unique }) c.in-Join.left c.in-Join.right i, c.requires.sums))

pub refresh-requires-in-Join-2 : goal.refresh-requires-in-Join-2
refresh-requires-in-Join-2 t c =
    let i : OverTwo c.args.plan.now.nodes (Rooted c.requires.stale.tree) c.args.n (method_of c.in-Join.method) (record { pairs = c.in-Join.pairs.now; unique = c.in-Join.unique }) c.in-Join.left c.in-Join.right = begins _ (Rooted c.requires.stale.tree) _ _ _ c.in-Join.is (c.in-Some.ensures.node ∙ ap (λ ns. node_at ns c.args.n) c.as_slice.ensures) c.requires.stale.stands in
    (omega (arith, c.in-Some.ensures.within, ap length c.as_slice.ensures, i.right_is), (right_stale c.args.plan.now c.args.node c.args.gauges.now c.args.n c.args.upto c.args.bounds.now c.requires.stale (method_of c.in-Join.method) (record { pairs = c.in-Join.pairs.now; unique = c.in-Join.unique }) c.in-Join.left c.in-Join.right i _ c.refresh-in-Join.ensures.refreshed (omega (arith, c.requires.stale.room)), c.refresh-in-Join.ensures.sums))

pub rewrite-requires-in-Join-clause-moment : goal.rewrite-requires-in-Join-clause-moment
rewrite-requires-in-Join-clause-moment t c = later_moment c.args.plan.now c.args.node c.args.gauges.now c.args.n c.args.upto c.args.bounds.now c.requires.stale

pub rewrite-requires-in-Join-clause-read : goal.rewrite-requires-in-Join-clause-read
rewrite-requires-in-Join-clause-read t c =
    let i : OverTwo c.args.plan.now.nodes (Rooted c.requires.stale.tree) c.args.n (method_of c.in-Join.method) (record { pairs = c.in-Join.pairs.now; unique = c.in-Join.unique }) c.in-Join.left c.in-Join.right = begins _ (Rooted c.requires.stale.tree) _ _ _ c.in-Join.is (c.in-Some.ensures.node ∙ ap (λ ns. node_at ns c.args.n) c.as_slice.ensures) c.requires.stale.stands in
    no_reads c.args.plan.now c.args.gauges.now (root.Join c.in-Join.method c.in-Join.left c.in-Join.right c.in-Join.pairs c.in-Join.unique) c.args.n _ (found (c.in-Some.ensures.node ∙ ap (λ ns. node_at ns c.args.n) c.as_slice.ensures) c.in-Join.is) (
      c.refresh-in-Join-2.ensures.refreshed.outside (c.in-Join.left - 1) (inl (omega (arith, i.left_is, i.right_is, size_pos i.left_tree)))
          ∙ c.refresh-in-Join.ensures.refreshed.inside (c.in-Join.left - 1) (omega arith) (omega (arith, i.left_is, i.right_is, size_pos i.left_tree)),
      c.refresh-in-Join-2.ensures.refreshed.inside (c.in-Join.right - 1) (omega arith) (omega (arith, i.right_is, c.requires.stale.ends, c.requires.stale.first, size_pos i.right_tree, ap size (rooted_same i.is))),
    )

pub rewrite-requires-in-Join-clause-fit : goal.rewrite-requires-in-Join-clause-fit
rewrite-requires-in-Join-clause-fit t c =
    fits_at c.args.plan.now c.args.node c.args.gauges.now c.args.n c.args.upto c.args.bounds.now c.requires.stale c.args.n _ (omega (arith, c.in-Some.ensures.within, ap length c.as_slice.ensures, c.requires.stale.room, c.requires.stale.first)) (omega (arith, c.requires.stale.room))
    (still_between c.args.plan.now c.args.node c.args.gauges.now c.args.n c.args.upto c.args.bounds.now c.requires.stale _ _ _ _ c.refresh-in-Join-2.ensures.refreshed (still_between c.args.plan.now c.args.node c.args.gauges.now c.args.n c.args.upto c.args.bounds.now c.requires.stale _ _ _ _ c.refresh-in-Join.ensures.refreshed c.requires.stale.between))

pub returns-in-Join-clause-refreshed : goal.returns-in-Join-clause-refreshed
returns-in-Join-clause-refreshed t c =
    let i : OverTwo c.args.plan.now.nodes (Rooted c.requires.stale.tree) c.args.n (method_of c.in-Join.method) (record { pairs = c.in-Join.pairs.now; unique = c.in-Join.unique }) c.in-Join.left c.in-Join.right = begins _ (Rooted c.requires.stale.tree) _ _ _ c.in-Join.is (c.in-Some.ensures.node ∙ ap (λ ns. node_at ns c.args.n) c.as_slice.ensures) c.requires.stale.stands in
    join_refreshed c.args.plan.now c.args.node c.args.gauges.now c.args.n c.args.upto c.args.bounds.now c.requires.stale (method_of c.in-Join.method) (record { pairs = c.in-Join.pairs.now; unique = c.in-Join.unique }) c.in-Join.left c.in-Join.right i _ _ _ c.refresh-in-Join.ensures.refreshed c.refresh-in-Join-2.ensures.refreshed c.rewrite-in-Join.ensures.written (omega (arith, c.in-Some.ensures.within, ap length c.as_slice.ensures, c.requires.stale.room, c.requires.stale.first))

-- ---- an Index

pub refresh-requires-in-Index : goal.refresh-requires-in-Index
refresh-requires-in-Index t c =
    let i : OverSeek c.args.plan.now.nodes (Rooted c.requires.stale.tree) c.args.n c.in-Index.cond.now c.in-Index.left c.in-Index.seek = begins _ (Rooted c.requires.stale.tree) _ _ _ c.in-Index.is (c.in-Some.ensures.node ∙ ap (λ ns. node_at ns c.args.n) c.as_slice.ensures) c.requires.stale.stands in
    (omega (arith, c.in-Some.ensures.within, ap length c.as_slice.ensures, i.left_is), (index_left_stale c.args.plan.now c.args.node c.args.gauges.now c.args.n c.args.upto c.args.bounds.now c.requires.stale c.in-Index.cond.now c.in-Index.left c.in-Index.seek i, c.requires.sums))

pub rewrite-requires-in-Index : goal.rewrite-requires-in-Index
rewrite-requires-in-Index t c =
    let i : OverSeek c.args.plan.now.nodes (Rooted c.requires.stale.tree) c.args.n c.in-Index.cond.now c.in-Index.left c.in-Index.seek = begins _ (Rooted c.requires.stale.tree) _ _ _ c.in-Index.is (c.in-Some.ensures.node ∙ ap (λ ns. node_at ns c.args.n) c.as_slice.ensures) c.requires.stale.stands in
    let there = seek_there c.args.plan.now c.args.node c.args.gauges.now c.args.n c.args.upto c.args.bounds.now c.requires.stale c.in-Index.cond.now c.in-Index.left c.in-Index.seek i in
    record {
      moment = later_moment c.args.plan.now c.args.node c.args.gauges.now c.args.n c.args.upto c.args.bounds.now c.requires.stale;
      room = omega (arith, c.requires.stale.room);
      first = there.0;
      last = there.1;
      read =
          subst (EachReadBy (λ m. bound_in c.refresh-in-Index.new.bounds m ≡ bound_in (plan_bounds c.args.plan.now c.args.gauges.now) m)) (sym i.seek_stands)
          (c.refresh-in-Index.ensures.refreshed.inside (c.args.n + 1 - 1) (omega (arith, i.left_is)) (omega (arith, i.seek_is, size_pos i.left_tree)));
      sums = c.refresh-in-Index.ensures.sums;
      fit = fits_at c.args.plan.now c.args.node c.args.gauges.now c.args.n c.args.upto c.args.bounds.now c.requires.stale c.in-Index.seek _ (omega (arith, there.0, there.1, c.requires.stale.room)) (omega (arith, c.requires.stale.room)) (still_between c.args.plan.now c.args.node c.args.gauges.now c.args.n c.args.upto c.args.bounds.now c.requires.stale _ _ _ _ c.refresh-in-Index.ensures.refreshed c.requires.stale.between);
    }

pub rewrite-requires-in-Index-2-clause-moment : goal.rewrite-requires-in-Index-2-clause-moment
rewrite-requires-in-Index-2-clause-moment t c = later_moment c.args.plan.now c.args.node c.args.gauges.now c.args.n c.args.upto c.args.bounds.now c.requires.stale

pub rewrite-requires-in-Index-2-clause-read : goal.rewrite-requires-in-Index-2-clause-read
rewrite-requires-in-Index-2-clause-read t c =
    let i : OverSeek c.args.plan.now.nodes (Rooted c.requires.stale.tree) c.args.n c.in-Index.cond.now c.in-Index.left c.in-Index.seek = begins _ (Rooted c.requires.stale.tree) _ _ _ c.in-Index.is (c.in-Some.ensures.node ∙ ap (λ ns. node_at ns c.args.n) c.as_slice.ensures) c.requires.stale.stands in
    let there = seek_there c.args.plan.now c.args.node c.args.gauges.now c.args.n c.args.upto c.args.bounds.now c.requires.stale c.in-Index.cond.now c.in-Index.left c.in-Index.seek i in
    no_reads c.args.plan.now c.args.gauges.now (root.Index c.in-Index.left c.in-Index.seek c.in-Index.cond) c.args.n _ (found (c.in-Some.ensures.node ∙ ap (λ ns. node_at ns c.args.n) c.as_slice.ensures) c.in-Index.is)
    (seek_entry c.args.plan.now c.args.gauges.now c.in-Index.seek c.in-Index.seek _ _ c.rewrite-in-Index.ensures.written (omega (arith, there.0, there.1, c.requires.stale.room)) refl)

pub rewrite-requires-in-Index-2-clause-fit : goal.rewrite-requires-in-Index-2-clause-fit
rewrite-requires-in-Index-2-clause-fit t c =
    let i : OverSeek c.args.plan.now.nodes (Rooted c.requires.stale.tree) c.args.n c.in-Index.cond.now c.in-Index.left c.in-Index.seek = begins _ (Rooted c.requires.stale.tree) _ _ _ c.in-Index.is (c.in-Some.ensures.node ∙ ap (λ ns. node_at ns c.args.n) c.as_slice.ensures) c.requires.stale.stands in
    let there = seek_there c.args.plan.now c.args.node c.args.gauges.now c.args.n c.args.upto c.args.bounds.now c.requires.stale c.in-Index.cond.now c.in-Index.left c.in-Index.seek i in
    fits_at c.args.plan.now c.args.node c.args.gauges.now c.args.n c.args.upto c.args.bounds.now c.requires.stale c.args.n _ (omega (arith, c.in-Some.ensures.within, ap length c.as_slice.ensures, c.requires.stale.room, c.requires.stale.first)) (omega (arith, c.requires.stale.room))
    (set_still_between c.args.plan.now c.args.node c.args.gauges.now c.args.n c.args.upto c.args.bounds.now c.requires.stale c.in-Index.seek _ _ c.rewrite-in-Index.ensures.written (omega (arith, there.0, there.1, c.requires.stale.room))
    (still_between c.args.plan.now c.args.node c.args.gauges.now c.args.n c.args.upto c.args.bounds.now c.requires.stale _ _ _ _ c.refresh-in-Index.ensures.refreshed c.requires.stale.between))

pub returns-in-Index-clause-refreshed : goal.returns-in-Index-clause-refreshed
returns-in-Index-clause-refreshed t c =
    let i : OverSeek c.args.plan.now.nodes (Rooted c.requires.stale.tree) c.args.n c.in-Index.cond.now c.in-Index.left c.in-Index.seek = begins _ (Rooted c.requires.stale.tree) _ _ _ c.in-Index.is (c.in-Some.ensures.node ∙ ap (λ ns. node_at ns c.args.n) c.as_slice.ensures) c.requires.stale.stands in
    let there = seek_there c.args.plan.now c.args.node c.args.gauges.now c.args.n c.args.upto c.args.bounds.now c.requires.stale c.in-Index.cond.now c.in-Index.left c.in-Index.seek i in
    index_refreshed c.args.plan.now c.args.node c.args.gauges.now c.args.n c.args.upto c.args.bounds.now c.requires.stale c.in-Index.cond.now c.in-Index.left c.in-Index.seek i _ _ _ c.refresh-in-Index.ensures.refreshed c.rewrite-in-Index.ensures.written (omega (arith, there.0, there.1, c.requires.stale.room)) c.rewrite-in-Index-2.ensures.written (omega (arith, c.in-Some.ensures.within, ap length c.as_slice.ensures, c.requires.stale.room, c.requires.stale.first))
