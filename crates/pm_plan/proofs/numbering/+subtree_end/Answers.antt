use Rattle.std.proofs.Common.{sym, subst}
use Rattle.pm_plan.specs.Preorder.{Rooted}
use Rattle.pm_plan.specs.Standing.{IsSeekAt, IsEnd}
use Rattle.pm_plan.proofs.Inversion.{found_is, none_stands, no_seek, begins, over_at, join_at, index_at}
use Rattle.pm_plan.proofs.Ends.{no_tree, scan_end, over_end, join_end, index_end, no_join, no_index}
use Rattle.pm_plan.proofs.numbering.+subtree_end.Goals as goal
use Rattle.pm_plan.proofs.numbering.+subtree_end.Goals.{else-seek-end-via-then-seek-end+else-is_seek, else-seek-end-via-else-seek-end}

pub returns-in_err-root : goal.returns-in_err-root
returns-in_err-root t c =
    subst (IsEnd c.args.nodes.now c.args.n) (sym c.from_residual.ensures) (no_tree _ _ (λ t h. none_stands _ (Rooted t) _ c.in_err-root.ensures.node h))

pub returns-in-Scan : goal.returns-in-Scan
returns-in-Scan t c = scan_end _ _ _ _ (found_is c.in_ok-root.ensures.node c.in-Scan.is)

pub returns-in-Seek : goal.returns-in-Seek
returns-in-Seek t c = no_tree _ _ (λ t h. no_seek t _ (begins _ (Rooted t) _ _ _ c.in-Seek.is c.in_ok-root.ensures.node h))

pub returns-then-child-n : goal.returns-then-child-n
returns-then-child-n t c = no_tree _ _ (λ t h. c.if-child-n.true (over_at _ (Rooted t) _ _ _ (found_is c.in_ok-root.ensures.node c.in-Over.is) h).child_is)

pub returns-else-child-n : goal.returns-else-child-n
returns-else-child-n t c = over_end _ _ _ _ _ (found_is c.in_ok-root.ensures.node c.in-Over.is) c.if-child-n.false c.subtree_end.ensures

pub returns-then-left-n : goal.returns-then-left-n
returns-then-left-n t c = no_tree _ _ (λ t h. c.if-left-n.true (join_at _ (Rooted t) _ _ _ _ _ (found_is c.in_ok-root.ensures.node c.in-Join.is) h).left_is)

pub returns-in_err-end-in-Join : goal.returns-in_err-end-in-Join
returns-in_err-end-in-Join t c =
    subst (IsEnd c.args.nodes.now c.args.n) (sym c.from_residual-in_err-end-in-Join.ensures)
    (no_join _ _ _ _ _ _ _ (found_is c.in_ok-root.ensures.node c.in-Join.is) c.in_err-end-in-Join.ensures (λ e. cc))

pub returns-then-right-end : goal.returns-then-right-end
returns-then-right-end t c =
    no_join _ _ _ _ _ _ _ (found_is c.in_ok-root.ensures.node c.in-Join.is) c.in_ok-end-in-Join.ensures (λ e. c.if-right-end.true cc)

pub returns-else-right-end : goal.returns-else-right-end
returns-else-right-end t c =
    join_end _ _ _ _ _ _ _ _ (found_is c.in_ok-root.ensures.node c.in-Join.is) c.if-left-n.false c.if-right-end.false c.in_ok-end-in-Join.ensures c.subtree_end-in-Join-2.ensures

pub returns-then-left-n-2 : goal.returns-then-left-n-2
returns-then-left-n-2 t c = no_tree _ _ (λ t h. c.if-left-n-2.true (index_at _ (Rooted t) _ _ _ _ (found_is c.in_ok-root.ensures.node c.in-Index.is) h).left_is)

pub returns-in_err-end-in-Index : goal.returns-in_err-end-in-Index
returns-in_err-end-in-Index t c =
    subst (IsEnd c.args.nodes.now c.args.n) (sym c.from_residual-in_err-end-in-Index.ensures)
    (no_index _ _ _ _ _ _ (found_is c.in_ok-root.ensures.node c.in-Index.is) c.in_err-end-in-Index.ensures (λ e s. cc))

pub returns-then-is_seek : goal.returns-then-is_seek
returns-then-is_seek t c =
    index_end _ _ _ _ _ _ (found_is c.in_ok-root.ensures.node c.in-Index.is) c.if-left-n-2.false c.if-seek-end.true c.in_ok-end-in-Index.ensures (c.is_seek.ensures.0 c.if-is_seek.true)

pub returns-else-seek-end : goal.returns-else-seek-end
returns-else-seek-end t c =
    no_index _ _ _ _ _ _ (found_is c.in_ok-root.ensures.node c.in-Index.is) c.in_ok-end-in-Index.ensures
    (elim c.else-seek-end.branch [
      | else-seek-end-via-then-seek-end+else-is_seek w ↦ (λ e s.
          let k = w.is_seek.ensures.1 (subst (λ m. IsSeekAt c.args.nodes.now m c.in-Index.left) w.if-seek-end.true s) in cc)
      | else-seek-end-via-else-seek-end w ↦ (λ e s. w.if-seek-end.false cc)
    ])
