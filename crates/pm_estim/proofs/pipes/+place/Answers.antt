use Rattle.std.proofs.Common.{not, [], ◌∷◌, ◌++◌, sym, ap, subst, ◌∙◌, arith}
use Rattle.pm_plan.specs.Preorder.{Rooted, IsTreeAt}
use Rattle.pm_plan.specs.Roots.{unary_of, method_of}
use Rattle.pm_plan.proofs.Inversion.{OverOne, OverTwo, OverSeek, begins, none_stands, no_seek, rooted_same}
use Rattle.pm_estim.specs.Steps.{numbers_below}
use Rattle.pm_estim.proofs.PipeLists.{AreFew, few_below, cuts_few, stands_within, placed_scan, placed_over, placed_join, placed_index}
use Rattle.pm_estim.proofs.pipes.+place.Goals as goal

pub unreachable-requires : goal.unreachable-requires
unreachable-requires t c = none_stands _ (Rooted c.requires.stands.0) _ c.in_default.ensures.node c.requires.stands.1

pub unreachable-requires-in-Seek : goal.unreachable-requires-in-Seek
unreachable-requires-in-Seek t c = no_seek c.requires.stands.0 _ (begins _ (Rooted c.requires.stands.0) _ _ _ c.in-Seek.is c.in-Some.ensures.node c.requires.stands.1)

pub below-requires : goal.below-requires
below-requires t c = omega (arith, c.requires.next, c.ranges.n)

pub place-requires : goal.place-requires
place-requires t c =
    let i : OverOne c.args.nodes.now (Rooted c.requires.stands.0) c.args.n (unary_of c.in-Over.op) c.in-Over.child = begins _ (Rooted c.requires.stands.0) _ _ _ c.in-Over.is c.in-Some.ensures.node c.requires.stands.1 in
    let few : AreFew (numbers_below (not c.streams-streams.result) c.args.numbers) c.in-Over.child = few_below (not c.streams-streams.result) c.args.numbers c.in-Over.child (omega (arith, i.child_is, c.requires.own)) (omega (arith, i.child_is, c.requires.next)) in (
      omega (arith, c.in-Some.ensures.within, i.child_is),
      ((i.tree, subst (IsTreeAt c.args.nodes.now i.tree) (sym i.child_is) i.stands), (omega (arith, ap (λ m. m.own) c.below.ensures, few.own), omega (arith, ap (λ m. m.next) c.below.ensures, few.next))),
    )

pub place-requires-in-Join : goal.place-requires-in-Join
place-requires-in-Join t c =
    let i : OverTwo c.args.nodes.now (Rooted c.requires.stands.0) c.args.n (method_of c.in-Join.method) (record { pairs = c.in-Join.pairs.now; unique = c.in-Join.unique }) c.in-Join.left c.in-Join.right = begins _ (Rooted c.requires.stands.0) _ _ _ c.in-Join.is c.in-Some.ensures.node c.requires.stands.1 in (
      omega (arith, c.in-Some.ensures.within, i.left_is),
      ((i.left_tree, subst (IsTreeAt c.args.nodes.now i.left_tree) (sym i.left_is) i.left_stands), (omega (arith, i.left_is, c.requires.own), omega (arith, i.left_is, c.requires.next))),
    )

pub below-requires-in-Join : goal.below-requires-in-Join
below-requires-in-Join t c =
    let i : OverTwo c.args.nodes.now (Rooted c.requires.stands.0) c.args.n (method_of c.in-Join.method) (record { pairs = c.in-Join.pairs.now; unique = c.in-Join.unique }) c.in-Join.left c.in-Join.right = begins _ (Rooted c.requires.stands.0) _ _ _ c.in-Join.is c.in-Some.ensures.node c.requires.stands.1 in
    let placed = c.in_ok-next-in-Join.ensures i.left_tree (subst (IsTreeAt c.args.nodes.now i.left_tree) (sym i.left_is) i.left_stands) in
    omega (arith, placed.comes, c.requires.next, c.ranges.n, cuts_few i.left_tree, i.right_is, c.in-Some.ensures.bound, stands_within c.args.nodes.now i.right_tree c.in-Join.right (omega (arith, i.right_is)) i.right_stands)

pub place-requires-in-Join-2 : goal.place-requires-in-Join-2
place-requires-in-Join-2 t c =
    let i : OverTwo c.args.nodes.now (Rooted c.requires.stands.0) c.args.n (method_of c.in-Join.method) (record { pairs = c.in-Join.pairs.now; unique = c.in-Join.unique }) c.in-Join.left c.in-Join.right = begins _ (Rooted c.requires.stands.0) _ _ _ c.in-Join.is c.in-Some.ensures.node c.requires.stands.1 in
    let placed = c.in_ok-next-in-Join.ensures i.left_tree (subst (IsTreeAt c.args.nodes.now i.left_tree) (sym i.left_is) i.left_stands) in
    let few : AreFew (numbers_below c.is_built.result (record { own = c.args.numbers.own; next = c.in_ok-next-in-Join.next })) c.in-Join.right =
    few_below c.is_built.result (record { own = c.args.numbers.own; next = c.in_ok-next-in-Join.next }) c.in-Join.right (omega (arith, i.right_is, c.requires.own)) (omega (arith, i.right_is, placed.comes, c.requires.next, cuts_few i.left_tree)) in (
      omega (arith, c.in-Some.ensures.within, i.right_is),
      ((i.right_tree, i.right_stands), (omega (arith, ap (λ m. m.own) c.below-in-Join.ensures, few.own), omega (arith, ap (λ m. m.next) c.below-in-Join.ensures, few.next))),
    )

pub place-requires-in-Index : goal.place-requires-in-Index
place-requires-in-Index t c =
    let i : OverSeek c.args.nodes.now (Rooted c.requires.stands.0) c.args.n c.in-Index.cond.now c.in-Index.left c.in-Index.seek = begins _ (Rooted c.requires.stands.0) _ _ _ c.in-Index.is c.in-Some.ensures.node c.requires.stands.1 in (
      omega (arith, c.in-Some.ensures.within, i.left_is),
      ((i.left_tree, subst (IsTreeAt c.args.nodes.now i.left_tree) (sym i.left_is) i.left_stands), (omega (arith, i.left_is, c.requires.own), omega (arith, i.left_is, c.requires.next))),
    )

pub returns-in_ok-push-in-Scan : goal.returns-in_ok-push-in-Scan
returns-in_ok-push-in-Scan t c = λ u h.
    placed_scan u _ _ c.args.numbers _ _ (rooted_same (begins _ (Rooted u) _ _ _ c.in-Scan.is c.in-Some.ensures.node h)) c.in_ok-push-in-Scan.ensures.items

pub returns-in_ok-next-in-Over : goal.returns-in_ok-next-in-Over
returns-in_ok-next-in-Over t c = λ u h.
    let i : OverOne c.args.nodes.now (Rooted u) c.args.n (unary_of c.in-Over.op) c.in-Over.child = begins _ (Rooted u) _ _ _ c.in-Over.is c.in-Some.ensures.node h in
    let cut = ap not c.streams-streams.ensures in
    placed_over u i.tree (unary_of c.in-Over.op) c.args.numbers _ _ _ _ _ (rooted_same i.is)
    (c.in_ok-push-in-Over.ensures.items ∙ ap (λ d. c.args.pipes.now.items ++ record { number = c.args.numbers.own; driver = d } ∷ []) cut)
    (c.below.ensures ∙ ap (λ b. numbers_below b c.args.numbers) cut)
    (c.in_ok-next-in-Over.ensures i.tree (subst (IsTreeAt c.args.nodes.now i.tree) (sym i.child_is) i.stands))

pub returns-in_ok-last-in-Join : goal.returns-in_ok-last-in-Join
returns-in_ok-last-in-Join t c = λ u h.
    let i : OverTwo c.args.nodes.now (Rooted u) c.args.n (method_of c.in-Join.method) (record { pairs = c.in-Join.pairs.now; unique = c.in-Join.unique }) c.in-Join.left c.in-Join.right = begins _ (Rooted u) _ _ _ c.in-Join.is c.in-Some.ensures.node h in
    placed_join u i.left_tree i.right_tree (method_of c.in-Join.method) (record { pairs = c.in-Join.pairs.now; unique = c.in-Join.unique }) c.args.numbers _ _ _ _ _ _ _ (rooted_same i.is)
    c.in_ok-push-in-Join.ensures.items (c.in_ok-next-in-Join.ensures i.left_tree (subst (IsTreeAt c.args.nodes.now i.left_tree) (sym i.left_is) i.left_stands))
    (c.below-in-Join.ensures ∙ ap (λ b. numbers_below b (record { own = c.args.numbers.own; next = c.in_ok-next-in-Join.next })) c.is_built.ensures)
    (c.in_ok-last-in-Join.ensures i.right_tree i.right_stands)

pub returns-in_ok-push-in-Index-2 : goal.returns-in_ok-push-in-Index-2
returns-in_ok-push-in-Index-2 t c = λ u h.
    let i : OverSeek c.args.nodes.now (Rooted u) c.args.n c.in-Index.cond.now c.in-Index.left c.in-Index.seek = begins _ (Rooted u) _ _ _ c.in-Index.is c.in-Some.ensures.node h in
    placed_index u i.left_tree i.sought c.in-Index.cond.now c.args.numbers _ _ _ _ _ (rooted_same i.is)
    c.in_ok-push-in-Index.ensures.items (c.in_ok-next-in-Index.ensures i.left_tree (subst (IsTreeAt c.args.nodes.now i.left_tree) (sym i.left_is) i.left_stands)) c.in_ok-push-in-Index-2.ensures.items
