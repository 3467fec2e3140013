use Rattle.std.proofs.Common.{◌-◌, ap, ◌∙◌}
use Rattle.std.specs.Prelude.{slice_set}
use Rattle.pm_plan.specs.Preorder.{node_at}
use Rattle.pm_bounds.proofs.Written.{one_node}
use Rattle.pm_bounds.proofs.node.write_bound.Goals as goal

pub bound_of-requires-clause-read : goal.bound_of-requires-clause-read
bound_of-requires-clause-read c =
    (one_node c.args.plan.now c.args.gauges.now c.requires.moment c.args.into.now c.in-Some.root c.args.n
    (c.in-Some.ensures.node ∙ ap (λ ns. node_at ns c.args.n) c.as_slice.ensures) c.requires.node.first c.requires.node.last c.requires.read).reads

pub bound_of-requires-clause-fits : goal.bound_of-requires-clause-fits
bound_of-requires-clause-fits c =
    (one_node c.args.plan.now c.args.gauges.now c.requires.moment c.args.into.now c.in-Some.root c.args.n
    (c.in-Some.ensures.node ∙ ap (λ ns. node_at ns c.args.n) c.as_slice.ensures) c.requires.node.first c.requires.node.last c.requires.read).fits

pub returns : goal.returns
returns c =
    ap (slice_set c.args.into.now (c.args.n - 1)) (c.bound_of.ensures
    ∙ (one_node c.args.plan.now c.args.gauges.now c.requires.moment c.args.into.now c.in-Some.root c.args.n
    (c.in-Some.ensures.node ∙ ap (λ ns. node_at ns c.args.n) c.as_slice.ensures) c.requires.node.first c.requires.node.last c.requires.read).bound)
