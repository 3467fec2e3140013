use Rattle.std.proofs.Common.{map, ap, ◌∙◌}
use Rattle.std.proofs.lemmas.List.{take_all}
use Rattle.pm_exec.specs.Gauged.{first_gauge}
use Rattle.pm_flows.specs.Indexes.{IsReadable, index_of}
use Rattle.pm_flows.proofs.NodeLists.{All-at, all_readable, mapped-at}
use Rattle.pm_exec.proofs.Gauging.{firsts_are}
use Rattle.pm_exec.proofs.gauges.first_gauges.Goals as goal

pub first_gauge-requires-clause-readable : goal.first_gauge-requires-clause-readable
first_gauge-requires-clause-readable c =
    All-at (IsReadable c.args.db.now) c.as_slice-nodes.result.now c.args.plan.now.nodes c.loop-k.k c.index-nodes-k.result
    (all_readable c.args.plan.now c.args.db.now c.requires.fits) c.as_slice-nodes.ensures c.loop-k-test.true c.index-nodes-k.is

pub first_gauge-requires-clause-index : goal.first_gauge-requires-clause-index
first_gauge-requires-clause-index c =
    mapped-at (index_of c.args.db.now) c.as_slice-nodes.result.now c.args.plan.now.nodes c.loop-k.k c.index-nodes-k.result c.args.indexes.now c.at.result.now
    c.as_slice-nodes.ensures c.requires.indexes c.loop-k-test.true c.index-nodes-k.is c.at.ensures

pub returns : goal.returns
returns c =
    let db = c.args.db.now in
    let nodes = c.as_slice-nodes in
    c.loop-k.invariant
    ∙ ap (map (first_gauge db)) (take_all c.loop-k.k nodes.result.now c.loop-k-test.false ∙ nodes.ensures)
    ∙ firsts_are db c.args.plan.now c.requires.fits
