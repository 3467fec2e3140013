use Rattle.std.proofs.Common.{◌≤◌, ◌+◌, ◌-◌, ◌/◌, length, arith}
use Rattle.pm_load.specs.Parts.{cut}
use Rattle.pm_load.proofs.Cuts.{cut_ordered, parts_joined}
use Rattle.pm_load.proofs.parts.+parts.Goals as goal

pub returns : goal.returns
returns g t c =
    let n = length c.args.list.now in
    let w = c.args.workers in
    let middle = c.args.first + (c.args.last - c.args.first) / 2 in
    let low : cut n w c.args.first ≤ cut n w middle = cut_ordered n w c.args.first middle (omega arith) (omega arith) in
    let mid : cut n w middle ≤ cut n w c.args.last = cut_ordered n w middle c.args.last (omega arith) (omega arith) in
    parts_joined c.args.decl.now.columns c.args.list.now (cut n w c.args.first) (cut n w middle) (cut n w c.args.last) _ _ c.joined.result low mid c.join-front.ensures.first c.join-front.ensures.second c.joined.ensures
