use Rattle.std.proofs.Common.{◌++◌, ap, ◌∙◌}
use Rattle.std.proofs.lemmas.Result.{on_err_weaker}
use Rattle.pm_io.specs.Sink.{gained}
use Rattle.pm_io.proofs.Outside.{gained-gained}
use Rattle.pm_io.proofs.Parts.{on_err, part_first, part_later}
use Rattle.pm_lines.proofs.refusal.put_three.Goals as goal

pub returns-in_err-write_whole-clause-part : goal.returns-in_err-write_whole-clause-part
returns-in_err-write_whole-clause-part g c =
    let written = g.S.Sink.written in
    let a = c.args in
    let old = written a.sink.now in
    let new = written c.write_whole.new.sink in
    on_err c.from_residual.result
    (part_first old new (a.front.now ++ a.name.now) a.end.now (part_first old new a.front.now a.name.now c.in_err-write_whole.ensures.part))

pub returns-in_err-write_whole-2-clause-part : goal.returns-in_err-write_whole-2-clause-part
returns-in_err-write_whole-2-clause-part g c =
    let written = g.S.Sink.written in
    let a = c.args in
    let old = written a.sink.now in
    let mid = written c.write_whole.new.sink in
    let new = written c.write_whole-2.new.sink in
    on_err c.from_residual-in_err-write_whole-2.result
    (part_first old new (a.front.now ++ a.name.now) a.end.now
    (part_later old mid new a.front.now a.name.now c.in_ok-write_whole.ensures.whole c.in_err-write_whole-2.ensures.part))

pub returns-clause-part : goal.returns-clause-part
returns-clause-part g c =
    let written = g.S.Sink.written in
    let a = c.args in
    let old = written a.sink.now in
    let mid = written c.write_whole-2.new.sink in
    let new = written c.write_whole-3.new.sink in
    on_err_weaker c.write_whole-3.result
    (part_later old mid new (a.front.now ++ a.name.now) a.end.now
    (c.in_ok-write_whole-2.ensures.whole
    ∙ ap (λ m. gained m a.name.now) c.in_ok-write_whole.ensures.whole
    ∙ gained-gained old a.front.now a.name.now))
    c.write_whole-3.ensures.part
