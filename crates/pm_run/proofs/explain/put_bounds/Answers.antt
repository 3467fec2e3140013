use Rattle.std.proofs.Common.{◌+◌, ◌<◌, ◌≤◌, ◌++◌, false, length, take, get_or, subst, ap, ◌∙◌, arith}
use Rattle.std.specs.List.{zip}
use Rattle.std.proofs.lemmas.List.{take_all}
use Rattle.pm_io.specs.Sink.{gained, GainsPart}
use Rattle.pm_io.proofs.Outside.{gained-gained}
use Rattle.pm_io.proofs.Parts.{on_err, part_first, part_later}
use Rattle.pm_plan.specs.declared.gauge.Bound.{Bound}
use Rattle.pm_estim.specs.declared.pipes.Pipe.{Pipe}
use Rattle.pm_run.specs.ExplainText.{bound_lines}
use Rattle.pm_run.proofs.BoundLines.{Piped, piped_line, lines_from, lines-more, lines-next, length-zip, zip-at}
use Rattle.pm_run.proofs.explain.put_bounds.Goals as goal

-- what would stand past the end of a list
abbrev no_bound : Bound
no_bound = record { lo = 0; hi = 0 }

abbrev no_pipe : Pipe
no_pipe = record { number = 0; driver = false }

pub returns-clause-whole : goal.returns-clause-whole
returns-clause-whole g c =
    let pairs = zip c.args.bounds.now c.args.pipes.now in
    let over : length pairs ≤ c.loop-place.place = omega (arith, length-zip c.args.bounds.now c.args.pipes.now c.requires, c.loop-place-test.false) in
    c.loop-place.invariant.lines ∙ ap (λ ps. gained (g.S.Sink.written c.args.sink.now) (bound_lines 1 ps)) (take_all c.loop-place.place pairs over)

pub returns-in_err-put_bound-clause-part : goal.returns-in_err-put_bound-clause-part
returns-in_err-put_bound-clause-part g c =
    let written = g.S.Sink.written in
    let bounds = c.args.bounds.now in
    let pipes = c.args.pipes.now in
    let pairs = zip bounds pipes in
    let i = c.loop-place.place in
    let x : Piped = (get_or bounds i no_bound, get_or pipes i no_pipe) in
    let old = written c.args.sink.now in
    let mid = written c.loop-place.sink in
    let new = written c.put_bound.new.sink in
    let within : i < length pairs = omega (arith, length-zip bounds pipes c.requires, c.loop-place-test.true) in
    on_err c.from_residual.result
    (subst (GainsPart old new) (lines-next pairs i x within (zip-at bounds pipes i no_bound no_pipe x c.requires c.loop-place-test.true))
    (part_later old mid new (bound_lines 1 (take i pairs)) (piped_line (i + 1) x ++ lines_from (i + 1) pairs) c.loop-place.invariant.lines
    (part_first mid new (piped_line (i + 1) x) (lines_from (i + 1) pairs) c.in_err-put_bound.ensures.part)))

pub loop-place-preserved : goal.loop-place-preserved
loop-place-preserved g c =
    let written = g.S.Sink.written in
    let bounds = c.args.bounds.now in
    let pipes = c.args.pipes.now in
    let pairs = zip bounds pipes in
    let i = c.loop-place.place in
    let x : Piped = (get_or bounds i no_bound, get_or pipes i no_pipe) in
    let old = written c.args.sink.now in
    let within : i < length pairs = omega (arith, length-zip bounds pipes c.requires, c.loop-place-test.true) in
    record {
      lines =
          c.in_ok-put_bound.ensures.whole
          ∙ ap (λ m. gained m (piped_line (i + 1) x)) c.loop-place.invariant.lines
          ∙ gained-gained old (bound_lines 1 (take i pairs)) (piped_line (i + 1) x)
          ∙ ap (gained old) (lines-more pairs i x within (zip-at bounds pipes i no_bound no_pipe x c.requires c.loop-place-test.true));
      faults = omega (arith, c.in_ok-put_bound.ensures.faults, c.loop-place.invariant.faults);
    }
