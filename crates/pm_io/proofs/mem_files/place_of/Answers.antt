use Rattle.std.proofs.Common.{◌≡◌, true, sym, ◌∙◌}
use Rattle.std.specs.Str.{bytes_eq}
use Rattle.pm_io.proofs.Places.{held_of-found}
use Rattle.pm_io.proofs.mem_files.place_of.Goals as goal

pub returns-then-eq-clause-found : goal.returns-then-eq-clause-found
returns-then-eq-clause-found c =
    let same : bytes_eq c.index-files-place.result.name c.args.name.now ≡ true =
    rw (← c.bytes.ensures.value) (sym c.eq.ensures ∙ c.if-eq.true)
    in
    held_of-found _ _ _ c.index-files-place.result c.loop-place-test.true c.index-files-place.is same c.loop-place.invariant
