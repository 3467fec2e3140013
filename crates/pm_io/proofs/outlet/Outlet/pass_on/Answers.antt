use Rattle.std.proofs.Common.{◌≡◌, ◌-◌, length, drop, take, arith, ap, subst, length-drop}
use Rattle.std.specs.Io.KnownBytes.{Appends}
use Rattle.std.proofs.KnownBytes.{Keeps-trans}
use Rattle.pm_io.proofs.Gathered.{passes_more}
use Rattle.pm_io.proofs.outlet.Outlet.pass_on.Goals as goal

pub loop-self-preserved : goal.loop-self-preserved
loop-self-preserved g c =
    let passed = c.loop-self.self-inside.passed in
    let gathered = c.loop-self.self-inside.gathered.items in
    let n = c.in_ok-self-inside.field-0 in
    let lent = c.deref.result.now in
    let old = g.W.Write.contents c.loop-self.self-inside.writer in
    let new = g.W.Write.contents c.write_some.new.writer in
    let whole : length lent ≡ length gathered = ap length c.deref.ensures.0 in
    let took : Appends old new (take n (take (length gathered - passed) (drop passed gathered))) =
    subst (λ xs. Appends old new (take n (take (length xs - passed) (drop passed xs)))) c.deref.ensures.0
    c.in_ok-self-inside.ensures.bytes
    in
    record {
      passed = omega (arith, c.in_ok-self-inside.ensures.amount, length-drop passed lent, whole, c.loop-self.invariant.passed);
      line = c.loop-self.invariant.line;
      bytes = Keeps-trans _ _ _ c.loop-self.invariant.bytes (passes_more old new gathered passed n took);
    }
