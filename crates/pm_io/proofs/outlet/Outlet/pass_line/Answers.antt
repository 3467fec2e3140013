use Rattle.std.proofs.Common.{◌≡◌, length, rules, arith, drop_of_length-le, ap, ◌∙◌}
use Rattle.pm_io.proofs.Gathered.{passes_through}
use Rattle.pm_io.proofs.outlet.Outlet.pass_line.Goals as goal

pub returns-clause-bytes : goal.returns-clause-bytes
returns-clause-bytes g c =
    let none : length c.self.inside.gathered.items ≡ 0 =
    ap (λ v. v.waiting) c.self.view_is ∙ c.in_ok-pass_on.ensures.passed
    in
    passes_through _ _ _ _ _ (drop_of_length-le c.self.inside.gathered.items (omega (arith, none))) (search rules)
    c.in_ok-n.ensures.bytes
