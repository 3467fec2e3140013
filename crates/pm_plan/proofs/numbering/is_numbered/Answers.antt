use Rattle.std.proofs.Common.{◌≡◌, ◌↔◌, ◌+◌, ℕ, length, Option, Some, None, IsTrue, eqb, arith, ap}
use Rattle.std.specs.Option.{option_eq}
use Rattle.std.proofs.lemmas.Bool.Decides.{nat_tests}
use Rattle.pm_plan.proofs.Ends.{end_is}
use Rattle.pm_plan.proofs.numbering.is_numbered.Goals as goal

same : (r : Option ℕ) (m : ℕ) → IsTrue (option_eq eqb r (Some m)) ↔ (r ≡ Some m)
same None m = (λ e. absurd cc, λ e. absurd cc)
same (Some n) m = (λ e. let k : n ≡ m = grind (arith, nat_tests) in ap (λ x. Some x) k, λ e. let k : n ≡ m = cc in grind (arith, nat_tests))

pub returns : goal.returns
returns c =
    let s = same c.subtree_end.result (length c.args.nodes.now + 1) in
    let e = end_is c.args.nodes.now c.subtree_end.result c.subtree_end.ensures in
    (λ t. e.0 (s.0 cc), λ is. let k = s.1 (e.1 is) in cc)
