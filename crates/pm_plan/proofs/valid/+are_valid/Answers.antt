use Rattle.std.proofs.Common.{arith}
use Rattle.std.proofs.lemmas.Bool.Decides.{nat_tests}
use Rattle.pm_plan.specs.Preorder.{Rooted}
use Rattle.pm_plan.proofs.Rules.{valid_split}
use Rattle.pm_plan.proofs.valid.+are_valid.Goals as goal

pub are_valid-returns-then-width_at-lt-TOO_MANY : goal.are_valid-returns-then-width_at-lt-TOO_MANY
are_valid-returns-then-width_at-lt-TOO_MANY t c =
    λ t h. let a = valid_split c.args.decls.now t in
    let b = c.are_valid_below.ensures t h in
    let wide = c.width_at.ensures.value (Rooted t) h in
    (λ yes. a.1 ((c.is_valid_root.ensures t h).0 c.if-not-is_valid_root.false, omega (arith, c.if-width_at-lt-TOO_MANY.true), b.0 yes), λ is. b.1 (a.0 is).2)

pub are_valid-returns-else-width_at-lt-TOO_MANY : goal.are_valid-returns-else-width_at-lt-TOO_MANY
are_valid-returns-else-width_at-lt-TOO_MANY t c =
    λ t h. let a = valid_split c.args.decls.now t in
    let wide = c.width_at.ensures.value (Rooted t) h in
    let much = c.if-width_at-lt-TOO_MANY.false in
    (λ yes. absurd (grind (arith, nat_tests)), λ is. let w = (a.0 is).1 in absurd (omega arith))
