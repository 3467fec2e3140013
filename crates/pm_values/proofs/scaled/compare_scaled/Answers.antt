use Rattle.std.proofs.Common.{◌≡◌, ◌∙◌, ◌<◌, ◌-◌, ◌^◌, subst, sym, ap, arith}
use Rattle.std.specs.Prelude.{pos, ◌*ℤ◌, FitsSigned}
use Rattle.std.specs.Int.{w128}
use Rattle.std.proofs.lemmas.Int.{to_z-of_z}
use Rattle.std.specs.Ordering.{int_cmp, ordering_reverse}
use Rattle.pm_values.proofs.Scaling.{ten-positive, int_cmp_fewer, int_cmp_more}
use Rattle.pm_values.proofs.scaled.compare_scaled.Goals as goal

pub compare_product-requires : goal.compare_product-requires
compare_product-requires c = subst (λ n. 0 < n) (sym c.pow.ensures) (ten-positive _)

pub compare_product-requires-else-s-t : goal.compare_product-requires-else-s-t
compare_product-requires-else-s-t c = subst (λ n. 0 < n) (sym c.pow-else-s-t.ensures) (ten-positive _)

pub returns-then-s-t : goal.returns-then-s-t
returns-then-s-t c =
    let factor : c.pow.result ≡ 10 ^ (c.args.t - c.args.s) = c.pow.ensures ∙ ap (λ n. 10 ^ n) c.from.ensures in
    let m : FitsSigned w128 c.args.m = c.ranges.m in
    let n : FitsSigned w128 c.args.n = c.ranges.n in
    let product = simp to_z-of_z at c.compare_product.ensures in
    product ∙ ap (λ n. int_cmp (c.args.m *ℤ pos n) c.args.n) factor
    ∙ int_cmp_fewer c.args.m c.args.n c.args.s c.args.t (omega arith)

pub returns-else-s-t : goal.returns-else-s-t
returns-else-s-t c =
    let factor : c.pow-else-s-t.result ≡ 10 ^ (c.args.s - c.args.t) = c.pow-else-s-t.ensures ∙ ap (λ n. 10 ^ n) c.from-else-s-t.ensures in
    let m : FitsSigned w128 c.args.m = c.ranges.m in
    let n : FitsSigned w128 c.args.n = c.ranges.n in
    let product = simp to_z-of_z at c.compare_product-else-s-t.ensures in
    c.reverse.ensures ∙ ap ordering_reverse (product ∙ ap (λ n. int_cmp (c.args.n *ℤ pos n) c.args.m) factor)
    ∙ int_cmp_more c.args.m c.args.n c.args.s c.args.t (omega arith)
