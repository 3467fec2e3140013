use Rattle.std.proofs.Common.{◌≡◌, ◌<◌, ◌^◌, true, take}
use Rattle.std.specs.Prelude.{All}
use Rattle.std.specs.List.{list_all}
use Rattle.pm_plan.specs.Preorder.{Subplan}
use Rattle.pm_plan.specs.Kinds.{pair_fits}
use Rattle.pm_plan.specs.Standing.{Stands, subplan_kinds}
use Rattle.pm_plan.proofs.fits.pairs_fit.Given as goal

abbrev pub invariant-loop-pair : goal.invariant-loop-pair
invariant-loop-pair l = record {
  fit : (p q : Subplan) → Stands l.nodes p l.left → Stands l.nodes q l.right
      → list_all (pair_fits (subplan_kinds l.decls p) (subplan_kinds l.decls q)) (take l.pair-index l.pairs) ≡ true;
  in_range : All (λ pair. pair.left < 2 ^ 32) (take l.pair-index l.pairs);
}
