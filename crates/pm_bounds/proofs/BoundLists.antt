-- the bounds of a tree's nodes are read by their numbers
use Rattle.std.proofs.Common.{◌≡◌, ℕ, [], length, refl, subst}
use Rattle.std.proofs.lemmas.List.{append-nil}
use Rattle.pm_plan.specs.Tree.{Tree, size}
use Rattle.pm_plan.proofs.Walks.{length-list_at, AreItems, AreItems-list_at}
use Rattle.pm_work.specs.Moments.{Gauges}
use Rattle.pm_bounds.specs.Bounds.{bound_of, bound_of_seek, bounds_of}

pub length-bounds_of : (G : Gauges) (t : Tree) (n : ℕ) → length (bounds_of t n G) ≡ size t
length-bounds_of G t n = length-list_at (λ u m. bound_of u m G) (λ left seek m. bound_of_seek left seek m G) t n

pub are_bounds : (G : Gauges) (t : Tree) → AreItems (λ u m. bound_of u m G) (λ left seek m. bound_of_seek left seek m G) (bounds_of t 1 G) t 1
are_bounds G t =
    subst (λ items. AreItems (λ u m. bound_of u m G) (λ left seek m. bound_of_seek left seek m G) items t 1) (append-nil (bounds_of t 1 G))
    (AreItems-list_at (λ u m. bound_of u m G) (λ left seek m. bound_of_seek left seek m G) t 1 [] [] refl)
