-- no upper bound is above the first one
use Rattle.std.proofs.Common.{◌≡◌, ℕ, suc, zero, ◌+◌, ◌≤◌, [], ◌∷◌, length, refl, ap, sym, subst, arith}
use Rattle.pm_plan.specs.Rows.{Db, table_rows, decls_of}
use Rattle.pm_plan.specs.Joins.{join}
use Rattle.pm_plan.specs.Kinds.{width}
use Rattle.pm_plan.specs.Tree.{Tree, Scan, Over, Join, Index, Seek, right_number}
use Rattle.pm_plan.specs.Outputs.{output, keeps_if}
use Rattle.pm_work.specs.Formulas.{exact, index_hi}
use Rattle.pm_work.specs.Moments.{Counts, Gauges, seek_gauge, HasGauges}
use Rattle.pm_work.specs.Orderly.{Orderly}
use Rattle.pm_work.specs.Facts.{FlagsHold, AllFlagsHold}
use Rattle.pm_work.specs.First.{size_in, first_seek, first_hi}
use Rattle.pm_work.specs.Fits.{sizes_of}
use Rattle.pm_bounds.specs.Bounds.{hi, hi_of_seek}
use Rattle.pm_bounds.specs.Enclosure.{AllWithinFirst}
use Rattle.pm_bounds.proofs.Over.{over_within}
use Rattle.pm_bounds.proofs.Joined.{side, joined_within}
use Rattle.pm_bounds.proofs.Sought.{seek_within, index_within}
use Rattle.pm_bounds.proofs.Enclosed.{IsEnclosed, IsSeekEnclosed, enclosed, seek_enclosed, orderly_root, handed_is, settled_is, worst_is}

-- the sizes are those of the tables
pub sized : (db : Db) (table : ℕ) → size_in (sizes_of db) table ≡ length (table_rows db table)
sized [] zero = refl
sized [] (suc table) = refl
sized (t ∷ db) zero = refl
sized (t ∷ db) (suc table) = sized db table

module _ (db : Db) (K : Counts) (G : Gauges) where
  below : (tree : Tree) (n : ℕ) → AllFlagsHold db tree → Orderly db tree n K → HasGauges db tree n K G → K n ≤ hi tree n G
  below tree n f o g =
      let e : IsEnclosed db tree n G = enclosed db K G tree n f o g in
      omega (arith, (orderly_root db K tree n o).within, e.above)

  seek_within_first : (left : Tree) (seek : Seek) (n : ℕ) → G (right_number n left) ≡ seek_gauge db left seek n K → HasGauges db left (n + 1) K G
      → FlagsHold seek.on (output db left) (table_rows db seek.table)
      → K (n + 1) ≤ hi left (n + 1) G → hi left (n + 1) G ≤ first_hi exact (sizes_of db) left
      → hi_of_seek left seek n G ≤ first_seek exact (sizes_of db) seek (first_hi exact (sizes_of db) left)
  seek_within_first left seek n gs g f b deep =
      rw (handed_is db K G left (n + 1) g)
      (seek_within seek.on (output db left) (table_rows db seek.table) (G (right_number n left)) (ap (λ x. x.worst) gs) (ap (λ x. x.size) gs)
      (K (n + 1)) (hi left (n + 1) G) (first_hi exact (sizes_of db) left) (size_in (sizes_of db) seek.table) f (sized db seek.table) (ap (λ x. x.settled) gs) b deep)

  within_first : (tree : Tree) (n : ℕ) → AllFlagsHold db tree → Orderly db tree n K → HasGauges db tree n K G → hi tree n G ≤ first_hi exact (sizes_of db) tree
  within_first (Scan table label) n f o g = omega (arith, ap (λ x. x.size) g, sized db table)
  within_first (Over op child) n f o g =
      rw (handed_is db K G child (n + 1) g.1)
      (over_within op (G n) (output db child) (K (n + 1)) (hi child (n + 1) G) (first_hi exact (sizes_of db) child) (settled_is db K G (Over op child) n g)
      (below child (n + 1) f.1 o.1 g.1) (within_first child (n + 1) f.1 o.1 g.1))
  within_first (Join method on left right) n f o g =
      rw (handed_is db K G left (n + 1) g.1, handed_is db K G right (right_number n left) g.2)
      (joined_within method on (output db left) (output db right) (width (decls_of db) right) (G n) (K (n + 1)) (K (right_number n left)) _ _ _ _ f.0
      (settled_is db K G (Join method on left right) n g) (worst_is db K G (Join method on left right) n g)
      (below left (n + 1) f.1 o.1 g.1) (below right (right_number n left) f.2 o.2 g.2)
      (within_first left (n + 1) f.1 o.1 g.1) (within_first right (right_number n left) f.2 o.2 g.2))
  within_first (Index left seek c) n f o g =
      let deep : hi_of_seek left seek n G ≤ first_seek exact (sizes_of db) seek (first_hi exact (sizes_of db) left) =
      seek_within_first left seek n g.1 g.2 f.1 (below left (n + 1) f.2 o.2 g.2) (within_first left (n + 1) f.2 o.2 g.2) in
      let there : IsSeekEnclosed db left seek n G = seek_enclosed db K G left seek n (enclosed db K G left (n + 1) f.2 o.2 g.2) g.2 g.1 f.1 o.1 in
      let h : (G (right_number n left)).handed ≡ K (right_number n left) = ap (λ x. x.handed) g.1 in
      subst (λ x. index_hi exact (G n) (side x (hi_of_seek left seek n G)) ≤ first_hi exact (sizes_of db) (Index left seek c)) (sym h)
      (index_within (keeps_if c) (join seek.on.pairs (output db left) (table_rows db seek.table)) (G n) (K (right_number n left)) (settled_is db K G (Index left seek c) n g)
      (hi_of_seek left seek n G) _ (omega (arith, there.above, o.1.within)) deep)

  pub all_within_first : (tree : Tree) (n : ℕ) → AllFlagsHold db tree → Orderly db tree n K → HasGauges db tree n K G → AllWithinFirst (sizes_of db) tree n G
  all_within_first (Scan table label) n f o g = within_first (Scan table label) n f o g
  all_within_first (Over op child) n f o g = (within_first (Over op child) n f o g, all_within_first child (n + 1) f.1 o.1 g.1)
  all_within_first (Join method on left right) n f o g =
      (within_first (Join method on left right) n f o g, all_within_first left (n + 1) f.1 o.1 g.1, all_within_first right (right_number n left) f.2 o.2 g.2)
  all_within_first (Index left seek c) n f o g = (
    within_first (Index left seek c) n f o g,
    seek_within_first left seek n g.1 g.2 f.1 (below left (n + 1) f.2 o.2 g.2) (within_first left (n + 1) f.2 o.2 g.2),
    all_within_first left (n + 1) f.2 o.2 g.2,
  )
