-- at each node the count, the lower bound, the rows and the upper bound stand in this order
use Rattle.std.proofs.Common.{◌≡◌, ℕ, ◌+◌, length, ap, sym, subst, arith}
use Rattle.pm_plan.specs.Rows.{Db, table_rows, decls_of}
use Rattle.pm_plan.specs.Joins.{join}
use Rattle.pm_plan.specs.Kinds.{width}
use Rattle.pm_plan.specs.Tree.{Tree, Scan, Over, Join, Index, Seek, right_number}
use Rattle.pm_plan.specs.Outputs.{output, sought, keeps_if}
use Rattle.pm_plan.proofs.Walks.{EachAt-root}
use Rattle.pm_work.specs.Moments.{Counts, Gauges, settled, worst_at, gauge_of, seek_gauge, HasGauges}
use Rattle.pm_work.specs.Orderly.{IsOrderly, SeekIsOrderly, Orderly}
use Rattle.pm_work.specs.Facts.{AllFlagsHold, FlagsHold}
use Rattle.pm_work.proofs.Joins.{length-sought}
use Rattle.pm_bounds.specs.Bounds.{lo, hi, bound_of, bound_of_seek}
use Rattle.pm_bounds.specs.Enclosure.{Encloses, AllEnclosed}
use Rattle.pm_bounds.proofs.Over.{over_encloses}
use Rattle.pm_bounds.proofs.Joined.{joined_encloses}
use Rattle.pm_bounds.proofs.Sought.{index_bound, seek_encloses, index_encloses}

-- of one node
abbrev pub IsEnclosed : Db → Tree → ℕ → Gauges → Type 0
IsEnclosed db tree n G = Encloses (G n).handed (bound_of tree n G) (length (output db tree))

abbrev pub IsSeekEnclosed : Db → Tree → Seek → ℕ → Gauges → Type 0
IsSeekEnclosed db left seek n G = Encloses (G (right_number n left)).handed (bound_of_seek left seek n G) (length (sought db seek (output db left)))

module _ (db : Db) (K : Counts) where
  pub orderly_root : (tree : Tree) (n : ℕ) → Orderly db tree n K → IsOrderly db tree n K
  orderly_root tree n o = EachAt-root (λ t m. IsOrderly db t m K) (λ left seek m. SeekIsOrderly db left seek m K) tree n o

module _ (db : Db) (K : Counts) (G : Gauges) where
  pub gauge_is : (tree : Tree) (n : ℕ) → HasGauges db tree n K G → G n ≡ gauge_of db tree n K
  gauge_is tree n g = EachAt-root (λ t m. G m ≡ gauge_of db t m K) (λ left seek m. G (right_number m left) ≡ seek_gauge db left seek m K) tree n g

  pub handed_is : (tree : Tree) (n : ℕ) → HasGauges db tree n K G → (G n).handed ≡ K n
  handed_is tree n g = ap (λ x. x.handed) (gauge_is tree n g)

  pub settled_is : (tree : Tree) (n : ℕ) → HasGauges db tree n K G → (G n).settled ≡ settled db tree n K
  settled_is tree n g = ap (λ x. x.settled) (gauge_is tree n g)

  pub worst_is : (tree : Tree) (n : ℕ) → HasGauges db tree n K G → (G n).worst ≡ worst_at db tree n K
  worst_is tree n g = ap (λ x. x.worst) (gauge_is tree n g)

  pub seek_enclosed : (left : Tree) (seek : Seek) (n : ℕ) → IsEnclosed db left (n + 1) G → HasGauges db left (n + 1) K G
      → G (right_number n left) ≡ seek_gauge db left seek n K → FlagsHold seek.on (output db left) (table_rows db seek.table)
      → SeekIsOrderly db left seek n K → IsSeekEnclosed db left seek n G
  seek_enclosed left seek n deep g gs f o =
      let h : (G (right_number n left)).handed ≡ K (right_number n left) = ap (λ x. x.handed) gs in
      subst (λ x. Encloses x (bound_of_seek left seek n G) (length (sought db seek (output db left)))) (sym h)
      (rw (handed_is left (n + 1) g)
      (seek_encloses seek.on (output db left) (table_rows db seek.table) (G (right_number n left)) (ap (λ x. x.worst) gs) (ap (λ x. x.size) gs)
      (K (right_number n left)) (K (n + 1)) (lo left (n + 1) G) (hi left (n + 1) G) f (ap (λ x. x.settled) gs) o.settled deep.below deep.above))

  pub enclosed : (tree : Tree) (n : ℕ) → AllFlagsHold db tree → Orderly db tree n K → HasGauges db tree n K G → IsEnclosed db tree n G
  enclosed (Scan table label) n f o g =
      let h : (G n).handed ≡ K n = ap (λ x. x.handed) g in
      let z : (G n).size ≡ length (table_rows db table) = ap (λ x. x.size) g in
      record { counted = omega (arith, h, z, o.within); below = omega (arith, z); above = omega (arith, z) }
  enclosed (Over op child) n f o g =
      let deep : IsEnclosed db child (n + 1) G = enclosed child (n + 1) f.1 o.1 g.1 in
      subst (λ x. Encloses x (bound_of (Over op child) n G) (length (output db (Over op child)))) (sym (handed_is (Over op child) n g))
      (rw (handed_is child (n + 1) g.1)
      (over_encloses op (G n) (output db child) (K n) (K (n + 1)) (lo child (n + 1) G) (hi child (n + 1) G)
      (settled_is (Over op child) n g) o.0.within o.0.root (omega (arith, handed_is child (n + 1) g.1, deep.counted)) deep.below deep.above))
  enclosed (Join method on left right) n f o g =
      let deep_l : IsEnclosed db left (n + 1) G = enclosed left (n + 1) f.1 o.1 g.1 in
      let deep_r : IsEnclosed db right (right_number n left) G = enclosed right (right_number n left) f.2 o.2 g.2 in
      subst (λ x. Encloses x (bound_of (Join method on left right) n G) (length (output db (Join method on left right)))) (sym (handed_is (Join method on left right) n g))
      (rw (handed_is left (n + 1) g.1, handed_is right (right_number n left) g.2)
      (joined_encloses method on (output db left) (output db right) (width (decls_of db) right) (G n) (K n) (K (n + 1)) (lo left (n + 1) G)
      (K (right_number n left)) (hi left (n + 1) G) (hi right (right_number n left) G) f.0
      (settled_is (Join method on left right) n g) (worst_is (Join method on left right) n g) o.0.root.0 o.0.root.1 deep_l.below deep_l.above deep_r.above))
  enclosed (Index left seek c) n f o g =
      let deep : IsEnclosed db left (n + 1) G = enclosed left (n + 1) f.2 o.2 g.2 in
      let below : IsSeekEnclosed db left seek n G = seek_enclosed left seek n deep g.2 g.1 f.1 o.1 in
      let few : length (join seek.on.pairs (output db left) (table_rows db seek.table)) ≡ length (sought db seek (output db left)) = length-sought seek.on.pairs (table_rows db seek.table) (output db left) in
      let h : (G (right_number n left)).handed ≡ K (right_number n left) = ap (λ x. x.handed) g.1 in
      subst (λ x. Encloses x (bound_of (Index left seek c) n G) (length (output db (Index left seek c)))) (sym (handed_is (Index left seek c) n g))
      (subst (λ x. Encloses (K n) (index_bound (G n) x (bound_of_seek left seek n G).hi) (length (output db (Index left seek c)))) (sym h)
      (index_encloses (keeps_if c) (join seek.on.pairs (output db left) (table_rows db seek.table)) (G n) (K (right_number n left))
      (settled_is (Index left seek c) n g) (K n) (bound_of_seek left seek n G).hi o.0.root (omega (arith, few, below.above))))

  pub all_enclosed : (tree : Tree) (n : ℕ) → AllFlagsHold db tree → Orderly db tree n K → HasGauges db tree n K G → AllEnclosed db tree n G
  all_enclosed (Scan table label) n f o g = enclosed (Scan table label) n f o g
  all_enclosed (Over op child) n f o g = (enclosed (Over op child) n f o g, all_enclosed child (n + 1) f.1 o.1 g.1)
  all_enclosed (Join method on left right) n f o g =
      (enclosed (Join method on left right) n f o g, all_enclosed left (n + 1) f.1 o.1 g.1, all_enclosed right (right_number n left) f.2 o.2 g.2)
  all_enclosed (Index left seek c) n f o g = (
    enclosed (Index left seek c) n f o g,
    seek_enclosed left seek n (enclosed left (n + 1) f.2 o.2 g.2) g.2 g.1 f.1 o.1,
    all_enclosed left (n + 1) f.2 o.2 g.2,
  )
