-- after all events both bounds are the number of rows
use Rattle.std.proofs.Common.{◌≡◌, ℕ, ◌+◌, ◌≤◌, length, ap, sym, subst, ◌∙◌, arith}
use Rattle.pm_plan.specs.Rows.{Db, table_rows, decls_of}
use Rattle.pm_plan.specs.Joins.{join}
use Rattle.pm_plan.specs.Kinds.{width}
use Rattle.pm_plan.specs.Tree.{Tree, Scan, Over, Join, Index, Seek, right_number, EachAt}
use Rattle.pm_plan.specs.Outputs.{output, sought, keeps_if}
use Rattle.pm_plan.proofs.Walks.{EachAt-root}
use Rattle.pm_work.specs.Formulas.{exact, index_hi}
use Rattle.pm_work.specs.Moments.{Counts, Gauges, seek_gauge, HasGauges}
use Rattle.pm_work.specs.Orderly.{Orderly}
use Rattle.pm_work.specs.Facts.{AllFlagsHold}
use Rattle.pm_bounds.specs.Bounds.{hi, hi_of_seek, bound_of}
use Rattle.pm_bounds.specs.Enclosure.{IsExact, AllExact}
use Rattle.pm_bounds.proofs.Over.{over_ends}
use Rattle.pm_bounds.proofs.Joined.{side, joined_ends}
use Rattle.pm_bounds.proofs.Sought.{seek_ends, index_ends}
use Rattle.pm_bounds.proofs.Enclosed.{IsEnclosed, IsSeekEnclosed, enclosed, seek_enclosed, handed_is, settled_is}

-- each node has handed out all its rows
abbrev pub AtEnd : Db → Tree → ℕ → Counts → Type 0
AtEnd db tree n K =
    EachAt (λ t m. K m ≡ length (output db t)) (λ left seek m. K (right_number m left) ≡ length (sought db seek (output db left))) tree n

module _ (db : Db) (K : Counts) (G : Gauges) where
  at_root : (tree : Tree) (n : ℕ) → AtEnd db tree n K → K n ≡ length (output db tree)
  at_root tree n e = EachAt-root (λ t m. K m ≡ length (output db t)) (λ left seek m. K (right_number m left) ≡ length (sought db seek (output db left))) tree n e

  seek_end : (left : Tree) (seek : Seek) (n : ℕ) → G (right_number n left) ≡ seek_gauge db left seek n K → HasGauges db left (n + 1) K G
      → hi left (n + 1) G ≤ length (output db left) → K (n + 1) ≡ length (output db left) → hi_of_seek left seek n G ≤ length (sought db seek (output db left))
  seek_end left seek n gs g h k =
      rw (handed_is db K G left (n + 1) g)
      (seek_ends seek.on (output db left) (table_rows db seek.table) (G (right_number n left)) (ap (λ x. x.worst) gs) (ap (λ x. x.size) gs)
      (K (n + 1)) (hi left (n + 1) G) (ap (λ x. x.settled) gs) (omega (arith, h, k)))

  end_hi : (tree : Tree) (n : ℕ) → HasGauges db tree n K G → AtEnd db tree n K → hi tree n G ≤ length (output db tree)
  end_hi (Scan table label) n g e = omega (arith, ap (λ x. x.size) g)
  end_hi (Over op child) n g e =
      let deep : hi child (n + 1) G ≤ length (output db child) = end_hi child (n + 1) g.1 e.1 in
      rw (handed_is db K G child (n + 1) g.1)
      (over_ends op (G n) (output db child) (K (n + 1)) (hi child (n + 1) G) (settled_is db K G (Over op child) n g) (omega (arith, deep, at_root child (n + 1) e.1)) deep)
  end_hi (Join method on left right) n g e =
      let deep_l : hi left (n + 1) G ≤ length (output db left) = end_hi left (n + 1) g.1 e.1 in
      let deep_r : hi right (right_number n left) G ≤ length (output db right) = end_hi right (right_number n left) g.2 e.2 in
      rw (handed_is db K G left (n + 1) g.1, handed_is db K G right (right_number n left) g.2)
      (joined_ends method on (output db left) (output db right) (width (decls_of db) right) (G n) (K (n + 1)) (K (right_number n left)) _ _
      (settled_is db K G (Join method on left right) n g) (omega (arith, deep_l, at_root left (n + 1) e.1)) (omega (arith, deep_r, at_root right (right_number n left) e.2)))
  end_hi (Index left seek c) n g e =
      let under : hi_of_seek left seek n G ≤ length (sought db seek (output db left)) = seek_end left seek n g.1 g.2 (end_hi left (n + 1) g.2 e.2) (at_root left (n + 1) e.2) in
      let h : (G (right_number n left)).handed ≡ K (right_number n left) = ap (λ x. x.handed) g.1 in
      subst (λ x. index_hi exact (G n) (side x (hi_of_seek left seek n G)) ≤ length (output db (Index left seek c))) (sym h)
      (index_ends (keeps_if c) (join seek.on.pairs (output db left) (table_rows db seek.table)) (G n) (K (right_number n left)) (settled_is db K G (Index left seek c) n g)
      (hi_of_seek left seek n G) (omega (arith, under, e.1)))

  is_exact : (tree : Tree) (n : ℕ) → AllFlagsHold db tree → Orderly db tree n K → HasGauges db tree n K G → AtEnd db tree n K → IsExact (bound_of tree n G) (length (output db tree))
  is_exact tree n f o g e =
      let i : IsEnclosed db tree n G = enclosed db K G tree n f o g in
      let k : (G n).handed ≡ length (output db tree) = handed_is db K G tree n g ∙ at_root tree n e in
      record { below = omega (arith, i.counted, i.below, k); above = omega (arith, i.above, end_hi tree n g e) }

  pub all_exact : (tree : Tree) (n : ℕ) → AllFlagsHold db tree → Orderly db tree n K → HasGauges db tree n K G → AtEnd db tree n K → AllExact db tree n G
  all_exact (Scan table label) n f o g e = is_exact (Scan table label) n f o g e
  all_exact (Over op child) n f o g e = (is_exact (Over op child) n f o g e, all_exact child (n + 1) f.1 o.1 g.1 e.1)
  all_exact (Join method on left right) n f o g e =
      (is_exact (Join method on left right) n f o g e, all_exact left (n + 1) f.1 o.1 g.1 e.1, all_exact right (right_number n left) f.2 o.2 g.2 e.2)
  all_exact (Index left seek c) n f o g e =
      let i : IsSeekEnclosed db left seek n G = seek_enclosed db K G left seek n (enclosed db K G left (n + 1) f.2 o.2 g.2) g.2 g.1 f.1 o.1 in
      let under : hi_of_seek left seek n G ≤ length (sought db seek (output db left)) = seek_end left seek n g.1 g.2 (end_hi left (n + 1) g.2 e.2) (at_root left (n + 1) e.2) in
      let k : (G (right_number n left)).handed ≡ length (sought db seek (output db left)) = ap (λ x. x.handed) g.1 ∙ e.1 in
      (is_exact (Index left seek c) n f o g e, record { below = omega (arith, i.counted, i.below, k); above = omega (arith, i.above, under) }, all_exact left (n + 1) f.2 o.2 g.2 e.2)
