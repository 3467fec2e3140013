-- from one moment to the next no lower bound falls and no upper bound rises
use Rattle.std.proofs.Common.{◌≡◌, ◌≢◌, ℕ, suc, ◌+◌, ◌≤◌, sym, subst, ap, ◌∙◌, inl, inr, arith}
use Rattle.std.proofs.lemmas.Bool.{cases_eq}
use Rattle.pm_plan.specs.Rows.{Db, table_rows, decls_of}
use Rattle.pm_plan.specs.Joins.{join}
use Rattle.pm_plan.specs.Kinds.{width}
use Rattle.pm_plan.specs.Tree.{Tree, Scan, Over, Join, Index, Seek, size, right_number}
use Rattle.pm_plan.specs.Outputs.{output, keeps_if}
use Rattle.pm_work.specs.Moments.{Counts, Gauges, seek_gauge, HasGauges}
use Rattle.pm_work.specs.Orderly.{Orderly}
use Rattle.pm_work.specs.Facts.{AllFlagsHold}
use Rattle.pm_bounds.specs.Bounds.{lo, hi, hi_of_seek, bound_of, bound_of_seek}
use Rattle.pm_bounds.specs.Enclosure.{IsNext, Narrows, AllNarrow}
use Rattle.pm_bounds.proofs.Over.{Moves, over_narrows}
use Rattle.pm_bounds.proofs.Joined.{SidesMove, Left, Right, Still, joined_narrows}
use Rattle.pm_bounds.proofs.Sought.{index_bound, seek_narrows, index_narrows}
use Rattle.pm_bounds.proofs.Enclosed.{IsEnclosed, IsSeekEnclosed, enclosed, seek_enclosed, orderly_root, handed_is, settled_is, worst_is}

-- of one node
abbrev pub IsNarrowed : Tree → ℕ → Gauges → Gauges → Type 0
IsNarrowed tree n G H = Narrows (bound_of tree n G) (bound_of tree n H)

abbrev pub IsSeekNarrowed : Tree → Seek → ℕ → Gauges → Gauges → Type 0
IsSeekNarrowed left seek n G H = Narrows (bound_of_seek left seek n G) (bound_of_seek left seek n H)

pub size_pos : (t : Tree) → 1 ≤ size t
size_pos (Scan table label) = omega arith
size_pos (Over op child) = omega arith
size_pos (Join method on left right) = omega arith
size_pos (Index left seek cond) = omega arith

module _ (db : Db) (m : ℕ) (K L : Counts) (G H : Gauges) (next : IsNext m K L) where
  moved : (q : ℕ) → Moves (K q) (L q)
  moved q = elim (cases_eq q m) [ inl e ↦ inl (ap L e ∙ next.more ∙ ap (λ x. suc (K x)) (sym e)) | inr o ↦ inr (next.others q o) ]

  -- of two sides one moves at most
  sides_moved : (q r : ℕ) → q ≢ r → SidesMove (K q) (L q) (K r) (L r)
  sides_moved q r apart =
      elim (cases_eq q m) [
        | inl e ↦ Left (ap L e ∙ next.more ∙ ap (λ x. suc (K x)) (sym e)) (next.others r (λ z. apart (e ∙ sym z)))
        | inr o ↦ elim (cases_eq r m) [
          | inl e ↦ Right (next.others q o) (ap L e ∙ next.more ∙ ap (λ x. suc (K x)) (sym e))
          | inr p ↦ Still (next.others q o) (next.others r p)
        ]
      ]

  -- a node's count is within its upper bound
  below : (tree : Tree) (n : ℕ) → AllFlagsHold db tree → Orderly db tree n L → HasGauges db tree n L H → L n ≤ hi tree n H
  below tree n f p h =
      let e : IsEnclosed db tree n H = enclosed db L H tree n f p h in
      omega (arith, (orderly_root db L tree n p).within, e.above)

  pub seek_narrowed : (left : Tree) (seek : Seek) (n : ℕ) → IsNarrowed left (n + 1) G H → L (n + 1) ≤ hi left (n + 1) H
      → HasGauges db left (n + 1) K G → HasGauges db left (n + 1) L H
      → G (right_number n left) ≡ seek_gauge db left seek n K → H (right_number n left) ≡ seek_gauge db left seek n L → IsSeekNarrowed left seek n G H
  seek_narrowed left seek n deep b g h gs hs =
      rw (handed_is db K G left (n + 1) g, handed_is db L H left (n + 1) h)
      (seek_narrows seek.on (output db left) (table_rows db seek.table) (G (right_number n left)) (ap (λ x. x.worst) gs) (ap (λ x. x.size) gs)
      (H (right_number n left)) (K (n + 1)) (L (n + 1)) (lo left (n + 1) G) (lo left (n + 1) H) (hi left (n + 1) G) (hi left (n + 1) H)
      (ap (λ x. x.worst) hs ∙ sym (ap (λ x. x.worst) gs)) (ap (λ x. x.size) hs ∙ sym (ap (λ x. x.size) gs))
      (ap (λ x. x.settled) gs) (ap (λ x. x.settled) hs) (moved (n + 1)) deep.lo_rises deep.hi_falls b)

  pub narrowed : (tree : Tree) (n : ℕ) → AllFlagsHold db tree → Orderly db tree n K → Orderly db tree n L → HasGauges db tree n K G → HasGauges db tree n L H
      → IsNarrowed tree n G H
  narrowed (Scan table label) n f o p g h =
      let same : (G n).size ≡ (H n).size = ap (λ x. x.size) g ∙ sym (ap (λ x. x.size) h) in
      record { lo_rises = omega (arith, same); hi_falls = omega (arith, same) }
  narrowed (Over op child) n f o p g h =
      let deep : IsNarrowed child (n + 1) G H = narrowed child (n + 1) f.1 o.1 p.1 g.1 h.1 in
      rw (handed_is db K G child (n + 1) g.1, handed_is db L H child (n + 1) h.1)
      (over_narrows op (G n) (H n) (output db child) (K (n + 1)) (L (n + 1)) _ _ _ _
      (settled_is db K G (Over op child) n g) (settled_is db L H (Over op child) n h) (moved (n + 1)) deep.lo_rises deep.hi_falls (below child (n + 1) f.1 p.1 h.1))
  narrowed (Join method on left right) n f o p g h =
      let deep_l : IsNarrowed left (n + 1) G H = narrowed left (n + 1) f.1 o.1 p.1 g.1 h.1 in
      let deep_r : IsNarrowed right (right_number n left) G H = narrowed right (right_number n left) f.2 o.2 p.2 g.2 h.2 in
      let apart : n + 1 ≢ right_number n left = λ z. absurd (omega (arith, z, size_pos left)) in
      rw (
        handed_is db K G left (n + 1) g.1,
        handed_is db L H left (n + 1) h.1,
        handed_is db K G right (right_number n left) g.2,
        handed_is db L H right (right_number n left) h.2,
      )
      (joined_narrows method on (output db left) (output db right) (width (decls_of db) right) (G n) (H n)
      (K (n + 1)) (L (n + 1)) (K (right_number n left)) (L (right_number n left)) _ _ _ _ _ _ f.0
      (settled_is db K G (Join method on left right) n g) (settled_is db L H (Join method on left right) n h)
      (worst_is db K G (Join method on left right) n g) (worst_is db L H (Join method on left right) n h)
      (sides_moved (n + 1) (right_number n left) apart) o.0.root.1
      (orderly_root db L left (n + 1) p.1).within (orderly_root db L right (right_number n left) p.2).within
      deep_l.lo_rises deep_l.hi_falls deep_r.hi_falls (below left (n + 1) f.1 p.1 h.1) (below right (right_number n left) f.2 p.2 h.2))
  narrowed (Index left seek c) n f o p g h =
      let deep : IsNarrowed left (n + 1) G H = narrowed left (n + 1) f.2 o.2 p.2 g.2 h.2 in
      let under : IsSeekNarrowed left seek n G H = seek_narrowed left seek n deep (below left (n + 1) f.2 p.2 h.2) g.2 h.2 g.1 h.1 in
      let there : IsSeekEnclosed db left seek n H = seek_enclosed db L H left seek n (enclosed db L H left (n + 1) f.2 p.2 h.2) h.2 h.1 f.1 p.1 in
      let gk : (G (right_number n left)).handed ≡ K (right_number n left) = ap (λ x. x.handed) g.1 in
      let hk : (H (right_number n left)).handed ≡ L (right_number n left) = ap (λ x. x.handed) h.1 in
      subst (λ x. Narrows (index_bound (G n) x (hi_of_seek left seek n G)) (index_bound (H n) (H (right_number n left)).handed (hi_of_seek left seek n H))) (sym gk)
      (subst (λ x. Narrows (index_bound (G n) (K (right_number n left)) (hi_of_seek left seek n G)) (index_bound (H n) x (hi_of_seek left seek n H))) (sym hk)
      (index_narrows (keeps_if c) (join seek.on.pairs (output db left) (table_rows db seek.table)) (G n) (K (right_number n left)) (settled_is db K G (Index left seek c) n g)
      (H n) (L (right_number n left)) (hi_of_seek left seek n G) (hi_of_seek left seek n H) (settled_is db L H (Index left seek c) n h) (moved (right_number n left)) under.hi_falls
      (omega (arith, there.above, p.1.within))))

  pub all_narrowed : (tree : Tree) (n : ℕ) → AllFlagsHold db tree → Orderly db tree n K → Orderly db tree n L → HasGauges db tree n K G → HasGauges db tree n L H → AllNarrow tree n G H
  all_narrowed (Scan table label) n f o p g h = narrowed (Scan table label) n f o p g h
  all_narrowed (Over op child) n f o p g h = (narrowed (Over op child) n f o p g h, all_narrowed child (n + 1) f.1 o.1 p.1 g.1 h.1)
  all_narrowed (Join method on left right) n f o p g h =
      (narrowed (Join method on left right) n f o p g h, all_narrowed left (n + 1) f.1 o.1 p.1 g.1 h.1, all_narrowed right (right_number n left) f.2 o.2 p.2 g.2 h.2)
  all_narrowed (Index left seek c) n f o p g h = (
    narrowed (Index left seek c) n f o p g h,
    seek_narrowed left seek n (narrowed left (n + 1) f.2 o.2 p.2 g.2 h.2) (below left (n + 1) f.2 p.2 h.2) g.2 h.2 g.1 h.1,
    all_narrowed left (n + 1) f.2 o.2 p.2 g.2 h.2,
  )
