-- the first bounds of each operator, from those of the nodes that it reads
use Rattle.std.proofs.Common.{◌≡◌, ℕ, ◌+◌, ◌≤◌, [], ◌∷◌, suc, sym, ap, ◌∙◌, get_or, Fits, w64, arith}
use Rattle.std.specs.Prelude.{Option}
use Rattle.std.proofs.lemmas.List.Elements.{All-nil, All-cons}
use Rattle.pm_values.specs.declared.condition.Cond.{Cond}
use Rattle.pm_fraction.specs.Capped.{capped}
use Rattle.pm_plan.specs.declared.plan.Label.{Label}
use Rattle.pm_plan.specs.Tree.{Unary, Method, On, Seek, Tree, Scan, Over, Join, Index}
use Rattle.pm_work.specs.Formulas.{Side, hi_over, hi_joined, index_hi}
use Rattle.pm_work.specs.First.{Sizes, size_in, unstarted, uncounted, first_hi, first_seek, greatest}
use Rattle.pm_bounds.specs.Capped.{SizesUpTo, capped_sum, first_bounds}
use Rattle.pm_bounds.specs.Steps.{computed}
use Rattle.pm_bounds.proofs.Caps.{capped_sum-append}

-- sizes of 64 bits are within the greatest number
pub sizes_fit : (sizes : Sizes) → ((i : ℕ) → Fits w64 (get_or sizes i 0)) → SizesUpTo greatest sizes
sizes_fit [] fits = All-nil (λ size. size ≤ greatest)
sizes_fit (x ∷ xs) fits =
    let small : Fits w64 x = fits 0 in
    All-cons (λ size. size ≤ greatest) x xs (omega (arith, small)) (sizes_fit xs (λ i. fits (suc i)))

module _ (sizes : Sizes) where
  -- the bounds of a tree, as they are computed
  pub record IsFirst (t : Tree) (h s : ℕ) : Type 0 where
    pub upper : h ≡ first_hi computed sizes t
    pub sum : s ≡ capped_sum greatest (first_bounds computed sizes t)

  same_first : (t u : Tree) (h s : ℕ) → t ≡ u → h ≡ first_hi computed sizes u → s ≡ capped_sum greatest (first_bounds computed sizes u) → IsFirst t h s
  same_first t u h s e p q =
      record { upper = p ∙ sym (ap (first_hi computed sizes) e); sum = q ∙ sym (ap (λ x. capped_sum greatest (first_bounds computed sizes x)) e) }

  pub first_scan : (t : Tree) (table : ℕ) (label : Label) (h size : ℕ) → t ≡ Scan table label → h ≡ size → size ≡ size_in sizes table
      → h ≤ greatest → IsFirst t h h
  first_scan t table label h size e p q small = same_first t (Scan table label) h h e (p ∙ q) (omega (arith, p, q, small))

  pub first_over : (t u : Tree) (op : Unary) (h hc sc s : ℕ) (side : Side) → t ≡ Over op u → IsFirst u hc sc → side ≡ uncounted hc
      → h ≡ hi_over computed op unstarted side → s ≡ capped (h + sc) → IsFirst t h s
  first_over t u op h hc sc s side e below is made added =
      let upper : h ≡ first_hi computed sizes (Over op u) =
      made ∙ ap (hi_over computed op unstarted) is ∙ ap (λ x. hi_over computed op unstarted (uncounted x)) below.upper in
      same_first t (Over op u) h s e upper (omega (arith, added, upper, below.sum))

  pub first_join : (t l r : Tree) (method : Method) (on : On) (h hl sl hr sr both s : ℕ) (left right : Side) → t ≡ Join method on l r
      → IsFirst l hl sl → IsFirst r hr sr → left ≡ uncounted hl → right ≡ uncounted hr
      → h ≡ hi_joined computed method on.unique unstarted left right → both ≡ capped (sl + sr) → s ≡ capped (h + both) → IsFirst t h s
  first_join t l r method on h hl sl hr sr both s left right e ls rs is is_right made joined added =
      let upper : h ≡ first_hi computed sizes (Join method on l r) =
      made
      ∙ ap (λ x. hi_joined computed method on.unique unstarted x right) (is ∙ ap uncounted ls.upper)
      ∙ ap (hi_joined computed method on.unique unstarted (uncounted (first_hi computed sizes l))) (is_right ∙ ap uncounted rs.upper) in
      same_first t (Join method on l r) h s e upper
      (omega (arith, added, upper, joined, ls.sum, rs.sum, capped_sum-append greatest (first_bounds computed sizes l) (first_bounds computed sizes r)))

  pub first_index : (t l : Tree) (seek : Seek) (cond : Option Cond) (h hl sl hs both s : ℕ) (side : Side) → t ≡ Index l seek cond
      → IsFirst l hl sl → hs ≡ first_seek computed sizes seek hl → side ≡ uncounted hs
      → h ≡ index_hi computed unstarted side → both ≡ capped (sl + hs) → s ≡ capped (h + both) → IsFirst t h s
  first_index t l seek cond h hl sl hs both s side e ls sought is made joined added =
      let found : hs ≡ first_seek computed sizes seek (first_hi computed sizes l) = sought ∙ ap (first_seek computed sizes seek) ls.upper in
      let upper : h ≡ first_hi computed sizes (Index l seek cond) = made ∙ ap (index_hi computed unstarted) (is ∙ ap uncounted found) in
      same_first t (Index l seek cond) h s e upper
      (omega (arith, added, upper, joined, ls.sum, found, capped_sum-append greatest (first_bounds computed sizes l) (first_seek computed sizes seek (first_hi computed sizes l) ∷ [])))
