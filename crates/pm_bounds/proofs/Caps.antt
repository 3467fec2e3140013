-- sums and products that stop at a greatest number give the same bounds where those stay within it
use Rattle.std.proofs.Common.{◌≡◌, ℕ, suc, zero, ◌+◌, ◌*◌, ◌-◌, ◌<◌, ◌≤◌, Bool, true, false, List, [], ◌∷◌, ◌++◌, min, max, refl, sym, ap, ◌∙◌, ◌⊎◌, inl, inr, arith}
use Rattle.std.proofs.lemmas.Bool.{cases_lt}
use Rattle.std.proofs.lemmas.List.Elements.{All-head, All-tail}
use Rattle.std.proofs.Math.Nat.{mul-le-mul, le_refl}
use Rattle.pm_plan.specs.declared.gauge.Gauge.{Gauge}
use Rattle.pm_plan.specs.declared.plan.Unique.{Unique}
use Rattle.pm_plan.specs.Tree.{Unary, Filter, Project, Sort, Group, Method, Hash, Merge, Tree, Scan, Over, Join, Index, Seek, right_number}
use Rattle.pm_plan.proofs.Walks.{EachAt-root}
use Rattle.pm_work.specs.Formulas.{exact, up_to, Side, unread, capped_if, hi_over, pairs_hi, most_matches, hi_joined, seek_hi, index_hi}
use Rattle.pm_work.specs.Moments.{Gauges}
use Rattle.pm_work.specs.First.{Sizes, size_in, unstarted, uncounted, unstarted_seek, first_seek, first_hi, first_sum}
use Rattle.pm_bounds.specs.Bounds.{hi_by, hi, hi_of_seek, side_of, seek_above}
use Rattle.pm_bounds.specs.Capped.{AllUpTo, SizesUpTo, capped_sum, first_bounds}

-- ---- plain numbers

-- a factor may be capped before
capped_factor : (top a b : ℕ) → min top (a * min top b) ≡ min top (a * b)
capped_factor top a b =
    elim (cases_lt b top) [
      | inl l ↦ let same : min top b ≡ b = omega (arith, l) in ap (λ x. min top (a * x)) same
      | inr g ↦ large a
    ]
  where
    above : (a : ℕ) → (b < top) ⊎ (top ≤ b) → min top (suc a * min top b) ≡ min top (suc a * b)
    above a (inl l) = let same : min top b ≡ b = omega (arith, l) in ap (λ x. min top (suc a * x)) same
    above a (inr g) =
        let same : min top b ≡ top = omega (arith, g) in
        let p : 1 * top ≤ suc a * top = mul-le-mul (omega arith) (le_refl top) in
        let q : 1 * b ≤ suc a * b = mul-le-mul (omega arith) (le_refl b) in
        ap (λ x. min top (suc a * x)) same ∙ (omega (arith, p, q, g))

    large : (a : ℕ) → min top (a * min top b) ≡ min top (a * b)
    large zero = let x : zero * min top b ≡ zero * b = omega arith in ap (min top) x
    large (suc a) = above a (cases_lt b top)

capped_product : (top a b : ℕ) → min top (min top a * min top b) ≡ min top (a * b)
capped_product top a b =
    capped_factor top (min top a) b
    ∙ (let x : min top a * b ≡ b * min top a = swap (min top a) b in ap (min top) x)
    ∙ capped_factor top b a
    ∙ (let y : b * a ≡ a * b = swap b a in ap (min top) y)
  where
    swap : (a b : ℕ) → a * b ≡ b * a
    swap a b = omega arith

-- a is the product of what is to come, b that of the rows read
capped_pairs : (top : ℕ) (f g : Bool) (s a b hl hr : ℕ) → hl ≤ top → hr ≤ top
    → capped_if f hl (capped_if g hr (min top (s + min top (min top a + min top b)))) ≡ min top (capped_if f hl (capped_if g hr (s + (a + b))))
capped_pairs top true true s a b hl hr p q = omega arith
capped_pairs top true false s a b hl hr p q = omega arith
capped_pairs top false true s a b hl hr p q = omega arith
capped_pairs top false false s a b hl hr p q = omega arith

capped_both : (top : ℕ) (f : Bool) (cap x : ℕ) → capped_if f (min top cap) (min top x) ≡ min top (capped_if f cap x)
capped_both top true cap x = omega arith
capped_both top false cap x = refl

capped_outside : (top : ℕ) (f : Bool) (cap x : ℕ) → capped_if f cap (min top x) ≡ min top (capped_if f cap x)
capped_outside top true cap x = omega arith
capped_outside top false cap x = refl

-- so much settled, and a product
capped_rate : (top s u m n : ℕ) → n ≡ min top m → min top (s + min top (u * n)) ≡ min top (s + u * m)
capped_rate top s u m n e = ap (λ x. min top (s + min top (u * x))) e ∙ ap (λ x. min top (s + x)) (capped_factor top u m) ∙ (omega arith)

capped_least : (top m : ℕ) → 1 ≤ top → max 1 (min top m) ≡ min top (max 1 m)
capped_least top m one = omega (arith, one)

min_apart : (top a b : ℕ) → min (min top a) (min top b) ≡ min top (min a b)
min_apart top a b = omega arith

-- ---- operators

module _ (top : ℕ) (one : 1 ≤ top) where
  pub over_capped : (op : Unary) (g : Gauge) (child : Side) → child.hi ≤ top → hi_over (up_to top) op g child ≡ min top (hi_over exact op g child)
  over_capped (Filter c) g child a = refl
  over_capped (Project columns) g child a = omega (arith, a)
  over_capped (Sort keys) g child a = omega (arith, a)
  over_capped (Group [] items) g child a = omega (arith, one)
  over_capped (Group (k ∷ ks) items) g child a = refl

  pairs_capped : (u : Unique) (g : Gauge) (L R : Side) → L.hi ≤ top → R.hi ≤ top → pairs_hi (up_to top) u g L R ≡ min top (pairs_hi exact u g L R)
  pairs_capped u g L R a b = capped_pairs top u.right u.left g.settled (unread L * R.hi) (L.count * unread R) L.hi R.hi a b

  most_capped : (u : Unique) (g : Gauge) (R : Side) → most_matches (up_to top) u g R ≡ min top (most_matches exact u g R)
  most_capped u g R = capped_outside top u.right 1 (g.worst + unread R)

  pub joined_capped : (method : Method) (u : Unique) (g : Gauge) (L R : Side) → L.hi ≤ top → R.hi ≤ top
      → hi_joined (up_to top) method u g L R ≡ min top (hi_joined exact method u g L R)
  joined_capped Merge u g L R a b = pairs_capped u g L R a b
  joined_capped (Hash false) u g L R a b =
      ap (λ x. min x (min top (g.settled + min top (unread L * most_matches (up_to top) u g R)))) (pairs_capped u g L R a b)
      ∙ ap (λ x. min (min top (pairs_hi exact u g L R)) x) (capped_rate top g.settled (unread L) (most_matches exact u g R) (most_matches (up_to top) u g R) (most_capped u g R))
      ∙ min_apart top (pairs_hi exact u g L R) (g.settled + unread L * most_matches exact u g R)
  joined_capped (Hash true) u g L R a b =
      ap (λ x. capped_if u.left (min top (L.hi + R.hi)) x)
      (capped_rate top g.settled (unread L) (max 1 (most_matches exact u g R)) (max 1 (most_matches (up_to top) u g R))
      (ap (max 1) (most_capped u g R) ∙ capped_least top (most_matches exact u g R) one))
      ∙ capped_both top u.left (L.hi + R.hi) (g.settled + unread L * max 1 (most_matches exact u g R))

  pub seek_capped : (u : Unique) (g : Gauge) (L : Side) → seek_hi (up_to top) u g L ≡ min top (seek_hi exact u g L)
  seek_capped u g L =
      ap (λ x. capped_if u.left g.size x) (inner g.settled (unread L * g.worst)) ∙ capped_outside top u.left g.size (g.settled + unread L * g.worst)
    where
      inner : (s x : ℕ) → min top (s + min top x) ≡ min top (s + x)
      inner s x = omega arith

-- ---- the bounds of a moment

pub within : (top x y : ℕ) → x ≡ min top y → y ≤ top → x ≡ y
within top x y e a = omega (arith, e, a)

module _ (top : ℕ) (one : 1 ≤ top) (G : Gauges) where
  root_up_to : (tree : Tree) (n : ℕ) → AllUpTo top tree n G → hi tree n G ≤ top
  root_up_to tree n a = EachAt-root (λ t m. hi t m G ≤ top) (λ left seek m. hi_of_seek left seek m G ≤ top) tree n a

  seek_above_is : (left : Tree) (seek : Seek) (n : ℕ) → hi_by (up_to top) left (n + 1) G ≡ hi left (n + 1) G → hi_of_seek left seek n G ≤ top
      → seek_above (up_to top) left seek n G (hi_by (up_to top) left (n + 1) G) ≡ hi_of_seek left seek n G
  seek_above_is left seek n l a =
      ap (seek_above (up_to top) left seek n G) l
      ∙ within top _ _ (seek_capped top one seek.on.unique (G (right_number n left)) (side_of (n + 1) G (hi left (n + 1) G))) a

  pub hi_capped_is : (tree : Tree) (n : ℕ) → AllUpTo top tree n G → hi_by (up_to top) tree n G ≡ hi tree n G
  hi_capped_is (Scan table label) n a = refl
  hi_capped_is (Over op child) n a =
      ap (λ x. hi_over (up_to top) op (G n) (side_of (n + 1) G x)) (hi_capped_is child (n + 1) a.1)
      ∙ within top _ _ (over_capped top one op (G n) (side_of (n + 1) G (hi child (n + 1) G)) (root_up_to child (n + 1) a.1)) a.0
  hi_capped_is (Join method on left right) n a =
      let l : hi_by (up_to top) left (n + 1) G ≡ hi left (n + 1) G = hi_capped_is left (n + 1) a.1 in
      let r : hi_by (up_to top) right (right_number n left) G ≡ hi right (right_number n left) G = hi_capped_is right (right_number n left) a.2 in
      ap (λ x. hi_joined (up_to top) method on.unique (G n) (side_of (n + 1) G x) (side_of (right_number n left) G (hi_by (up_to top) right (right_number n left) G))) l
      ∙ ap (λ x. hi_joined (up_to top) method on.unique (G n) (side_of (n + 1) G (hi left (n + 1) G)) (side_of (right_number n left) G x)) r
      ∙ within top _ _ (joined_capped top one method on.unique (G n) (side_of (n + 1) G (hi left (n + 1) G)) (side_of (right_number n left) G (hi right (right_number n left) G))
      (root_up_to left (n + 1) a.1) (root_up_to right (right_number n left) a.2)) a.0
  hi_capped_is (Index left seek c) n a =
      let below : seek_above (up_to top) left seek n G (hi_by (up_to top) left (n + 1) G) ≡ hi_of_seek left seek n G = seek_above_is left seek n (hi_capped_is left (n + 1) a.2) a.1 in
      ap (λ x. index_hi (up_to top) (G n) (side_of (right_number n left) G x)) below
      ∙ within top _ _ refl a.0

  pub hi_of_seek_capped_is : (left : Tree) (seek : Seek) (n : ℕ) → AllUpTo top left (n + 1) G → hi_of_seek left seek n G ≤ top
      → seek_above (up_to top) left seek n G (hi_by (up_to top) left (n + 1) G) ≡ hi_of_seek left seek n G
  hi_of_seek_capped_is left seek n a b = seek_above_is left seek n (hi_capped_is left (n + 1) a) b

-- ---- the first bounds

none_read : (hl hr : ℕ) → 0 + ((hl - 0) * hr + 0 * (hr - 0)) ≡ hl * hr
none_read hl hr = let z : hl - 0 ≡ hl = omega arith in ap (λ x. 0 + (x * hr + 0 * (hr - 0))) z ∙ (let t : 0 * (hr - 0) ≡ 0 = omega arith in ap (λ x. 0 + (hl * hr + x)) t ∙ omega arith)

none_met : (hl m : ℕ) → 0 + (hl - 0) * m ≡ hl * m
none_met hl m = let z : hl - 0 ≡ hl = omega arith in ap (λ x. 0 + x * m) z ∙ omega arith

module _ (top : ℕ) (one : 1 ≤ top) where
  -- what the first bounds of the sides are cut to, changes nothing where the result is cut
  over_cut : (op : Unary) (h : ℕ) → min top (hi_over exact op unstarted (uncounted (min top h))) ≡ min top (hi_over exact op unstarted (uncounted h))
  over_cut (Filter c) h = omega arith
  over_cut (Project columns) h = omega arith
  over_cut (Sort keys) h = omega arith
  over_cut (Group [] items) h = refl
  over_cut (Group (k ∷ ks) items) h = omega arith

  pairs_cut : (u : Unique) (hl hr : ℕ)
      → min top (pairs_hi exact u unstarted (uncounted (min top hl)) (uncounted (min top hr))) ≡ min top (pairs_hi exact u unstarted (uncounted hl) (uncounted hr))
  pairs_cut u hl hr =
      ap (λ x. min top (capped_if u.right (min top hl) (capped_if u.left (min top hr) x))) (none_read (min top hl) (min top hr))
      ∙ sym (capped_both_again u.right (min top hl) (capped_if u.left (min top hr) (min top hl * min top hr)))
      ∙ ap (λ x. capped_if u.right (min top hl) x) (sym (capped_both_again u.left (min top hr) (min top hl * min top hr)) ∙ ap (λ x. capped_if u.left (min top hr) x) (capped_product top hl hr) ∙ capped_both top u.left hr (hl * hr))
      ∙ capped_both top u.right hl (capped_if u.left hr (hl * hr))
      ∙ ap (λ x. min top (capped_if u.right hl (capped_if u.left hr x))) (sym (none_read hl hr))
    where
      capped_both_again : (f : Bool) (cap x : ℕ) → capped_if f cap (min top x) ≡ min top (capped_if f cap x)
      capped_both_again f cap x = capped_outside top f cap x

  most_cut : (u : Unique) (hr : ℕ) → min top (most_matches exact u unstarted (uncounted (min top hr))) ≡ min top (most_matches exact u unstarted (uncounted hr))
  most_cut u hr = inner u.right
    where
      inner : (f : Bool) → min top (capped_if f 1 (0 + (min top hr - 0))) ≡ min top (capped_if f 1 (0 + (hr - 0)))
      inner true = omega arith
      inner false = omega arith

  rate_cut : (hl m n : ℕ) → min top m ≡ min top n → min top (0 + (min top hl - 0) * m) ≡ min top (0 + (hl - 0) * n)
  rate_cut hl m n e =
      ap (min top) (none_met (min top hl) m)
      ∙ sym (capped_factor top (min top hl) m)
      ∙ ap (λ x. min top (min top hl * x)) e
      ∙ capped_product top hl n
      ∙ ap (min top) (sym (none_met hl n))

  joined_cut : (method : Method) (u : Unique) (hl hr : ℕ)
      → min top (hi_joined exact method u unstarted (uncounted (min top hl)) (uncounted (min top hr))) ≡ min top (hi_joined exact method u unstarted (uncounted hl) (uncounted hr))
  joined_cut Merge u hl hr = pairs_cut u hl hr
  joined_cut (Hash false) u hl hr =
      omega (arith, pairs_cut u hl hr, rate_cut hl (most_matches exact u unstarted (uncounted (min top hr))) (most_matches exact u unstarted (uncounted hr)) (most_cut u hr))
  joined_cut (Hash true) u hl hr = inner u.left
    where
      rate : min top (0 + (min top hl - 0) * max 1 (most_matches exact u unstarted (uncounted (min top hr)))) ≡ min top (0 + (hl - 0) * max 1 (most_matches exact u unstarted (uncounted hr)))
      rate = rate_cut hl _ _ (omega (arith, most_cut u hr))

      inner : (f : Bool)
          → min top (capped_if f (min top hl + min top hr) (0 + (min top hl - 0) * max 1 (most_matches exact u unstarted (uncounted (min top hr)))))
          ≡ min top (capped_if f (hl + hr) (0 + (hl - 0) * max 1 (most_matches exact u unstarted (uncounted hr))))
      inner true = omega (arith, rate)
      inner false = rate

  seek_cut : (u : Unique) (g : Gauge) (h : ℕ) → g.settled ≡ 0 → min top (seek_hi exact u g (uncounted (min top h))) ≡ min top (seek_hi exact u g (uncounted h))
  seek_cut u g h z = inner u.left
    where
      rate : min top (g.settled + (min top h - 0) * g.worst) ≡ min top (g.settled + (h - 0) * g.worst)
      rate = ap (λ x. min top (x + (min top h - 0) * g.worst)) z ∙ rate_cut h g.worst g.worst refl ∙ ap (λ x. min top (x + (h - 0) * g.worst)) (sym z)

      inner : (f : Bool) → min top (capped_if f g.size (g.settled + (min top h - 0) * g.worst)) ≡ min top (capped_if f g.size (g.settled + (h - 0) * g.worst))
      inner true = omega (arith, rate)
      inner false = rate

size_up_to : (top : ℕ) (sizes : Sizes) (table : ℕ) → SizesUpTo top sizes → size_in sizes table ≤ top
size_up_to top [] table a = omega arith
size_up_to top (size ∷ sizes) zero a = All-head (λ x. x ≤ top) size sizes a
size_up_to top (size ∷ sizes) (suc table) a = size_up_to top sizes table (All-tail (λ x. x ≤ top) size sizes a)

-- a capped sum of two lists
pub capped_sum-append : (top : ℕ) (xs ys : List ℕ) → capped_sum top (xs ++ ys) ≡ min top (capped_sum top xs + capped_sum top ys)
capped_sum-append top [] ys = capped_once ys
  where
    capped_once : (ys : List ℕ) → capped_sum top ys ≡ min top (0 + capped_sum top ys)
    capped_once [] = omega arith
    capped_once (y ∷ ys) = omega arith
capped_sum-append top (x ∷ xs) ys = omega (arith, capped_sum-append top xs ys)

module _ (top : ℕ) (one : 1 ≤ top) (sizes : Sizes) (few : SizesUpTo top sizes) where
  first_seek_of : (seek : Seek) (x h : ℕ) → x ≡ min top h → first_seek (up_to top) sizes seek x ≡ min top (first_seek exact sizes seek h)
  first_seek_of seek x h e =
      let g : Gauge = unstarted_seek seek (size_in sizes seek.table) in
      ap (first_seek (up_to top) sizes seek) e
      ∙ seek_capped top one seek.on.unique (unstarted_seek seek (size_in sizes seek.table)) (uncounted (min top h))
      ∙ seek_cut top one seek.on.unique (unstarted_seek seek (size_in sizes seek.table)) h refl

  least : (x : ℕ) → min top x ≤ top
  least x = omega arith

  pub first_capped_is : (tree : Tree) → first_hi (up_to top) sizes tree ≡ min top (first_hi exact sizes tree)
  first_capped_is (Scan table label) = omega (arith, size_up_to top sizes table few)
  first_capped_is (Over op child) =
      let h : ℕ = first_hi exact sizes child in
      ap (λ x. hi_over (up_to top) op unstarted (uncounted x)) (first_capped_is child)
      ∙ over_capped top one op unstarted (uncounted (min top (first_hi exact sizes child))) (least (first_hi exact sizes child))
      ∙ over_cut top one op (first_hi exact sizes child)
  first_capped_is (Join method on left right) =
      ap (λ x. hi_joined (up_to top) method on.unique unstarted (uncounted x) (uncounted (first_hi (up_to top) sizes right))) (first_capped_is left)
      ∙ ap (λ x. hi_joined (up_to top) method on.unique unstarted (uncounted (min top (first_hi exact sizes left))) (uncounted x)) (first_capped_is right)
      ∙ joined_capped top one method on.unique unstarted (uncounted (min top (first_hi exact sizes left))) (uncounted (min top (first_hi exact sizes right)))
      (least (first_hi exact sizes left)) (least (first_hi exact sizes right))
      ∙ joined_cut top one method on.unique (first_hi exact sizes left) (first_hi exact sizes right)
  first_capped_is (Index left seek c) =
      ap (λ x. index_hi (up_to top) unstarted (uncounted x)) (first_seek_of seek _ _ (first_capped_is left)) ∙ (omega arith)

  pub first_seek_is : (left : Tree) (seek : Seek) → first_seek (up_to top) sizes seek (first_hi (up_to top) sizes left) ≡ min top (first_seek exact sizes seek (first_hi exact sizes left))
  first_seek_is left seek = first_seek_of seek _ _ (first_capped_is left)

  -- their sum
  pub first_sum_is : (tree : Tree) → capped_sum top (first_bounds (up_to top) sizes tree) ≡ min top (first_sum sizes tree)
  first_sum_is (Scan table label) = omega (arith, first_capped_is (Scan table label))
  first_sum_is (Over op child) = omega (arith, first_capped_is (Over op child), first_sum_is child)
  first_sum_is (Join method on left right) =
      omega (arith, first_capped_is (Join method on left right), capped_sum-append top (first_bounds (up_to top) sizes left) (first_bounds (up_to top) sizes right), first_sum_is left, first_sum_is right)
  first_sum_is (Index left seek c) =
      omega (
        arith,
        first_capped_is (Index left seek c),
        capped_sum-append top (first_bounds (up_to top) sizes left) (first_seek (up_to top) sizes seek (first_hi (up_to top) sizes left) ∷ []),
        first_sum_is left,
        first_seek_is left seek,
      )
