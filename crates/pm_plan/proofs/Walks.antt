-- facts, sums and lists of the nodes of a tree
use Rattle.std.proofs.Common.{◌≡◌, ◌≤◌, ℕ, ◌+◌, ◌-◌, List, [], ◌∷◌, ◌++◌, length, refl, ap, sym, subst, ◌∙◌, arith, append_assoc, length-append, drop, suc, add-one, drop-cons}
use Rattle.std.proofs.lemmas.Option.{slice_get_within, get_or_from_slice_get}
use Rattle.std.specs.Prelude.{Some, slice_get}
use Rattle.pm_plan.specs.Tree.{Tree, Scan, Over, Join, Index, Seek, size, right_number, Each, EachAt, sum_in, sum_at, list_at}

-- what holds at each node may be weakened there
module _ (P Q : Tree → Type 0) (S R : Tree → Seek → Type 0) (on_tree : (t : Tree) → P t → Q t) (on_seek : (left : Tree) (seek : Seek) → S left seek → R left seek) where
  pub Each-map : (t : Tree) → Each P S t → Each Q R t
  Each-map (Scan table label) g = on_tree (Scan table label) g
  Each-map (Over op child) g = (on_tree (Over op child) g.0, Each-map child g.1)
  Each-map (Join method on left right) g = (on_tree (Join method on left right) g.0, Each-map left g.1, Each-map right g.2)
  Each-map (Index left seek cond) g = (on_tree (Index left seek cond) g.0, on_seek left seek g.1, Each-map left g.2)

module _ (P Q : Tree → ℕ → Type 0) (S R : Tree → Seek → ℕ → Type 0) (on_tree : (t : Tree) (n : ℕ) → P t n → Q t n)
    (on_seek : (left : Tree) (seek : Seek) (n : ℕ) → S left seek n → R left seek n) where
  pub EachAt-map : (t : Tree) (n : ℕ) → EachAt P S t n → EachAt Q R t n
  EachAt-map (Scan table label) n g = on_tree (Scan table label) n g
  EachAt-map (Over op child) n g = (on_tree (Over op child) n g.0, EachAt-map child (n + 1) g.1)
  EachAt-map (Join method on left right) n g =
      (on_tree (Join method on left right) n g.0, EachAt-map left (n + 1) g.1, EachAt-map right (right_number n left) g.2)
  EachAt-map (Index left seek cond) n g = (on_tree (Index left seek cond) n g.0, on_seek left seek n g.1, EachAt-map left (n + 1) g.2)

-- two facts of each node are one
module _ (P Q : Tree → ℕ → Type 0) (S R : Tree → Seek → ℕ → Type 0) where
  pub EachAt-both : (t : Tree) (n : ℕ) → EachAt P S t n → EachAt Q R t n
      → EachAt (λ u m. P u m × Q u m) (λ left seek m. S left seek m × R left seek m) t n
  EachAt-both (Scan table label) n f g = (f, g)
  EachAt-both (Over op child) n f g = ((f.0, g.0), EachAt-both child (n + 1) f.1 g.1)
  EachAt-both (Join method on left right) n f g =
      ((f.0, g.0), EachAt-both left (n + 1) f.1 g.1, EachAt-both right (right_number n left) f.2 g.2)
  EachAt-both (Index left seek cond) n f g = ((f.0, g.0), (f.1, g.1), EachAt-both left (n + 1) f.2 g.2)

-- a fact that needs no numbers, with numbers; and at the root
module _ (P : Tree → Type 0) (S : Tree → Seek → Type 0) where
  pub Each-EachAt : (t : Tree) (n : ℕ) → Each P S t → EachAt (λ u m. P u) (λ left seek m. S left seek) t n
  Each-EachAt (Scan table label) n g = g
  Each-EachAt (Over op child) n g = (g.0, Each-EachAt child (n + 1) g.1)
  Each-EachAt (Join method on left right) n g = (g.0, Each-EachAt left (n + 1) g.1, Each-EachAt right (right_number n left) g.2)
  Each-EachAt (Index left seek cond) n g = (g.0, g.1, Each-EachAt left (n + 1) g.2)

  pub Each-root : (t : Tree) → Each P S t → P t
  Each-root (Scan table label) g = g
  Each-root (Over op child) g = g.0
  Each-root (Join method on left right) g = g.0
  Each-root (Index left seek cond) g = g.0

module _ (P : Tree → ℕ → Type 0) (S : Tree → Seek → ℕ → Type 0) where
  pub EachAt-root : (t : Tree) (n : ℕ) → EachAt P S t n → P t n
  EachAt-root (Scan table label) n g = g
  EachAt-root (Over op child) n g = g.0
  EachAt-root (Join method on left right) n g = g.0
  EachAt-root (Index left seek cond) n g = g.0

-- ---- sums

module _ (f g : Tree → ℕ → ℕ) (s r : Tree → Seek → ℕ → ℕ) where
  -- at each node no more, so no more in all
  pub sum_at-le : (t : Tree) (n : ℕ) → EachAt (λ u m. f u m ≤ g u m) (λ left seek m. s left seek m ≤ r left seek m) t n → sum_at f s t n ≤ sum_at g r t n
  sum_at-le (Scan table label) n h = h
  sum_at-le (Over op child) n h = omega (arith, h.0, sum_at-le child (n + 1) h.1)
  sum_at-le (Join method on left right) n h = omega (arith, h.0, sum_at-le left (n + 1) h.1, sum_at-le right (right_number n left) h.2)
  sum_at-le (Index left seek cond) n h = omega (arith, h.0, h.1, sum_at-le left (n + 1) h.2)

  -- the same at each node, so the same in all
  pub sum_at-same : (t : Tree) (n : ℕ) → EachAt (λ u m. f u m ≡ g u m) (λ left seek m. s left seek m ≡ r left seek m) t n → sum_at f s t n ≡ sum_at g r t n
  sum_at-same (Scan table label) n h = h
  sum_at-same (Over op child) n h = omega (arith, h.0, sum_at-same child (n + 1) h.1)
  sum_at-same (Join method on left right) n h = omega (arith, h.0, sum_at-same left (n + 1) h.1, sum_at-same right (right_number n left) h.2)
  sum_at-same (Index left seek cond) n h = omega (arith, h.0, h.1, sum_at-same left (n + 1) h.2)

-- a sum that needs no numbers, with numbers
pub sum_at-sum_in : (f : Tree → ℕ) (s : Tree → Seek → ℕ) (t : Tree) (n : ℕ) → sum_at (λ u m. f u) (λ left seek m. s left seek) t n ≡ sum_in f s t
sum_at-sum_in f s (Scan table label) n = refl
sum_at-sum_in f s (Over op child) n = ap (λ k. f (Over op child) + k) (sum_at-sum_in f s child (n + 1))
sum_at-sum_in f s (Join method on left right) n = omega (arith, sum_at-sum_in f s left (n + 1), sum_at-sum_in f s right (right_number n left))
sum_at-sum_in f s (Index left seek cond) n = omega (arith, sum_at-sum_in f s left (n + 1))

-- ---- lists in preorder

pub length-list_at : {A : Type 0} (f : Tree → ℕ → A) (s : Tree → Seek → ℕ → A) (t : Tree) (n : ℕ) → length (list_at f s t n) ≡ size t
length-list_at f s (Scan table label) n = refl
length-list_at f s (Over op child) n = omega (arith, length-list_at f s child (n + 1))
length-list_at f s (Join method on left right) n =
    omega (arith, length-append (list_at f s left (n + 1)) (list_at f s right (right_number n left)), length-list_at f s left (n + 1), length-list_at f s right (right_number n left))
length-list_at f s (Index left seek cond) n =
    omega (arith, length-append (list_at f s left (n + 1)) (s left seek n ∷ []), length-list_at f s left (n + 1))

-- the item after the first ones
item-at : {A : Type 0} (before : List A) (x : A) (rest : List A) (n : ℕ) → n ≡ length before → slice_get (before ++ x ∷ rest) n ≡ Some x
item-at before x rest n e = ap (slice_get (before ++ x ∷ rest)) e ∙ there before x rest
  where
    there : {A : Type 0} (before : List A) (x : A) (rest : List A) → slice_get (before ++ x ∷ rest) (length before) ≡ Some x
    there [] x rest = refl
    there (b ∷ before) x rest = there before x rest

-- each node's item stands at its number in the list, counted from 1
abbrev pub AreItems : {A : Type 0} → (Tree → ℕ → A) → (Tree → Seek → ℕ → A) → List A → Tree → ℕ → Type 0
AreItems f s items t n =
    EachAt (λ u m. slice_get items (m - 1) ≡ Some (f u m)) (λ left seek m. slice_get items (right_number m left - 1) ≡ Some (s left seek m)) t n

-- the same where the list stands after other items and before others
pub AreItems-list_at : {A : Type 0} (f : Tree → ℕ → A) (s : Tree → Seek → ℕ → A) (t : Tree) (n : ℕ) (before rest : List A)
    → n ≡ length before + 1 → AreItems f s (before ++ (list_at f s t n ++ rest)) t n
AreItems-list_at f s (Scan table label) n before rest e = item-at before (f (Scan table label) n) rest (n - 1) (omega (arith, e))
AreItems-list_at {A} f s (Over op child) n before rest e =
    let x : A = f (Over op child) n in
    let below : List A = list_at f s child (n + 1) in (
      item-at before x (below ++ rest) (n - 1) (omega (arith, e)),
      subst (λ items. AreItems f s items child (n + 1)) (append_assoc before (x ∷ []) (below ++ rest))
          (AreItems-list_at f s child (n + 1) (before ++ x ∷ []) rest (omega (arith, e, length-append before (x ∷ [])))),
    )
AreItems-list_at {A} f s (Join method on left right) n before rest e =
    let x : A = f (Join method on left right) n in
    let ls : List A = list_at f s left (n + 1) in
    let rs : List A = list_at f s right (right_number n left) in
    let split : (before ++ x ∷ []) ++ (ls ++ (rs ++ rest)) ≡ before ++ x ∷ ((ls ++ rs) ++ rest) =
    append_assoc before (x ∷ []) (ls ++ (rs ++ rest)) ∙ ap (λ items. before ++ x ∷ items) (sym (append_assoc ls rs rest)) in (
      item-at before x ((ls ++ rs) ++ rest) (n - 1) (omega (arith, e)),
      subst (λ items. AreItems f s items left (n + 1)) split
          (AreItems-list_at f s left (n + 1) (before ++ x ∷ []) (rs ++ rest) (omega (arith, e, length-append before (x ∷ [])))),
      subst (λ items. AreItems f s items right (right_number n left)) (append_assoc (before ++ x ∷ []) ls (rs ++ rest) ∙ split)
          (AreItems-list_at f s right (right_number n left) ((before ++ x ∷ []) ++ ls) rest
          (omega (arith, e, length-append before (x ∷ []), length-append (before ++ x ∷ []) ls, length-list_at f s left (n + 1)))),
    )
AreItems-list_at {A} f s (Index left seek cond) n before rest e =
    let x : A = f (Index left seek cond) n in
    let y : A = s left seek n in
    let ls : List A = list_at f s left (n + 1) in
    let split : (before ++ x ∷ []) ++ (ls ++ (y ∷ rest)) ≡ before ++ x ∷ ((ls ++ y ∷ []) ++ rest) =
    append_assoc before (x ∷ []) (ls ++ (y ∷ rest)) ∙ ap (λ items. before ++ x ∷ items) (sym (append_assoc ls (y ∷ []) rest)) in (
      item-at before x ((ls ++ y ∷ []) ++ rest) (n - 1) (omega (arith, e)),
      subst (λ items. slice_get items (right_number n left - 1) ≡ Some y) (append_assoc (before ++ x ∷ []) ls (y ∷ rest) ∙ split)
          (item-at ((before ++ x ∷ []) ++ ls) y rest (right_number n left - 1)
          (omega (arith, e, length-append before (x ∷ []), length-append (before ++ x ∷ []) ls, length-list_at f s left (n + 1)))),
      subst (λ items. AreItems f s items left (n + 1)) split
          (AreItems-list_at f s left (n + 1) (before ++ x ∷ []) (y ∷ rest) (omega (arith, e, length-append before (x ∷ [])))),
    )

-- and the other way round: from where a tree's items stand on, the list begins with them
drop-next : {A : Type 0} (items : List A) (k : ℕ) (x : A) → slice_get items k ≡ Some x → drop k items ≡ x ∷ drop (k + 1) items
drop-next items k x e = rw add-one (drop-cons items k x (slice_get_within items k x e) ∙ ap (λ y. y ∷ drop (suc k) items) (get_or_from_slice_get items k x x e))

pub drop-list_at : {A : Type 0} (f : Tree → ℕ → A) (s : Tree → Seek → ℕ → A) (items : List A) (t : Tree) (n k : ℕ) → n ≡ k + 1 → AreItems f s items t n
    → drop k items ≡ list_at f s t n ++ drop (k + size t) items
drop-list_at f s items (Scan table label) n k e h =
    drop-next items k _ (subst (λ m. slice_get items m ≡ Some (f (Scan table label) n)) (omega (arith, e)) h)
drop-list_at f s items (Over op child) n k e h =
    let far : k + 1 + size child ≡ k + (1 + size child) = omega arith in
    drop-next items k _ (subst (λ m. slice_get items m ≡ Some (f (Over op child) n)) (omega (arith, e)) h.0)
    ∙ ap (λ rest. f (Over op child) n ∷ rest)
    (drop-list_at f s items child (n + 1) (k + 1) (omega (arith, e)) h.1 ∙ ap (λ m. list_at f s child (n + 1) ++ drop m items) far)
drop-list_at {A} f s items (Join method on left right) n k e h =
    let ls : List A = list_at f s left (n + 1) in
    let rs : List A = list_at f s right (right_number n left) in
    let far : k + 1 + size left + size right ≡ k + (1 + (size left + size right)) = omega arith in
    drop-next items k _ (subst (λ m. slice_get items m ≡ Some (f (Join method on left right) n)) (omega (arith, e)) h.0)
    ∙ ap (λ rest. f (Join method on left right) n ∷ rest)
    (drop-list_at f s items left (n + 1) (k + 1) (omega (arith, e)) h.1
    ∙ ap (λ rest. ls ++ rest)
    (drop-list_at f s items right (right_number n left) (k + 1 + size left) (omega (arith, e)) h.2 ∙ ap (λ m. rs ++ drop m items) far)
    ∙ sym (append_assoc ls rs (drop (k + (1 + (size left + size right))) items)))
drop-list_at {A} f s items (Index left seek cond) n k e h =
    let ls : List A = list_at f s left (n + 1) in
    let y : A = s left seek n in
    let far : k + 1 + size left + 1 ≡ k + (2 + size left) = omega arith in
    drop-next items k _ (subst (λ m. slice_get items m ≡ Some (f (Index left seek cond) n)) (omega (arith, e)) h.0)
    ∙ ap (λ rest. f (Index left seek cond) n ∷ rest)
    (drop-list_at f s items left (n + 1) (k + 1) (omega (arith, e)) h.2
    ∙ ap (λ rest. ls ++ rest)
    (drop-next items (k + 1 + size left) y (subst (λ m. slice_get items m ≡ Some y) (omega (arith, e)) h.1) ∙ ap (λ m. y ∷ drop m items) far)
    ∙ sym (append_assoc ls (y ∷ []) (drop (k + (2 + size left)) items)))
