-- the pipelines of a tree's nodes as a list: how it is made node by node, and sums over its driver nodes
use Rattle.std.proofs.Common.{◌≡◌, ℕ, ◌+◌, ◌-◌, ◌<◌, ◌≤◌, Bool, true, false, not, List, [], ◌∷◌, ◌++◌, length, map, refl, sym, ap, subst, ◌∙◌, append_assoc, length-append, arith}
use Rattle.std.specs.Prelude.{if◌then◌else◌, sum_by, Option}
use Rattle.std.specs.List.{zip}
use Rattle.std.proofs.lemmas.List.Sums.{sum_by-cons, sum_by-append}
use Rattle.std.proofs.lemmas.Option.{slice_get_within}
use Rattle.pm_values.specs.declared.condition.Cond.{Cond}
use Rattle.pm_plan.specs.declared.plan.Label.{Label}
use Rattle.pm_plan.specs.Tree.{Unary, Filter, Project, Sort, Group, Method, Hash, Merge, On, Tree, Scan, Over, Join, Index, Seek, size, right_number, streams, list_at}
use Rattle.pm_plan.specs.declared.plan.Node.{Node}
use Rattle.pm_plan.specs.Preorder.{node_of, IsTreeAt}
use Rattle.pm_plan.proofs.Inversion.{root_is}
use Rattle.pm_plan.proofs.Walks.{length-list_at}
use Rattle.pm_estim.specs.declared.pipes.Pipe.{Pipe}
use Rattle.pm_estim.specs.declared.pipes.Numbers.{Numbers}
use Rattle.pm_estim.specs.Pipelines.{drivers_of, cuts, pipes_from, driven}
use Rattle.pm_estim.specs.Lists.{pipes_with, pipes_in, driven_sum}
use Rattle.pm_estim.specs.Steps.{is_built, numbers_below, IsPlaced}

abbrev pipe_of : (ℕ × Bool) → Pipe
pipe_of p = record { number = p.0; driver = p.1 }

abbrev pipe : ℕ → Bool → Pipe
pipe own driver = record { number = own; driver = driver }

-- ---- lengths

pub cuts_few : (t : Tree) → cuts t < size t
cuts_few (Scan table label) = omega arith
cuts_few (Over (Filter cond) child) = omega (arith, cuts_few child)
cuts_few (Over (Project columns) child) = omega (arith, cuts_few child)
cuts_few (Over (Sort keys) child) = omega (arith, cuts_few child)
cuts_few (Over (Group keys items) child) = omega (arith, cuts_few child)
cuts_few (Join (Hash pad) on left right) = omega (arith, cuts_few left, cuts_few right)
cuts_few (Join Merge on left right) = omega (arith, cuts_few left, cuts_few right)
cuts_few (Index left seek cond) = omega (arith, cuts_few left)

length-drivers : (t : Tree) → length (drivers_of t) ≡ size t
length-drivers (Scan table label) = refl
length-drivers (Over op child) = omega (arith, length-drivers child)
length-drivers (Join method on left right) = omega (arith, length-append (drivers_of left) (drivers_of right), length-drivers left, length-drivers right)
length-drivers (Index left seek cond) = omega (arith, length-append (drivers_of left) (false ∷ []), length-drivers left)

length-pipes : (own next : ℕ) (t : Tree) → length (pipes_from own next t) ≡ size t
length-pipes own next (Scan table label) = refl
length-pipes own next (Over (Filter cond) child) = omega (arith, length-pipes own next child)
length-pipes own next (Over (Project columns) child) = omega (arith, length-pipes own next child)
length-pipes own next (Over (Sort keys) child) = omega (arith, length-pipes next (next + 1) child)
length-pipes own next (Over (Group keys items) child) = omega (arith, length-pipes next (next + 1) child)
length-pipes own next (Join (Hash pad) on left right) =
    omega (
      arith,
      length-append (pipes_from own next left) (pipes_from (next + cuts left) (next + cuts left + 1) right),
      length-pipes own next left,
      length-pipes (next + cuts left) (next + cuts left + 1) right,
    )
length-pipes own next (Join Merge on left right) =
    omega (arith, length-append (pipes_from own next left) (pipes_from own (next + cuts left) right), length-pipes own next left, length-pipes own (next + cuts left) right)
length-pipes own next (Index left seek cond) = omega (arith, length-append (pipes_from own next left) (own ∷ []), length-pipes own next left)

-- ---- two lists side by side, one part after the other

zip-append : {A B : Type 0} (xs : List A) (ys : List B) (cs : List A) (ds : List B) → length xs ≡ length ys → zip (xs ++ cs) (ys ++ ds) ≡ zip xs ys ++ zip cs ds
zip-append [] [] cs ds e = refl
zip-append [] (b ∷ ys) cs ds e = absurd (omega (arith, e))
zip-append (a ∷ xs) [] cs ds e = absurd (omega (arith, e))
zip-append (a ∷ xs) (b ∷ ys) cs ds e = ap (λ l. (a, b) ∷ l) (zip-append xs ys cs ds (omega (arith, e)))

map-two : (f : (ℕ × Bool) → Pipe) (xs ys : List (ℕ × Bool)) → map f (xs ++ ys) ≡ map f xs ++ map f ys
map-two f [] ys = refl
map-two f (x ∷ xs) ys = ap (λ l. f x ∷ l) (map-two f xs ys)

length-zip : (xs : List ℕ) (ys : List Bool) → length xs ≡ length ys → length (zip xs ys) ≡ length xs
length-zip [] [] e = refl
length-zip [] (y ∷ ys) e = refl
length-zip (x ∷ xs) [] e = absurd (omega (arith, e))
length-zip (x ∷ xs) (y ∷ ys) e = omega (arith, length-zip xs ys (omega (arith, e)))

length-mapped : (f : (ℕ × Bool) → Pipe) (xs : List (ℕ × Bool)) → length (map f xs) ≡ length xs
length-mapped f [] = refl
length-mapped f (x ∷ xs) = omega (arith, length-mapped f xs)

length-pipes_with : (own next : ℕ) (t : Tree) → length (pipes_with (pipes_from own next t) t) ≡ size t
length-pipes_with own next t =
    length-mapped pipe_of (zip (pipes_from own next t) (drivers_of t))
    ∙ length-zip (pipes_from own next t) (drivers_of t) (length-pipes own next t ∙ sym (length-drivers t))
    ∙ length-pipes own next t

-- each node has one
pub length-pipes_in : (t : Tree) → length (pipes_in t) ≡ size t
length-pipes_in t = length-pipes_with 1 2 t

-- of the nodes of two trees
both_with : (l r : Tree) (ls rs : List ℕ) → length ls ≡ size l → map pipe_of (zip (ls ++ rs) (drivers_of l ++ drivers_of r)) ≡ pipes_with ls l ++ pipes_with rs r
both_with l r ls rs e =
    ap (map pipe_of) (zip-append ls (drivers_of l) rs (drivers_of r) (omega (arith, e, length-drivers l)))
    ∙ map-two pipe_of (zip ls (drivers_of l)) (zip rs (drivers_of r))

with_seek : (l : Tree) (ls : List ℕ) (own : ℕ) → length ls ≡ size l → map pipe_of (zip (ls ++ own ∷ []) (drivers_of l ++ false ∷ [])) ≡ pipes_with ls l ++ pipe own false ∷ []
with_seek l ls own e =
    ap (map pipe_of) (zip-append ls (drivers_of l) (own ∷ []) (false ∷ []) (omega (arith, e, length-drivers l)))
    ∙ map-two pipe_of (zip ls (drivers_of l)) ((own, false) ∷ [])

-- ---- the list as it is made

abbrev numbers_of : ℕ → ℕ → Numbers
numbers_of own next = record { own = own; next = next }

same_placed : (t u : Tree) (numbers : Numbers) (before after : List Pipe) (next : ℕ) → t ≡ u → IsPlaced u numbers before after next → IsPlaced t numbers before after next
same_placed t u numbers before after next e p = subst (λ x. IsPlaced x numbers before after next) (sym e) p

pub placed_scan : (t : Tree) (table : ℕ) (label : Label) (numbers : Numbers) (before after : List Pipe) → t ≡ Scan table label
    → after ≡ before ++ pipe numbers.own true ∷ [] → IsPlaced t numbers before after numbers.next
placed_scan t table label numbers before after e is =
    same_placed t (Scan table label) numbers before after numbers.next e (record { pipes = is; comes = omega arith })

after_one : (before mid after rest : List Pipe) (x : Pipe) → mid ≡ before ++ x ∷ [] → after ≡ mid ++ rest → after ≡ before ++ x ∷ rest
after_one before mid after rest x e f = f ∙ ap (λ l. l ++ rest) e ∙ append_assoc before (x ∷ []) rest

over_placed : (u : Tree) (op : Unary) (numbers : Numbers) (before mid after : List Pipe) (next : ℕ) → mid ≡ before ++ pipe numbers.own (not (streams op)) ∷ []
    → IsPlaced u (numbers_below (not (streams op)) numbers) mid after next → IsPlaced (Over op u) numbers before after next
over_placed u (Filter cond) numbers before mid after next e p =
    record { pipes = after_one before mid after _ _ e p.pipes; comes = p.comes }
over_placed u (Project columns) numbers before mid after next e p =
    record { pipes = after_one before mid after _ _ e p.pipes; comes = p.comes }
over_placed u (Sort keys) numbers before mid after next e p =
    record { pipes = after_one before mid after _ _ e p.pipes; comes = omega (arith, p.comes) }
over_placed u (Group keys items) numbers before mid after next e p =
    record { pipes = after_one before mid after _ _ e p.pipes; comes = omega (arith, p.comes) }

pub placed_over : (t u : Tree) (op : Unary) (numbers below : Numbers) (before mid after : List Pipe) (next : ℕ) → t ≡ Over op u
    → mid ≡ before ++ pipe numbers.own (not (streams op)) ∷ [] → below ≡ numbers_below (not (streams op)) numbers
    → IsPlaced u below mid after next → IsPlaced t numbers before after next
placed_over t u op numbers below before mid after next e is cut p =
    same_placed t (Over op u) numbers before after next e (over_placed u op numbers before mid after next is (subst (λ m. IsPlaced u m mid after next) cut p))

-- the list after the pipelines of two sides
after_two : (before mid more after ls rs : List Pipe) (x : Pipe) → mid ≡ before ++ x ∷ [] → more ≡ mid ++ ls → after ≡ more ++ rs → after ≡ before ++ x ∷ (ls ++ rs)
after_two before mid more after ls rs x e f g =
    after_one before mid after (ls ++ rs) x e (g ∙ ap (λ l. l ++ rs) f ∙ append_assoc mid ls rs)

join_placed : (l r : Tree) (method : Method) (on : On) (numbers : Numbers) (before mid more after : List Pipe) (next last : ℕ)
    → mid ≡ before ++ pipe numbers.own false ∷ [] → IsPlaced l numbers mid more next → IsPlaced r (numbers_below (is_built method) (numbers_of numbers.own next)) more after last
    → IsPlaced (Join method on l r) numbers before after last
join_placed l r (Hash pad) on numbers before mid more after next last e p q =
    let ls : List ℕ = pipes_from numbers.own numbers.next l in
    let rs : List ℕ = pipes_from (numbers.next + cuts l) (numbers.next + cuts l + 1) r in
    let right : after ≡ more ++ pipes_with rs r = q.pipes ∙ ap (λ k. more ++ pipes_with (pipes_from k (k + 1) r) r) p.comes in
    record {
      pipes =
          after_two before mid more after (pipes_with ls l) (pipes_with rs r) (pipe numbers.own false) e p.pipes right
          ∙ ap (λ rest. before ++ pipe numbers.own false ∷ rest) (sym (both_with l r ls rs (length-pipes numbers.own numbers.next l)));
      comes = omega (arith, p.comes, q.comes);
    }
join_placed l r Merge on numbers before mid more after next last e p q =
    let ls : List ℕ = pipes_from numbers.own numbers.next l in
    let rs : List ℕ = pipes_from numbers.own (numbers.next + cuts l) r in
    let right : after ≡ more ++ pipes_with rs r = q.pipes ∙ ap (λ k. more ++ pipes_with (pipes_from numbers.own k r) r) p.comes in
    record {
      pipes =
          after_two before mid more after (pipes_with ls l) (pipes_with rs r) (pipe numbers.own false) e p.pipes right
          ∙ ap (λ rest. before ++ pipe numbers.own false ∷ rest) (sym (both_with l r ls rs (length-pipes numbers.own numbers.next l)));
      comes = omega (arith, p.comes, q.comes);
    }

pub placed_join : (t l r : Tree) (method : Method) (on : On) (numbers below : Numbers) (before mid more after : List Pipe) (next last : ℕ) → t ≡ Join method on l r
    → mid ≡ before ++ pipe numbers.own false ∷ [] → IsPlaced l numbers mid more next → below ≡ numbers_below (is_built method) (numbers_of numbers.own next)
    → IsPlaced r below more after last → IsPlaced t numbers before after last
placed_join t l r method on numbers below before mid more after next last e is p cut q =
    same_placed t (Join method on l r) numbers before after last e
    (join_placed l r method on numbers before mid more after next last is p (subst (λ m. IsPlaced r m more after last) cut q))

-- a tree stands within its list
pub stands_within : (nodes : List Node) (t : Tree) (n : ℕ) → 1 ≤ n → IsTreeAt nodes t n → n ≤ length nodes
stands_within nodes t n some h = omega (arith, some, slice_get_within nodes (n - 1) (node_of t n) (root_is nodes t n h))

pub placed_index : (t l : Tree) (seek : Seek) (cond : Option Cond) (numbers : Numbers) (before mid more after : List Pipe) (next : ℕ) → t ≡ Index l seek cond
    → mid ≡ before ++ pipe numbers.own false ∷ [] → IsPlaced l numbers mid more next → after ≡ more ++ pipe numbers.own false ∷ [] → IsPlaced t numbers before after next
placed_index t l seek cond numbers before mid more after next e is p last =
    let ls : List ℕ = pipes_from numbers.own numbers.next l in
    same_placed t (Index l seek cond) numbers before after next e
    (record {
      pipes =
          after_two before mid more after (pipes_with ls l) (pipe numbers.own false ∷ []) (pipe numbers.own false) is p.pipes last
          ∙ ap (λ rest. before ++ pipe numbers.own false ∷ rest) (sym (with_seek l ls numbers.own (length-pipes numbers.own numbers.next l)));
      comes = p.comes;
    })

-- the number of the next pipeline never runs ahead of the nodes
pub record AreFew (numbers : Numbers) (n : ℕ) : Type 0 where
  pub own : numbers.own ≤ n
  pub next : numbers.next ≤ n + 1

pub few_below : (cut : Bool) (numbers : Numbers) (n : ℕ) → numbers.own ≤ n → numbers.next ≤ n → AreFew (numbers_below cut numbers) n
few_below true numbers n a b = record { own = b; next = omega (arith, b) }
few_below false numbers n a b = record { own = a; next = omega (arith, b) }

-- ---- sums over the driver nodes

module _ {X : Type 0} (value : X → ℕ) (f : Tree → ℕ → X) (s : Tree → Seek → ℕ → X) where
  abbrev counted : (Pipe × X) → ℕ
  counted p = if p.0.driver then value p.1 else 0

  abbrev sums : Tree → ℕ → ℕ
  sums t n = driven (λ u m. value (f u m)) t n

  length-with : (own next : ℕ) (t : Tree) (n : ℕ) → length (pipes_with (pipes_from own next t) t) ≡ length (list_at f s t n)
  length-with own next t n = length-pipes_with own next t ∙ sym (length-list_at f s t n)

  -- one node before those of a list
  one_more : (own : ℕ) (driver : Bool) (x : X) (ps : List Pipe) (xs : List X) (rest : ℕ) → sum_by counted (zip ps xs) ≡ rest
      → sum_by counted (zip (pipe own driver ∷ ps) (x ∷ xs)) ≡ (if driver then value x else 0) + rest
  one_more own driver x ps xs rest e = sum_by-cons counted (pipe own driver, x) (zip ps xs) ∙ ap (λ k. (if driver then value x else 0) + k) e

  two_lists : (ps qs : List Pipe) (xs ys : List X) (a b : ℕ) → length ps ≡ length xs → sum_by counted (zip ps xs) ≡ a → sum_by counted (zip qs ys) ≡ b
      → sum_by counted (zip (ps ++ qs) (xs ++ ys)) ≡ a + b
  two_lists ps qs xs ys a b e p q = ap (sum_by counted) (zip-append ps xs qs ys e) ∙ sum_by-append counted (zip ps xs) (zip qs ys) ∙ (omega (arith, p, q))

  driven_with : (own next : ℕ) (t : Tree) (n : ℕ) → sum_by counted (zip (pipes_with (pipes_from own next t) t) (list_at f s t n)) ≡ sums t n
  driven_with own next (Scan table label) n = one_more own true (f (Scan table label) n) [] [] 0 refl ∙ (omega arith)
  driven_with own next (Over (Filter cond) child) n = one_more own false (f (Over (Filter cond) child) n) (pipes_with (pipes_from own next child) child) (list_at f s child (n + 1)) (sums child (n + 1)) (driven_with own next child (n + 1))
  driven_with own next (Over (Project columns) child) n = one_more own false (f (Over (Project columns) child) n) (pipes_with (pipes_from own next child) child) (list_at f s child (n + 1)) (sums child (n + 1)) (driven_with own next child (n + 1))
  driven_with own next (Over (Sort keys) child) n = one_more own true (f (Over (Sort keys) child) n) (pipes_with (pipes_from next (next + 1) child) child) (list_at f s child (n + 1)) (sums child (n + 1)) (driven_with next (next + 1) child (n + 1))
  driven_with own next (Over (Group keys items) child) n = one_more own true (f (Over (Group keys items) child) n) (pipes_with (pipes_from next (next + 1) child) child) (list_at f s child (n + 1)) (sums child (n + 1)) (driven_with next (next + 1) child (n + 1))
  driven_with own next (Join (Hash pad) on left right) n =
      let ls : List ℕ = pipes_from own next left in
      let rs : List ℕ = pipes_from (next + cuts left) (next + cuts left + 1) right in
      one_more own false (f (Join (Hash pad) on left right) n) (map pipe_of (zip (ls ++ rs) (drivers_of left ++ drivers_of right))) (list_at f s left (n + 1) ++ list_at f s right (right_number n left)) _
      (ap (λ ps. sum_by counted (zip ps (list_at f s left (n + 1) ++ list_at f s right (right_number n left)))) (both_with left right ls rs (length-pipes own next left))
      ∙ two_lists (pipes_with ls left) (pipes_with rs right) (list_at f s left (n + 1)) (list_at f s right (right_number n left)) _ _ (length-with own next left (n + 1))
      (driven_with own next left (n + 1)) (driven_with (next + cuts left) (next + cuts left + 1) right (right_number n left)))
  driven_with own next (Join Merge on left right) n =
      let ls : List ℕ = pipes_from own next left in
      let rs : List ℕ = pipes_from own (next + cuts left) right in
      one_more own false (f (Join Merge on left right) n) (map pipe_of (zip (ls ++ rs) (drivers_of left ++ drivers_of right))) (list_at f s left (n + 1) ++ list_at f s right (right_number n left)) _
      (ap (λ ps. sum_by counted (zip ps (list_at f s left (n + 1) ++ list_at f s right (right_number n left)))) (both_with left right ls rs (length-pipes own next left))
      ∙ two_lists (pipes_with ls left) (pipes_with rs right) (list_at f s left (n + 1)) (list_at f s right (right_number n left)) _ _ (length-with own next left (n + 1))
      (driven_with own next left (n + 1)) (driven_with own (next + cuts left) right (right_number n left)))
  driven_with own next (Index left seek cond) n =
      let ls : List ℕ = pipes_from own next left in
      one_more own false (f (Index left seek cond) n) (map pipe_of (zip (ls ++ own ∷ []) (drivers_of left ++ false ∷ []))) (list_at f s left (n + 1) ++ s left seek n ∷ []) _
      (ap (λ ps. sum_by counted (zip ps (list_at f s left (n + 1) ++ s left seek n ∷ []))) (with_seek left ls own (length-pipes own next left))
      ∙ two_lists (pipes_with ls left) (pipe own false ∷ []) (list_at f s left (n + 1)) (s left seek n ∷ []) _ 0 (length-with own next left (n + 1))
      (driven_with own next left (n + 1)) (sum_by-cons counted (pipe own false, s left seek n) []))

  pub driven_is : (t : Tree) → driven_sum value (pipes_with (pipes_from 1 2 t) t) (list_at f s t 1) ≡ driven (λ u m. value (f u m)) t 1
  driven_is t = driven_with 1 2 t 1
