-- the counts of all nodes and Seeks number the events, and all events number the whole work
use Rattle.std.proofs.Common.{◌≡◌, ℕ, ◌+◌, ◌≤◌, List, [], ◌∷◌, length, take, drop, refl, sym, ap, subst, ◌∙◌, arith}
use Rattle.std.proofs.lemmas.Bool.Decides.{nat_tests}
use Rattle.std.proofs.lemmas.List.{length-take-le, take-append-drop}
use Rattle.pm_plan.specs.Rows.{Db}
use Rattle.pm_plan.specs.Tree.{Tree, Scan, Over, Join, Index, size, right_number, EachAt, sum_at}
use Rattle.pm_plan.specs.Outputs.{output, sought}
use Rattle.pm_plan.proofs.Walks.{EachAt-map, sum_at-same, sum_at-sum_in}
use Rattle.pm_work.specs.Events.{Event, events, rows_at, counts}
use Rattle.pm_work.specs.Work.{whole_work}
use Rattle.pm_work.proofs.EventLists.{Within, Within-first, part, part-all, rows_at-part}
use Rattle.pm_work.proofs.EventLaws.{size_pos, Within-events, rows_at-events, part_at, events_parts}

-- ---- the rows of each node

-- the rows of these events at each node of the tree and at each Seek are what it hands out
abbrev pub RowsAtEach : Db → List Event → Tree → ℕ → Type 0
RowsAtEach db es t n =
    EachAt (λ u m. rows_at m es ≡ output db u) (λ left seek m. rows_at (right_number m left) es ≡ sought db seek (output db left)) t n

pub events_each : (db : Db) (t : Tree) (n : ℕ) → RowsAtEach db (events db t n) t n
events_each db t n =
    let es : List Event = events db t n in
    EachAt-map (λ u m. part_at db u m es ≡ events db u m) (λ u m. rows_at m es ≡ output db u)
    (λ left seek m. rows_at (right_number m left) es ≡ sought db seek (output db left)) (λ left seek m. rows_at (right_number m left) es ≡ sought db seek (output db left))
    (λ u m e. sym (rows_at-part m m (m + size u) es (omega arith) (omega (arith, size_pos u))) ∙ ap (rows_at m) e ∙ rows_at-events db u m) (λ left seek m e. e) t n (events_parts db t n)

-- ---- their number

length-part_one : (n : ℕ) (es : List Event) → length (part n (n + 1) es) ≡ counts es n
length-part_one n [] = refl
length-part_one n (e ∷ es) = grind (arith, nat_tests, length-part_one n es)

length-part_two : (a b c : ℕ) (es : List Event) → a ≤ b → b ≤ c → length (part a c es) ≡ length (part a b es) + length (part b c es)
length-part_two a b c [] l h = refl
length-part_two a b c (e ∷ es) l h = grind (arith, nat_tests, length-part_two a b c es l h)

abbrev pub sum_of_counts : List Event → Tree → ℕ → ℕ
sum_of_counts es t n = sum_at (λ u m. counts es m) (λ left seek m. counts es (right_number m left)) t n

-- the events of a tree's nodes
length-part : (es : List Event) (t : Tree) (n : ℕ) (b : ℕ) → b ≡ n + size t → length (part n b es) ≡ sum_of_counts es t n
length-part es (Scan table label) n b e = ap (λ b. length (part n b es)) e ∙ length-part_one n es
length-part es (Over op child) n b e =
    omega (arith, e, length-part_two n (n + 1) b es (omega arith) (omega arith), length-part_one n es, length-part es child (n + 1) b (omega (arith, e)))
length-part es (Join method on left right) n b e =
    omega (
      arith,
      e,
      length-part_two n (n + 1) b es (omega arith) (omega arith),
      length-part_one n es,
      length-part_two (n + 1) (right_number n left) b es (omega arith) (omega arith),
      length-part es left (n + 1) (right_number n left) (omega arith),
      length-part es right (right_number n left) b (omega (arith, e)),
    )
length-part es (Index left seek cond) n b e =
    let last : b ≡ right_number n left + 1 = omega (arith, e) in
    omega (
      arith,
      e,
      length-part_two n (n + 1) b es (omega arith) (omega arith),
      length-part_one n es,
      length-part_two (n + 1) (right_number n left) b es (omega arith) (omega arith),
      length-part es left (n + 1) (right_number n left) (omega arith),
      ap (λ b. length (part (right_number n left) b es)) last,
      length-part_one (right_number n left) es,
    )

pub sum-counts : (es : List Event) (t : Tree) (n : ℕ) → Within n (n + size t) es → sum_of_counts es t n ≡ length es
sum-counts es t n w = sym (length-part es t n (n + size t) refl) ∙ ap length (part-all n (n + size t) es w)

pub length-events : (db : Db) (t : Tree) (n : ℕ) → length (events db t n) ≡ whole_work db t
length-events db t n =
    let es : List Event = events db t n in
    sym (sum-counts es t n (Within-events db t n))
    ∙ sum_at-same (λ u m. counts es m) (λ u m. length (output db u)) (λ left seek m. counts es (right_number m left)) (λ left seek m. length (sought db seek (output db left))) t n
    (EachAt-map (λ u m. rows_at m es ≡ output db u) (λ u m. counts es m ≡ length (output db u))
    (λ left seek m. rows_at (right_number m left) es ≡ sought db seek (output db left)) (λ left seek m. counts es (right_number m left) ≡ length (sought db seek (output db left)))
    (λ u m e. ap length e) (λ left seek m e. ap length e) t n (events_each db t n))
    ∙ sum_at-sum_in (λ u. length (output db u)) (λ left seek. length (sought db seek (output db left))) t n

-- the counts of a first part of the events
pub counts-moment : (db : Db) (tree : Tree) (t : ℕ) → t ≤ whole_work db tree → sum_of_counts (take t (events db tree 1)) tree 1 ≡ t
counts-moment db tree t within =
    let es : List Event = events db tree 1 in
    sum-counts (take t es) tree 1 (Within-first 1 (1 + size tree) (take t es) (drop t es) (subst (Within 1 (1 + size tree)) (sym (take-append-drop t es)) (Within-events db tree 1)))
    ∙ length-take-le t es (omega (arith, length-events db tree 1, within))
