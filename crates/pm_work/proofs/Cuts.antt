-- what any first part of an operator's events has handed out: no more rows than those below it call for so far
use Rattle.std.proofs.Common.{◌≡◌, ◌≢◌, ℕ, suc, ◌+◌, ◌-◌, ◌<◌, ◌≤◌, Bool, true, false, ◌||◌, ◌&&◌, cond, eqb, List, [], ◌∷◌, ◌++◌, length, map, take, refl, sym, ap, subst, ◌∙◌, ◌⊎◌, inl, inr, arith, append_assoc, length-append}
use Rattle.std.specs.Prelude.{◌==◌, get_or, Option}
use Rattle.std.specs.List.{flat_map, filter, list_any}
use Rattle.std.proofs.Math.Seq.{take-append_seam}
use Rattle.std.proofs.lemmas.Grind.{flat_map-append}
use Rattle.std.proofs.lemmas.List.{append-nil, length-map}
use Rattle.std.proofs.lemmas.List.Elements.{filter-append}
use Rattle.std.proofs.lemmas.List.Folds.{list_any-append}
use Rattle.std.proofs.lemmas.Bool.{cases_Bool, or_cases, both_ways, eqb-true, eq-eqb, ne_eqb}
use Rattle.pm_values.specs.declared.condition.Cond.{Cond}
use Rattle.pm_values.specs.Row.{Row, pick}
use Rattle.pm_values.specs.Order.{values_cmp, is_less}
use Rattle.pm_values.specs.Equality.{same_key}
use Rattle.pm_values.proofs.Keys.{both_true, same_key_gives_equal}
use Rattle.pm_plan.specs.declared.plan.Pair.{Pair}
use Rattle.pm_plan.specs.Joins.{left_columns, right_columns, matches, joined_rows, rows_for, join, joined_by, is_greater}
use Rattle.pm_plan.specs.Tree.{Hash}
use Rattle.pm_plan.specs.Outputs.{keeps_if}
use Rattle.pm_work.specs.Changes.{last_row}
use Rattle.pm_work.specs.Events.{Event, events_of, after, rows_at, through, beyond, merged, seek_events}
use Rattle.pm_work.proofs.EventLists.{filter-after, is_within, part, part-all, part-none, rows_at-part, rows_at-after, Only, Within, Only-events_of, Within-events_of, Within-after, Within-wider, Only-first, Within-first, rows_at-append, rows_at-cons, rows_at-events_of, rows_at-outside, rows_at-other, rows_at-one, rows_at-own, cut_of-append}
use Rattle.pm_work.proofs.Merges.{through-beyond, now_of, late_of, own_of, rest_of, now-late, Within-now}
use Rattle.pm_work.proofs.Operators.{flat_map-filter}
use Rattle.pm_work.proofs.Ascending.{NoPair, falls, or_false}

-- the rows of a first part are first rows
part_of_rows : (n : ℕ) (done rest all : List Event) → done ++ rest ≡ all → length (rows_at n done) ≤ length (rows_at n all)
part_of_rows n done rest all e = omega (arith, ap (λ es. length (rows_at n es)) e, ap length (rows_at-append n done rest), length-append (rows_at n done) (rows_at n rest))

pub front_of : (xs ys zs : List Row) → xs ++ ys ≡ zs → take (length xs) zs ≡ xs
front_of xs ys zs e = ap (take (length xs)) (sym e) ∙ take-append_seam xs ys

-- ---- an operator that hands out its rows right after those below it

-- node n, whose rows are called for by those of c, over events of nodes from a up to below b
module _ (n c a b : ℕ) (apart : c ≢ n) (out : (n < a) ⊎ (b ≤ n)) (f : Row → List Row) where
  abbrev called_for : Row → List Event
  called_for row = events_of n (f row)

  pub streamed_few : (es done left : List Event) → Within a b es → done ++ left ≡ after c called_for es → length (rows_at n done) ≤ length (flat_map f (rows_at c done))
  streamed_few es [] left w e = omega arith
  streamed_few [] (d ∷ done) left w e = absurd cc
  streamed_few (x ∷ es) (d ∷ done) left w e =
      let now : List Event = cond (eqb x.node c) (called_for x.row) [] in
      let tail : done ++ left ≡ now ++ after c called_for es = cc in
      let head : d ≡ x = cc in
      let first : rows_at n (d ∷ done) ≡ rows_at n done =
      ap (λ y. rows_at n (y ∷ done)) head ∙ rows_at-cons n x done ∙ ap (λ s. s ++ rows_at n done) (rows_at-outside n a b (x ∷ []) (w.0, w.1, tt) out) in
      let below : rows_at c (d ∷ done) ≡ rows_at c (x ∷ []) ++ rows_at c done = ap (λ y. rows_at c (y ∷ done)) head ∙ rows_at-cons c x done in
      elim (cut_of-append done left now (after c called_for es) tail) [
        | inl i ↦
            few (rows_at n (d ∷ done)) (rows_at n done) [] (rows_at c (d ∷ done)) (rows_at c (x ∷ [])) (rows_at c done) (first ∙ sym (append-nil (rows_at n done))) below
            (omega (arith, part_of_rows n done i.rest now i.a_is, called_rows x)) (omega arith)
        | inr i ↦
            few (rows_at n (d ∷ done)) (rows_at n now) (rows_at n i.more) (rows_at c (d ∷ done)) (rows_at c (x ∷ [])) (rows_at c i.more)
            (first ∙ ap (rows_at n) i.done_is ∙ rows_at-append n now i.more)
            (below ∙ ap (λ s. rows_at c (x ∷ []) ++ s) (ap (rows_at c) i.done_is ∙ rows_at-append c now i.more ∙ ap (λ s. s ++ rows_at c i.more) (none x)))
            (called_rows x) (streamed_few es i.more left w.2 i.b_is)
      ]
    where
      called_rows : (x : Event) → length (rows_at n (cond (eqb x.node c) (called_for x.row) [])) ≤ length (flat_map f (rows_at c (x ∷ [])))
      called_rows x =
          elim (eqb x.node c) as (λ t. length (rows_at n (cond t (called_for x.row) [])) ≤ length (flat_map f (map (λ y. y.row) (cond t (x ∷ []) [])))) [
            | true ↦ omega (arith, ap length (rows_at-events_of n (f x.row)), ap length (append-nil (f x.row)))
            | false ↦ omega arith
          ]

      none : (x : Event) → rows_at c (cond (eqb x.node c) (called_for x.row) []) ≡ []
      none x =
          elim (eqb x.node c) as (λ t. rows_at c (cond t (called_for x.row) []) ≡ [])
          [ true ↦ rows_at-other n c (called_for x.row) (Only-events_of n (f x.row)) apart | false ↦ refl ]

      few : (whole own more rows first rest : List Row) → whole ≡ own ++ more → rows ≡ first ++ rest → length own ≤ length (flat_map f first) → length more ≤ length (flat_map f rest)
          → length whole ≤ length (flat_map f rows)
      few whole own more rows first rest a b h g =
          omega (arith, ap length a, length-append own more, ap (λ s. length (flat_map f s)) b, h, g, ap length (flat_map-append f first rest), length-append (flat_map f first) (flat_map f rest))

-- ---- an operator that hands out its rows after all of its child's

pub waits_for_all : (n b : ℕ) (below : List Event) (rows : List Row) (done left : List Event) → Within (n + 1) b below → done ++ left ≡ below ++ events_of n rows
    → 0 < length (rows_at n done) → rows_at (n + 1) done ≡ rows_at (n + 1) below
waits_for_all n b below rows done left w e p =
    elim (cut_of-append done left below (events_of n rows) e) [
      | inl i ↦
          let inside : Within (n + 1) b done = Within-first (n + 1) b done i.rest (subst (Within (n + 1) b) (sym i.a_is) w) in
          absurd (omega (arith, ap length (rows_at-outside n (n + 1) b done inside (inl (omega arith))), p))
      | inr i ↦
          let mine : Only n i.more = Only-first n i.more left (subst (Only n) (sym i.b_is) (Only-events_of n rows)) in
          ap (rows_at (n + 1)) i.done_is ∙ rows_at-append (n + 1) below i.more
          ∙ ap (λ s. rows_at (n + 1) below ++ s) (rows_at-other n (n + 1) i.more mine (λ z. absurd (omega (arith, z)))) ∙ append-nil (rows_at (n + 1) below)
    ]

-- ---- a hash join: it reads its right side first

pub record HashIsCut (n r : ℕ) (pad : Bool) (pairs : List Pair) (width : ℕ) (rows : List Row) (done : List Event) : Type 0 where
  pub few : length (rows_at n done) ≤ length (joined_by (Hash pad) pairs width (rows_at (n + 1) done) (rows_at r done))
  pub waits : 0 < length (rows_at (n + 1) done) → rows_at r done ≡ rows

pub hash_cut : (n r b : ℕ) (pad : Bool) (pairs : List Pair) (width : ℕ) (rows : List Row) (lefts rights done left : List Event) → n + 1 < r → Within (n + 1) r lefts → Within r b rights
    → rows_at r rights ≡ rows → done ++ left ≡ rights ++ after (n + 1) (λ l. events_of n (rows_for (Hash pad) pairs width rows l)) lefts → HashIsCut n r pad pairs width rows done
hash_cut n r b pad pairs width rows lefts rights done left apart ls rs whole e =
    let f : Row → List Row = rows_for (Hash pad) pairs width rows in
    let called : Row → List Event = λ l. events_of n (f l) in
    elim (cut_of-append done left rights (after (n + 1) called lefts) e) [
      | inl i ↦
          let inside : Within r b done = Within-first r b done i.rest (subst (Within r b) (sym i.a_is) rs) in
          let none : (m : ℕ) → m < r → length (rows_at m done) ≡ 0 = λ m h. ap length (rows_at-outside m r b done inside (inl h)) in
          record { few = omega (arith, none n (omega (arith, apart))); waits = λ p. absurd (omega (arith, p, none (n + 1) apart)) }
      | inr i ↦
          let all : Within n r (after (n + 1) called lefts) =
          Within-after n r (n + 1) called lefts (λ l. Within-events_of n r (f l) (omega (arith, apart))) (Within-wider (n + 1) r n r lefts (omega arith) (omega arith) ls) in
          let inside : Within n r i.more = Within-first n r i.more left (subst (Within n r) (sym i.b_is) all) in
          let under : (m : ℕ) → m < r → rows_at m done ≡ rows_at m i.more =
          λ m h. ap (rows_at m) i.done_is ∙ rows_at-append m rights i.more ∙ ap (λ s. s ++ rows_at m i.more) (rows_at-outside m r b rights rs (inl h)) in
          let at_right : rows_at r done ≡ rows =
          ap (rows_at r) i.done_is ∙ rows_at-append r rights i.more ∙ ap (λ s. rows_at r rights ++ s) (rows_at-outside r n r i.more inside (inr (omega arith))) ∙ append-nil (rows_at r rights) ∙ whole in
          record {
            few = omega (
              arith,
              streamed_few n (n + 1) (n + 1) r (λ z. absurd (omega (arith, z))) (inl (omega arith)) f lefts i.more left ls i.b_is,
              ap length (under n (omega (arith, apart))),
              ap (λ s. length (flat_map f s)) (under (n + 1) apart),
              ap (λ s. length (joined_by (Hash pad) pairs width (rows_at (n + 1) done) s)) at_right,
            );
            waits = λ p. at_right;
          }
    ]

-- ---- a merge join: its pairs are pairs of rows that its sides have handed out

-- a row that passes is among the rows handed out, or nothing is left
through-found : (r : ℕ) (p : Row → Bool) (found : Bool) (es : List Event)
    → (found ≡ true) ⊎ ((list_any p (rows_at r (through r p found es)) ≡ true) ⊎ (beyond r p found es ≡ []))
through-found r p true es = inl refl
through-found r p false [] = inr (inr refl)
through-found r p false (e ∷ es) =
    elim (cases_Bool (eqb e.node r && p e.row)) [
      | inl h ↦
          let both : (eqb e.node r ≡ true) × (p e.row ≡ true) = both_true (eqb e.node r) (p e.row) h in
          inr (inl (rw (both.0, both.1) refl))
      | inr h ↦ elim (through-found r p (eqb e.node r && p e.row) es) [
        | inl g ↦ absurd (both_ways (eqb e.node r && p e.row) h g)
        | inr (inl g) ↦ inr (inl (more (through r p (eqb e.node r && p e.row) es) (eqb e.node r) g))
        | inr (inr g) ↦ inr (inr g)
      ]
    ]
  where
    more : (ts : List Event) (t : Bool) → list_any p (rows_at r ts) ≡ true
        → list_any p (map (λ x. x.row) (cond t (e ∷ filter (λ x. eqb x.node r) ts) (filter (λ x. eqb x.node r) ts))) ≡ true
    more ts true g = elim (p e.row) as (λ t. (t || list_any p (rows_at r ts)) ≡ true) [ true ↦ refl | false ↦ g ]
    more ts false g = g

module _ (pairs : List Pair) where
  no_match : (l x : Row) (rows : List Row) → is_less (values_cmp (pick (left_columns pairs) l) (pick (right_columns pairs) x)) ≡ true
      → list_any (falls (right_columns pairs) x) rows ≡ false → matches pairs l rows ≡ []
  no_match l x [] g d = refl
  no_match l x (b ∷ rows) g d =
      let p : (falls (right_columns pairs) x b ≡ false) × (list_any (falls (right_columns pairs) x) rows ≡ false) = or_false _ _ d in
      elim (cases_Bool (same_key (pick (left_columns pairs) l) (pick (right_columns pairs) b))) [
        | inl h ↦ absurd (both_ways (falls (right_columns pairs) x b) p.0
            (ap (λ k. is_less (values_cmp k (pick (right_columns pairs) x))) (sym (same_key_gives_equal (pick (left_columns pairs) l) (pick (right_columns pairs) b) h)) ∙ g))
        | inr h ↦ rw h (no_match l x rows g p.1)
      ]

  -- after a row with a greater key nothing matches
  after_greater : (l : Row) (front back : List Row) → NoPair (falls (right_columns pairs)) (front ++ back) → list_any (is_greater pairs l) front ≡ true → matches pairs l back ≡ []
  after_greater l [] back a e = absurd cc
  after_greater l (x ∷ front) back a e =
      elim (or_cases (is_greater pairs l x) (list_any (is_greater pairs l) front) e) [
        | inl g ↦ no_match l x back g (or_false (list_any (falls (right_columns pairs) x) front) _ (sym (list_any-append (falls (right_columns pairs) x) front back) ∙ a.0)).1
        | inr g ↦ after_greater l front back a.1 g
      ]

  -- after the right rows up to the first greater one, all that match the left row have come
  pub all_come : (r : ℕ) (l : Row) (all seen : List Row) (rights : List Event) → NoPair (falls (right_columns pairs)) all → seen ++ rows_at r rights ≡ all
      → joined_rows pairs all l ≡ joined_rows pairs (seen ++ rows_at r (through r (is_greater pairs l) (list_any (is_greater pairs l) seen) rights)) l
  all_come r l all seen rights a e =
      let p : Row → Bool = is_greater pairs l in
      let f : Bool = list_any p seen in
      let now : List Event = through r p f rights in
      let late : List Event = beyond r p f rights in
      let front : List Row = seen ++ rows_at r now in
      let whole : all ≡ front ++ rows_at r late =
      sym e ∙ ap (λ s. seen ++ s) (ap (rows_at r) (sym (through-beyond r p f rights)) ∙ rows_at-append r now late)
      ∙ sym (append_assoc seen (rows_at r now) (rows_at r late)) in
      let up : NoPair (falls (right_columns pairs)) (front ++ rows_at r late) = subst (NoPair (falls (right_columns pairs))) whole a in
      let done : list_any p front ≡ true → joined_rows pairs all l ≡ joined_rows pairs front l =
      λ g. ap (λ s. joined_rows pairs s l) whole
      ∙ ap (map (λ x. l ++ x)) (filter-append (λ x. same_key (pick (left_columns pairs) l) (pick (right_columns pairs) x)) front (rows_at r late)
      ∙ ap (λ s. matches pairs l front ++ s) (after_greater l front (rows_at r late) up g) ∙ append-nil (matches pairs l front)) in
      elim (through-found r p f rights) [
        | inl g ↦ done (list_any-append p seen (rows_at r now) ∙ ap (λ t. t || list_any p (rows_at r now)) g)
        | inr (inl g) ↦ done (list_any-append p seen (rows_at r now) ∙ ap (λ t. f || t) g ∙ or_true f)
        | inr (inr g) ↦ ap (λ s. joined_rows pairs s l) (whole ∙ ap (λ s. front ++ rows_at r s) g ∙ append-nil front)
      ]
    where
      or_true : (t : Bool) → (t || true) ≡ true
      or_true true = refl
      or_true false = refl

  joined_rows-more : (l : Row) (xs ys : List Row) → length (joined_rows pairs xs l) ≤ length (joined_rows pairs (xs ++ ys) l)
  joined_rows-more l xs ys =
      omega (
        arith,
        length-map (matches pairs l xs) (λ r. l ++ r),
        length-map (matches pairs l (xs ++ ys)) (λ r. l ++ r),
        ap length (filter-append (λ x. same_key (pick (left_columns pairs) l) (pick (right_columns pairs) x)) xs ys),
        length-append (matches pairs l xs) (matches pairs l ys),
      )

  -- the pairs of one left row more
  pairs_more : (l : Row) (ls front back own more rows lefts rights : List Row) → rows ≡ own ++ more → lefts ≡ l ∷ ls → rights ≡ front ++ back
      → length own ≤ length (joined_rows pairs front l) → length more ≤ length (join pairs ls (front ++ back)) → length rows ≤ length (join pairs lefts rights)
  pairs_more l ls front back own more rows lefts rights p k r few le =
      omega (
        arith,
        le,
        few,
        ap length p,
        length-append own more,
        ap (λ s. length (join pairs s rights)) k,
        ap (λ s. length (join pairs (l ∷ ls) s)) r,
        joined_rows-more l front back,
        length-append (joined_rows pairs (front ++ back) l) (join pairs ls (front ++ back)),
      )

module _ (pairs : List Pair) (n r top : ℕ) (apart : n + 1 < r) (all : List Row) (up : NoPair (falls (right_columns pairs)) all) where
  abbrev c : ℕ
  c = n + 1

  pub merged_few : (seen : List Row) (lefts rights done left : List Event) → Within c r lefts → Within r top rights → seen ++ rows_at r rights ≡ all
      → done ++ left ≡ merged pairs n c r seen all lefts rights → length (rows_at n done) ≤ length (join pairs (rows_at c done) (seen ++ rows_at r done))
  merged_few seen lefts rights [] left ls rs whole e = omega arith
  merged_few seen [] rights (d ∷ done) left ls rs whole e =
      let inside : Within r top (d ∷ done) = Within-first r top (d ∷ done) left (subst (Within r top) (sym e) rs) in
      omega (arith, ap length (rows_at-outside n r top (d ∷ done) inside (inl (omega (arith, apart)))))
  merged_few seen (x ∷ lefts) rights (d ∷ done) left ls rs whole e =
      elim (cases_Bool (eqb x.node c)) [
        | inl h ↦ met h (rw h at e) (λ k t. merged_few (seen ++ rows_at r now) lefts late k left ls.2 (Within-now pairs n r all r top seen x rights rs).1 later_whole t)
        | inr h ↦ passed h (rw h at e) (λ t. merged_few seen lefts rights done left ls.2 rs whole t)
      ]
    where
      now : List Event
      now = now_of pairs n r all seen x rights

      late : List Event
      late = late_of pairs n r all seen x rights

      own : List Event
      own = own_of pairs n r all x

      rest : List Event
      rest = rest_of pairs n r all seen x lefts rights

      first : (m : ℕ) → d ≡ x → rows_at m (d ∷ done) ≡ rows_at m (x ∷ []) ++ rows_at m done
      first m head = ap (λ y. rows_at m (y ∷ done)) head ∙ rows_at-cons m x done

      skip : (m : ℕ) → d ≡ x → (x.node ≡ m → ⊥) → rows_at m (d ∷ done) ≡ rows_at m done
      skip m head o = first m head ∙ ap (λ s. s ++ rows_at m done) (rows_at-one m x o)

      at_n : d ≡ x → rows_at n (d ∷ done) ≡ rows_at n done
      at_n head = skip n head (λ z. absurd (omega (arith, z, ls.0)))

      at_r : d ≡ x → rows_at r (d ∷ done) ≡ rows_at r done
      at_r head = skip r head (λ z. absurd (omega (arith, z, ls.1)))

      -- the right side's rows once those of now have come
      later_whole : (seen ++ rows_at r now) ++ rows_at r late ≡ all
      later_whole =
          append_assoc seen (rows_at r now) (rows_at r late) ∙ ap (λ s. seen ++ s) (sym (rows_at-append r now late) ∙ ap (rows_at r) (now-late pairs n r all seen x rights)) ∙ whole

      passed : eqb x.node c ≡ false → d ∷ (done ++ left) ≡ x ∷ merged pairs n c r seen all lefts rights
          → (done ++ left ≡ merged pairs n c r seen all lefts rights → length (rows_at n done) ≤ length (join pairs (rows_at c done) (seen ++ rows_at r done)))
          → length (rows_at n (d ∷ done)) ≤ length (join pairs (rows_at c (d ∷ done)) (seen ++ rows_at r (d ∷ done)))
      passed h e again =
          let head : d ≡ x = cc in
          let tail : done ++ left ≡ merged pairs n c r seen all lefts rights = cc in
          let none : rows_at c (x ∷ []) ≡ [] = rw h refl in
          let at_c : rows_at c (d ∷ done) ≡ rows_at c done = first c head ∙ ap (λ s. s ++ rows_at c done) none in
          rw (at_n head, at_r head, at_c) (again tail)

      met : eqb x.node c ≡ true → d ∷ (done ++ left) ≡ x ∷ (now ++ (own ++ rest))
          → ((k : List Event) → k ++ left ≡ rest → length (rows_at n k) ≤ length (join pairs (rows_at c k) ((seen ++ rows_at r now) ++ rows_at r k)))
          → length (rows_at n (d ∷ done)) ≤ length (join pairs (rows_at c (d ∷ done)) (seen ++ rows_at r (d ∷ done)))
      met h e again =
          let head : d ≡ x = cc in
          let tail : done ++ left ≡ now ++ (own ++ rest) = cc in
          let front : List Row = seen ++ rows_at r now in
          let in_now : Within r top now = (Within-now pairs n r all r top seen x rights rs).0 in
          let come : joined_rows pairs all x.row ≡ joined_rows pairs front x.row = all_come pairs r x.row all seen rights up whole in
          let at_c : rows_at c (d ∷ done) ≡ x.row ∷ rows_at c done = first c head ∙ ap (λ s. s ++ rows_at c done) (rows_at-own c x (eqb-true x.node c h)) in
          elim (cut_of-append done left now (own ++ rest) tail) [
            | inl i ↦
                let inside : Within r top done = Within-first r top done i.rest (subst (Within r top) (sym i.a_is) in_now) in
                omega (arith, ap length (at_n head), ap length (rows_at-outside n r top done inside (inl (omega (arith, apart)))))
            | inr i ↦
                let split : (m : ℕ) → rows_at m done ≡ rows_at m now ++ rows_at m i.more = λ m. ap (rows_at m) i.done_is ∙ rows_at-append m now i.more in
                let under : (m : ℕ) → m < r → rows_at m done ≡ rows_at m i.more =
                λ m g. split m ∙ ap (λ s. s ++ rows_at m i.more) (rows_at-outside m r top now in_now (inl g)) in
                let rights_is : seen ++ rows_at r (d ∷ done) ≡ front ++ rows_at r i.more = ap (λ s. seen ++ s) (at_r head ∙ split r) ∙ sym (append_assoc seen (rows_at r now) (rows_at r i.more)) in
                elim (cut_of-append i.more left own rest i.b_is) [
                  | inl j ↦
                      let mine : Only n i.more = Only-first n i.more j.rest (subst (Only n) (sym j.a_is) (Only-events_of n (joined_rows pairs all x.row))) in
                      let of_other : (m : ℕ) → n < m → rows_at m i.more ≡ [] = λ m g. rows_at-other n m i.more mine (λ z. absurd (omega (arith, z, g))) in
                      pairs_more pairs x.row [] front [] (rows_at n i.more) [] (rows_at n (d ∷ done)) (rows_at c (d ∷ done)) (seen ++ rows_at r (d ∷ done))
                      (at_n head ∙ under n (omega (arith, apart)) ∙ sym (append-nil (rows_at n i.more)))
                      (at_c ∙ ap (λ s. x.row ∷ s) (under c apart ∙ of_other c (omega arith)))
                      (rights_is ∙ ap (λ s. front ++ s) (of_other r (omega (arith, apart))))
                      (omega (arith, part_of_rows n i.more j.rest own j.a_is, ap length (rows_at-events_of n (joined_rows pairs all x.row)), ap length come)) (omega arith)
                  | inr j ↦
                      let of_other : (m : ℕ) → n < m → rows_at m i.more ≡ rows_at m j.more =
                      λ m g. ap (rows_at m) j.done_is ∙ rows_at-append m own j.more
                      ∙ ap (λ s. s ++ rows_at m j.more) (rows_at-other n m own (Only-events_of n (joined_rows pairs all x.row)) (λ z. absurd (omega (arith, z, g)))) in
                      pairs_more pairs x.row (rows_at c j.more) front (rows_at r j.more) (joined_rows pairs all x.row) (rows_at n j.more) (rows_at n (d ∷ done)) (rows_at c (d ∷ done)) (seen ++ rows_at r (d ∷ done))
                      (at_n head ∙ under n (omega (arith, apart)) ∙ ap (rows_at n) j.done_is ∙ rows_at-append n own j.more ∙ ap (λ s. s ++ rows_at n j.more) (rows_at-events_of n (joined_rows pairs all x.row)))
                      (at_c ∙ ap (λ s. x.row ∷ s) (under c apart ∙ of_other c (omega arith)))
                      (rights_is ∙ ap (λ s. front ++ s) (of_other r (omega (arith, apart))))
                      (omega (arith, ap length come)) (again j.more j.b_is)
                ]
          ]

-- ---- an index join

-- the last row of node c after an event
abbrev next_row : ℕ → Row → Event → Row
next_row c l x = cond (eqb x.node c) x.row l

-- the same events, but that the second ones' rows of node s begin with the last row of node c, the first of which is l
abbrev Paired : ℕ → ℕ → Row → List Event → List Event → Type 0
Paired s c l [] [] = Unit {0}
Paired s c l [] (y ∷ ys) = ⊥
Paired s c l (x ∷ xs) [] = ⊥
Paired s c l (x ∷ xs) (y ∷ ys) =
    (x.node ≡ y.node) × (x.node ≢ s → x.row ≡ y.row) × (x.node ≡ s → y.row ≡ l ++ x.row) × Paired s c (next_row c l x) xs ys

-- the last row of node c, l where there is none
abbrev last_at : ℕ → Row → List Event → Row
last_at c l [] = l
last_at c l (x ∷ xs) = last_at c (next_row c l x) xs

paired-append : (s c : ℕ) (l : Row) (xs ys us vs : List Event) → Paired s c l xs ys → Paired s c (last_at c l xs) us vs → Paired s c l (xs ++ us) (ys ++ vs)
paired-append s c l [] [] us vs a b = b
paired-append s c l [] (y ∷ ys) us vs a b = absurd a
paired-append s c l (x ∷ xs) [] us vs a b = absurd a
paired-append s c l (x ∷ xs) (y ∷ ys) us vs a b = (a.0, a.1, a.2, paired-append s c (next_row c l x) xs ys us vs a.3 b)

paired_counts : (s c : ℕ) (l : Row) (xs ys : List Event) → Paired s c l xs ys → length (rows_at s xs) ≡ length (rows_at s ys)
paired_counts s c l [] [] a = refl
paired_counts s c l [] (y ∷ ys) a = absurd a
paired_counts s c l (x ∷ xs) [] a = absurd a
paired_counts s c l (x ∷ xs) (y ∷ ys) a =
    let deep = paired_counts s c (next_row c l x) xs ys a.3 in
    elim (cases_Bool (eqb x.node s)) [
      | inl h ↦ let g : eqb y.node s ≡ true = ap (λ k. eqb k s) (sym a.0) ∙ h in rw (h, g) (ap suc deep)
      | inr h ↦ let g : eqb y.node s ≡ false = ap (λ k. eqb k s) (sym a.0) ∙ h in rw (h, g) deep
    ]

paired_rows : (s c m : ℕ) (l : Row) (xs ys : List Event) → m ≢ s → Paired s c l xs ys → rows_at m xs ≡ rows_at m ys
paired_rows s c m l [] [] o a = refl
paired_rows s c m l [] (y ∷ ys) o a = absurd a
paired_rows s c m l (x ∷ xs) [] o a = absurd a
paired_rows s c m l (x ∷ xs) (y ∷ ys) o a =
    let deep = paired_rows s c m (next_row c l x) xs ys o a.3 in
    elim (cases_Bool (eqb x.node m)) [
      | inl h ↦
          let g : eqb y.node m ≡ true = ap (λ k. eqb k m) (sym a.0) ∙ h in
          let same : x.row ≡ y.row = a.1 (λ z. o (sym (eqb-true x.node m h) ∙ z)) in
          rw (h, g) (ap (λ r. r ∷ rows_at m xs) same ∙ ap (λ rs. y.row ∷ rs) deep)
      | inr h ↦ let g : eqb y.node m ≡ false = ap (λ k. eqb k m) (sym a.0) ∙ h in rw (h, g) deep
    ]

pub last_at-rows : (c : ℕ) (l : Row) (es : List Event) → last_at c l es ≡ get_or (l ∷ rows_at c es) (length (rows_at c es)) []
last_at-rows c l [] = refl
last_at-rows c l (x ∷ es) =
    elim (cases_Bool (eqb x.node c)) [
      | inl h ↦ rw h (last_at-rows c x.row es)
      | inr h ↦ rw h (last_at-rows c l es)
    ]

last_at-last : (c : ℕ) (es : List Event) → last_at c [] es ≡ last_row (rows_at c es)
last_at-last c es = last_at-rows c [] es ∙ shifted (rows_at c es)
  where
    shifted : (rows : List Row) → get_or ([] ∷ rows) (length rows) [] ≡ last_row rows
    shifted [] = refl
    shifted (row ∷ rows) = let e : length rows ≡ suc (length rows) - 1 = omega arith in ap (λ i. get_or (row ∷ rows) i []) e

record PairedCut (s c : ℕ) (l : Row) (done left es : List Event) : Type 0 where
  first : List Event
  rest : List Event
  joins : first ++ rest ≡ es
  paired : Paired s c l done first
  later : Paired s c (last_at c l done) left rest

paired_cut : (s c : ℕ) (l : Row) (done left es : List Event) → Paired s c l (done ++ left) es → PairedCut s c l done left es
paired_cut s c l [] left es a = record { first = []; rest = es; joins = refl; paired = tt; later = a }
paired_cut s c l (d ∷ done) left [] a = absurd a
paired_cut s c l (d ∷ done) left (e ∷ es) a =
    let deep = paired_cut s c (next_row c l d) done left es a.3 in
    record { first = e ∷ deep.first; rest = deep.rest; joins = ap (λ z. e ∷ z) deep.joins; paired = (a.0, a.1, a.2, deep.paired); later = deep.later }

after-append : (c : ℕ) (called : Row → List Event) (xs ys : List Event) → after c called (xs ++ ys) ≡ after c called xs ++ after c called ys
after-append c called [] ys = refl
after-append c called (x ∷ xs) ys =
    let now : List Event = cond (eqb x.node c) (called x.row) [] in
    ap (λ z. x ∷ z) (ap (λ z. now ++ z) (after-append c called xs ys) ∙ sym (append_assoc now (after c called xs) (after c called ys)))

record NextIs (row : Row) (rows : List Row) : Type 0 where
  more : List Row
  is : rows ≡ row ∷ more

take_one_more : (front : List Row) (row : Row) (more all : List Row) (k : ℕ) → k ≡ length front → front ++ row ∷ more ≡ all → take (k + 1) all ≡ front ++ row ∷ []
take_one_more front row more all k e whole =
    ap (take (k + 1)) (sym whole ∙ sym (append_assoc front (row ∷ []) more))
    ∙ ap (λ i. take i ((front ++ row ∷ []) ++ more)) (omega (arith, e, length-append front (row ∷ [])))
    ∙ take-append_seam (front ++ row ∷ []) more

-- Index n over a left side n + 1, with Seek s. Its events are those of a Seek that hands out pairs, under a filter, but for the Seek's rows
module _ (condition : Option Cond) (n s : ℕ) (apart : n + 1 < s) (pairs : List Pair) (all : List Row) where
  abbrev seeks : Row → List Event
  seeks l = events_of s (joined_rows pairs all l)

  abbrev keeping : Row → List Event
  keeping row = events_of n (filter (keeps_if condition) (row ∷ []))

  paired_pairs : (l : Row) (rows : List Row) → Paired s (n + 1) l (flat_map (seek_events condition n s l) rows) (after s keeping (events_of s (map (λ r. l ++ r) rows)))
  paired_pairs l [] = tt
  paired_pairs l (row ∷ rows) =
      let found : Event = record { node = s; row = row } in
      let own : Event = record { node = n; row = l ++ row } in
      let next : List Event = flat_map (seek_events condition n s l) rows in
      let made : List Event = after s keeping (events_of s (map (λ r. l ++ r) rows)) in
      let deep : Paired s (n + 1) l next made = paired_pairs l rows in
      let not_s : eqb s (n + 1) ≡ false = ne_eqb s (n + 1) (λ z. absurd (omega (arith, z, apart))) in
      let not_n : eqb n (n + 1) ≡ false = ne_eqb n (n + 1) (λ z. absurd (omega (arith, z))) in
      let after_found : (xs ys : List Event) → Paired s (n + 1) l xs ys → Paired s (n + 1) (next_row (n + 1) l found) xs ys =
      λ xs ys p. subst (λ t. Paired s (n + 1) (cond t row l) xs ys) (sym not_s) p in
      let after_own : Paired s (n + 1) (next_row (n + 1) l own) next made = subst (λ t. Paired s (n + 1) (cond t (l ++ row) l) next made) (sym not_n) deep in
      rw (eq-eqb s s refl) (
      elim (keeps_if condition (l ++ row)) as (λ t. Paired s (n + 1) l (found ∷ (cond t (own ∷ []) [] ++ next)) (record { node = s; row = l ++ row } ∷ (events_of n (cond t ((l ++ row) ∷ []) []) ++ made))) [
        | true ↦ (refl, (λ o. absurd (o refl)), (λ z. refl), after_found (own ∷ next) (own ∷ made) (refl, (λ o. refl), (λ z. absurd (omega (arith, z, apart))), after_own))
        | false ↦ (refl, (λ o. absurd (o refl)), (λ z. refl), after_found next made deep)
      ])

  paired_events : (l : Row) (lefts : List Event) → Within (n + 1) s lefts
      → Paired s (n + 1) l (after (n + 1) (λ l. flat_map (seek_events condition n s l) (matches pairs l all)) lefts) (after s keeping (after (n + 1) seeks lefts))
  paired_events l [] w = tt
  paired_events l (x ∷ lefts) w =
      let looked : Row → List Event = λ l. flat_map (seek_events condition n s l) (matches pairs l all) in
      let now : List Event = cond (eqb x.node (n + 1)) (seeks x.row) [] in
      let own : Paired s (n + 1) (next_row (n + 1) l x) (cond (eqb x.node (n + 1)) (looked x.row) []) (after s keeping now) =
      elim (eqb x.node (n + 1)) as (λ t. Paired s (n + 1) (cond t x.row l) (cond t (looked x.row) []) (after s keeping (cond t (seeks x.row) [])))
      [ true ↦ paired_pairs x.row (matches pairs x.row all) | false ↦ tt ] in
      let rest : Paired s (n + 1) (last_at (n + 1) (next_row (n + 1) l x) (cond (eqb x.node (n + 1)) (looked x.row) [])) (after (n + 1) looked lefts) (after s keeping (after (n + 1) seeks lefts)) =
      paired_events (last_at (n + 1) (next_row (n + 1) l x) (cond (eqb x.node (n + 1)) (looked x.row) [])) lefts w.2 in
      let split : after s keeping (now ++ after (n + 1) seeks lefts) ≡ after s keeping now ++ after s keeping (after (n + 1) seeks lefts) = after-append s keeping now (after (n + 1) seeks lefts) in (
        refl,
        (λ o. refl),
        (λ z. absurd (omega (arith, z, w.1))),
        rw (ne_eqb x.node s (λ z. absurd (omega (arith, z, w.1))))
            (subst (Paired s (n + 1) (next_row (n + 1) l x) _) (sym split) (paired-append s (n + 1) (next_row (n + 1) l x) _ (after s keeping now) _ (after s keeping (after (n + 1) seeks lefts)) own rest)),
      )

  abbrev paired_list : List Event → List Event
  paired_list lefts = after s keeping (after (n + 1) seeks lefts)

  -- its pairs, in order
  rows_at-paired : (lefts : List Event) → Within (n + 1) s lefts → rows_at s (paired_list lefts) ≡ join pairs (rows_at (n + 1) lefts) all
  rows_at-paired lefts w =
      ap (map (λ e. e.row)) (filter-after (λ e. e.node == s) s keeping (after (n + 1) seeks lefts) (λ row. none row))
      ∙ rows_at-after s (n + 1) (n + 1) s seeks (joined_rows pairs all) lefts (λ l. rows_at-events_of s (joined_rows pairs all l)) w (inr (omega arith))
    where
      none : (row : Row) → filter (λ e. e.node == s) (keeping row) ≡ []
      none row =
          elim (keeps_if condition row) as (λ t. filter (λ e. e.node == s) (events_of n (cond t (row ∷ []) [])) ≡ [])
          [ true ↦ rw (ne_eqb n s (λ z. absurd (omega (arith, z, apart)))) refl | false ↦ refl ]

  -- a first part of the events, with its pairs
  cut_of_index : (lefts done left : List Event) → Within (n + 1) s lefts
      → done ++ left ≡ after (n + 1) (λ l. flat_map (seek_events condition n s l) (matches pairs l all)) lefts → PairedCut s (n + 1) [] done left (paired_list lefts)
  cut_of_index lefts done left w e =
      paired_cut s (n + 1) [] done left (paired_list lefts) (subst (λ es. Paired s (n + 1) [] es (paired_list lefts)) (sym e) (paired_events [] lefts w))

  first_pairs : (lefts done left : List Event) → Within (n + 1) s lefts → (cut : PairedCut s (n + 1) [] done left (paired_list lefts))
      → take (length (rows_at s done)) (join pairs (rows_at (n + 1) lefts) all) ≡ rows_at s cut.first
  first_pairs lefts done left w cut =
      ap (λ k. take k (join pairs (rows_at (n + 1) lefts) all)) (paired_counts s (n + 1) [] done cut.first cut.paired)
      ∙ front_of (rows_at s cut.first) (rows_at s cut.rest) (join pairs (rows_at (n + 1) lefts) all)
      (sym (rows_at-append s cut.first cut.rest) ∙ ap (rows_at s) cut.joins ∙ rows_at-paired lefts w)

  -- of the pairs looked up so far at most the kept ones are handed out, and no more pairs are looked up than there are of the left rows so far
  pub record IndexIsCut (lefts done : List Event) : Type 0 where
    pub few : length (rows_at n done) ≤ length (filter (keeps_if condition) (take (length (rows_at s done)) (join pairs (rows_at (n + 1) lefts) all)))
    pub found : length (rows_at s done) ≤ length (join pairs (rows_at (n + 1) done) all)

  pub index_cut : (lefts done left : List Event) → Within (n + 1) s lefts
      → done ++ left ≡ after (n + 1) (λ l. flat_map (seek_events condition n s l) (matches pairs l all)) lefts → IndexIsCut lefts done
  index_cut lefts done left w e =
      let inner : List Event = after (n + 1) seeks lefts in
      let cut : PairedCut s (n + 1) [] done left (paired_list lefts) = cut_of_index lefts done left w e in
      let in_inner : Within (n + 1) (s + 1) inner =
      Within-after (n + 1) (s + 1) (n + 1) seeks lefts (λ l. Within-wider s (s + 1) (n + 1) (s + 1) (seeks l) (omega (arith, apart)) (omega arith) (Within-events_of s (s + 1) (joined_rows pairs all l) (omega arith)))
      (Within-wider (n + 1) s (n + 1) (s + 1) lefts (omega arith) (omega arith) w) in
      let kept_few : length (rows_at n cut.first) ≤ length (flat_map (λ row. filter (keeps_if condition) (row ∷ [])) (rows_at s cut.first)) =
      streamed_few n s (n + 1) (s + 1) (λ z. absurd (omega (arith, z, apart))) (inl (omega arith)) (λ row. filter (keeps_if condition) (row ∷ [])) inner cut.first cut.rest in_inner cut.joins in
      let own : part (n + 1) (s + 1) (paired_list lefts) ≡ inner =
      filter-after (is_within (n + 1) (s + 1)) s keeping inner (λ row. part-none (n + 1) (s + 1) n (n + 1) (keeping row) (Within-events_of n (n + 1) (filter (keeps_if condition) (row ∷ [])) (omega arith)) (inl (omega arith)))
      ∙ part-all (n + 1) (s + 1) inner in_inner in
      let parts : part (n + 1) (s + 1) cut.first ++ part (n + 1) (s + 1) cut.rest ≡ inner = sym (filter-append (is_within (n + 1) (s + 1)) cut.first cut.rest) ∙ ap (part (n + 1) (s + 1)) cut.joins ∙ own in
      let sought_few : length (rows_at s (part (n + 1) (s + 1) cut.first)) ≤ length (flat_map (joined_rows pairs all) (rows_at (n + 1) (part (n + 1) (s + 1) cut.first))) =
      streamed_few s (n + 1) (n + 1) s (λ z. absurd (omega (arith, z, apart))) (inr (omega arith)) (joined_rows pairs all) lefts (part (n + 1) (s + 1) cut.first) (part (n + 1) (s + 1) cut.rest) w parts in
      let at_left : rows_at (n + 1) (part (n + 1) (s + 1) cut.first) ≡ rows_at (n + 1) done =
      rows_at-part (n + 1) (n + 1) (s + 1) cut.first (omega arith) (omega (arith, apart)) ∙ sym (paired_rows s (n + 1) (n + 1) [] done cut.first (λ z. absurd (omega (arith, z, apart))) cut.paired) in
      let number : length (rows_at s done) ≡ length (rows_at s cut.first) = paired_counts s (n + 1) [] done cut.first cut.paired in
      record {
        few = omega (
          arith,
          kept_few,
          ap length (flat_map-filter (keeps_if condition) (rows_at s cut.first)),
          ap length (paired_rows s (n + 1) n [] done cut.first (λ z. absurd (omega (arith, z, apart))) cut.paired),
          ap (λ rows. length (filter (keeps_if condition) rows)) (first_pairs lefts done left w cut),
        );
        found = omega (arith, sought_few, number, ap length (rows_at-part s (n + 1) (s + 1) cut.first (omega (arith, apart)) (omega arith)), ap (λ rows. length (join pairs rows all)) at_left);
      }

  -- a row of the Seek is paired with the last left row
  pub next_pair : (lefts done : List Event) (e : Event) (left : List Event) → Within (n + 1) s lefts
      → done ++ e ∷ left ≡ after (n + 1) (λ l. flat_map (seek_events condition n s l) (matches pairs l all)) lefts → e.node ≡ s
      → take (length (rows_at s done) + 1) (join pairs (rows_at (n + 1) lefts) all)
      ≡ take (length (rows_at s done)) (join pairs (rows_at (n + 1) lefts) all) ++ (last_row (rows_at (n + 1) done) ++ e.row) ∷ []
  next_pair lefts done e left w cuts own =
      let cut : PairedCut s (n + 1) [] done (e ∷ left) (paired_list lefts) = cut_of_index lefts done (e ∷ left) w cuts in
      let J : List Row = join pairs (rows_at (n + 1) lefts) all in
      let K : ℕ = length (rows_at s done) in
      let number : K ≡ length (rows_at s cut.first) = paired_counts s (n + 1) [] done cut.first cut.paired in
      let whole : rows_at s cut.first ++ rows_at s cut.rest ≡ J = sym (rows_at-append s cut.first cut.rest) ∙ ap (rows_at s) cut.joins ∙ rows_at-paired lefts w in
      let front : take K J ≡ rows_at s cut.first = first_pairs lefts done (e ∷ left) w cut in
      let next : NextIs (last_row (rows_at (n + 1) done) ++ e.row) (rows_at s cut.rest) =
      next_row_is (last_row (rows_at (n + 1) done)) cut.rest (subst (λ l. Paired s (n + 1) l (e ∷ left) cut.rest) (last_at-last (n + 1) done) cut.later) own in
      take_one_more (rows_at s cut.first) (last_row (rows_at (n + 1) done) ++ e.row) next.more J K number (ap (λ rows. rows_at s cut.first ++ rows) (sym next.is) ∙ whole)
      ∙ ap (λ rows. rows ++ (last_row (rows_at (n + 1) done) ++ e.row) ∷ []) (sym front)
    where
      next_row_is : (l : Row) (rest : List Event) → Paired s (n + 1) l (e ∷ left) rest → e.node ≡ s → NextIs (l ++ e.row) (rows_at s rest)
      next_row_is l [] p own = absurd p
      next_row_is l (y ∷ rest) p own =
          record { more = rows_at s rest; is = rows_at-cons s y rest ∙ ap (λ rows. rows ++ rows_at s rest) (rows_at-own s y (sym p.0 ∙ own)) ∙ ap (λ r. r ∷ rows_at s rest) (p.2 own) }
