-- a step of a sort
use Rattle.std.proofs.Common.{◌≡◌, ℕ, suc, ◌+◌, ◌*◌, ◌<◌, ◌≤◌, ◌^◌, Bool, true, false, eqb, arith, List, [], ◌∷◌, ◌++◌, length, map, take, drop, refl, ap, sym, subst, ◌∙◌, append-nil, inl, inr}
use Rattle.std.specs.Prelude.{Option, None, Some, All, IfSome, slice_get, if◌then◌else◌}
use Rattle.std.specs.List.{range_with_len}
use Rattle.std.proofs.Math.Nat.{mul-le-mul_left}
use Rattle.std.proofs.Math.Seq.{drop-append_seam, take-append_seam}
use Rattle.std.proofs.lemmas.Bool.{eq-eqb}
use Rattle.std.proofs.lemmas.Bool.Decides.{eqb_tells}
use Rattle.std.proofs.lemmas.List.{append_assoc, length-append, length-drop, length-map, length-take, map-append, drop-append-le, take-append-le, take_all}
use Rattle.std.proofs.lemmas.List.FromFn.{get_or-map-range_with_len, length-map-range_with_len, map-range_with_len_more}
use Rattle.std.proofs.lemmas.List.Elements.{All-nil, All-head, All-tail, All-weaker}
use Rattle.std.proofs.lemmas.List.Sorted.{All-permutation}
use Rattle.pm_values.specs.Row.{Row, AllBelow, pick}
use Rattle.pm_plan.specs.declared.plan.SortKey.{SortKey}
use Rattle.pm_plan.specs.Tree.{Sort}
use Rattle.pm_plan.specs.Sorting.{sorted}
use Rattle.pm_work.specs.Changes.{settled_by_row}
use Rattle.pm_blocks.specs.SortState.{SortState}
use Rattle.pm_blocks.specs.SortedNumbers.{row_at, sort_columns, keys_alone, sorted_numbers}
use Rattle.pm_blocks.proofs.Groups.{group_before}
use Rattle.pm_blocks.proofs.Sorts.{IsPermutation-sorted_numbers, rows-sorted_numbers, sorted_numbers-alone}
use Rattle.pm_flows.specs.declared.part.Part.{Part}
use Rattle.pm_flows.specs.declared.taken.Taken.{Taken}
use Rattle.pm_flows.specs.Held.{Held, kept_row, Keep, HasValue, KeepsHeld, PutsRow, PutsSome}
use Rattle.pm_flows.specs.Coming.{Coming, taken_by, taken_read, rows_by, rows_in}
use Rattle.pm_flows.specs.Flow.{Flow, TakesOne, TakesNone, Takes, Keeps, is_free_by}
use Rattle.pm_flows.specs.Plan.{taken_in}
use Rattle.pm_operators.specs.SortFlow.{run, row_read, rows_read, sorting, sort_rest, Sorter, sort_flow, IsAt, AllKept, IsSort, HandsNext, HandsNoMore, HandsSorted, CanHand}
use Rattle.pm_flows.proofs.Streams.{neq-eqb}
use Rattle.pm_flows.proofs.Kept.{held_stays, kept-same, keep-same, keep-at, kept-length, range_below}

-- ---- runs of parts

run-first : (share at : ℕ) (xs ys : List Part) → at + share ≤ length xs → run share at (xs ++ ys) ≡ run share at xs
run-first share at xs ys l =
    ap (take share) (drop-append-le at xs ys (omega arith)) ∙ take-append-le share (drop at xs) ys (omega (arith, length-drop at xs))

run-last : (share at : ℕ) (xs ys : List Part) → at ≡ length xs → length ys ≡ share → run share at (xs ++ ys) ≡ ys
run-last share at xs ys at_is is =
    ap (λ i. run share i (xs ++ ys)) at_is ∙ ap (take share) (drop-append_seam xs ys) ∙ take_all share ys (omega (arith, is))

not_both : (b : Bool) → b ≡ false → b ≡ true → ⊥
not_both b f t = let no : false ≡ true = sym f ∙ t in absurd cc

-- ---- the events

module _ (n : ℕ) (keys : List SortKey) (read : List Row) (taken : Taken) (old new : Flow) (h : TakesOne old taken new) (number : old.node ≡ n + 1)
    (f g : Flow) (f_number : f.node ≡ n) (f_rest : f.rest ≡ sorting n keys read old.rest) where
  -- the child has handed out a row
  pub sorting_own : taken.node ≡ n + 1 → g.rest ≡ sorting n keys (read ++ new.hand ∷ []) new.rest → TakesOne f (taken_read n 0 0 taken) g
  sorting_own is g_rest = record {
    row = h.row;
    free = false;
    next = rw (f_rest, g_rest, h.hand (is ∙ sym number), h.next, eq-eqb taken.node (n + 1) is)
        (ap (λ rs. record { taken = taken_read n 0 0 taken; row = h.row; free = false } ∷ (taken_in n (settled_by_row (Sort keys)) (read ++ h.row ∷ []) new.rest ++ rows_by n false (sorted keys rs)))
        (sym (append_assoc read (h.row ∷ []) (rows_in (n + 1) new.rest))));
    below = omega (arith, is, f_number);
    hand = λ own. absurd (omega (arith, is, own, f_number));
  }

  -- a deeper node has
  pub sorting_deep : (taken.node ≡ n + 1 → ⊥) → g.rest ≡ sorting n keys read new.rest → TakesOne f taken g
  sorting_deep not g_rest = record {
    row = h.row;
    free = false;
    next = rw (f_rest, g_rest, h.next, neq-eqb taken.node (n + 1) not) refl;
    below = omega (arith, number, h.below, f_number);
    hand = λ own. absurd (omega (arith, number, h.below, own, f_number));
  }

rows_free : (n : ℕ) (rows : List Row) → is_free_by (rows_by n false rows) false ≡ false
rows_free n [] = refl
rows_free n (row ∷ rows) = refl

-- each of its steps may take memory
sorting_free : (n : ℕ) (keys : List SortKey) (read : List Row) (es : List Coming) → is_free_by (sorting n keys read es) false ≡ false
sorting_free n keys read [] = rows_free n (sorted keys (read ++ []))
sorting_free n keys read (e ∷ es) =
    elim (eqb e.taken.node (n + 1)) as (λ b. is_free_by ((if b
    then record { taken = taken_read n 0 0 e.taken; row = e.row; free = false } ∷ taken_in n (settled_by_row (Sort keys)) (read ++ e.row ∷ []) es
    else record { taken = e.taken; row = e.row; free = false } ∷ taken_in n (settled_by_row (Sort keys)) read es) ++ rows_by n false (sorted keys (read ++ rows_in (n + 1) (e ∷ es)))) false ≡ false)
    [ true ↦ refl | false ↦ refl ]

-- ---- the rows that were read

module _ (held : Held) (share : ℕ) (parts : List Part) (count : ℕ) where
  length-read : length (rows_read held share parts count) ≡ count
  length-read = length-map-range_with_len (row_read held share parts) 0 count

  same_at : (ks : List ℕ) → All (λ k. k < count) ks → map (row_read held share parts) ks ≡ map (row_at (rows_read held share parts count)) ks
  same_at [] all = refl
  same_at (k ∷ ks) all =
      let within : k < count = All-head (λ j. j < count) k ks all in
      ap (λ row. row ∷ map (row_read held share parts) ks) (sym (get_or-map-range_with_len (row_read held share parts) 0 count k k [] within (omega arith)))
      ∙ ap (λ rows. row_at (rows_read held share parts count) k ∷ rows) (same_at ks (All-tail (λ j. j < count) k ks all))

  module _ (keys : List SortKey) where
    -- the numbers of all of them, sorted
    abbrev numbers : List ℕ
    numbers = sorted_numbers keys (rows_read held share parts count)

    pub numbers_within : All (λ k. k < count) numbers
    numbers_within =
        let rows : List Row = rows_read held share parts count in
        let all : All (λ k. k < count) (range_with_len 0 (length rows)) = subst (λ n. All (λ k. k < count) (range_with_len 0 n)) (sym length-read) (range_below count) in
        All-permutation (λ k. k < count) (range_with_len 0 (length rows)) numbers (IsPermutation-sorted_numbers keys rows) all

    pub rows_sorted : map (row_read held share parts) numbers ≡ sorted keys (rows_read held share parts count)
    rows_sorted = same_at numbers numbers_within ∙ rows-sorted_numbers keys (rows_read held share parts count)

-- the child has taken a step
module _ (old new : Held) (k : KeepsHeld old new) (share : ℕ) (parts : List Part) (count : ℕ) (kept : AllKept old share parts count) where
  all_kept : AllKept new share parts count
  all_kept j l = keep-same old new k (run share (j * share) parts) (kept j l)

  rows_same : (ks : List ℕ) → All (λ j. j < count) ks → map (row_read new share parts) ks ≡ map (row_read old share parts) ks
  rows_same [] all = refl
  rows_same (j ∷ ks) all =
      let within : j < count = All-head (λ i. i < count) j ks all in
      ap (λ row. row ∷ map (row_read new share parts) ks) (kept-same old new k (run share (suc j * share) parts) (kept (suc j) (omega arith)))
      ∙ ap (λ rows. row_read old share parts j ∷ rows) (rows_same ks (All-tail (λ i. i < count) j ks all))

  read_same : rows_read new share parts count ≡ rows_read old share parts count
  read_same = rows_same (range_with_len 0 count) (range_below count)

-- parts of one row more were put at the end
module _ (held : Held) (share : ℕ) (parts : List Part) (count : ℕ) (whole : length parts ≡ suc count * share) (kept : AllKept held share parts count)
    (row : Row) (longer : List Part) (put : PutsRow held row parts longer) (share_is : share ≡ held.parts) where
  place_last : suc count * share ≡ length parts
  place_last = sym whole

  first_same : (k : ℕ) → k ≤ count → run share (k * share) longer ≡ run share (k * share) parts
  first_same k l = ap (run share (k * share)) put.put ∙ run-first share (k * share) parts put.parts (omega (arith, whole, group_before share k (suc count) (omega arith)))

  last_is : run share (suc count * share) longer ≡ put.parts
  last_is = ap (run share (suc count * share)) put.put ∙ run-last share (suc count * share) parts put.parts place_last (put.count ∙ sym share_is)

  all_longer : AllKept held share longer (suc count)
  all_longer k l =
      elim (eqb_tells k (suc count)) [
        | inl last ↦ subst (λ j. Keep held (run share (j * share) longer)) (sym last.1) (subst (Keep held) (sym last_is) put.keep)
        | inr other ↦
            let within : k ≤ count = omega (arith, l, other.1) in
            subst (Keep held) (sym (first_same k within)) (kept k within)
      ]

  whole_longer : length longer ≡ suc (suc count) * share
  whole_longer = omega (arith, ap length put.put, length-append parts put.parts, put.count, share_is, whole)

  read_longer : rows_read held share longer (suc count) ≡ rows_read held share parts count ++ row ∷ []
  read_longer =
      ap (rows_read held share longer) more ∙ map-range_with_len_more (row_read held share longer) 0 count count (omega arith)
      ∙ ap (λ rows. rows ++ row_read held share longer count ∷ []) (each (range_with_len 0 count) (range_below count))
      ∙ ap (λ last. rows_read held share parts count ++ last ∷ []) (ap (kept_row held) last_is ∙ put.row_is)
    where
      more : suc count ≡ count + 1
      more = omega arith

      each : (ks : List ℕ) → All (λ j. j < count) ks → map (row_read held share longer) ks ≡ map (row_read held share parts) ks
      each [] all = refl
      each (j ∷ ks) all =
          let within : j < count = All-head (λ i. i < count) j ks all in
          ap (λ r. r ∷ map (row_read held share longer) ks) (ap (kept_row held) (first_same (suc j) (omega arith)))
          ∙ ap (λ rows. row_read held share parts j ∷ rows) (each ks (All-tail (λ i. i < count) j ks all))

-- ---- the steps

-- a step makes of one state another
pub record Steps (s : Sorter) (r : Option Taken) (t : Sorter) : Type 0 where
  pub takes : Takes (sort_flow s) r (sort_flow t)
  pub kept : Keeps (sort_flow s) (sort_flow t)
  pub is : IsSort t

same_takes : (f e g : Flow) (r : Option Taken) → f.node ≡ e.node → f.rest ≡ e.rest → f.hand ≡ e.hand → Takes e r g → Takes f r g
same_takes f e g None node rest hand t = record { done = rest ∙ t.done; rest = t.rest; hand = t.hand ∙ sym hand }
same_takes f e g (Some taken) node rest hand t =
    record { row = t.row; free = t.free; next = rest ∙ t.next; below = omega (arith, node, t.below); hand = λ own. t.hand (own ∙ node) }

-- the place of the next row's parts is a number of 64 bits
pub can_hand : (share count : ℕ) (left : List ℕ) → 1 ≤ share → suc count * share < 2 ^ 64 → All (λ k. k < count) left → CanHand share left
can_hand share count [] some few all = tt
can_hand share count (k ∷ left) some few all =
    let within : k < count = All-head (λ j. j < count) k left all in
    let place : suc k * share < 2 ^ 64 = omega (arith, group_before share k count within, few) in
    (omega (arith, mul-le-mul_left (suc k) some, place), place)

-- ---- a row is handed out

module _ (s : Sorter) (is : IsSort s) where
  module _ (closed : s.core.closed ≡ true) (still : s.reading ≡ false) (core : SortState) (at : ℕ) where
    abbrev handed : Sorter
    handed = record s { core = core; at = at }

    rest_of : (c : SortState) → c.closed ≡ true → sort_rest s.number c s.child.held s.share s.parts s.child.rest ≡ rows_by s.number false (map (row_read s.child.held s.share s.parts) c.left)
    rest_of c shut =
        ap (λ b. if b then rows_by s.number false (map (row_read s.child.held s.share s.parts) c.left) else sorting s.number c.keys (rows_read s.child.held s.share s.parts (length c.taken)) s.child.rest) shut

    handed_kept : Keeps (sort_flow s) (sort_flow handed)
    handed_kept = record {
      node = refl;
      depth = refl;
      width = kept-length s.child.held (run s.share at s.parts) ∙ sym (kept-length s.child.held (run s.share s.at s.parts));
      free_end = refl;
      held = held_stays s.child.held;
    }

    handed_is : core.keys ≡ s.core.keys → core.closed ≡ true → IsAt s.share at is.rows.count → All (λ k. k < is.rows.count) core.left → IsSort handed
    handed_is keys_same shut at_row left = record {
      child = is.child;
      numbered = is.numbered;
      hand = is.hand;
      laid = is.laid;
      keys = subst (λ ks. AllBelow (sort_columns ks) (length s.child.hand)) (sym keys_same) is.keys;
      share = is.share;
      some = is.some;
      closed = λ e. shut;
      unclosed = λ e. absurd (not_both s.reading still e);
      rows = record {
        count = is.rows.count;
        whole = is.rows.whole;
        kept = is.rows.kept;
        at_row = at_row;
        taken = λ e. absurd (not_both core.closed e shut);
        left = left;
      };
    }

    pub hands : (r : Option Taken) → HandsSorted s.number s.share s.core core s.at at r → Steps s r handed
    hands None h = record {
      takes = record {
        done = rest_of s.core closed ∙ ap (λ ks. rows_by s.number false (map (row_read s.child.held s.share s.parts) ks)) h.done;
        rest = rest_of core (ap (λ c. c.closed) h.core ∙ closed)
            ∙ ap (λ ks. rows_by s.number false (map (row_read s.child.held s.share s.parts) ks)) (ap (λ c. c.left) h.core ∙ h.done);
        hand = ap (λ i. kept_row s.child.held (run s.share i s.parts)) h.at;
      };
      kept = handed_kept;
      is = handed_is (ap (λ c. c.keys) h.core) (ap (λ c. c.closed) h.core ∙ closed) (subst (λ i. IsAt s.share i is.rows.count) (sym h.at) is.rows.at_row)
          (subst (λ c. All (λ k. k < is.rows.count) c.left) (sym h.core) is.rows.left);
    }
    hands (Some taken) h =
        let row : Row = row_read s.child.held s.share s.parts h.number in
        let shut : core.closed ≡ true = ap (λ c. c.closed) h.core ∙ closed in
        let all : All (λ k. k < is.rows.count) (h.number ∷ core.left) = subst (All (λ k. k < is.rows.count)) h.left is.rows.left in
        let within : h.number < is.rows.count = All-head (λ k. k < is.rows.count) h.number core.left all in
        let rest : List Coming = rows_by s.number false (map (row_read s.child.held s.share s.parts) core.left) in
        record {
          takes = record {
            row = row;
            free = false;
            next = rest_of s.core closed ∙ ap (λ ks. rows_by s.number false (map (row_read s.child.held s.share s.parts) ks)) h.left
                ∙ ap (λ t. record { taken = t; row = row; free = false } ∷ rest) (sym h.taken)
                ∙ ap (λ es. record { taken = taken; row = row; free = false } ∷ es) (sym (rest_of core shut));
            below = omega (arith, ap (λ t. t.node) h.taken);
            hand = λ own. ap (λ i. kept_row s.child.held (run s.share i s.parts)) h.at;
          };
          kept = handed_kept;
          is = handed_is (ap (λ c. c.keys) h.core) shut (record { row = suc h.number; within = omega (arith, within); is = h.at })
              (All-tail (λ k. k < is.rows.count) h.number core.left all);
        }

module _ (s : Sorter) (is : IsSort s) where
  abbrev held : Held
  held = s.child.held

  abbrev count : ℕ
  count = is.rows.count

  abbrev keys : List SortKey
  keys = s.core.keys

  abbrev read : List Row
  read = rows_read held s.share s.parts count

  -- ---- the child has taken a step, or failed

  rest_open : (h : Held) (below : List Coming) → s.core.closed ≡ false
      → sort_rest s.number s.core h s.share s.parts below ≡ sorting s.number keys (rows_read h s.share s.parts count) below
  rest_open h below opened =
      ap (λ b. if b then rows_by s.number false (map (row_read h s.share s.parts) s.core.left) else sorting s.number keys (rows_read h s.share s.parts (length s.core.taken)) below) opened
      ∙ ap (λ n. sorting s.number keys (rows_read h s.share s.parts n) below)
      (ap length (is.rows.taken opened) ∙ length-map read (pick (sort_columns keys)) ∙ length-read held s.share s.parts count)

  -- while it reads, its steps may take memory
  pub reads_free : s.reading ≡ true → is_free_by (sort_flow s).rest false ≡ false
  reads_free reads = ap (λ es. is_free_by es false) (rest_open held s.child.rest (is.unclosed reads)) ∙ sorting_free s.number keys read s.child.rest

  module _ (child : Flow) (k : Keeps s.child child) where
    abbrev stepped : Sorter
    stepped = record s { child = child }

    abbrev read_now : List Row
    read_now = rows_read child.held s.share s.parts count

    now_same : read_now ≡ read
    now_same = read_same held child.held k.held s.share s.parts count is.rows.kept

    kept_now : AllKept child.held s.share s.parts count
    kept_now = all_kept held child.held k.held s.share s.parts count is.rows.kept

    taken_now : s.core.closed ≡ false → s.core.taken ≡ map (pick (sort_columns keys)) read_now
    taken_now opened = is.rows.taken opened ∙ ap (map (pick (sort_columns keys))) (sym now_same)

    pub moved : IsSort stepped
    moved = record {
      child = k.node ∙ is.child;
      numbered = is.numbered;
      hand = omega (arith, k.width, is.hand);
      laid = ap length k.held.places ∙ is.laid ∙ sym k.width;
      keys = subst (AllBelow (sort_columns keys)) (sym k.width) is.keys;
      share = is.share ∙ sym k.held.parts;
      some = is.some;
      closed = is.closed;
      unclosed = is.unclosed;
      rows = record { count = count; whole = is.rows.whole; kept = kept_now; at_row = is.rows.at_row; taken = taken_now; left = is.rows.left };
    }

    keep_at : Keep held (run s.share s.at s.parts)
    keep_at = subst (λ i. Keep held (run s.share i s.parts)) (sym is.rows.at_row.is) (is.rows.kept is.rows.at_row.row is.rows.at_row.within)

    hand_same : kept_row child.held (run s.share s.at s.parts) ≡ (sort_flow s).hand
    hand_same = kept-same held child.held k.held (run s.share s.at s.parts) keep_at

    pub moved_kept : Keeps (sort_flow s) (sort_flow stepped)
    moved_kept = record { node = refl; depth = ap (λ d. d + 1) k.depth; width = ap length hand_same; free_end = refl; held = k.held }

    module _ (reads : s.reading ≡ true) where
      open_still : s.core.closed ≡ false
      open_still = is.unclosed reads

      rest_is : (sort_flow s).rest ≡ sorting s.number keys read s.child.rest
      rest_is = rest_open held s.child.rest open_still

      -- ---- the child has no more rows

      module _ (none : TakesNone s.child child) (core : SortState)
          (core_is : core ≡ record s.core { taken = []; closed = true; left = sorted_numbers (keys_alone keys) s.core.taken }) where
        abbrev shut : Sorter
        shut = record s { child = child; core = core; reading = false }

        shut_closed : core.closed ≡ true
        shut_closed = ap (λ c. c.closed) core_is

        numbers_are : core.left ≡ sorted_numbers keys read_now
        numbers_are =
            ap (λ c. c.left) core_is ∙ ap (sorted_numbers (keys_alone keys)) (taken_now open_still) ∙ sorted_numbers-alone keys read_now

        left_within : All (λ j. j < count) core.left
        left_within = subst (All (λ j. j < count)) (sym numbers_are) (numbers_within child.held s.share s.parts count keys)

        shut_is : IsSort shut
        shut_is = record {
          child = k.node ∙ is.child;
          numbered = is.numbered;
          hand = omega (arith, k.width, is.hand);
          laid = ap length k.held.places ∙ is.laid ∙ sym k.width;
          keys = subst (λ c. AllBelow (sort_columns c.keys) (length child.hand)) (sym core_is) (subst (AllBelow (sort_columns keys)) (sym k.width) is.keys);
          share = is.share ∙ sym k.held.parts;
          some = is.some;
          closed = λ e. shut_closed;
          unclosed = λ e. absurd cc;
          rows = record {
            count = count;
            whole = is.rows.whole;
            kept = kept_now;
            at_row = is.rows.at_row;
            taken = λ e. absurd (not_both core.closed e shut_closed);
            left = left_within;
          };
        }

        rest_same : (sort_flow s).rest ≡ (sort_flow shut).rest
        rest_same =
            rest_is ∙ ap (sorting s.number keys read) none.done
            ∙ ap (λ rows. rows_by s.number false (sorted keys rows)) (append-nil read ∙ sym now_same)
            ∙ ap (rows_by s.number false) (sym (rows_sorted child.held s.share s.parts count keys))
            ∙ ap (λ ks. rows_by s.number false (map (row_read child.held s.share s.parts) ks)) (sym numbers_are)
            ∙ sym (ap (λ b. if b then rows_by s.number false (map (row_read child.held s.share s.parts) core.left)
            else sorting s.number core.keys (rows_read child.held s.share s.parts (length core.taken)) child.rest) shut_closed)

        pub can_shut : suc count * s.share < 2 ^ 64 → CanHand s.share core.left
        can_shut few = can_hand s.share count core.left is.some few left_within

        pub end_step : (after : SortState) (at : ℕ) (r : Option Taken) → HandsSorted s.number s.share core after s.at at r
            → Steps s r (record s { child = child; core = after; at = at; reading = false })
        end_step after at r h =
            let t : Steps shut r (record s { child = child; core = after; at = at; reading = false }) = hands shut shut_is shut_closed refl after at r h in
            record {
              takes = same_takes (sort_flow s) (sort_flow shut) (sort_flow (record s { child = child; core = after; at = at; reading = false })) r refl rest_same (sym hand_same) t.takes;
              kept = record { node = refl; depth = ap (λ d. d + 1) k.depth; width = t.kept.width ∙ ap length hand_same; free_end = refl; held = k.held };
              is = t.is;
            }

      -- ---- the child has handed out a row

      module _ (taken : Taken) (t : TakesOne s.child taken child) where
        rest_stepped : (sort_flow stepped).rest ≡ sorting s.number keys read child.rest
        rest_stepped = rest_open child.held child.rest open_still ∙ ap (λ rows. sorting s.number keys rows child.rest) now_same

        -- a deeper node has
        pub deep_step : (taken.node ≡ s.number + 1 → ⊥) → Steps s (Some taken) stepped
        deep_step not = record {
          takes = sorting_deep s.number keys read taken s.child child t is.child (sort_flow s) (sort_flow stepped) refl rest_is not rest_stepped;
          kept = moved_kept;
          is = moved;
        }

        module _ (own : taken.node ≡ s.number + 1) (core : SortState) (core_is : core ≡ record s.core { taken = s.core.taken ++ pick (sort_columns keys) child.hand ∷ [] })
            (parts : List Part) (put : PutsRow child.held child.hand s.parts parts) where
          abbrev read_on : Sorter
          read_on = record s { child = child; core = core; parts = parts }

          share_now : s.share ≡ child.held.parts
          share_now = is.share ∙ sym k.held.parts

          longer : rows_read child.held s.share parts (suc count) ≡ read_now ++ child.hand ∷ []
          longer = read_longer child.held s.share s.parts count is.rows.whole kept_now child.hand parts put share_now

          open_core : core.closed ≡ false
          open_core = ap (λ c. c.closed) core_is ∙ open_still

          keys_core : core.keys ≡ keys
          keys_core = ap (λ c. c.keys) core_is

          taken_core : core.taken ≡ map (pick (sort_columns keys)) (rows_read child.held s.share parts (suc count))
          taken_core =
              ap (λ c. c.taken) core_is ∙ ap (λ ts. ts ++ pick (sort_columns keys) child.hand ∷ []) (taken_now open_still)
              ∙ sym (map-append (pick (sort_columns keys)) read_now (child.hand ∷ [])) ∙ ap (map (pick (sort_columns keys))) (sym longer)

          count_core : length core.taken ≡ suc count
          count_core =
              ap length taken_core ∙ length-map (rows_read child.held s.share parts (suc count)) (pick (sort_columns keys)) ∙ length-read child.held s.share parts (suc count)

          rest_on : (sort_flow read_on).rest ≡ sorting s.number keys (read ++ child.hand ∷ []) child.rest
          rest_on =
              ap (λ b. if b then rows_by s.number false (map (row_read child.held s.share parts) core.left)
              else sorting s.number core.keys (rows_read child.held s.share parts (length core.taken)) child.rest) open_core
              ∙ ap (λ ks. sorting s.number ks (rows_read child.held s.share parts (length core.taken)) child.rest) keys_core
              ∙ ap (λ n. sorting s.number keys (rows_read child.held s.share parts n) child.rest) count_core
              ∙ ap (λ rows. sorting s.number keys rows child.rest) (longer ∙ ap (λ rows. rows ++ child.hand ∷ []) now_same)

          hand_on : (sort_flow read_on).hand ≡ (sort_flow s).hand
          hand_on =
              ap (λ i. kept_row child.held (run s.share i parts)) is.rows.at_row.is
              ∙ ap (kept_row child.held) (first_same child.held s.share s.parts count is.rows.whole kept_now child.hand parts put share_now is.rows.at_row.row is.rows.at_row.within)
              ∙ ap (λ i. kept_row child.held (run s.share i s.parts)) (sym is.rows.at_row.is) ∙ hand_same

          pub own_step : Steps s (Some (taken_read s.number 0 0 taken)) read_on
          own_step = record {
            takes = sorting_own s.number keys read taken s.child child t is.child (sort_flow s) (sort_flow read_on) refl rest_is own rest_on;
            kept = record { node = refl; depth = ap (λ d. d + 1) k.depth; width = ap length hand_on; free_end = refl; held = k.held };
            is = record {
              child = k.node ∙ is.child;
              numbered = is.numbered;
              hand = omega (arith, k.width, is.hand);
              laid = ap length k.held.places ∙ is.laid ∙ sym k.width;
              keys = subst (λ ks. AllBelow (sort_columns ks) (length child.hand)) (sym keys_core) (subst (AllBelow (sort_columns keys)) (sym k.width) is.keys);
              share = share_now;
              some = is.some;
              closed = λ e. absurd (not_both s.reading e reads);
              unclosed = λ e. open_core;
              rows = record {
                count = suc count;
                whole = whole_longer child.held s.share s.parts count is.rows.whole kept_now child.hand parts put share_now;
                kept = all_longer child.held s.share s.parts count is.rows.whole kept_now child.hand parts put share_now;
                at_row = record { row = is.rows.at_row.row; within = omega (arith, is.rows.at_row.within); is = is.rows.at_row.is };
                taken = λ e. taken_core ∙ ap (λ ks. map (pick (sort_columns ks)) (rows_read child.held s.share parts (suc count))) (sym keys_core);
                left = subst (λ c. All (λ j. j < suc count) c.left) (sym core_is) (All-weaker (λ j. j < count) (λ j. j < suc count) (λ j l. omega (arith, l)) s.core.left is.rows.left);
              };
            };
          }

-- ---- the row at hand

module _ (s : Sorter) (is : IsSort s) where
  abbrev here : List Part
  here = run s.share s.at s.parts

  pub here_within : s.at + s.share ≤ length s.parts
  here_within = omega (arith, is.rows.at_row.is, group_before s.share is.rows.at_row.row (suc is.rows.count) (omega (arith, is.rows.at_row.within)), is.rows.whole)

  pub here_keep : Keep s.child.held here
  here_keep = subst (λ i. Keep s.child.held (run s.share i s.parts)) (sym is.rows.at_row.is) (is.rows.kept is.rows.at_row.row is.rows.at_row.within)

  here_count : length here ≡ s.share
  here_count = omega (arith, length-take s.share (drop s.at s.parts), length-drop s.at s.parts, here_within)

  pub here_put : (old new : List Part) → new ≡ old ++ here → PutsRow (sort_flow s).held (sort_flow s).hand old new
  here_put old new put = record { parts = here; put = put; count = here_count ∙ is.share; keep = here_keep; row_is = refl; some = omega (arith, is.some, is.share) }

  pub here_has : (at : ℕ) → at < length (sort_flow s).hand → HasValue s.child.held here at
  here_has at within = keep-at s.child.held here at here_keep (omega (arith, within, kept-length s.child.held here))

  pub hand_wide : length (sort_flow s).hand ≡ length s.child.hand
  hand_wide = kept-length s.child.held here ∙ is.laid

-- ---- a sort that has read nothing

module _ (s : Sorter) (keys : List SortKey) (core_is : s.core ≡ record { keys = keys; taken = []; closed = false; left = [] }) where
  pub begun_sort : s.child.node ≡ s.number + 1 → s.number + 1 < 2 ^ 32 → length s.child.hand < 2 ^ 32 → length s.child.held.places ≡ length s.child.hand
      → AllBelow (sort_columns keys) (length s.child.hand) → PutsRow s.child.held s.child.hand [] s.parts → s.share ≡ length s.parts → s.at ≡ 0 → s.reading ≡ true → IsSort s
  begun_sort child numbered few laid within put share at reading =
      let all : s.parts ≡ put.parts = put.put in
      let first : run s.share 0 s.parts ≡ s.parts = take_all s.share s.parts (omega (arith, share)) in
      record {
        child = child;
        numbered = numbered;
        hand = few;
        laid = laid;
        keys = subst (λ c. AllBelow (sort_columns c.keys) (length s.child.hand)) (sym core_is) within;
        share = share ∙ ap length all ∙ put.count;
        some = omega (arith, share, ap length all, put.count, put.some);
        closed = λ e. absurd (not_both s.reading e reading);
        unclosed = λ e. ap (λ c. c.closed) core_is;
        rows = record {
          count = 0;
          whole = omega (arith, share);
          kept = λ k l.
              let none : k * s.share ≡ 0 = (let zero_is : k ≡ 0 = omega (arith, l) in ap (λ j. j * s.share) zero_is ∙ zero_times s.share) in
              subst (λ i. Keep s.child.held (run s.share i s.parts)) (sym none) (subst (Keep s.child.held) (sym (first ∙ all)) put.keep);
          at_row = record { row = 0; within = omega arith; is = at ∙ sym (zero_times s.share) };
          taken = λ e. ap (λ c. c.taken) core_is;
          left = subst (λ c. All (λ k. k < 0) c.left) (sym core_is) (All-nil (λ k. k < 0));
        };
      }
    where
      zero_times : (n : ℕ) → 0 * n ≡ 0
      zero_times n = omega arith

pub begun_sort_rest : (n : ℕ) (by : List SortKey) (core : SortState) → core ≡ record { keys = by; taken = []; closed = false; left = [] }
    → (h : Held) (share : ℕ) (parts : List Part) (below : List Coming) → sort_rest n core h share parts below ≡ sorting n by [] below
begun_sort_rest n by core core_is h share parts below = ap (λ c. sort_rest n c h share parts below) core_is

-- ---- the parts of one row more

pub puts_some : (h : Held) (row : Row) (old new : List Part) → PutsRow h row old new → PutsSome old new
puts_some h row old new put = record { parts = put.parts; put = put.put }

pub cut_back : (old new : List Part) (before : ℕ) → before ≡ length old → PutsSome old new → take before new ≡ old
cut_back old new before is put = ap (λ n. take n new) is ∙ ap (take (length old)) put.put ∙ take-append_seam old put.parts

-- ---- the next number

none_left : (left : List ℕ) → slice_get left 0 ≡ None → left ≡ []
none_left [] e = refl
none_left (k ∷ left) e = absurd cc

some_left : (left : List ℕ) (k : ℕ) → slice_get left 0 ≡ Some k → left ≡ k ∷ drop 1 left
some_left [] k e = absurd cc
some_left (j ∷ left) k e = let same : j ≡ k = cc in ap (λ i. i ∷ left) same

pub hands_none : (old new : SortState) (before after : ℕ) → slice_get old.left 0 ≡ None → new ≡ record old { left = drop 1 old.left } → after ≡ before → HandsNoMore old new before after
hands_none old new before after none is same =
    let left : old.left ≡ [] = none_left old.left none in
    record { done = left; core = is ∙ ap (λ ks. record old { left = ks }) (ap (drop 1) left ∙ sym left); at = same }

pub hands_some : (n share : ℕ) (old new : SortState) (event : Taken) (after k : ℕ) → slice_get old.left 0 ≡ Some k → new ≡ record old { left = drop 1 old.left }
    → event ≡ taken_by n → after ≡ (k + 1) * share → HandsNext n share old new event after
hands_some n share old new event after k some is taken at =
    let left : new.left ≡ drop 1 old.left = ap (λ c. c.left) is in
    let more : k + 1 ≡ suc k = omega arith in
    record {
      number = k;
      left = some_left old.left k some ∙ ap (λ ks. k ∷ ks) (sym left);
      taken = taken;
      at = at ∙ ap (λ j. j * share) more;
      core = is ∙ ap (λ ks. record old { left = ks }) (sym left);
    }

pub can_next : (share : ℕ) (left : List ℕ) (k : ℕ) → slice_get left 0 ≡ Some k → CanHand share left → (suc k < 2 ^ 64) × (suc k * share < 2 ^ 64)
can_next share left k some can = subst (λ o. IfSome o (λ j. (suc j < 2 ^ 64) × (suc j * share < 2 ^ 64))) some can
