-- a step of a group
use Rattle.std.proofs.Common.{◌≡◌, ℕ, ◌+◌, ◌-◌, ◌<◌, ◌^◌, Bool, true, false, eqb, arith, List, [], ◌∷◌, ◌++◌, length, drop, get_or, replicate, refl, ap, sym, subst, ◌∙◌, drop-cons, add-one, append-nil}
use Rattle.std.specs.Prelude.{Option, None, Some, All, IfSome, if◌then◌else◌}
use Rattle.std.proofs.lemmas.Bool.{eq-eqb}
use Rattle.std.proofs.lemmas.List.{append_assoc, length-append, length-replicate}
use Rattle.std.proofs.lemmas.List.Elements.{All-nil, All-cons, All-head, All-tail, All-get_or, All-weaker}
use Rattle.pm_values.specs.Row.{Row, AllBelow, cell}
use Rattle.pm_plan.specs.declared.plan.Aggregate.{Aggregate}
use Rattle.pm_plan.specs.declared.plan.Aggregate.TheVariants as aggregate
use Rattle.pm_plan.specs.Grouping.{grouped}
use Rattle.pm_plan.specs.Tree.{Group}
use Rattle.pm_values.specs.declared.value.Value.TheVariants.{Null}
use Rattle.pm_blocks.specs.GroupState.{GroupState, IsOf}
use Rattle.pm_blocks.specs.Limits.{AreFew, IsShort, IsSummable, IsWithin}
use Rattle.pm_flows.specs.declared.taken.Taken.{Taken}
use Rattle.pm_flows.specs.Coming.{Coming, taken_by, taken_read, rows_by, rows_in}
use Rattle.pm_flows.specs.Flow.{Flow, TakesOne, TakesNone, Takes, Keeps, is_free_by}
use Rattle.pm_flows.specs.Growing.{groups_with, new_group, grouping}
use Rattle.pm_operators.specs.GroupFlow.{HandsOne, HandsNone, Hands, HasWidth, IsGroup, IsReading, group_flow, group_hand, group_rest}
use Rattle.pm_operators.specs.declared.group.Group.TheInside.{Inside}
use Rattle.pm_flows.specs.declared.part.Part.TheVariants as part
use Rattle.pm_flows.specs.Held.{KeepsRow}
use Rattle.pm_flows.proofs.Kept.{grows_held, group_keeps, no_group_keeps, null_cells}
use Rattle.pm_flows.proofs.Streams.{neq-eqb}
use Rattle.pm_flows.specs.Plan.{CanGroup, coming_over}
use Rattle.pm_operators.proofs.Groups.{grouped-wide, groups_with-grouped, length-groups_with, taken_in-grouping}

-- ---- what is read

module _ (n : ℕ) (keys : List ℕ) (items : List Aggregate) (groups : List Row) (taken : Taken) (old new : Flow) (h : TakesOne old taken new) (number : old.node ≡ n + 1)
    (f g : Flow) (f_number : f.node ≡ n) (f_rest : f.rest ≡ grouping n keys items groups old.rest) where
  -- the child has handed out a row
  pub grouping_own : (k : ℕ) → taken.node ≡ n + 1 → k ≡ new_group keys new.hand groups → g.rest ≡ grouping n keys items (groups_with keys items new.hand groups) new.rest
      → TakesOne f (taken_read n k 0 taken) g
  grouping_own k is count g_rest = record {
    row = h.row;
    free = false;
    next = rw (f_rest, g_rest, count, h.hand (is ∙ sym number), h.next, eq-eqb taken.node (n + 1) is) refl;
    below = omega (arith, is, f_number);
    hand = λ own. absurd (omega (arith, is, own, f_number));
  }

  -- a deeper node has
  pub grouping_deep : (taken.node ≡ n + 1 → ⊥) → g.rest ≡ grouping n keys items groups new.rest → TakesOne f taken g
  grouping_deep not g_rest = record {
    row = h.row;
    free = false;
    next = rw (f_rest, g_rest, h.next, neq-eqb taken.node (n + 1) not) refl;
    below = omega (arith, number, h.below, f_number);
    hand = λ own. absurd (omega (arith, number, h.below, own, f_number));
  }

  -- the child's rows to come
  pub rows_own : taken.node ≡ n + 1 → rows_in (n + 1) old.rest ≡ new.hand ∷ rows_in (n + 1) new.rest
  rows_own is = rw (h.hand (is ∙ sym number), h.next, eq-eqb taken.node (n + 1) is) refl

  pub rows_deep : (taken.node ≡ n + 1 → ⊥) → rows_in (n + 1) old.rest ≡ rows_in (n + 1) new.rest
  rows_deep not = rw (h.next, neq-eqb taken.node (n + 1) not) refl

-- each of its steps may take memory
pub grouping_free : (n : ℕ) (keys : List ℕ) (items : List Aggregate) (groups : List Row) (es : List Coming) → is_free_by (grouping n keys items groups es) false ≡ false
grouping_free n keys items [] [] = refl
grouping_free n keys items (group ∷ groups) [] = refl
grouping_free n keys items groups (e ∷ es) =
    elim (eqb e.taken.node (n + 1)) as (λ b. is_free_by (if b
    then record { taken = taken_read n (new_group keys e.row groups) 0 e.taken; row = e.row; free = false } ∷ grouping n keys items (groups_with keys items e.row groups) es
    else record { taken = e.taken; row = e.row; free = false } ∷ grouping n keys items groups es) false ≡ false)
    [ true ↦ refl | false ↦ refl ]

-- ---- what is handed out

module _ (n wide : ℕ) (old new : GroupState) (before after : Option ℕ) (f g : Flow) (f_number : f.node ≡ n) (f_rest : f.rest ≡ rows_by n false (drop old.handed old.groups))
    (g_rest : g.rest ≡ rows_by n false (drop new.handed new.groups)) (f_hand : f.hand ≡ group_hand wide old.groups before) (g_hand : g.hand ≡ group_hand wide new.groups after) where
  one : (taken : Taken) → HandsOne n old new taken after → TakesOne f taken g
  one taken h =
      let row : Row = get_or old.groups old.handed [] in
      let more : drop old.handed old.groups ≡ row ∷ drop (old.handed + 1) old.groups = rw add-one (drop-cons old.groups old.handed [] h.within) in
      let next : f.rest ≡ record { taken = taken_by n; row = row; free = false } ∷ rows_by n false (drop (old.handed + 1) old.groups) = f_rest ∙ ap (rows_by n false) more in
      record {
        row = row;
        free = false;
        next = next
            ∙ ap (λ t. record { taken = t; row = row; free = false } ∷ rows_by n false (drop (old.handed + 1) old.groups)) (sym h.taken)
            ∙ ap (λ es. record { taken = taken; row = row; free = false } ∷ es) (sym (g_rest ∙ ap (λ s. rows_by n false (drop s.handed s.groups)) h.core));
        below = omega (arith, f_number, ap (λ t. t.node) h.taken);
        hand = λ own. g_hand ∙ ap (λ s. group_hand wide s.groups after) h.core ∙ ap (group_hand wide old.groups) h.group;
      }

  none : HandsNone old new before after → TakesNone f g
  none h = record {
    done = f_rest ∙ ap (rows_by n false) h.done;
    rest = g_rest ∙ ap (rows_by n false) h.core;
    hand = g_hand ∙ ap (λ s. group_hand wide s.groups after) h.same ∙ ap (group_hand wide old.groups) h.group ∙ sym f_hand;
  }

  pub handed : (r : Option Taken) → Hands n old new before after r → Takes f r g
  handed None h = none h
  handed (Some taken) h = one taken h

-- what stays
pub record Stays (old new : GroupState) (after : Option ℕ) : Type 0 where
  pub groups : new.groups ≡ old.groups
  pub keys : new.keys ≡ old.keys
  pub items : new.items ≡ old.items
  pub closed : new.closed ≡ old.closed
  pub group : IfSome after (λ group. group < length old.groups)

pub hands_stay : (n : ℕ) (old new : GroupState) (before after : Option ℕ) (r : Option Taken) → Hands n old new before after r → IfSome before (λ group. group < length old.groups) → Stays old new after
hands_stay n old new before after None h is = record {
  groups = ap (λ s. s.groups) h.same;
  keys = ap (λ s. s.keys) h.same;
  items = ap (λ s. s.items) h.same;
  closed = ap (λ s. s.closed) h.same;
  group = subst (λ o. IfSome o (λ group. group < length old.groups)) (sym h.group) is;
}
hands_stay n old new before after (Some taken) h is = record {
  groups = ap (λ s. s.groups) h.core;
  keys = ap (λ s. s.keys) h.core;
  items = ap (λ s. s.items) h.core;
  closed = ap (λ s. s.closed) h.core;
  group = subst (λ o. IfSome o (λ group. group < length old.groups)) (sym h.group) h.within;
}

-- the row at hand has one width
pub hand-wide : (wide : ℕ) (groups : List Row) (group : Option ℕ) → All (HasWidth wide) groups → IfSome group (λ g. g < length groups) → length (group_hand wide groups group) ≡ wide
hand-wide wide groups None all is = length-replicate wide _
hand-wide wide groups (Some g) all is = All-get_or (HasWidth wide) groups g [] is all

-- ---- few rows

all_first : {X : Type 0} (P : X → Type 0) (xs ys : List X) → All P (xs ++ ys) → All P xs
all_first P [] ys all = All-nil P
all_first P (x ∷ xs) ys all = All-cons P x xs (All-head P x (xs ++ ys) all) (all_first P xs ys (All-tail P x (xs ++ ys) all))

-- so are the first of them
pub few_first : (items : List Aggregate) (rows more : List Row) → AreFew items (rows ++ more) → AreFew items rows
few_first items rows more few = record {
  few = omega (arith, few.few, length-append rows more);
  summable = All-weaker (IsSummable (rows ++ more)) (IsSummable rows) by items few.summable;
}
  where
    by : (item : Aggregate) → IsSummable (rows ++ more) item → IsSummable rows item
    by aggregate.CountAll s = tt
    by (aggregate.Count column) s = tt
    by (aggregate.Sum column) s = (omega (arith, s.0, length-append rows more), all_first (λ row. IsShort (cell row column)) rows more s.1)
    by (aggregate.Min column) s = tt
    by (aggregate.Max column) s = tt

all_without : {X : Type 0} (P : X → Type 0) (xs : List X) (y : X) (ys : List X) → All P (xs ++ y ∷ ys) → All P (xs ++ ys)
all_without P [] y ys all = All-tail P y ys all
all_without P (x ∷ xs) y ys all = All-cons P x (xs ++ ys) (All-head P x (xs ++ y ∷ ys) all) (all_without P xs y ys (All-tail P x (xs ++ y ∷ ys) all))

-- and all but one
few_without : (items : List Aggregate) (rows : List Row) (row : Row) (more : List Row) → AreFew items (rows ++ row ∷ more) → AreFew items (rows ++ more)
few_without items rows row more few = record {
  few = omega (arith, few.few, length-append rows (row ∷ more), length-append rows more);
  summable = All-weaker (IsSummable (rows ++ row ∷ more)) (IsSummable (rows ++ more)) by items few.summable;
}
  where
    by : (item : Aggregate) → IsSummable (rows ++ row ∷ more) item → IsSummable (rows ++ more) item
    by aggregate.CountAll s = tt
    by (aggregate.Count column) s = tt
    by (aggregate.Sum column) s =
        (omega (arith, s.0, length-append rows (row ∷ more), length-append rows more), all_without (λ r. IsShort (cell r column)) rows row more s.1)
    by (aggregate.Min column) s = tt
    by (aggregate.Max column) s = tt

-- ---- the steps

-- a step makes of one state another
pub record Steps (a : Inside) (r : Option Taken) (b : Inside) : Type 0 where
  pub takes : Takes (group_flow a) r (group_flow b)
  pub kept : Keeps (group_flow a) (group_flow b)
  pub is : IsGroup b

no_more : (b : Bool) → b ≡ false → b ≡ true → ⊥
no_more b f t = let no : false ≡ true = sym f ∙ t in absurd cc

same_takes : (f e g : Flow) (r : Option Taken) → f.node ≡ e.node → f.rest ≡ e.rest → f.hand ≡ e.hand → Takes e r g → Takes f r g
same_takes f e g None node rest hand t = record { done = rest ∙ t.done; rest = t.rest; hand = t.hand ∙ sym hand }
same_takes f e g (Some taken) node rest hand t =
    record { row = t.row; free = t.free; next = rest ∙ t.next; below = omega (arith, node, t.below); hand = λ own. t.hand (own ∙ node) }

-- a group that has read nothing
module _ (a : Inside) (keys : List ℕ) (items : List Aggregate)
    (core_is : a.core ≡ record { keys = keys; items = items; groups = grouped keys items []; closed = false; handed = 0 }) where
  pub begun : a.child.node ≡ a.number + 1 → a.number + 1 < 2 ^ 32 → length a.child.hand < 2 ^ 32 → CanGroup keys items (length a.child.hand) (rows_in (a.number + 1) a.child.rest)
      → a.width ≡ length keys + length items → a.reading ≡ true → a.group ≡ None → a.null ≡ Null → IsGroup a
  begun child numbered few can width reading none null = record {
    child = child;
    numbered = numbered;
    hand = few;
    keys = subst (λ s. AllBelow s.keys (length a.child.hand)) (sym core_is) can.keys_within;
    items = subst (λ s. All (IsWithin (length a.child.hand)) s.items) (sym core_is) can.items_within;
    width = width ∙ ap (λ s. length s.keys + length s.items) (sym core_is);
    narrow = omega (arith, width, can.narrow);
    closed = λ e. absurd (no_more a.reading e reading);
    unclosed = λ e. ap (λ s. s.closed) core_is;
    reading = λ e. record {
      none = none;
      unhanded = ap (λ s. s.handed) core_is;
      read = [];
      groups = ap (λ s. s.groups) core_is ∙ ap (λ s. grouped s.keys s.items []) (sym core_is);
      few = subst (λ s. AreFew s.items (rows_in (a.number + 1) a.child.rest)) (sym core_is) can.few;
    };
    wide = subst (λ s. All (HasWidth a.width) s.groups) (sym core_is) (subst (λ w. All (HasWidth w) (grouped keys items [])) (sym width) (grouped-wide keys items []));
    group = subst (λ o. IfSome o (λ g. g < length a.core.groups)) (sym none) tt;
    null = null;
  }

pub begun_rest : (n : ℕ) (keys : List ℕ) (items : List Aggregate) (core : GroupState) → core ≡ record { keys = keys; items = items; groups = grouped keys items []; closed = false; handed = 0 }
    → (below : List Coming) → group_rest n core below ≡ coming_over (Group keys items) n below
begun_rest n keys items core core_is below = ap (λ s. group_rest n s below) core_is ∙ sym (taken_in-grouping n keys items [] below)

module _ (a : Inside) (is : IsGroup a) where
  -- a group is handed out
  module _ (still : a.reading ≡ false) (core : GroupState) (group : Option ℕ) (r : Option Taken) (h : Hands a.number a.core core a.group group r) where
    abbrev after_hand : Inside
    after_hand = record a { core = core; group = group }

    stay : Stays a.core core group
    stay = hands_stay a.number a.core core a.group group r h is.group

    rest_of : (c : GroupState) → c.closed ≡ true → group_rest a.number c a.child.rest ≡ rows_by a.number false (drop c.handed c.groups)
    rest_of c closed = ap (λ b. if b then rows_by a.number false (drop c.handed c.groups) else grouping a.number c.keys c.items c.groups a.child.rest) closed

    pub hand_step : Steps a r after_hand
    hand_step = record {
      takes = handed a.number a.width a.core core a.group group (group_flow a) (group_flow after_hand) refl (rest_of a.core (is.closed still)) (rest_of core (stay.closed ∙ is.closed still)) refl refl r h;
      kept = record {
        node = refl;
        depth = refl;
        width = hand-wide a.width core.groups group (subst (All (HasWidth a.width)) (sym stay.groups) is.wide) (subst (λ gs. IfSome group (λ g. g < length gs)) (sym stay.groups) stay.group)
            ∙ sym (hand-wide a.width a.core.groups a.group is.wide is.group);
        free_end = refl;
        held = grows_held a.width a.core.groups core.groups a.core.closed core.closed (λ shut. (stay.closed ∙ shut, stay.groups));
      };
      is = record {
        child = is.child;
        numbered = is.numbered;
        hand = is.hand;
        keys = subst (λ k. AllBelow k (length a.child.hand)) (sym stay.keys) is.keys;
        items = subst (All (IsWithin (length a.child.hand))) (sym stay.items) is.items;
        width = is.width ∙ ap (λ k. length k + length a.core.items) (sym stay.keys) ∙ ap (λ i. length core.keys + length i) (sym stay.items);
        narrow = is.narrow;
        closed = λ e. stay.closed ∙ is.closed e;
        unclosed = λ e. absurd (no_more a.reading still e);
        reading = λ e. absurd (no_more a.reading still e);
        wide = subst (All (HasWidth a.width)) (sym stay.groups) is.wide;
        group = subst (λ gs. IfSome group (λ g. g < length gs)) (sym stay.groups) stay.group;
        null = is.null;
      };
    }

module _ (a : Inside) (is : IsGroup a) where
  rest_reading : (below : List Coming) (c : GroupState) → c.closed ≡ false → group_rest a.number c below ≡ grouping a.number c.keys c.items c.groups below
  rest_reading below c unclosed = ap (λ b. if b then rows_by a.number false (drop c.handed c.groups) else grouping a.number c.keys c.items c.groups below) unclosed

  -- while it reads, its steps may take memory
  pub reads_free : a.reading ≡ true → is_free_by (group_rest a.number a.core a.child.rest) false ≡ false
  reads_free reads = ap (λ es. is_free_by es false) (rest_reading a.child.rest a.core (is.unclosed reads)) ∙ grouping_free a.number a.core.keys a.core.items a.core.groups a.child.rest

  -- the child has taken a step, or failed
  module _ (child : Flow) (k : Keeps a.child child) where
    abbrev after_close : Inside
    after_close = record a { child = child; core = record a.core { closed = true }; reading = false }

    -- nothing more is read
    pub closes : IsGroup after_close
    closes = record {
      child = k.node ∙ is.child;
      numbered = is.numbered;
      hand = omega (arith, k.width, is.hand);
      keys = subst (AllBelow a.core.keys) (sym k.width) is.keys;
      items = subst (λ w. All (IsWithin w) a.core.items) (sym k.width) is.items;
      width = is.width;
      narrow = is.narrow;
      closed = λ e. refl;
      unclosed = λ e. absurd cc;
      reading = λ e. absurd cc;
      wide = is.wide;
      group = is.group;
      null = is.null;
    }

    module _ (reads : a.reading ≡ true) where
      r_a : IsReading a.core a.group (rows_in (a.number + 1) a.child.rest)
      r_a = is.reading reads

      -- the child has no more rows
      pub end_step : TakesNone a.child child → (core : GroupState) (group : Option ℕ) (r : Option Taken) → Hands a.number (record a.core { closed = true }) core a.group group r
          → Steps a r (record after_close { core = core; group = group })
      end_step t core group r h =
          let s = hand_step after_close closes refl core group r h in
          let rest : (group_flow a).rest ≡ (group_flow after_close).rest =
          rest_reading a.child.rest a.core (is.unclosed reads) ∙ ap (grouping a.number a.core.keys a.core.items a.core.groups) t.done
          ∙ ap (λ j. rows_by a.number false (drop j a.core.groups)) (sym r_a.unhanded) in
          record {
            takes = same_takes (group_flow a) (group_flow after_close) (group_flow (record after_close { core = core; group = group })) r refl rest refl s.takes;
            kept = record { node = refl; depth = ap (λ d. d + 1) k.depth; width = s.kept.width; free_end = refl; held = grows_held a.width a.core.groups core.groups a.core.closed core.closed (λ shut. absurd (no_more a.core.closed (is.unclosed reads) shut)) };
            is = s.is;
          }

      -- a state with this core, which still reads
      module _ (core : GroupState) (keys : core.keys ≡ a.core.keys) (items : core.items ≡ a.core.items) (unclosed : core.closed ≡ false) (unhanded : core.handed ≡ 0) (read : List Row)
          (groups : core.groups ≡ grouped a.core.keys a.core.items read) (few : AreFew a.core.items (read ++ rows_in (a.number + 1) child.rest)) where
        abbrev after_read : Inside
        after_read = record a { child = child; core = core }

        pub reads_on : IsGroup after_read
        reads_on = record {
          child = k.node ∙ is.child;
          numbered = is.numbered;
          hand = omega (arith, k.width, is.hand);
          keys = subst (AllBelow core.keys) (sym k.width) (subst (λ c. AllBelow c (length a.child.hand)) (sym keys) is.keys);
          items = subst (λ w. All (IsWithin w) core.items) (sym k.width) (subst (All (IsWithin (length a.child.hand))) (sym items) is.items);
          width = is.width ∙ ap (λ c. length c + length a.core.items) (sym keys) ∙ ap (λ i. length core.keys + length i) (sym items);
          narrow = is.narrow;
          closed = λ e. absurd (no_more a.reading e reads);
          unclosed = λ e. unclosed;
          reading = λ e. record {
            none = r_a.none;
            unhanded = unhanded;
            read = read;
            groups = groups ∙ ap (λ c. grouped c a.core.items read) (sym keys) ∙ ap (λ i. grouped core.keys i read) (sym items);
            few = subst (λ i. AreFew i (read ++ rows_in (a.number + 1) child.rest)) (sym items) few;
          };
          wide = subst (All (HasWidth a.width)) (sym groups)
              (subst (λ w. All (HasWidth w) (grouped a.core.keys a.core.items read)) (sym is.width) (grouped-wide a.core.keys a.core.items read));
          group = subst (λ o. IfSome o (λ g. g < length core.groups)) (sym r_a.none) tt;
          null = is.null;
        }

        pub reads_on_kept : Keeps (group_flow a) (group_flow after_read)
        reads_on_kept = record {
          node = refl;
          depth = ap (λ d. d + 1) k.depth;
          width = ap (λ o. length (group_hand a.width core.groups o)) r_a.none ∙ sym (ap (λ o. length (group_hand a.width a.core.groups o)) r_a.none);
          free_end = refl;
          held = grows_held a.width a.core.groups core.groups a.core.closed core.closed (λ shut. absurd (no_more a.core.closed (is.unclosed reads) shut));
        }

      -- the child has none to come any more
      pub dead_kept : child.rest ≡ [] → IsGroup (record a { child = child })
      dead_kept dead =
          let few : AreFew a.core.items (r_a.read ++ []) = rw append-nil (few_first a.core.items r_a.read (rows_in (a.number + 1) a.child.rest) r_a.few) in
          reads_on a.core refl refl (is.unclosed reads) r_a.unhanded r_a.read r_a.groups (subst (λ es. AreFew a.core.items (r_a.read ++ rows_in (a.number + 1) es)) (sym dead) few)

      module _ (taken : Taken) (t : TakesOne a.child taken child) where
        -- a row of a deeper node
        pub deep_step : (taken.node ≡ a.number + 1 → ⊥) → Steps a (Some taken) (record a { child = child })
        deep_step not =
            let few : AreFew a.core.items (r_a.read ++ rows_in (a.number + 1) child.rest) =
            subst (λ rs. AreFew a.core.items (r_a.read ++ rs)) (rows_deep a.number a.core.keys a.core.items a.core.groups taken a.child child t is.child (group_flow a) (group_flow a) refl (rest_reading a.child.rest a.core (is.unclosed reads)) not) r_a.few in
            record {
              takes = grouping_deep a.number a.core.keys a.core.items a.core.groups taken a.child child t is.child (group_flow a) (group_flow (record a { child = child })) refl
                  (rest_reading a.child.rest a.core (is.unclosed reads)) not (rest_reading child.rest a.core (is.unclosed reads));
              kept = reads_on_kept a.core refl refl (is.unclosed reads) r_a.unhanded r_a.read r_a.groups few;
              is = reads_on a.core refl refl (is.unclosed reads) r_a.unhanded r_a.read r_a.groups few;
            }

        module _ (own : taken.node ≡ a.number + 1) where
          rows_now : rows_in (a.number + 1) a.child.rest ≡ child.hand ∷ rows_in (a.number + 1) child.rest
          rows_now =
              rows_own a.number a.core.keys a.core.items a.core.groups taken a.child child t is.child (group_flow a) (group_flow a) refl (rest_reading a.child.rest a.core (is.unclosed reads)) own

          few_now : AreFew a.core.items (r_a.read ++ child.hand ∷ rows_in (a.number + 1) child.rest)
          few_now = subst (λ rs. AreFew a.core.items (r_a.read ++ rs)) rows_now r_a.few

          few_after : AreFew a.core.items ((r_a.read ++ child.hand ∷ []) ++ rows_in (a.number + 1) child.rest)
          few_after = subst (AreFew a.core.items) (sym (append_assoc r_a.read (child.hand ∷ []) (rows_in (a.number + 1) child.rest))) few_now

          -- what the core asks of the row
          pub can_take : (rows : List Row) × IsOf a.core rows × AreFew a.core.items (rows ++ child.hand ∷ [])
          can_take = (r_a.read, r_a.groups, few_first a.core.items (r_a.read ++ child.hand ∷ []) (rows_in (a.number + 1) child.rest) few_after)

          -- it refuses the row
          pub refused : IsGroup (record a { child = child })
          refused = reads_on a.core refl refl (is.unclosed reads) r_a.unhanded r_a.read r_a.groups (few_without a.core.items r_a.read child.hand (rows_in (a.number + 1) child.rest) few_now)

          -- it takes it
          module _ (core : GroupState) (took : (rows : List Row) → IsOf a.core rows → core ≡ record a.core { groups = grouped a.core.keys a.core.items (rows ++ child.hand ∷ []) }) where
            core_is : core ≡ record a.core { groups = grouped a.core.keys a.core.items (r_a.read ++ child.hand ∷ []) }
            core_is = took r_a.read r_a.groups

            groups_are : core.groups ≡ groups_with a.core.keys a.core.items child.hand a.core.groups
            groups_are =
                ap (λ c. c.groups) core_is ∙ sym (groups_with-grouped a.core.keys a.core.items r_a.read child.hand)
                ∙ ap (groups_with a.core.keys a.core.items child.hand) (sym r_a.groups)

            pub longer : length core.groups ≡ length a.core.groups + new_group a.core.keys child.hand a.core.groups
            longer = ap length groups_are ∙ length-groups_with a.core.keys a.core.items child.hand a.core.groups

            open_after : core.closed ≡ false
            open_after = ap (λ c. c.closed) core_is ∙ is.unclosed reads

            rest_after : (group_flow (record a { child = child; core = core })).rest
                ≡ grouping a.number a.core.keys a.core.items (groups_with a.core.keys a.core.items child.hand a.core.groups) child.rest
            rest_after =
                rest_reading child.rest core open_after
                ∙ ap (λ c. grouping a.number c.keys c.items core.groups child.rest) core_is
                ∙ ap (λ gs. grouping a.number a.core.keys a.core.items gs child.rest) groups_are

            pub own_step : (more : ℕ) → more ≡ length core.groups - length a.core.groups → Steps a (Some (taken_read a.number more 0 taken)) (record a { child = child; core = core })
            own_step more count = record {
              takes = grouping_own a.number a.core.keys a.core.items a.core.groups taken a.child child t is.child (group_flow a) (group_flow (record a { child = child; core = core })) refl
                  (rest_reading a.child.rest a.core (is.unclosed reads)) more own (omega (arith, count, longer)) rest_after;
              kept = reads_on_kept core (ap (λ c. c.keys) core_is) (ap (λ c. c.items) core_is) open_after (ap (λ c. c.handed) core_is ∙ r_a.unhanded) (r_a.read ++ child.hand ∷ [])
                  (ap (λ c. c.groups) core_is) few_after;
              is = reads_on core (ap (λ c. c.keys) core_is) (ap (λ c. c.items) core_is) open_after (ap (λ c. c.handed) core_is ∙ r_a.unhanded) (r_a.read ++ child.hand ∷ [])
                  (ap (λ c. c.groups) core_is) few_after;
            }

-- ---- the row at hand

module _ (a : Inside) (is : IsGroup a) where
  -- a group is at hand once no more rows go in
  pub shut_by : (group : ℕ) → a.group ≡ Some group → a.core.closed ≡ true
  shut_by group some = by a.reading refl
    where
      by : (b : Bool) → a.reading ≡ b → a.core.closed ≡ true
      by false e = is.closed e
      by true e = let no : None ≡ Some group = sym (is.reading e).none ∙ some in absurd cc

  pub group_kept : (group : ℕ) → a.group ≡ Some group → KeepsRow (group_flow a).held (group_flow a).hand (part.Group group)
  group_kept group some =
      let within : group < length a.core.groups = subst (λ o. IfSome o (λ g. g < length a.core.groups)) some is.group in
      subst (λ o. KeepsRow (group_flow a).held (group_hand a.width a.core.groups o) (part.Group group)) (sym some)
      (group_keeps a.width a.core.groups a.core.closed group (shut_by group some) within (All-get_or (HasWidth a.width) a.core.groups group [] within is.wide))

  pub no_group_kept : a.group ≡ None → KeepsRow (group_flow a).held (group_flow a).hand part.Nulls
  no_group_kept absent =
      subst (λ o. KeepsRow (group_flow a).held (group_hand a.width a.core.groups o) part.Nulls) (sym absent)
      (no_group_keeps a.width a.core.groups a.core.closed (replicate a.width Null) (length-replicate a.width Null) (λ k l. null_cells a.width k))
