-- what an event says of its reader is what it settles there
use Rattle.std.proofs.Common.{◌≡◌, ℕ, ◌+◌, ◌<◌, ◌≤◌, Bool, true, false, eqb, List, [], ◌∷◌, ◌++◌, map, refl, ap, sym, subst, ◌∙◌, ◌⊎◌, inl, inr, arith, append_assoc, append-nil}
use Rattle.std.specs.Prelude.{if◌then◌else◌}
use Rattle.std.proofs.lemmas.List.{map-append}
use Rattle.pm_values.specs.Row.{Row}
use Rattle.pm_plan.specs.Rows.{Db}
use Rattle.pm_plan.specs.Tree.{Tree, Scan, Over, Join, Index, Seek, size, right_number, EachAt}
use Rattle.pm_work.specs.Events.{Event, rows_at}
use Rattle.pm_work.specs.Moments.{Counts, worst_at}
use Rattle.pm_work.specs.Changes.{settled_by, seek_settled_by, worst_after}
use Rattle.pm_work.proofs.EventLists.{rows_at-append}
use Rattle.pm_work.proofs.EventLaws.{size_pos}
use Rattle.pm_flows.specs.declared.taken.Taken.{Taken}
use Rattle.pm_flows.specs.Coming.{Coming, event_of, after}
use Rattle.pm_exec.specs.Noted.{more_at, worst_with_it}
use Rattle.pm_flows.proofs.Streams.{neq-eqb}

-- ---- the facts

module _ (db : Db) (K : Counts) (t : Taken) (row : Row) where
  abbrev pub the_event : Event
  the_event = record { node = t.node; row = row }

  -- at a node
  pub record NodeNoted (u : Tree) (m : ℕ) : Type 0 where
    pub settles : settled_by db u m K the_event ≡ more_at m t
    pub worst : worst_after db u m K the_event (worst_at db u m K) ≡ worst_with_it m t (worst_at db u m K)

  -- at the Seek of Index m
  pub record SeekNoted (u : Tree) (seek : Seek) (m : ℕ) : Type 0 where
    pub settles : seek_settled_by db seek m the_event ≡ more_at (right_number m u) t
    pub worst : (w : ℕ) → w ≡ worst_with_it (right_number m u) t w

  abbrev pub AllNoted : Tree → ℕ → Type 0
  AllNoted u m = EachAt NodeNoted SeekNoted u m

-- ---- an event that no node of a tree reads

pub record IsApart (a b : ℕ) (t : Taken) : Type 0 where
  pub node : (t.node ≤ a) ⊎ (b ≤ t.node)
  pub reader : (t.reader < a) ⊎ (b ≤ t.reader)

unread_by : (a b m : ℕ) (t : Taken) → IsApart a b t → a ≤ m → m < b → eqb t.reader m ≡ false
unread_by a b m t apart l h =
    neq-eqb t.reader m (λ z. elim apart.reader [ inl p ↦ omega (arith, p, z, l) | inr q ↦ omega (arith, q, z, h) ])

other_than : (a b m : ℕ) (t : Taken) → IsApart a b t → a < m → m < b → eqb t.node m ≡ false
other_than a b m t apart l h =
    neq-eqb t.node m (λ z. elim apart.node [ inl p ↦ omega (arith, p, z, l) | inr q ↦ omega (arith, q, z, h) ])

apart_below : (a b c d : ℕ) (t : Taken) → IsApart a b t → a < c → d ≤ b → IsApart c d t
apart_below a b c d t apart l h = record {
  node = elim apart.node [ inl p ↦ inl (omega (arith, p, l)) | inr q ↦ inr (omega (arith, q, h)) ];
  reader = elim apart.reader [ inl p ↦ inl (omega (arith, p, l)) | inr q ↦ inr (omega (arith, q, h)) ];
}

module _ (db : Db) (K : Counts) (t : Taken) (row : Row) where
  pub apart-noted : (u : Tree) (n : ℕ) → IsApart n (n + size u) t → AllNoted db K t row u n
  apart-noted (Scan table label) n a = record {
    settles = rw (unread_by n (n + 1) n t a (omega arith) (omega arith)) refl;
    worst = rw (unread_by n (n + 1) n t a (omega arith) (omega arith)) refl;
  }
  apart-noted (Over op child) n a =
      let b : ℕ = n + (1 + size child) in
      let own : eqb t.reader n ≡ false = unread_by n b n t a (omega arith) (omega arith) in
      let below : eqb t.node (n + 1) ≡ false = other_than n b (n + 1) t a (omega arith) (omega (arith, size_pos child)) in (
        record { settles = rw (own, below) refl; worst = rw own refl },
        apart-noted child (n + 1) (apart_below n b (n + 1) (n + 1 + size child) t a (omega arith) (omega arith)),
      )
  apart-noted (Join method on left right) n a =
      let b : ℕ = n + (1 + (size left + size right)) in
      let r : ℕ = right_number n left in
      let own : eqb t.reader n ≡ false = unread_by n b n t a (omega arith) (omega arith) in
      let of_left : eqb t.node (n + 1) ≡ false = other_than n b (n + 1) t a (omega arith) (omega (arith, size_pos left)) in
      let of_right : eqb t.node r ≡ false = other_than n b r t a (omega arith) (omega (arith, size_pos right)) in (
        record { settles = rw (own, of_left, of_right) refl; worst = rw (own, of_right) refl },
        apart-noted left (n + 1) (apart_below n b (n + 1) (n + 1 + size left) t a (omega arith) (omega arith)),
        apart-noted right r (apart_below n b r (r + size right) t a (omega arith) (omega arith)),
      )
  apart-noted (Index left seek c) n a =
      let b : ℕ = n + (2 + size left) in
      let s : ℕ = right_number n left in
      let own : eqb t.reader n ≡ false = unread_by n b n t a (omega arith) (omega arith) in
      let sought : eqb t.reader s ≡ false = unread_by n b s t a (omega arith) (omega arith) in
      let of_left : eqb t.node (n + 1) ≡ false = other_than n b (n + 1) t a (omega arith) (omega (arith, size_pos left)) in
      let of_seek : eqb t.node s ≡ false = other_than n b s t a (omega arith) (omega arith) in (
        record { settles = rw (own, of_seek) refl; worst = rw own refl },
        record { settles = rw (sought, of_left) refl; worst = λ w. rw sought refl },
        apart-noted left (n + 1) (apart_below n b (n + 1) (n + 1 + size left) t a (omega arith) (omega arith)),
      )

-- ---- where a list of such events is cut

-- a cut of events that are followed by those that their rows call for: it is at one of them, or at one that was called for
pub record FromBelow (c : ℕ) (reads : Coming → Coming) (es done : List Coming) (e : Coming) (quiet : ℕ → Type 0) : Type 0 where
  pub before : List Coming
  pub here : Coming
  pub behind : List Coming
  pub is : before ++ here ∷ behind ≡ es
  pub read_is : e ≡ (if eqb here.taken.node c then reads here else here)
  pub same : (m : ℕ) → quiet m → rows_at m (map event_of done) ≡ rows_at m (map event_of before)

pub record FromCall (c : ℕ) (called : Row → List Coming) (es done : List Coming) (e : Coming) (quiet : ℕ → Type 0) : Type 0 where
  pub row : Row
  pub first : List Coming
  pub rest : List Coming
  pub is : first ++ e ∷ rest ≡ called row
  pub earlier : List Row
  pub last : quiet c → rows_at c (map event_of done) ≡ earlier ++ row ∷ []

-- two lists one after the other
pub cut-append : (done left a b : List Coming) (e : Coming) → done ++ e ∷ left ≡ a ++ b
    → ((rest : List Coming) × (done ++ e ∷ rest ≡ a)) ⊎ ((more : List Coming) × (done ≡ a ++ more) × (more ++ e ∷ left ≡ b))
cut-append done left [] b e is = inr (done, refl, is)
cut-append [] left (x ∷ a) b e is = let head : e ≡ x = cc in inl (a, ap (λ y. y ∷ a) head)
cut-append (d ∷ done) left (x ∷ a) b e is =
    let head : d ≡ x = cc in
    let tail : done ++ e ∷ left ≡ a ++ b = cc in
    elim (cut-append done left a b e tail) [
      | inl p ↦ inl (p.0, (let q : done ++ e ∷ p.0 ≡ a = p.1 in cc))
      | inr p ↦ inr (p.0, (let q : done ≡ a ++ p.0 = p.1 in cc), p.2)
    ]

-- the rows of a node in such events
abbrev pub rows_of : ℕ → List Coming → List Row
rows_of m es = rows_at m (map event_of es)

pub rows_of-append : (m : ℕ) (xs ys : List Coming) → rows_of m (xs ++ ys) ≡ rows_of m xs ++ rows_of m ys
rows_of-append m xs ys = ap (rows_at m) (map-append event_of xs ys) ∙ rows_at-append m (map event_of xs) (map event_of ys)

none_front : {X : Type 0} (xs ys : List X) → xs ++ ys ≡ [] → xs ≡ []
none_front [] ys e = refl
none_front (x ∷ xs) ys e = absurd cc

module _ (c : ℕ) (reads : Coming → Coming) (called : Row → List Coming) (quiet : ℕ → Type 0)
    (silent : (m : ℕ) → quiet m → (row : Row) → rows_of m (called row) ≡ []) (same : (e : Coming) → event_of (reads e) ≡ event_of e) where
  abbrev as_read : Coming → Coming
  as_read x = if eqb x.taken.node c then reads x else x

  abbrev calls : Coming → List Coming
  calls x = if eqb x.taken.node c then called x.row else []

  read_same : (x : Coming) → event_of (as_read x) ≡ event_of x
  read_same x = elim (eqb x.taken.node c) as (λ b. event_of (if b then reads x else x) ≡ event_of x) [ true ↦ same x | false ↦ refl ]

  calls_silent : (m : ℕ) → quiet m → (x : Coming) → rows_of m (calls x) ≡ []
  calls_silent m q x = elim (eqb x.taken.node c) as (λ b. rows_of m (if b then called x.row else []) ≡ []) [ true ↦ silent m q x.row | false ↦ refl ]

  first_rows : (m : ℕ) → quiet m → (x : Coming) (more : List Coming) → rows_of m (as_read x ∷ (calls x ++ more)) ≡ rows_of m (x ∷ []) ++ rows_of m more
  first_rows m q x more =
      rows_of-append m (as_read x ∷ []) (calls x ++ more)
      ∙ ap (λ s. rows_at m (s ∷ []) ++ rows_of m (calls x ++ more)) (read_same x)
      ∙ ap (λ s. rows_of m (x ∷ []) ++ s) (rows_of-append m (calls x) more ∙ ap (λ s. s ++ rows_of m more) (calls_silent m q x))

  -- the cut is among the events that x calls for
  in_call : (x : Coming) (es done rest : List Coming) (e : Coming) → done ++ e ∷ rest ≡ calls x → FromCall c called (x ∷ es) (as_read x ∷ done) e quiet
  in_call x es done rest e is = by (eqb x.taken.node c) refl is
    where
      no : {A : Type 0} (ds rs : List Coming) (y : Coming) → ds ++ y ∷ rs ≡ [] → A
      no [] rs y z = absurd cc
      no (d ∷ ds) rs y z = absurd cc

      by : (b : Bool) → eqb x.taken.node c ≡ b → done ++ e ∷ rest ≡ (if b then called x.row else []) → FromCall c called (x ∷ es) (as_read x ∷ done) e quiet
      by true own call = record {
        row = x.row;
        first = done;
        rest = rest;
        is = call;
        earlier = [];
        last = λ q.
            let silent_front : rows_of c done ≡ [] =
            none_front (rows_of c done) (rows_of c (e ∷ rest)) (sym (rows_of-append c done (e ∷ rest)) ∙ ap (rows_of c) call ∙ silent c q x.row) in
            rows_of-append c (as_read x ∷ []) done ∙ ap (λ s. rows_at c (s ∷ []) ++ rows_of c done) (read_same x)
            ∙ ap (λ s. rows_of c (x ∷ []) ++ s) silent_front ∙ (rw own refl);
      }
      by false other call = no done rest e call

  pub cut-after : (es done left : List Coming) (e : Coming) → done ++ e ∷ left ≡ after c reads called es
      → FromBelow c reads es done e quiet ⊎ FromCall c called es done e quiet
  cut-after [] [] left e is = absurd cc
  cut-after [] (d ∷ done) left e is = absurd cc
  cut-after (x ∷ es) [] left e is =
      let head : e ≡ as_read x = cc in inl (record { before = []; here = x; behind = es; is = refl; read_is = head; same = λ m q. refl })
  cut-after (x ∷ es) (d ∷ done) left e is =
      let head : d ≡ as_read x = cc in
      let tail : done ++ e ∷ left ≡ calls x ++ after c reads called es = cc in
      elim (cut-append done left (calls x) (after c reads called es) e tail) [
        | inl p ↦ inr (subst (λ y. FromCall c called (x ∷ es) (y ∷ done) e quiet) (sym head) (in_call x es done p.0 e p.1))
        | inr p ↦
            let front : (m : ℕ) → quiet m → rows_of m (d ∷ done) ≡ rows_of m (x ∷ []) ++ rows_of m p.0 =
            (λ m q. ap (λ y. rows_of m (y ∷ done)) head ∙ ap (λ ds. rows_of m (as_read x ∷ ds)) p.1 ∙ first_rows m q x p.0) in
            elim (cut-after es p.0 left e p.2) [
              | inl i ↦ inl (record {
                before = x ∷ i.before;
                here = i.here;
                behind = i.behind;
                is = ap (λ s. x ∷ s) i.is;
                read_is = i.read_is;
                same = λ m q. front m q ∙ ap (λ s. rows_of m (x ∷ []) ++ s) (i.same m q) ∙ sym (rows_of-append m (x ∷ []) i.before);
              })
              | inr i ↦ inr (record {
                row = i.row;
                first = i.first;
                rest = i.rest;
                is = i.is;
                earlier = rows_of c (x ∷ []) ++ i.earlier;
                last = λ q. front c q ∙ ap (λ s. rows_of c (x ∷ []) ++ s) (i.last q) ∙ sym (append_assoc (rows_of c (x ∷ [])) i.earlier (i.row ∷ []));
              })
            ]
      ]

-- ---- events that are read in, where a row of node c is read with those before it

abbrev pub history : ℕ → (List Row → Coming → Coming) → (Coming → Coming) → List Row → List Coming → List Coming
history c own other rows [] = []
history c own other rows (e ∷ es) =
    if eqb e.taken.node c then own rows e ∷ history c own other (rows ++ e.row ∷ []) es else other e ∷ history c own other rows es

pub record FromHistory (c : ℕ) (own : List Row → Coming → Coming) (other : Coming → Coming) (rows : List Row) (es done : List Coming) (e : Coming) : Type 0 where
  pub before : List Coming
  pub here : Coming
  pub behind : List Coming
  pub is : before ++ here ∷ behind ≡ es
  pub read_is : e ≡ (if eqb here.taken.node c then own (rows ++ rows_of c before) here else other here)
  pub same : (m : ℕ) → rows_of m done ≡ rows_of m before

module _ (c : ℕ) (own : List Row → Coming → Coming) (other : Coming → Coming)
    (own_same : (rows : List Row) (e : Coming) → event_of (own rows e) ≡ event_of e) (other_same : (e : Coming) → event_of (other e) ≡ event_of e) where
  first : (m : ℕ) (x d : Coming) (ds : List Coming) → event_of d ≡ event_of x → rows_of m (d ∷ ds) ≡ rows_of m (x ∷ []) ++ rows_of m ds
  first m x d ds same = rows_of-append m (d ∷ []) ds ∙ ap (λ y. rows_at m (y ∷ []) ++ rows_of m ds) same

  -- the cut is behind the first of the events
  behind_own : (rows : List Row) (x : Coming) (es done : List Coming) (e d : Coming) → eqb x.taken.node c ≡ true → d ≡ own rows x
      → FromHistory c own other (rows ++ x.row ∷ []) es done e → FromHistory c own other rows (x ∷ es) (d ∷ done) e
  behind_own rows x es done e d t head i =
      let grown : (rows ++ x.row ∷ []) ++ rows_of c i.before ≡ rows ++ rows_of c (x ∷ i.before) =
      append_assoc rows (x.row ∷ []) (rows_of c i.before) ∙ ap (λ s. rows ++ s) (sym (first c x x i.before refl ∙ (rw t refl))) in
      record {
        before = x ∷ i.before;
        here = i.here;
        behind = i.behind;
        is = ap (λ s. x ∷ s) i.is;
        read_is = i.read_is ∙ ap (λ r. if eqb i.here.taken.node c then own r i.here else other i.here) grown;
        same = λ m. first m x d done (ap event_of head ∙ own_same rows x) ∙ ap (λ s. rows_of m (x ∷ []) ++ s) (i.same m) ∙ sym (first m x x i.before refl);
      }

  behind_other : (rows : List Row) (x : Coming) (es done : List Coming) (e d : Coming) → eqb x.taken.node c ≡ false → d ≡ other x
      → FromHistory c own other rows es done e → FromHistory c own other rows (x ∷ es) (d ∷ done) e
  behind_other rows x es done e d t head i =
      let grown : rows ++ rows_of c i.before ≡ rows ++ rows_of c (x ∷ i.before) = ap (λ s. rows ++ s) (sym (first c x x i.before refl ∙ (rw t refl))) in
      record {
        before = x ∷ i.before;
        here = i.here;
        behind = i.behind;
        is = ap (λ s. x ∷ s) i.is;
        read_is = i.read_is ∙ ap (λ r. if eqb i.here.taken.node c then own r i.here else other i.here) grown;
        same = λ m. first m x d done (ap event_of head ∙ other_same x) ∙ ap (λ s. rows_of m (x ∷ []) ++ s) (i.same m) ∙ sym (first m x x i.before refl);
      }

  by_first : (rows : List Row) (x : Coming) (es : List Coming) (e : Coming) (left : List Coming)
      → ((rs : List Row) (ds : List Coming) → ds ++ e ∷ left ≡ history c own other rs es → FromHistory c own other rs es ds e)
      → (b : Bool) → eqb x.taken.node c ≡ b → (done : List Coming)
      → done ++ e ∷ left ≡ (if b then own rows x ∷ history c own other (rows ++ x.row ∷ []) es else other x ∷ history c own other rows es)
      → FromHistory c own other rows (x ∷ es) done e
  by_first rows x es e left deeper true t [] is =
      let head : e ≡ own rows x = cc in
      record { before = []; here = x; behind = es; is = refl; read_is = rw t (head ∙ ap (λ r. own r x) (sym (append-nil rows))); same = λ m. refl }
  by_first rows x es e left deeper false t [] is =
      let head : e ≡ other x = cc in record { before = []; here = x; behind = es; is = refl; read_is = rw t head; same = λ m. refl }
  by_first rows x es e left deeper true t (d ∷ done) is =
      let head : d ≡ own rows x = cc in
      let tail : done ++ e ∷ left ≡ history c own other (rows ++ x.row ∷ []) es = cc in
      behind_own rows x es done e d t head (deeper (rows ++ x.row ∷ []) done tail)
  by_first rows x es e left deeper false t (d ∷ done) is =
      let head : d ≡ other x = cc in
      let tail : done ++ e ∷ left ≡ history c own other rows es = cc in
      behind_other rows x es done e d t head (deeper rows done tail)

  pub cut-history : (rows : List Row) (es done left : List Coming) (e : Coming) → done ++ e ∷ left ≡ history c own other rows es → FromHistory c own other rows es done e
  cut-history rows [] [] left e is = absurd cc
  cut-history rows [] (d ∷ done) left e is = absurd cc
  cut-history rows (x ∷ es) done left e is = by_first rows x es e left (λ rs ds at. cut-history rs es ds left e at) (eqb x.taken.node c) refl done is
