-- in the events that iterators have to come, each says of its reader what it settles there
use Rattle.std.proofs.Common.{◌≡◌, ℕ, ◌+◌, ◌<◌, ◌≤◌, Bool, true, false, eqb, List, [], ◌∷◌, ◌++◌, map, length, take, max, refl, ap, sym, subst, ◌∙◌, ◌⊎◌, inl, inr, arith, length-append, get_or, ◌-◌}
use Rattle.std.specs.Prelude.{if◌then◌else◌, Option}
use Rattle.std.proofs.Math.Seq.{get_or-append_seam}
use Rattle.std.specs.List.{filter}
use Rattle.std.proofs.lemmas.Bool.{eq-eqb, eqb-true, cases_Bool}
use Rattle.std.proofs.lemmas.List.{map-append, take_all}
use Rattle.pm_values.specs.declared.condition.Cond.{Cond}
use Rattle.pm_values.specs.Row.{Row, pick}
use Rattle.pm_values.specs.Equality.{same_key}
use Rattle.pm_values.specs.Keys.{worst as worst_key}
use Rattle.pm_values.proofs.KeysAppended.{worst-append_key, worst-append_null}
use Rattle.pm_plan.specs.Rows.{Db, table_rows, decls_of}
use Rattle.pm_plan.specs.Joins.{right_columns, keys_of, rows_for, worst, multiplicity, matches}
use Rattle.pm_plan.specs.Kinds.{width}
use Rattle.pm_plan.specs.Tree.{Unary, Hash, On, Tree, Over, Join, Index, Seek, size, right_number}
use Rattle.pm_plan.specs.Outputs.{output, keeps_if}
use Rattle.pm_work.specs.Events.{events_of, rows_at}
use Rattle.pm_work.specs.Moments.{Counts, worst_at}
use Rattle.pm_work.specs.Changes.{settled_by_row, settled_by_sought, last_row, worst_with}
use Rattle.pm_work.proofs.EventLists.{Within, Within-first, Only-events_of, rows_at-other, rows_at-outside}
use Rattle.pm_work.proofs.Cuts.{front_of}
use Rattle.pm_work.proofs.EventLaws.{size_pos}
use Rattle.pm_flows.specs.declared.taken.Taken.{Taken}
use Rattle.pm_flows.specs.Coming.{Coming, event_of, taken_by, taken_read, rows_by, read, rows_in, after}
use Rattle.pm_flows.specs.Sought.{kept_row, seek_rows, looked_up}
use Rattle.pm_flows.proofs.Streams.{neq-eqb}
use Rattle.pm_flows.proofs.Comings.{event-rows_by, rows_in-at}
use Rattle.pm_exec.proofs.Notes.{AllNoted, apart-noted, FromBelow, cut-append, cut-after, rows_of, rows_of-append, history, FromHistory, cut-history}

-- an event of a tree at these counts
pub record Noted (db : Db) (K : Counts) (t : Tree) (n : ℕ) (e : Coming) : Type 0 where
  pub all : AllNoted db K e.taken e.row t n
  pub low : n ≤ e.taken.node
  pub high : e.taken.node < n + size t
  pub reader : (e.taken.reader ≡ 0) ⊎ ((n ≤ e.taken.reader) × (e.taken.reader < n + size t))

-- the counts of the nodes from a up to below b after these events
abbrev pub Agree : Counts → List Coming → ℕ → ℕ → Type 0
Agree K done a b = (m : ℕ) → a ≤ m → m < b → K m ≡ length (rows_of m done)

pub row_taken : (n : ℕ) (free : Bool) (rows : List Row) (done left : List Coming) (e : Coming) → done ++ e ∷ left ≡ rows_by n free rows → e.taken ≡ taken_by n
row_taken n free [] [] left e is = absurd cc
row_taken n free [] (d ∷ done) left e is = absurd cc
row_taken n free (r ∷ rows) [] left e is =
    let head : e ≡ record { taken = taken_by n; row = r; free = free } = cc in ap (λ x. x.taken) head
row_taken n free (r ∷ rows) (d ∷ done) left e is =
    let tail : done ++ e ∷ left ≡ rows_by n free rows = cc in row_taken n free rows done left e tail

pub quiet_rows : (n : ℕ) (free : Bool) (m : ℕ) → (m ≡ n → ⊥) → (rows : List Row) → rows_of m (rows_by n free rows) ≡ []
quiet_rows n free m other rows = ap (rows_at m) (event-rows_by n free rows) ∙ rows_at-other n m (events_of n rows) (Only-events_of n rows) other

pub plus_zero : (k : ℕ) → k + 0 ≡ k
plus_zero k = omega arith

pub max_zero : (k : ℕ) → k ≡ max k 0
max_zero k = omega arith

pub front_at : (k : ℕ) (xs ys out : List Row) → k ≡ length xs → xs ++ ys ≡ out → take k out ≡ xs
front_at k xs ys out k_is is = ap (λ j. take j out) k_is ∙ front_of xs ys out is

worst-append : (columns : List ℕ) (rows : List Row) (row : Row) → worst columns (rows ++ row ∷ []) ≡ worst_with columns rows row
worst-append columns rows row =
    let more : keys_of columns (rows ++ row ∷ []) ≡ keys_of columns rows ++ pick columns row ∷ [] = map-append (pick columns) rows (row ∷ []) in
    ap worst_key more ∙ (elim (cases_Bool (same_key (pick columns row) (pick columns row))) [
      | inl h ↦ rw h (worst-append_key (keys_of columns rows) (pick columns row) h)
      | inr h ↦ rw h (worst-append_null (keys_of columns rows) (pick columns row) h)
    ])

-- it does not fall by a row more
max-worst : (columns : List ℕ) (rows : List Row) (row : Row) → max (worst columns rows) (worst columns (rows ++ row ∷ [])) ≡ worst columns (rows ++ row ∷ [])
max-worst columns rows row =
    let most : ℕ = worst columns rows in
    ap (max most) (worst-append columns rows row) ∙ (elim (cases_Bool (same_key (pick columns row) (pick columns row))) [
      | inl h ↦ rw h (greater most (multiplicity columns (pick columns row) rows + 1))
      | inr h ↦ rw h (same most)
    ]) ∙ sym (worst-append columns rows row)
  where
    greater : (a b : ℕ) → max a (max a b) ≡ max a b
    greater a b = omega arith

    same : (a : ℕ) → max a a ≡ a
    same a = omega arith

history-events : (c : ℕ) (own : List Row → Coming → Coming) (other : Coming → Coming) → ((rows : List Row) (e : Coming) → event_of (own rows e) ≡ event_of e)
    → ((e : Coming) → event_of (other e) ≡ event_of e) → (rows : List Row) (es : List Coming) → map event_of (history c own other rows es) ≡ map event_of es
history-events c own other own_same other_same rows [] = refl
history-events c own other own_same other_same rows (x ∷ es) =
    elim (eqb x.taken.node c) as (λ b. map event_of (if b then own rows x ∷ history c own other (rows ++ x.row ∷ []) es else other x ∷ history c own other rows es) ≡ event_of x ∷ map event_of es) [
      | true ↦ ap (λ y. y ∷ map event_of (history c own other (rows ++ x.row ∷ []) es)) (own_same rows x) ∙ ap (λ s. event_of x ∷ s) (history-events c own other own_same other_same (rows ++ x.row ∷ []) es)
      | false ↦ ap (λ y. y ∷ map event_of (history c own other rows es)) (other_same x) ∙ ap (λ s. event_of x ∷ s) (history-events c own other own_same other_same rows es)
    ]

module _ (db : Db) (K : Counts) where
  -- a row of the root
  pub own_noted : (t : Tree) (n : ℕ) (e : Coming) → 1 ≤ n → e.taken ≡ taken_by n → Noted db K t n e
  own_noted t n e some is = record {
    all = apart-noted db K e.taken e.row t n (record { node = inl (omega (arith, ap (λ x. x.node) is)); reader = inl (omega (arith, ap (λ x. x.reader) is, some)) });
    low = omega (arith, ap (λ x. x.node) is);
    high = omega (arith, ap (λ x. x.node) is, size_pos t);
    reader = inl (ap (λ x. x.reader) is);
  }

  -- an event that none of these nodes reads
  pub reads_other : (n m : ℕ) (t : Taken) → 1 ≤ n → n < m → (b : ℕ) → (t.reader ≡ 0) ⊎ ((m ≤ t.reader) × (t.reader < b)) → eqb t.reader n ≡ false
  reads_other n m t some l b reader = neq-eqb t.reader n (λ z. elim reader [ inl p ↦ omega (arith, p, z, some) | inr q ↦ omega (arith, q.0, z, l) ])

  -- ---- a child whose rows are read as they come

  module _ (op : Unary) (child : Tree) (n : ℕ) (some : 1 ≤ n) (S : Row → ℕ) (settles : (rows : List Row) (row : Row) → settled_by_row op rows row ≡ S row)
      (called : Row → List Row) (below : List Coming)
      (deeper : (done left : List Coming) (e : Coming) → done ++ e ∷ left ≡ below → Agree K done (n + 1) (n + 1 + size child) → Noted db K child (n + 1) e) where
    pub streamed_noted : (done left : List Coming) (e : Coming) → done ++ e ∷ left ≡ after (n + 1) (read n S) (λ row. rows_by n true (called row)) below
        → Agree K done n (n + (1 + size child)) → Noted db K (Over op child) n e
    streamed_noted done left e is agree =
        elim (cut-after (n + 1) (read n S) (λ row. rows_by n true (called row)) (λ m. m ≡ n → ⊥) (λ m q row. quiet_rows n true m q (called row)) (λ x. refl) below done left e is) [
          | inl i ↦ from_below i (deeper i.before i.behind i.here i.is (λ m l h. agree m (omega (arith, l)) (omega (arith, h)) ∙ ap length (i.same m (λ z. omega (arith, z, l)))))
          | inr i ↦ own_noted (Over op child) n e some (row_taken n true (called i.row) i.first i.rest e i.is)
        ]
      where
        from_below : (i : FromBelow (n + 1) (read n S) below done e (λ m. m ≡ n → ⊥)) → Noted db K child (n + 1) i.here → Noted db K (Over op child) n e
        from_below i h = by (eqb i.here.taken.node (n + 1)) refl i.read_is
          where
            by : (b : Bool) → eqb i.here.taken.node (n + 1) ≡ b → e ≡ (if b then read n S i.here else i.here) → Noted db K (Over op child) n e
            by true own e_is = subst (Noted db K (Over op child) n) (sym e_is) (record {
              all = (
                record { settles = rw (own, eq-eqb n n refl) (settles _ i.here.row); worst = rw (eq-eqb n n refl) refl },
                apart-noted db K (taken_read n (S i.here.row) 0 i.here.taken) i.here.row child (n + 1)
                    (record { node = inl (omega (arith, eqb-true i.here.taken.node (n + 1) own)); reader = inl (omega arith) }),
              );
              low = omega (arith, h.low);
              high = omega (arith, h.high);
              reader = inr (omega arith, omega arith);
            })
            by false other e_is =
                let unread : eqb i.here.taken.reader n ≡ false = reads_other n (n + 1) i.here.taken some (omega arith) (n + 1 + size child) h.reader in
                subst (Noted db K (Over op child) n) (sym e_is) (record {
                  all = (record { settles = rw (other, unread) refl; worst = rw unread refl }, h.all);
                  low = omega (arith, h.low);
                  high = omega (arith, h.high);
                  reader = elim h.reader [ inl p ↦ inl p | inr q ↦ inr (omega (arith, q.0), omega (arith, q.1)) ];
                })

  -- ---- a child that is read in first

  module _ (op : Unary) (child : Tree) (n : ℕ) (some : 1 ≤ n) (below : List Coming) (out : List Row) (out_is : rows_of (n + 1) below ≡ out) (out_are : out ≡ output db child)
      (deeper : (done left : List Coming) (e : Coming) → done ++ e ∷ left ≡ below → Agree K done (n + 1) (n + 1 + size child) → Noted db K child (n + 1) e) where
    abbrev in_own : List Row → Coming → Coming
    in_own rows e = record { taken = taken_read n (settled_by_row op rows e.row) 0 e.taken; row = e.row; free = false }

    abbrev in_other : Coming → Coming
    in_other e = record { taken = e.taken; row = e.row; free = false }

    pub taken_in_noted : (done left : List Coming) (e : Coming) → done ++ e ∷ left ≡ history (n + 1) in_own in_other [] below
        → Agree K done n (n + (1 + size child)) → Noted db K (Over op child) n e
    taken_in_noted done left e is agree =
        let i = cut-history (n + 1) in_own in_other (λ rows x. refl) (λ x. refl) [] below done left e is in
        let inner : Agree K i.before (n + 1) (n + 1 + size child) = (λ m l h. agree m (omega (arith, l)) (omega (arith, h)) ∙ ap length (i.same m)) in
        let h : Noted db K child (n + 1) i.here = deeper i.before i.behind i.here i.is inner in
        by i inner h (eqb i.here.taken.node (n + 1)) refl i.read_is
      where
        by : (i : FromHistory (n + 1) in_own in_other [] below done e) → Agree K i.before (n + 1) (n + 1 + size child) → Noted db K child (n + 1) i.here
            → (b : Bool) → eqb i.here.taken.node (n + 1) ≡ b → e ≡ (if b then in_own ([] ++ rows_of (n + 1) i.before) i.here else in_other i.here) → Noted db K (Over op child) n e
        by i inner h true own e_is =
            let front : take (K (n + 1)) (output db child) ≡ rows_of (n + 1) i.before =
            front_at (K (n + 1)) (rows_of (n + 1) i.before) (rows_of (n + 1) (i.here ∷ i.behind)) (output db child) (inner (n + 1) (omega arith) (omega (arith, size_pos child)))
            (sym (rows_of-append (n + 1) i.before (i.here ∷ i.behind)) ∙ ap (rows_of (n + 1)) i.is ∙ out_is ∙ out_are) in
            subst (Noted db K (Over op child) n) (sym e_is) (record {
              all = (
                record { settles = rw (own, eq-eqb n n refl) (ap (λ rows. settled_by_row op rows i.here.row) front); worst = rw (eq-eqb n n refl) refl },
                apart-noted db K (in_own (rows_of (n + 1) i.before) i.here).taken i.here.row child (n + 1)
                    (record { node = inl (omega (arith, eqb-true i.here.taken.node (n + 1) own)); reader = inl (omega arith) }),
              );
              low = omega (arith, h.low);
              high = omega (arith, h.high);
              reader = inr (omega arith, omega arith);
            })
        by i inner h false other e_is =
            let unread : eqb i.here.taken.reader n ≡ false = reads_other n (n + 1) i.here.taken some (omega arith) (n + 1 + size child) h.reader in
            subst (Noted db K (Over op child) n) (sym e_is) (record {
              all = (record { settles = rw (other, unread) refl; worst = rw unread refl }, h.all);
              low = omega (arith, h.low);
              high = omega (arith, h.high);
              reader = elim h.reader [ inl p ↦ inl p | inr q ↦ inr (omega (arith, q.0), omega (arith, q.1)) ];
            })

  -- ---- a hash join

  module _ (pad : Bool) (on : On) (left right : Tree) (n : ℕ) (some : 1 ≤ n) (lefts rights : List Coming) (ran : rows_of (right_number n left) rights ≡ output db right)
      (left_within : Within (n + 1) (right_number n left) (map event_of lefts)) (right_within : Within (right_number n left) (right_number n left + size right) (map event_of rights))
      (of_left : (done rest : List Coming) (e : Coming) → done ++ e ∷ rest ≡ lefts → Agree K done (n + 1) (n + 1 + size left) → Noted db K left (n + 1) e)
      (of_right : (done rest : List Coming) (e : Coming) → done ++ e ∷ rest ≡ rights → Agree K done (right_number n left) (right_number n left + size right) → Noted db K right (right_number n left) e) where
    abbrev r : ℕ
    r = right_number n left

    abbrev columns : List ℕ
    columns = right_columns on.pairs

    abbrev w : ℕ
    w = width (decls_of db) right

    abbrev S : Row → ℕ
    S l = length (rows_for (Hash pad) on.pairs w (rows_in r rights) l)

    abbrev called : Row → List Row
    called l = rows_for (Hash pad) on.pairs w (rows_in r rights) l

    abbrev enter_own : List Row → Coming → Coming
    enter_own rows e = record { taken = taken_read n 0 (worst columns (rows ++ e.row ∷ [])) e.taken; row = e.row; free = false }

    abbrev enter_other : Coming → Coming
    enter_other e = record { taken = e.taken; row = e.row; free = false }

    -- an event of the right side
    pub right_noted : (done rest : List Coming) (e : Coming) → done ++ e ∷ rest ≡ history r enter_own enter_other [] rights
        → Agree K done n (n + (1 + (size left + size right))) → Noted db K (Join (Hash pad) on left right) n e
    right_noted done rest e is agree =
        let i = cut-history r enter_own enter_other (λ rows x. refl) (λ x. refl) [] rights done rest e is in
        let inner : Agree K i.before r (r + size right) = (λ m l h. agree m (omega (arith, l)) (omega (arith, h)) ∙ ap length (i.same m)) in
        let h : Noted db K right r i.here = of_right i.before i.behind i.here i.is inner in
        let none : K (n + 1) ≡ 0 =
        agree (n + 1) (omega arith) (omega (arith, size_pos left)) ∙ ap length (i.same (n + 1)
        ∙ rows_at-outside (n + 1) r (r + size right) (map event_of i.before) (before_within i) (inl (omega (arith, size_pos left)))) in
        by i inner h none (eqb i.here.taken.node r) refl i.read_is
      where
        before_within : (i : FromHistory r enter_own enter_other [] rights done e) → Within r (r + size right) (map event_of i.before)
        before_within i =
            Within-first r (r + size right) (map event_of i.before) (map event_of (i.here ∷ i.behind))
            (subst (Within r (r + size right)) (ap (map event_of) (sym i.is) ∙ map-append event_of i.before (i.here ∷ i.behind)) right_within)

        by : (i : FromHistory r enter_own enter_other [] rights done e) → Agree K i.before r (r + size right) → Noted db K right r i.here → K (n + 1) ≡ 0
            → (b : Bool) → eqb i.here.taken.node r ≡ b → e ≡ (if b then enter_own ([] ++ rows_of r i.before) i.here else enter_other i.here)
            → Noted db K (Join (Hash pad) on left right) n e
        by i inner h none true own e_is =
            let prior : List Row = rows_of r i.before in
            let front : take (K r) (output db right) ≡ prior =
            front_at (K r) prior (rows_of r (i.here ∷ i.behind)) (output db right) (inner r (omega arith) (omega (arith, size_pos right)))
            (sym (rows_of-append r i.before (i.here ∷ i.behind)) ∙ ap (rows_of r) i.is ∙ ran) in
            let at : i.here.taken.node ≡ r = eqb-true i.here.taken.node r own in
            let past : eqb i.here.taken.node (n + 1) ≡ false = neq-eqb i.here.taken.node (n + 1) (λ z. omega (arith, z, at, size_pos left)) in
            subst (Noted db K (Join (Hash pad) on left right) n) (sym e_is) (record {
              all = (
                record {
                  settles = rw (past, own, none, eq-eqb n n refl) refl;
                  worst = rw (own, eq-eqb n n refl, front) (sym (worst-append columns prior i.here.row) ∙ sym (max-worst columns prior i.here.row));
                },
                apart-noted db K (enter_own prior i.here).taken i.here.row left (n + 1) (record { node = inr (omega (arith, at)); reader = inl (omega arith) }),
                apart-noted db K (enter_own prior i.here).taken i.here.row right r (record { node = inl (omega (arith, at)); reader = inl (omega arith) }),
              );
              low = omega (arith, h.low);
              high = omega (arith, h.high);
              reader = inr (omega arith, omega arith);
            })
        by i inner h none false other e_is =
            let unread : eqb i.here.taken.reader n ≡ false = reads_other n r i.here.taken some (omega arith) (r + size right) h.reader in
            let past : eqb i.here.taken.node (n + 1) ≡ false = neq-eqb i.here.taken.node (n + 1) (λ z. omega (arith, z, h.low, size_pos left)) in
            subst (Noted db K (Join (Hash pad) on left right) n) (sym e_is) (record {
              all = (
                record { settles = rw (past, other, unread) refl; worst = rw (other, unread) refl },
                apart-noted db K i.here.taken i.here.row left (n + 1)
                    (record { node = inr (omega (arith, h.low)); reader = elim h.reader [ inl p ↦ inl (omega (arith, p)) | inr q ↦ inr (omega (arith, q.0)) ] }),
                h.all,
              );
              low = omega (arith, h.low);
              high = omega (arith, h.high);
              reader = elim h.reader [ inl p ↦ inl p | inr q ↦ inr (omega (arith, q.0), omega (arith, q.1)) ];
            })

    -- one of the left side, or a row of its own
    pub left_noted : (done more rest : List Coming) (e : Coming) → done ≡ history r enter_own enter_other [] rights ++ more
        → more ++ e ∷ rest ≡ after (n + 1) (read n S) (λ l. rows_by n true (called l)) lefts
        → Agree K done n (n + (1 + (size left + size right))) → Noted db K (Join (Hash pad) on left right) n e
    left_noted done more rest e done_is is agree =
        elim (cut-after (n + 1) (read n S) (λ l. rows_by n true (called l)) (λ m. m ≡ n → ⊥) (λ m q l. quiet_rows n true m q (called l)) (λ x. refl) lefts more rest e is) [
          | inl i ↦ from_below i
          | inr i ↦ own_noted (Join (Hash pad) on left right) n e some (row_taken n true (called i.row) i.first i.rest e i.is)
        ]
      where
        entering : (m : ℕ) → rows_of m (history r enter_own enter_other [] rights) ≡ rows_of m rights
        entering m = ap (rows_at m) (history-events r enter_own enter_other (λ rows x. refl) (λ x. refl) [] rights)

        counted : (m : ℕ) → n ≤ m → m < n + (1 + (size left + size right)) → K m ≡ length (rows_of m rights) + length (rows_of m more)
        counted m l h =
            agree m l h ∙ ap (λ ds. length (rows_of m ds)) done_is
            ∙ ap length (rows_of-append m (history r enter_own enter_other [] rights) more ∙ ap (λ s. s ++ rows_of m more) (entering m))
            ∙ length-append (rows_of m rights) (rows_of m more)

        from_below : (i : FromBelow (n + 1) (read n S) lefts more e (λ m. m ≡ n → ⊥)) → Noted db K (Join (Hash pad) on left right) n e
        from_below i =
            let inner : Agree K i.before (n + 1) (n + 1 + size left) =
            (λ m l h. omega (arith, counted m (omega (arith, l)) (omega (arith, h)), ap length (rows_at-outside m r (r + size right) (map event_of rights) right_within (inl (omega (arith, h)))), ap length (i.same m (λ z. omega (arith, z, l))))) in
            let h : Noted db K left (n + 1) i.here = of_left i.before i.behind i.here i.is inner in
            let before_within : Within (n + 1) r (map event_of i.before) =
            Within-first (n + 1) r (map event_of i.before) (map event_of (i.here ∷ i.behind))
            (subst (Within (n + 1) r) (ap (map event_of) (sym i.is) ∙ map-append event_of i.before (i.here ∷ i.behind)) left_within) in
            let whole : K r ≡ length (output db right) =
            omega (arith, counted r (omega arith) (omega (arith, size_pos right)), ap length ran, ap length (i.same r (λ z. omega (arith, z))), ap length (rows_at-outside r (n + 1) r (map event_of i.before) before_within (inr (omega arith)))) in
            by i h whole (eqb i.here.taken.node (n + 1)) refl i.read_is
          where
            by : (i : FromBelow (n + 1) (read n S) lefts more e (λ m. m ≡ n → ⊥)) → Noted db K left (n + 1) i.here → K r ≡ length (output db right)
                → (b : Bool) → eqb i.here.taken.node (n + 1) ≡ b → e ≡ (if b then read n S i.here else i.here) → Noted db K (Join (Hash pad) on left right) n e
            by i h whole true own e_is =
                let at : i.here.taken.node ≡ n + 1 = eqb-true i.here.taken.node (n + 1) own in
                let past : eqb i.here.taken.node r ≡ false = neq-eqb i.here.taken.node r (λ z. omega (arith, z, at, size_pos left)) in
                let all_rights : take (K r) (output db right) ≡ rows_in r rights = take_all (K r) (output db right) (omega (arith, whole)) ∙ sym (rows_in-at r rights ∙ ran) in
                subst (Noted db K (Join (Hash pad) on left right) n) (sym e_is) (record {
                  all = (
                    record { settles = rw (own, past, all_rights, eq-eqb n n refl) (plus_zero (S i.here.row)); worst = rw (past, eq-eqb n n refl) (max_zero (worst_at db (Join (Hash pad) on left right) n K)) },
                    apart-noted db K (taken_read n (S i.here.row) 0 i.here.taken) i.here.row left (n + 1) (record { node = inl (omega (arith, at)); reader = inl (omega arith) }),
                    apart-noted db K (taken_read n (S i.here.row) 0 i.here.taken) i.here.row right r (record { node = inl (omega (arith, at)); reader = inl (omega arith) }),
                  );
                  low = omega (arith, h.low);
                  high = omega (arith, h.high);
                  reader = inr (omega arith, omega arith);
                })
            by i h whole false other e_is =
                let unread : eqb i.here.taken.reader n ≡ false = reads_other n (n + 1) i.here.taken some (omega arith) (n + 1 + size left) h.reader in
                let past : eqb i.here.taken.node r ≡ false = neq-eqb i.here.taken.node r (λ z. omega (arith, z, h.high)) in
                subst (Noted db K (Join (Hash pad) on left right) n) (sym e_is) (record {
                  all = (
                    record { settles = rw (other, past, unread) refl; worst = rw (past, unread) refl },
                    h.all,
                    apart-noted db K i.here.taken i.here.row right r
                        (record { node = inl (omega (arith, h.high)); reader = elim h.reader [ inl p ↦ inl (omega (arith, p)) | inr q ↦ inl (omega (arith, q.1)) ] }),
                  );
                  low = omega (arith, h.low);
                  high = omega (arith, h.high);
                  reader = elim h.reader [ inl p ↦ inl p | inr q ↦ inr (omega (arith, q.0), omega (arith, q.1)) ];
                })

  -- ---- an index join

  module _ (left : Tree) (seek : Seek) (c : Option Cond) (n : ℕ) (some : 1 ≤ n) (lefts : List Coming)
      (of_left : (done rest : List Coming) (e : Coming) → done ++ e ∷ rest ≡ lefts → Agree K done (n + 1) (n + 1 + size left) → Noted db K left (n + 1) e) where
    abbrev seek_number : ℕ
    seek_number = right_number n left

    abbrev table : List Row
    table = table_rows db seek.table

    abbrev finds : Row → ℕ
    finds l = length (matches seek.on.pairs l table)

    abbrev looks : Row → List Coming
    looks l = seek_rows c n seek_number l (matches seek.on.pairs l table)

    abbrev whole : Tree
    whole = Index left seek c

    -- a row that was looked up, for this left row
    pub record IsSoughtFor (l : Row) (e : Coming) : Type 0 where
      pub r : Row
      pub taken : e.taken ≡ taken_read n (length (kept_row c l r)) 0 (taken_by seek_number)
      pub row : e.row ≡ r

    in_looks : (l : Row) (rows : List Row) (first rest : List Coming) (e : Coming) → first ++ e ∷ rest ≡ seek_rows c n seek_number l rows
        → (e.taken ≡ taken_by n) ⊎ IsSoughtFor l e
    in_looks l [] [] rest e is = absurd cc
    in_looks l [] (d ∷ first) rest e is = absurd cc
    in_looks l (r ∷ rows) [] rest e is =
        let head : e ≡ record { taken = taken_read n (length (kept_row c l r)) 0 (taken_by seek_number); row = r; free = true } = cc in
        inr (record { r = r; taken = ap (λ x. x.taken) head; row = ap (λ x. x.row) head })
    in_looks l (r ∷ rows) (d ∷ first) rest e is =
        let tail : first ++ e ∷ rest ≡ rows_by n true (kept_row c l r) ++ seek_rows c n seek_number l rows = cc in
        elim (cut-append first rest (rows_by n true (kept_row c l r)) (seek_rows c n seek_number l rows) e tail) [
          | inl p ↦ inl (row_taken n true (kept_row c l r) first p.0 e p.1)
          | inr p ↦ in_looks l rows p.0 rest e p.2
        ]

    quiet_looks : (m : ℕ) → (m ≡ n → ⊥) × (m ≡ seek_number → ⊥) → (l : Row) (rows : List Row) → rows_of m (seek_rows c n seek_number l rows) ≡ []
    quiet_looks m q l [] = refl
    quiet_looks m q l (r ∷ rows) =
        let own : eqb seek_number m ≡ false = neq-eqb seek_number m (λ z. q.1 (sym z)) in
        (rw own refl) ∙ rows_of-append m (rows_by n true (kept_row c l r)) (seek_rows c n seek_number l rows)
        ∙ ap (λ xs. xs ++ rows_of m (seek_rows c n seek_number l rows)) (quiet_rows n true m q.0 (kept_row c l r)) ∙ quiet_looks m q l rows

    last-row : (earlier : List Row) (l : Row) → last_row (earlier ++ l ∷ []) ≡ l
    last-row earlier l =
        ap (λ k. get_or (earlier ++ l ∷ []) k []) (end earlier l) ∙ get_or-append_seam earlier l [] []
      where
        end : (earlier : List Row) (l : Row) → length (earlier ++ l ∷ []) - 1 ≡ length earlier
        end earlier l = omega (arith, length-append earlier (l ∷ []))

    -- a row of the Seek is read by the Index, with the last left row
    seek_noted : (done : List Coming) (l : Row) (earlier rest : List Row) (e : Coming) → IsSoughtFor l e → rows_of (n + 1) done ≡ earlier ++ l ∷ []
        → rows_of (n + 1) done ++ rest ≡ output db left → K (n + 1) ≡ length (rows_of (n + 1) done) → Noted db K whole n e
    seek_noted done l earlier rest e i last all count =
        let front : take (K (n + 1)) (output db left) ≡ earlier ++ l ∷ [] = front_at (K (n + 1)) (rows_of (n + 1) done) rest (output db left) count all ∙ last in
        let node : e.taken.node ≡ seek_number = ap (λ t. t.node) i.taken in
        let reader : e.taken.reader ≡ n = ap (λ t. t.reader) i.taken in
        let at : eqb e.taken.node seek_number ≡ true = eq-eqb e.taken.node seek_number node in
        let past : eqb e.taken.node (n + 1) ≡ false = neq-eqb e.taken.node (n + 1) (λ z. omega (arith, z, node, size_pos left)) in
        let own : eqb e.taken.reader n ≡ true = eq-eqb e.taken.reader n reader in
        let other : eqb e.taken.reader seek_number ≡ false = neq-eqb e.taken.reader seek_number (λ z. omega (arith, z, reader)) in
        let settles : settled_by_sought c (take (K (n + 1)) (output db left)) e.row ≡ e.taken.settled =
        ap (λ ls. settled_by_sought c ls e.row) front ∙ ap (λ x. length (filter (keeps_if c) ((x ++ e.row) ∷ []))) (last-row earlier l)
        ∙ ap (λ x. length (kept_row c l x)) i.row ∙ sym (ap (λ t. t.settled) i.taken) in
        let none : e.taken.worst ≡ 0 = ap (λ t. t.worst) i.taken in
        record {
          all = (
            record { settles = rw (at, own) settles; worst = rw (own, none) refl },
            record { settles = rw (past, other) refl; worst = λ w. rw other refl },
            apart-noted db K e.taken e.row left (n + 1) (record { node = inr (omega (arith, node)); reader = inl (omega (arith, reader)) }),
          );
          low = omega (arith, node);
          high = omega (arith, node);
          reader = inr (omega (arith, reader), omega (arith, reader));
        }

    pub sought_noted : (done rest : List Coming) (e : Coming) → done ++ e ∷ rest ≡ looked_up c n seek_number seek.on.pairs table [] lefts
        → rows_of (n + 1) done ++ rows_of (n + 1) (e ∷ rest) ≡ output db left → Agree K done n (n + (2 + size left)) → Noted db K whole n e
    sought_noted done rest e is all agree =
        elim (cut-after (n + 1) (read seek_number finds) looks (λ m. (m ≡ n → ⊥) × (m ≡ seek_number → ⊥)) (λ m q l. quiet_looks m q l (matches seek.on.pairs l table)) (λ x. refl) lefts done rest e is) [
          | inl i ↦ from_below i (of_left i.before i.behind i.here i.is
              (λ m l h. agree m (omega (arith, l)) (omega (arith, h)) ∙ ap length (i.same m ((λ z. omega (arith, z, l)), (λ z. omega (arith, z, h))))))
          | inr i ↦ elim (in_looks i.row (matches seek.on.pairs i.row table) i.first i.rest e i.is) [
            | inl own ↦ own_noted whole n e some own
            | inr s ↦ seek_noted done i.row i.earlier (rows_of (n + 1) (e ∷ rest)) e s (i.last ((λ z. omega (arith, z)), (λ z. omega (arith, z, size_pos left)))) all
                (agree (n + 1) (omega arith) (omega (arith, size_pos left)))
          ]
        ]
      where
        from_below : (i : FromBelow (n + 1) (read seek_number finds) lefts done e (λ m. (m ≡ n → ⊥) × (m ≡ seek_number → ⊥))) → Noted db K left (n + 1) i.here → Noted db K whole n e
        from_below i h = by (eqb i.here.taken.node (n + 1)) refl i.read_is
          where
            by : (b : Bool) → eqb i.here.taken.node (n + 1) ≡ b → e ≡ (if b then read seek_number finds i.here else i.here) → Noted db K whole n e
            by true own e_is =
                let at : i.here.taken.node ≡ n + 1 = eqb-true i.here.taken.node (n + 1) own in
                let past : eqb i.here.taken.node seek_number ≡ false = neq-eqb i.here.taken.node seek_number (λ z. omega (arith, z, at, size_pos left)) in
                let unread : eqb seek_number n ≡ false = neq-eqb seek_number n (λ z. omega (arith, z)) in
                subst (Noted db K whole n) (sym e_is) (record {
                  all = (
                    record { settles = rw (past, unread) refl; worst = rw unread refl },
                    record { settles = rw (own, eq-eqb seek_number seek_number refl) refl; worst = λ w. rw (eq-eqb seek_number seek_number refl) (max_zero w) },
                    apart-noted db K (taken_read seek_number (finds i.here.row) 0 i.here.taken) i.here.row left (n + 1) (record { node = inl (omega (arith, at)); reader = inr (omega arith) }),
                  );
                  low = omega (arith, h.low);
                  high = omega (arith, h.high);
                  reader = inr (omega arith, omega arith);
                })
            by false other e_is =
                let past : eqb i.here.taken.node seek_number ≡ false = neq-eqb i.here.taken.node seek_number (λ z. omega (arith, z, h.high)) in
                let unread : eqb i.here.taken.reader n ≡ false = reads_other n (n + 1) i.here.taken some (omega arith) (n + 1 + size left) h.reader in
                let unsought : eqb i.here.taken.reader seek_number ≡ false =
                neq-eqb i.here.taken.reader seek_number (λ z. elim h.reader [ inl p ↦ omega (arith, p, z) | inr q ↦ omega (arith, q.1, z) ]) in
                subst (Noted db K whole n) (sym e_is) (record {
                  all = (
                    record { settles = rw (past, unread) refl; worst = rw unread refl },
                    record { settles = rw (other, unsought) refl; worst = λ w. rw unsought refl },
                    h.all,
                  );
                  low = omega (arith, h.low);
                  high = omega (arith, h.high);
                  reader = elim h.reader [ inl p ↦ inl p | inr q ↦ inr (omega (arith, q.0), omega (arith, q.1)) ];
                })
