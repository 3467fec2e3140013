-- where the declared references hold, each row of a left side that refers to a table has a match there
use Rattle.std.proofs.Common.{◌≡◌, ◌≢◌, ℕ, zero, suc, ◌+◌, ◌-◌, ◌<◌, ◌≤◌, Bool, true, false, not, ◌&&◌, List, [], ◌∷◌, ◌++◌, length, map, refl, sym, ap, subst, ◌∙◌, inl, inr, arith, append_assoc, length-append}
use Rattle.std.specs.Prelude.{nat_eq, nat_le, slice_get, All, Contains}
use Rattle.std.specs.List.{filter, list_any, list_all}
use Rattle.std.proofs.lemmas.Bool.{cases_Bool, or_cases, eqb-true, leb-true}
use Rattle.std.proofs.lemmas.List.{append-nil, get_or_append_left, get_or-append_right}
use Rattle.std.proofs.lemmas.List.Elements.{All-nil, All-cons, All-head, All-tail, All-append, All-filter, All-weaker, All-contains, All-contains_itself, Contains-append_left, Contains-append_right}
use Rattle.pm_values.specs.declared.value.Value.TheVariants as value
use Rattle.pm_values.specs.declared.table.ColumnDecl.{ColumnDecl}
use Rattle.pm_values.specs.declared.table.Reference.{Reference}
use Rattle.pm_values.specs.Row.{Row, cell, pick}
use Rattle.pm_values.specs.Equality.{same_key, same_values}
use Rattle.pm_values.specs.References.{has_target, ReferenceHolds}
use Rattle.pm_values.specs.Table.{Declaration, FitsColumn, FitsColumns, IsRelation}
use Rattle.pm_values.proofs.Keys.{both_true, same_key_equal}
use Rattle.pm_values.proofs.ValueOrder.{same_values_equal}
use Rattle.pm_plan.specs.declared.plan.Pair.{Pair}
use Rattle.pm_plan.specs.Rows.{Db, rows_or_none, table_rows, decls_of}
use Rattle.pm_plan.specs.Joins.{left_columns, right_columns, matches, joined_by}
use Rattle.pm_plan.specs.Kinds.{columns_or_none, columns_of, width}
use Rattle.pm_plan.specs.References.{Entry, padded_if, entries, references_or_none, is_named, paired, same_pair, pairs_within, is_required, reads_required, within_entry, refers_by, refers_to, refers}
use Rattle.pm_plan.specs.Valid.{tables_of}
use Rattle.pm_plan.specs.Tree.{Unary, Merge, Tree, Scan, Over, Join, Index, keeps_columns, pads}
use Rattle.pm_plan.specs.Outputs.{output, rows_over, keeps_if}
use Rattle.pm_work.specs.Facts.{AllMatched}
use Rattle.pm_work.specs.Fits.{ReferencesBetween}
use Rattle.pm_work.proofs.RowLists.{All-kept, All-joined, All-each}
use Rattle.pm_work.proofs.RowKinds.{wide_output}
use Rattle.pm_work.proofs.Tables.{at_place}

-- ---- lists

-- what each item that passes a test gives
any_gives : {A : Type 0} (P : A → Type 0) (Q : Type 0) (test : A → Bool) (xs : List A) → All P xs → list_any test xs ≡ true
    → ((x : A) → P x → test x ≡ true → Q) → Q
any_gives P Q test [] all some each = absurd cc
any_gives P Q test (x ∷ xs) all some each =
    elim (or_cases (test x) (list_any test xs) some) [
      | inl h ↦ each x (All-head P x xs all) h
      | inr h ↦ any_gives P Q test xs (All-tail P x xs all) h each
    ]

any_kept : (p q : Row → Bool) (xs : List Row) → ((x : Row) → p x ≡ true → q x ≡ true) → list_any p xs ≡ true → 1 ≤ length (filter q xs)
any_kept p q [] each some = absurd cc
any_kept p q (x ∷ xs) each some =
    elim (cases_Bool (q x)) [
      | inl h ↦ rw h (omega arith)
      | inr h ↦ elim (or_cases (p x) (list_any p xs) some) [
        | inl g ↦ absurd (let e : true ≡ false = sym (each x g) ∙ h in cc)
        | inr g ↦ rw h (any_kept p q xs each g)
      ]
    ]

All-both : (P Q : Row → Type 0) (rows : List Row) → All P rows → All Q rows → All (λ row. P row × Q row) rows
All-both P Q rows a b = λ k d h. (a k d h, b k d h)

-- ---- an entry of FROM in a row

-- the columns of the row that are the entry's are a row of its table
record IsEntryOf (db : Db) (tables : List ℕ) (row : Row) (entry : Entry) : Type 0 where
  before : Row
  base : Row
  rest : Row
  is : row ≡ before ++ (base ++ rest)
  from : length before ≡ entry.from
  held : Contains (table_rows db entry.table) base
  named : Contains tables entry.table

abbrev EntryHolds : Db → List ℕ → Row → Entry → Type 0
EntryHolds db tables row entry = entry.padded ≡ false → IsEntryOf db tables row entry

entry_longer : (db : Db) (tables : List ℕ) (row more : Row) (entry : Entry) → EntryHolds db tables row entry → EntryHolds db tables (row ++ more) entry
entry_longer db tables row more entry holds p =
    let h : IsEntryOf db tables row entry = holds p in
    record {
      before = h.before;
      base = h.base;
      rest = h.rest ++ more;
      is = ap (λ r. r ++ more) h.is ∙ append_assoc h.before (h.base ++ h.rest) more ∙ ap (λ r. h.before ++ r) (append_assoc h.base h.rest more);
      from = h.from;
      held = h.held;
      named = h.named;
    }

-- entries that are padded say nothing
All-padded_if : (db : Db) (tables : List ℕ) (row : Row) (pad : Bool) (es : List Entry) → (pad ≡ false → All (EntryHolds db tables row) es)
    → All (EntryHolds db tables row) (padded_if pad es)
All-padded_if db tables row pad [] all = All-nil (EntryHolds db tables row)
All-padded_if db tables row true (e ∷ es) all =
    All-cons (EntryHolds db tables row) _ (padded_if true es) (λ z. absurd cc) (All-padded_if db tables row true es (λ z. absurd cc))
All-padded_if db tables row false (e ∷ es) all =
    All-cons (EntryHolds db tables row) _ (padded_if false es) (All-head (EntryHolds db tables row) e es (all refl)) (All-padded_if db tables row false es (λ z. All-tail (EntryHolds db tables row) e es (all refl)))

entries_none : (decls : List Declaration) (op : Unary) (child : Tree) (from : ℕ) → keeps_columns op ≡ false → entries decls (Over op child) from ≡ []
entries_none decls op child from k = rw k refl

module _ (db : Db) (sound : All IsRelation db) (tables : List ℕ) where
  -- each row of the tree has its entries after any columns, as many as come before the first entry
  abbrev HasEntries : Tree → ℕ → Row → Type 0
  HasEntries t from row = (p : Row) → length p ≡ from → All (EntryHolds db tables (p ++ row)) (entries (decls_of db) t from)

  abbrev pub NamedIn : Tree → Type 0
  NamedIn t = (k : ℕ) → Contains (tables_of t) k → Contains tables k

  longer : (left : Tree) (from : ℕ) (l more p : Row) → (length l ≡ width (decls_of db) left) × HasEntries left from l → length p ≡ from
      → All (EntryHolds db tables (p ++ (l ++ more))) (entries (decls_of db) left from)
  longer left from l more p h e =
      let ls : List Entry = entries (decls_of db) left from in
      subst (λ row. All (EntryHolds db tables row) ls) (append_assoc p l more)
      (All-weaker (EntryHolds db tables (p ++ l)) (EntryHolds db tables ((p ++ l) ++ more)) (entry_longer db tables (p ++ l) more) ls (h.1 p e))

  pub one_named : (k : ℕ) → Contains (k ∷ []) k
  one_named k = (0, omega arith, refl)

  entries_hold : (t : Tree) (from : ℕ) → NamedIn t → All (HasEntries t from) (output db t)
  entries_hold (Scan table label) from named =
      All-weaker (Contains (table_rows db table)) (HasEntries (Scan table label) from)
      (λ row held p e. All-cons (EntryHolds db tables (p ++ row)) _ []
      (λ z. record { before = p; base = row; rest = []; is = ap (λ r. p ++ r) (sym (append-nil row)); from = e; held = held; named = named table (one_named table) })
      (All-nil (EntryHolds db tables (p ++ row))))
      (table_rows db table) (All-contains_itself (table_rows db table))
  entries_hold (Over op child) from named =
      elim (cases_Bool (keeps_columns op)) [
        | inl k ↦ rw k (All-kept (HasEntries child from) op (output db child) k (entries_hold child from named))
        | inr k ↦ All-each (HasEntries (Over op child) from) (rows_over op (output db child))
            (λ row p e. subst (λ es. All (EntryHolds db tables (p ++ row)) es) (sym (entries_none (decls_of db) op child from k)) (All-nil (EntryHolds db tables (p ++ row))))
      ]
  entries_hold (Join method on left right) from named =
      let wide : ℕ = width (decls_of db) left in
      let ls : List Entry = entries (decls_of db) left from in
      let rs : List Entry = entries (decls_of db) right (from + wide) in
      let P : Row → Type 0 = λ l. (length l ≡ wide) × HasEntries left from l in
      All-joined P (HasEntries right (from + wide)) (HasEntries (Join method on left right) from)
      (λ l r h g p e. All-append (EntryHolds db tables (p ++ (l ++ r))) ls (padded_if (pads method) rs) (longer left from l r p h e)
      (All-padded_if db tables (p ++ (l ++ r)) (pads method) rs (λ z. subst (λ row. All (EntryHolds db tables row) rs) (append_assoc p l r) (g (p ++ l) (omega (arith, length-append p l, e, h.0))))))
      (width (decls_of db) right) method
      (λ pad l h p e. All-append (EntryHolds db tables (p ++ (l ++ _))) ls (padded_if (pads method) rs) (longer left from l _ p h e)
      (All-padded_if db tables (p ++ (l ++ _)) (pads method) rs (λ z. absurd (let b : true ≡ false = sym pad ∙ z in cc))))
      on.pairs (output db left) (output db right)
      (All-both (λ l. length l ≡ width (decls_of db) left) (HasEntries left from) (output db left) (wide_output db sound left) (entries_hold left from (λ k c. named k (Contains-append_left (tables_of left) (tables_of right) k c))))
      (entries_hold right (from + wide) (λ k c. named k (Contains-append_right (tables_of left) (tables_of right) k c)))
  entries_hold (Index left seek c) from named =
      let wide : ℕ = width (decls_of db) left in
      let ls : List Entry = entries (decls_of db) left from in
      let P : Row → Type 0 = λ l. (length l ≡ wide) × HasEntries left from l in
      let rows : List Row = table_rows db seek.table in
      All-filter (keeps_if c) (HasEntries (Index left seek c) from) (joined_by Merge seek.on.pairs 0 (output db left) rows)
      (All-joined P (Contains rows) (HasEntries (Index left seek c) from)
      (λ l r h held p e. All-append (EntryHolds db tables (p ++ (l ++ r))) ls (_ ∷ []) (longer left from l r p h e)
      (All-cons (EntryHolds db tables (p ++ (l ++ r))) _ [] (λ z. record {
        before = p ++ l;
        base = r;
        rest = [];
        is = sym (append_assoc p l r) ∙ ap (λ x. (p ++ l) ++ x) (sym (append-nil r));
        from = omega (arith, length-append p l, e, h.0);
        held = held;
        named = named seek.table (Contains-append_right (tables_of left) (seek.table ∷ []) seek.table (one_named seek.table));
      }) (All-nil (EntryHolds db tables (p ++ (l ++ r))))))
      0 Merge (λ pad l h p e. absurd cc) seek.on.pairs (output db left) rows
      (All-both (λ l. length l ≡ width (decls_of db) left) (HasEntries left from) (output db left) (wide_output db sound left) (entries_hold left from (λ k c. named k (Contains-append_left (tables_of left) (seek.table ∷ []) k c))))
      (All-contains_itself rows))

-- ---- the match

-- a column that is NOT NULL has a value
required : (columns : List ColumnDecl) (row : Row) (at : ℕ) → FitsColumns columns row → is_required (slice_get columns at) ≡ true → (at < length row) × (cell row at ≢ value.Null)
required [] row at fits r = absurd cc
required (c ∷ columns) [] at fits r = absurd fits
required (c ∷ columns) (v ∷ row) zero fits r = (omega arith, not_null v fits.0)
  where
    not_null : (v : _) → FitsColumn c v → v ≢ value.Null
    not_null value.Null f e = absurd (let t : not true ≡ true = ap not (sym f) ∙ r in cc)
    not_null (value.Int n) f e = cc
    not_null (value.Text t) f e = cc
required (c ∷ columns) (v ∷ row) (suc at) fits r =
    let deep : (at < length row) × (cell row at ≢ value.Null) = required columns row at fits.1 r in (omega (arith, deep.0), deep.1)

-- the columns of a reference equal its keys in a row and its target, and so does each pair of one of each
paired_equal : (columns keys : List ℕ) (b target : Row) (pair : Pair) → pick columns b ≡ pick keys target → list_any (same_pair pair) (paired columns keys) ≡ true
    → cell b pair.left ≡ cell target pair.right
paired_equal [] keys b target pair e some = absurd cc
paired_equal (c ∷ columns) [] b target pair e some = absurd cc
paired_equal (c ∷ columns) (k ∷ keys) b target pair e some =
    let first : cell b c ≡ cell target k = cc in
    let rest : pick columns b ≡ pick keys target = cc in
    elim (or_cases (nat_eq pair.left c && nat_eq pair.right k) (list_any (same_pair pair) (paired columns keys)) some) [
      | inl h ↦
          let both : (nat_eq pair.left c ≡ true) × (nat_eq pair.right k ≡ true) = both_true (nat_eq pair.left c) (nat_eq pair.right k) h in
          ap (cell b) (eqb-true pair.left c both.0) ∙ first ∙ ap (cell target) (sym (eqb-true pair.right k both.1))
      | inr h ↦ paired_equal columns keys b target pair rest h
    ]

abbrev HasNoNull : Row → Type 0
HasNoNull = All (λ v. v ≢ value.Null)

-- the left columns of the pairs, in a row that holds one of the entry's table, equal the right ones in that row's target
keys_equal : (columns : List ColumnDecl) (entry : Entry) (reference : Reference) (before b rest target : Row) → length before ≡ entry.from → FitsColumns columns b
    → pick reference.columns b ≡ pick reference.keys target → (pairs : List Pair)
    → list_all (λ p. nat_le entry.from p.left && is_required (slice_get columns (p.left - entry.from))) pairs ≡ true
    → pairs_within (map (within_entry entry) pairs) (paired reference.columns reference.keys) ≡ true
    → (pick (left_columns pairs) (before ++ (b ++ rest)) ≡ pick (right_columns pairs) target) × HasNoNull (pick (left_columns pairs) (before ++ (b ++ rest)))
keys_equal columns entry reference before b rest target from fits same [] reads within = (refl, All-nil (λ v. v ≢ value.Null))
keys_equal columns entry reference before b rest target from fits same (p ∷ pairs) reads within =
    let row : Row = before ++ (b ++ rest) in
    let at : ℕ = p.left - entry.from in
    let r = both_true (nat_le entry.from p.left && is_required (slice_get columns at)) _ reads in
    let w = both_true (list_any (same_pair (within_entry entry p)) (paired reference.columns reference.keys)) _ within in
    let first = both_true (nat_le entry.from p.left) (is_required (slice_get columns at)) r.0 in
    let here = required columns b at fits first.1 in
    let cells : cell row p.left ≡ cell b at =
    get_or-append_right before (b ++ rest) entry.from p.left value.Null from (leb-true entry.from p.left first.0) ∙ get_or_append_left b rest value.Null at here.0 in
    let head : cell row p.left ≡ cell target p.right = cells ∙ paired_equal reference.columns reference.keys b target (within_entry entry p) same w.0 in
    let deep = keys_equal columns entry reference before b rest target from fits same pairs r.1 w.1 in (
      ap (λ v. v ∷ pick (left_columns pairs) row) head ∙ ap (λ vs. cell target p.right ∷ vs) deep.0,
      All-cons (λ v. v ≢ value.Null) (cell row p.left) (pick (left_columns pairs) row) (λ e. here.1 (sym cells ∙ e)) deep.1,
    )

module _ (db : Db) (sound : All IsRelation db) where
  table_columns : (table : ℕ) → All (FitsColumns (columns_of (decls_of db) table)) (table_rows db table)
  table_columns table = at_place (λ t d. All (FitsColumns (columns_or_none d)) (rows_or_none t)) (All-nil (FitsColumns [])) (λ t r. r.fit) db sound table

  abbrev pub AllReferencesHold : List ℕ → Type 0
  AllReferencesHold tables = (child parent : ℕ) → Contains tables child → Contains tables parent → ReferencesBetween db child parent

  -- a row has a match in the table to which one of its entries refers by the pairs
  entry_matched : (tables : List ℕ) (target : ℕ) (pairs : List Pair) (row : Row) (entry : Entry) → AllReferencesHold tables → Contains tables target
      → EntryHolds db tables row entry → refers_to (decls_of db) target pairs entry ≡ true → 1 ≤ length (matches pairs row (table_rows db target))
  entry_matched tables target pairs row entry hold named holds r =
      let columns : List ColumnDecl = columns_of (decls_of db) entry.table in
      let targets : List Row = table_rows db target in
      let one = both_true (not entry.padded) _ r in
      let two = both_true (list_all (reads_required (decls_of db) entry) pairs) _ one.1 in
      let h : IsEntryOf db tables row entry = holds (not_true entry.padded one.0) in
      let fits : FitsColumns columns h.base = All-contains (FitsColumns columns) (table_rows db entry.table) h.base (table_columns entry.table) h.held in
      any_gives (λ reference. is_named (slice_get (decls_of db) target) reference.target ≡ true → ReferenceHolds reference (table_rows db entry.table) targets)
      (1 ≤ length (matches pairs row targets))
      (refers_by (decls_of db) target (map (within_entry entry) pairs))
      (references_or_none (slice_get (decls_of db) entry.table)) (hold entry.table target h.named named) two.1
      (λ reference points by.
      let three = both_true (is_named (slice_get (decls_of db) target) reference.target) _ by in
      let four = both_true (pairs_within (map (within_entry entry) pairs) (paired reference.columns reference.keys)) _ three.1 in
      any_kept (λ t. same_values (pick reference.columns h.base) (pick reference.keys t)) (λ t. same_key (pick (left_columns pairs) row) (pick (right_columns pairs) t)) targets
      (λ t e.
      let same : pick reference.columns h.base ≡ pick reference.keys t = (same_values_equal (pick reference.columns h.base) (pick reference.keys t)).0 e in
      let keys = keys_equal columns entry reference h.before h.base h.rest t h.from fits same pairs two.0 four.0 in
      (same_key_equal (pick (left_columns pairs) row) (pick (right_columns pairs) t)).1
      (subst (λ w. (pick (left_columns pairs) w ≡ pick (right_columns pairs) t) × HasNoNull (pick (left_columns pairs) w)) (sym h.is) keys))
      (All-contains (λ b. has_target reference targets b ≡ true) (table_rows db entry.table) h.base (points three.0) h.held))
    where
      not_true : (b : Bool) → not b ≡ true → b ≡ false
      not_true true e = absurd cc
      not_true false e = refl

  pub refers_matched : (tables : List ℕ) (left : Tree) (target : ℕ) (pairs : List Pair) → AllReferencesHold tables → NamedIn db sound tables left → Contains tables target
      → refers (decls_of db) left target pairs ≡ true → AllMatched pairs (output db left) (table_rows db target)
  refers_matched tables left target pairs hold inside named r =
      All-weaker (HasEntries db sound tables left 0) (λ l. 1 ≤ length (matches pairs l (table_rows db target)))
      (λ row has. any_gives (EntryHolds db tables row) (1 ≤ length (matches pairs row (table_rows db target))) (refers_to (decls_of db) target pairs) (entries (decls_of db) left 0)
      (has [] refl) r (λ entry holds e. entry_matched tables target pairs row entry hold named holds e))
      (output db left) (entries_hold db sound tables left 0 inside)
