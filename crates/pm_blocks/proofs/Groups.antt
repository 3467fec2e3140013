-- the groups of rows, and what one more row changes of them
use Rattle.std.proofs.Common.{◌≡◌, ℕ, suc, zero, ◌+◌, ◌-◌, ◌*◌, ◌^◌, ◌<◌, ◌≤◌, inl, inr, Bool, true, false, List, [], ◌∷◌, ◌++◌, length, map, filter, take, drop, get_or, None, Some, refl, ap, sym, ◌∙◌, subst, arith, append-nil, set}
use Rattle.std.specs.Prelude.{◌≢◌, All, AllPairs}
use Rattle.std.specs.List.{AllByRecursion, list_any}
use Rattle.std.proofs.Math.Nat.{mul-le-mul_right}
use Rattle.std.proofs.lemmas.Bool.{cases_Bool, cases_lt, cases_order}
use Rattle.std.proofs.lemmas.List.{take_at, drop_at, map_push, length-map, length-append, length_push, get_or-map, get_or_append_left, get_or-append-add, get_or-append_right, get_or_at, ext_get_or}
use Rattle.std.proofs.lemmas.List.Elements.{recursion_from_All}
use Rattle.std.proofs.lemmas.List.Folds.{Any-from_list_any}
use Rattle.std.proofs.lemmas.List.Quantifiers.{position-Some}
use Rattle.pm_values.specs.declared.value.Value.{Value}
use Rattle.pm_values.specs.declared.value.Value.TheVariants as value
use Rattle.pm_values.specs.Row.{Row, cell, pick}
use Rattle.pm_values.specs.Equality.{same_values}
use Rattle.pm_values.specs.Keys.{different_keys, once}
use Rattle.pm_values.proofs.KeyCounts.{different_keys_are_its_keys, different_keys_differ}
use Rattle.pm_values.proofs.ValueOrder.{same_values_equal}
use Rattle.pm_keys.specs.Cuts.{cut}
use Rattle.pm_keys.specs.Numbers.{KeyList, number_of, entered, HasWidth}
use Rattle.pm_keys.proofs.Cuts.{length-cut, cut-wide, cut-cell}
use Rattle.pm_keys.proofs.Chained.{entered-new, entered-old}
use Rattle.pm_keys.proofs.Entered.{entered-different, absent-unnumbered}
use Rattle.pm_keys.proofs.Found.{absent_nowhere}
use Rattle.pm_plan.specs.declared.plan.Aggregate.{Aggregate}
use Rattle.pm_plan.specs.declared.plan.Aggregate.TheVariants as aggregate
use Rattle.pm_plan.specs.Joins.{keys_of}
use Rattle.pm_plan.specs.Grouping.{aggregate_of, grouped, group_row}
use Rattle.pm_plan.proofs.Appends.{one_if, rows_of_key-more}
use Rattle.pm_blocks.specs.SortedNumbers.{row_at}
use Rattle.pm_blocks.specs.GroupState.{GroupState, IsOf, IsKept, side_by_side, found_keys}
use Rattle.pm_blocks.specs.Limits.{AreFew}
use Rattle.pm_blocks.specs.Accumulators.{item_at, with_row, IsAdded, HasRoom}
use Rattle.pm_blocks.proofs.Aggregates.{aggregate_of-more, filter-all, HasRoom-some}
use Rattle.pm_blocks.proofs.Sorts.{filter-none}

-- ---- lists side by side

pub length-side_by_side : (keys rows : List Row) → length rows ≡ length keys → length (side_by_side keys rows) ≡ length keys
length-side_by_side [] rows e = refl
length-side_by_side (key ∷ keys) [] e = absurd (omega (arith, e))
length-side_by_side (key ∷ keys) (next ∷ others) e = ap suc (length-side_by_side keys others (omega (arith, e)))

pub get_or-side_by_side : (keys rows : List Row) (i : ℕ) → i < length keys → length rows ≡ length keys → get_or (side_by_side keys rows) i [] ≡ row_at keys i ++ row_at rows i
get_or-side_by_side [] rows i h e = absurd (omega arith)
get_or-side_by_side (key ∷ keys) [] i h e = absurd (omega (arith, e))
get_or-side_by_side (key ∷ keys) (next ∷ others) zero h e = refl
get_or-side_by_side (key ∷ keys) (next ∷ others) (suc i) h e = get_or-side_by_side keys others i (omega arith) (omega (arith, e))

side_by_side-map : (f : Row → Row) (keys : List Row) → map (λ key. key ++ f key) keys ≡ side_by_side keys (map f keys)
side_by_side-map f [] = refl
side_by_side-map f (key ∷ keys) = ap (λ rest. (key ++ f key) ∷ rest) (side_by_side-map f keys)

-- keys of one width are told from what stands beside them
side_by_side-parts : (width : ℕ) (keys ks rows ts : List Row) → AllByRecursion (HasWidth width) keys → AllByRecursion (HasWidth width) ks
    → length rows ≡ length keys → length ts ≡ length ks → side_by_side keys rows ≡ side_by_side ks ts → (keys ≡ ks) × (rows ≡ ts)
side_by_side-parts width [] [] [] [] wide wides l m e = (refl, refl)
side_by_side-parts width [] [] [] (t ∷ ts) wide wides l m e = absurd (omega (arith, m))
side_by_side-parts width [] [] (next ∷ others) ts wide wides l m e = absurd (omega (arith, l))
side_by_side-parts width [] (k ∷ ks) rows [] wide wides l m e = absurd (omega (arith, m))
side_by_side-parts width [] (k ∷ ks) rows (t ∷ ts) wide wides l m e = absurd (cc e)
side_by_side-parts width (key ∷ keys) ks [] ts wide wides l m e = absurd (omega (arith, l))
side_by_side-parts width (key ∷ keys) [] (next ∷ others) ts wide wides l m e = absurd (cc e)
side_by_side-parts width (key ∷ keys) (k ∷ ks) (next ∷ others) [] wide wides l m e = absurd (omega (arith, m))
side_by_side-parts width (key ∷ keys) (k ∷ ks) (next ∷ others) (t ∷ ts) wide wides l m e =
    let first : key ++ next ≡ k ++ t = cc e in
    let rest = side_by_side-parts width keys ks others ts wide.1 wides.1 (omega (arith, l)) (omega (arith, m)) (cc e) in
    let same : key ≡ k = sym (take_at key next width wide.0) ∙ ap (take width) first ∙ take_at k t width wides.0 in
    let beside : next ≡ t = sym (drop_at key next width wide.0) ∙ ap (drop width) first ∙ drop_at k t width wides.0 in
    (ap (λ r. r ∷ keys) same ∙ ap (λ rs. k ∷ rs) rest.0, ap (λ r. r ∷ others) beside ∙ ap (λ rs. t ∷ rs) rest.1)

-- ---- the keys that were found

once-all : (P : Row → Type 0) (same : Row → Row → Bool) (xs : List Row) → AllByRecursion P xs → AllByRecursion P (once same xs)
once-all P same [] all = tt
once-all P same (x ∷ xs) all = (all.0, filter-all P _ (once same xs) (once-all P same xs all.1))

found_keys-wide : (keys : List ℕ) (rows : List Row) → AllByRecursion (HasWidth (length keys)) (found_keys keys rows)
found_keys-wide [] rows = (refl, tt)
found_keys-wide (key ∷ keys) rows = once-all (HasWidth (length (key ∷ keys))) same_values (keys_of (key ∷ keys) rows) (picked rows)
  where
    picked : (some : List Row) → AllByRecursion (HasWidth (length (key ∷ keys))) (keys_of (key ∷ keys) some)
    picked [] = tt
    picked (row ∷ some) = (length-map (key ∷ keys) (λ column. cell row column), picked some)

pub found_keys-more : (keys : List ℕ) (rows : List Row) (row : Row) → entered (pick keys row) (found_keys keys rows) ≡ found_keys keys (rows ++ row ∷ [])
found_keys-more [] rows row = refl
found_keys-more (key ∷ keys) rows row =
    entered-different (pick (key ∷ keys) row) (keys_of (key ∷ keys) rows) ∙ ap different_keys (sym (map_push (pick (key ∷ keys)) rows row))

-- ---- the rows of a key

abbrev pub rows_with : List ℕ → Row → List Row → List Row
rows_with keys key rows = filter (λ row. same_values key (pick keys row)) rows

abbrev pub aggregates_of : List ℕ → List Aggregate → List Row → Row → Row
aggregates_of keys items rows key = map (aggregate_of (rows_with keys key rows)) items

rows_with-none : (keys : List ℕ) (rows : List Row) (row : Row) → number_of (pick keys row) (found_keys keys rows) ≡ None → rows_with keys (pick keys row) rows ≡ []
rows_with-none [] rows row none = absurd (cc none)
rows_with-none (key ∷ keys) rows row none =
    elim (cases_Bool (list_any test rows)) [
      | inl some ↦ let found = Any-from_list_any test rows some in
          absurd (absent-unnumbered picked (different_keys (keys_of (key ∷ keys) rows)) none
          ((different_keys_are_its_keys picked (keys_of (key ∷ keys) rows)).1 (
            found.0,
            omega (arith, length-map rows (pick (key ∷ keys)), found.2),
            get_or-map (pick (key ∷ keys)) rows found.0 found.1 picked found.2 ∙ ap (pick (key ∷ keys)) found.3
                ∙ sym ((same_values_equal picked (pick (key ∷ keys) found.1)).0 found.4),
          )))
      | inr nowhere ↦ filter-none test rows nowhere
    ]
  where
    picked : Row
    picked = pick (key ∷ keys) row

    test : Row → Bool
    test r = same_values picked (pick (key ∷ keys) r)

-- of a key that is the new row's, and of another one
aggregate-same : (keys : List ℕ) (item : Aggregate) (rows : List Row) (row key : Row) → same_values key (pick keys row) ≡ true
    → aggregate_of (rows_with keys key (rows ++ row ∷ [])) item ≡ with_row row item (aggregate_of (rows_with keys key rows) item)
aggregate-same keys item rows row key e =
    ap (λ some. aggregate_of some item) (rows_of_key-more keys key row rows ∙ ap (λ b. rows_with keys key rows ++ one_if b row) e) ∙ aggregate_of-more item (rows_with keys key rows) row

aggregate-other : (keys : List ℕ) (item : Aggregate) (rows : List Row) (row key : Row) → key ≢ pick keys row
    → aggregate_of (rows_with keys key (rows ++ row ∷ [])) item ≡ aggregate_of (rows_with keys key rows) item
aggregate-other keys item rows row key differ =
    ap (λ some. aggregate_of some item)
    (rows_of_key-more keys key row rows ∙ ap (λ b. rows_with keys key rows ++ one_if b row) (unlike key (pick keys row) differ) ∙ append-nil (rows_with keys key rows))
  where
    unlike : (a b : Row) → a ≢ b → same_values a b ≡ false
    unlike a b apart = elim (cases_Bool (same_values a b)) [ inl t ↦ absurd (apart ((same_values_equal a b).0 t)) | inr f ↦ f ]

-- ---- the groups

pub grouped-side_by_side : (keys : List ℕ) (items : List Aggregate) (rows : List Row) → grouped keys items rows ≡ side_by_side (found_keys keys rows) (map (aggregates_of keys items rows) (found_keys keys rows))
grouped-side_by_side [] items rows = ap (λ some. map (aggregate_of some) items ∷ []) (sym (all rows))
  where
    all : (some : List Row) → rows_with [] [] some ≡ some
    all [] = refl
    all (row ∷ some) = ap (λ rest. row ∷ rest) (all some)
grouped-side_by_side (key ∷ keys) items rows = side_by_side-map (aggregates_of (key ∷ keys) items rows) (found_keys (key ∷ keys) rows)

-- the aggregates of the rows of each key stand in one list
pub record AreAccumulated (keys : List ℕ) (items : List Aggregate) (rows found : List Row) (accumulators : List Value) : Type 0 where
  pub whole : length accumulators ≡ length found * length items
  pub each : (i k : ℕ) → i < length found → k < length items → cell accumulators (i * length items + k) ≡ aggregate_of (rows_with keys (row_at found i) rows) (item_at items k)

cell-aggregates_of : (keys : List ℕ) (items : List Aggregate) (rows found : List Row) (i k : ℕ) → i < length found → k < length items
    → cell (row_at (map (aggregates_of keys items rows) found) i) k ≡ aggregate_of (rows_with keys (row_at found i) rows) (item_at items k)
cell-aggregates_of keys items rows found i k h g =
    ap (λ row. cell row k) (get_or-map (aggregates_of keys items rows) found i [] [] h)
    ∙ get_or-map (aggregate_of (rows_with keys (row_at found i) rows)) items k aggregate.CountAll value.Null g

AreAccumulated-from : (keys : List ℕ) (items : List Aggregate) (rows found : List Row) (accumulators : List Value) → length accumulators ≡ length found * length items
    → cut (length items) (length found) accumulators ≡ map (aggregates_of keys items rows) found → AreAccumulated keys items rows found accumulators
AreAccumulated-from keys items rows found accumulators whole e = record {
  whole = whole;
  each = λ i k h g. sym (cut-cell (length items) (length found) accumulators i k h g) ∙ ap (λ rs. cell (row_at rs i) k) e ∙ cell-aggregates_of keys items rows found i k h g;
}

cut-accumulators : (keys : List ℕ) (items : List Aggregate) (rows found : List Row) (accumulators : List Value) → AreAccumulated keys items rows found accumulators
    → cut (length items) (length found) accumulators ≡ map (aggregates_of keys items rows) found
cut-accumulators keys items rows found accumulators all =
    ext_get_or [] (cut (length items) (length found) accumulators) (map (aggregates_of keys items rows) found)
    (length-cut (length items) (length found) accumulators ∙ sym (length-map found (aggregates_of keys items rows)))
    (λ i h. row i (omega (arith, length-cut (length items) (length found) accumulators)))
  where
    wide : (i : ℕ) → i < length found → length (row_at (cut (length items) (length found) accumulators) i) ≡ length items
    wide i h = cut-wide (length items) (length found) accumulators all.whole i [] (omega (arith, length-cut (length items) (length found) accumulators))

    row : (i : ℕ) → i < length found → row_at (cut (length items) (length found) accumulators) i ≡ row_at (map (aggregates_of keys items rows) found) i
    row i h =
        ext_get_or value.Null (row_at (cut (length items) (length found) accumulators) i) (row_at (map (aggregates_of keys items rows) found) i)
        (wide i h ∙ sym (ap length (get_or-map (aggregates_of keys items rows) found i [] [] h) ∙ length-map items (aggregate_of (rows_with keys (row_at found i) rows))))
        (λ k g. let inside : k < length items = omega (arith, wide i h) in
        cut-cell (length items) (length found) accumulators i k h inside ∙ all.each i k h inside ∙ sym (cell-aggregates_of keys items rows found i k h inside))

-- what is kept is the groups of the rows, where their keys and aggregates are
pub grouped-from : (keys : List ℕ) (items : List Aggregate) (rows found : List Row) (accumulators : List Value) → found ≡ found_keys keys rows → AreAccumulated keys items rows found accumulators
    → side_by_side found (cut (length items) (length found) accumulators) ≡ grouped keys items rows
grouped-from keys items rows found accumulators e all =
    ap (side_by_side found) (cut-accumulators keys items rows found accumulators all)
    ∙ ap (λ ks. side_by_side ks (map (aggregates_of keys items rows) ks)) e ∙ sym (grouped-side_by_side keys items rows)

-- and the other way round
pub record AreGroups (keys : List ℕ) (items : List Aggregate) (rows found : List Row) (accumulators : List Value) : Type 0 where
  pub found_all : found ≡ found_keys keys rows
  pub accumulated : AreAccumulated keys items rows found accumulators

pub AreGroups-from : (keys : List ℕ) (items : List Aggregate) (rows found : List Row) (accumulators : List Value) → All (HasWidth (length keys)) found
    → length accumulators ≡ length found * length items → side_by_side found (cut (length items) (length found) accumulators) ≡ grouped keys items rows → AreGroups keys items rows found accumulators
AreGroups-from keys items rows found accumulators wide whole e =
    let parts = side_by_side-parts (length keys) found (found_keys keys rows) (cut (length items) (length found) accumulators) (map (aggregates_of keys items rows) (found_keys keys rows))
    (recursion_from_All (HasWidth (length keys)) found wide) (found_keys-wide keys rows)
    (length-cut (length items) (length found) accumulators) (length-map (found_keys keys rows) (aggregates_of keys items rows))
    (e ∙ grouped-side_by_side keys items rows) in
    record {
      found_all = parts.0;
      accumulated = AreAccumulated-from keys items rows found accumulators whole (parts.1 ∙ ap (map (aggregates_of keys items rows)) (sym parts.0));
    }

-- ---- one more row

-- a group's aggregates stand before those of a later one
pub group_before : (width i n : ℕ) → i < n → i * width + width ≤ n * width
group_before width i n h = omega (arith, next i, mul-le-mul_right {m = suc i} {n = n} width (omega arith))
  where
    next : (j : ℕ) → suc j * width ≡ j * width + width
    next j = grind arith

-- of a group that is there
pub AreGroups-old : (keys : List ℕ) (items : List Aggregate) (rows found : List Row) (accumulators changed : List Value) (row : Row) (n : ℕ) → AreGroups keys items rows found accumulators
    → AllPairs (λ a b. a ≢ b) found → number_of (pick keys row) found ≡ Some n → IsAdded row items (n * length items) accumulators changed → AreGroups keys items (rows ++ row ∷ []) found changed
AreGroups-old keys items rows found accumulators changed row n groups different at added = record {
  found_all = sym (entered-old (pick keys row) found n at) ∙ ap (entered (pick keys row)) groups.found_all ∙ found_keys-more keys rows row;
  accumulated = record { whole = added.length_kept ∙ groups.accumulated.whole; each = each };
}
  where
    there : (n < length found) × (same_values (pick keys row) (row_at found n) ≡ true)
    there = let p = position-Some (same_values (pick keys row)) found n [] at in (p.0, p.1)

    same : pick keys row ≡ row_at found n
    same = (same_values_equal (pick keys row) (row_at found n)).0 there.1

    each : (i k : ℕ) → i < length found → k < length items
        → cell changed (i * length items + k) ≡ aggregate_of (rows_with keys (row_at found i) (rows ++ row ∷ [])) (item_at items k)
    each i k h g =
        let item : Aggregate = item_at items k in
        elim (cases_order i n) [
          | inl e ↦
              ap (λ j. cell changed (j * length items + k)) e ∙ added.changed k g ∙ ap (with_row row item) (groups.accumulated.each n k there.0 g)
              ∙ sym (aggregate-same keys item rows row (row_at found n) ((same_values_equal (row_at found n) (pick keys row)).1 (sym same)))
              ∙ ap (λ j. aggregate_of (rows_with keys (row_at found j) (rows ++ row ∷ [])) item) (sym e)
          | inr (inl before) ↦
              added.others (i * length items + k) (inl (omega (arith, group_before (length items) i n before))) ∙ groups.accumulated.each i k h g
              ∙ sym (aggregate-other keys item rows row (row_at found i) (λ e. different i n [] before there.0 (e ∙ same)))
          | inr (inr after) ↦
              added.others (i * length items + k) (inr (omega (arith, group_before (length items) n i after))) ∙ groups.accumulated.each i k h g
              ∙ sym (aggregate-other keys item rows row (row_at found i) (λ e. different n i [] after h (sym (e ∙ same))))
        ]

-- of a new group
pub AreGroups-new : (keys : List ℕ) (items : List Aggregate) (rows found : List Row) (accumulators : List Value) (row : Row) → AreGroups keys items rows found accumulators
    → number_of (pick keys row) found ≡ None
    → AreGroups keys items (rows ++ row ∷ []) (found ++ pick keys row ∷ []) (accumulators ++ map (λ item. with_row row item (aggregate_of [] item)) items)
AreGroups-new keys items rows found accumulators row groups absent = record {
  found_all = sym (entered-new key found absent) ∙ ap (entered key) groups.found_all ∙ found_keys-more keys rows row;
  accumulated = record { whole = whole; each = each };
}
  where
    key : Row
    key = pick keys row

    first : List Value
    first = map (λ item. with_row row item (aggregate_of [] item)) items

    whole : length (accumulators ++ first) ≡ length (found ++ key ∷ []) * length items
    whole =
        length-append accumulators first ∙ ap (λ n. n + length first) groups.accumulated.whole ∙ ap (λ n. length found * length items + n) (length-map items (λ item. with_row row item (aggregate_of [] item)))
        ∙ next (length found) ∙ ap (λ n. n * length items) (sym (length_push found key))
      where
        next : (n : ℕ) → n * length items + length items ≡ (n + 1) * length items
        next n = grind arith

    each : (i k : ℕ) → i < length (found ++ key ∷ []) → k < length items
        → cell (accumulators ++ first) (i * length items + k) ≡ aggregate_of (rows_with keys (row_at (found ++ key ∷ []) i) (rows ++ row ∷ [])) (item_at items k)
    each i k h g =
        let item : Aggregate = item_at items k in
        elim (cases_lt i (length found)) [
          | inl before ↦
              get_or_append_left accumulators first value.Null (i * length items + k) (omega (arith, groups.accumulated.whole, group_before (length items) i (length found) before))
              ∙ groups.accumulated.each i k before g ∙ sym (aggregate-other keys item rows row (row_at found i) (absent_nowhere key found absent i before))
              ∙ ap (λ r. aggregate_of (rows_with keys r (rows ++ row ∷ [])) item) (sym (get_or_append_left found (key ∷ []) [] i before))
          | inr past ↦ let last : i ≡ length found = omega (arith, length_push found key) in
              ap (λ j. cell (accumulators ++ first) (j * length items + k)) last ∙ ap (λ n. cell (accumulators ++ first) (n + k)) (sym groups.accumulated.whole)
              ∙ get_or-append-add accumulators first k value.Null ∙ get_or-map (λ a. with_row row a (aggregate_of [] a)) items k aggregate.CountAll value.Null g
              ∙ ap (λ some. with_row row item (aggregate_of some item)) (sym (rows_with-none keys rows row (ap (number_of key) (sym groups.found_all) ∙ absent)))
              ∙ sym (aggregate-same keys item rows row key ((same_values_equal key key).1 refl))
              ∙ ap (λ r. aggregate_of (rows_with keys r (rows ++ row ∷ [])) item) (sym (get_or_at found key [] [] i (sym last)))
        ]

-- ---- what is kept

pub length-groups : (width : ℕ) (found : List Row) (accumulators : List Value) → length (side_by_side found (cut width (length found) accumulators)) ≡ length found
length-groups width found accumulators = length-side_by_side found (cut width (length found) accumulators) (length-cut width (length found) accumulators)

group_is : (width : ℕ) (found : List Row) (accumulators : List Value) (n : ℕ) → n < length found
    → row_at (side_by_side found (cut width (length found) accumulators)) n ≡ row_at found n ++ row_at (cut width (length found) accumulators) n
group_is width found accumulators n h = get_or-side_by_side found (cut width (length found) accumulators) n h (length-cut width (length found) accumulators)

-- a group's cells are those of its key, and then its aggregates
pub cell-key : (width w : ℕ) (found : List Row) (accumulators : List Value) (n column : ℕ) → All (HasWidth width) found → n < length found → column < width
    → cell (row_at (side_by_side found (cut w (length found) accumulators)) n) column ≡ cell (row_at found n) column
cell-key width w found accumulators n column wide h g =
    ap (λ row. cell row column) (group_is w found accumulators n h)
    ∙ get_or_append_left (row_at found n) (row_at (cut w (length found) accumulators) n) value.Null column (omega (arith, wide n [] h))

pub cell-accumulator : (width w : ℕ) (found : List Row) (accumulators : List Value) (n column : ℕ) → All (HasWidth width) found → n < length found → width ≤ column → column < width + w
    → cell (row_at (side_by_side found (cut w (length found) accumulators)) n) column ≡ cell accumulators (n * w + (column - width))
cell-accumulator width w found accumulators n column wide h low high =
    ap (λ row. cell row column) (group_is w found accumulators n h)
    ∙ get_or-append_right (row_at found n) (row_at (cut w (length found) accumulators) n) width column value.Null (wide n [] h) low
    ∙ cut-cell w (length found) accumulators n (column - width) h (omega arith)

-- of no rows
pub AreGroups-none : (key : ℕ) (keys : List ℕ) (items : List Aggregate) → AreGroups (key ∷ keys) items [] [] []
AreGroups-none key keys items = record { found_all = refl; accumulated = record { whole = omega arith; each = λ i k h g. absurd (omega arith) } }

pub AreGroups-one : (items : List Aggregate) → AreGroups [] items [] ([] ∷ []) (map (aggregate_of []) items)
AreGroups-one items = record {
  found_all = refl;
  accumulated = record { whole = length-map items (aggregate_of []) ∙ omega arith; each = each };
}
  where
    none : (n : ℕ) → 0 * n ≡ 0
    none n = grind arith

    each : (i k : ℕ) → i < 1 → k < length items → cell (map (aggregate_of []) items) (i * length items + k) ≡ aggregate_of (rows_with [] (row_at ([] ∷ []) i) []) (item_at items k)
    each zero k h g =
        ap (λ n. cell (map (aggregate_of []) items) (n + k)) (none (length items)) ∙ ap (cell (map (aggregate_of []) items)) (omega arith)
        ∙ get_or-map (aggregate_of []) items k aggregate.CountAll value.Null g
    each (suc i) k h g = absurd (omega arith)

-- a new key, from what was entered and pushed
pub AreGroups-started : (keys : List ℕ) (items : List Aggregate) (rows found more : List Row) (accumulators changed : List Value) (row : Row) → number_of (pick keys row) found ≡ None
    → more ≡ entered (pick keys row) found → changed ≡ accumulators ++ map (λ item. with_row row item (aggregate_of [] item)) items → AreGroups keys items rows found accumulators
    → AreGroups keys items (rows ++ row ∷ []) more changed
AreGroups-started keys items rows found more accumulators changed row absent put pushed groups =
    rw (put ∙ entered-new (pick keys row) found absent, pushed) (AreGroups-new keys items rows found accumulators row groups absent)

-- ---- the state

abbrev pub state_of : List ℕ → List Aggregate → List Row → List Value → Bool → ℕ → GroupState
state_of keys items found accumulators closed handed =
    record { keys = keys; items = items; groups = side_by_side found (cut (length items) (length found) accumulators); closed = closed; handed = handed }

-- after a row that was taken
pub state_of-more : (keys : List ℕ) (items : List Aggregate) (found more : List Row) (accumulators changed : List Value) (closed : Bool) (handed : ℕ) (row : Row) (state : GroupState)
    → state_of keys items found accumulators closed handed ≡ state → All (HasWidth (length keys)) found → length accumulators ≡ length found * length items
    → ((rows : List Row) → AreGroups keys items rows found accumulators → AreGroups keys items (rows ++ row ∷ []) more changed)
    → (rows : List Row) → IsOf state rows → state_of keys items more changed closed handed ≡ record state { groups = grouped state.keys state.items (rows ++ row ∷ []) }
state_of-more keys items found more accumulators changed closed handed row state e wide whole step =
    subst (λ (s : GroupState). (rows : List Row) → IsOf s rows → state_of keys items more changed closed handed ≡ record s { groups = grouped s.keys s.items (rows ++ row ∷ []) }) e
    (λ rows is. let groups = step rows (AreGroups-from keys items rows found accumulators wide whole is) in
    ap (λ (gs : List Row). record { keys = keys; items = items; groups = gs; closed = closed; handed = handed })
    (grouped-from keys items (rows ++ row ∷ []) more changed groups.found_all groups.accumulated))

-- a group's aggregates can take one more row
pub HasRoom-group : (keys : List ℕ) (items : List Aggregate) (rows found : List Row) (accumulators : List Value) (row : Row) (n : ℕ) → AreGroups keys items rows found accumulators → n < length found
    → AreFew items (rows ++ row ∷ []) → (k : ℕ) → k < length items → HasRoom row (item_at items k) (cell accumulators (n * length items + k))
HasRoom-group keys items rows found accumulators row n groups h few k g =
    subst (HasRoom row (item_at items k)) (sym (groups.accumulated.each n k h g))
    (HasRoom-some (λ r. same_values (row_at found n) (pick keys r)) (item_at items k) rows row few.few (few.summable k aggregate.CountAll g))

-- the key of a number is there
pub number_within : (key : Row) (found : List Row) (n : ℕ) → number_of key found ≡ Some n → n < length found
number_within key found n at = (position-Some (same_values key) found n [] at).0

-- of no rows: one group without columns, and none with some
pub grouped-one : (keys : List ℕ) (items : List Aggregate) (found : List Row) (accumulators : List Value) → keys ≡ [] → found ≡ [] ∷ [] → accumulators ≡ map (aggregate_of []) items
    → side_by_side found (cut (length items) (length found) accumulators) ≡ grouped keys items []
grouped-one keys items found accumulators none one all =
    rw (none, one, all) (let groups = AreGroups-one items in grouped-from [] items [] ([] ∷ []) (map (aggregate_of []) items) groups.found_all groups.accumulated)

pub grouped-none : (keys : List ℕ) (items : List Aggregate) (found : List Row) (accumulators : List Value) → 0 < length keys → found ≡ [] → side_by_side found (cut (length items) (length found) accumulators) ≡ grouped keys items []
grouped-none [] items found accumulators some none = absurd (omega arith)
grouped-none (key ∷ keys) items found accumulators some none = ap (λ ks. side_by_side ks (cut (length items) (length ks) accumulators)) none

-- what is kept of one more group
pub IsKept-started : (keys : List ℕ) (items : List Aggregate) (table next : KeyList) (accumulators pushed : List Value) (handed : ℕ) (key : Row) (first : List Value) → IsKept keys items table accumulators handed
    → length table.keys < 2 ^ 32 - 1 → number_of key table.keys ≡ None → next.width ≡ table.width → next.keys ≡ entered key table.keys → pushed ≡ accumulators ++ first → length first ≡ length items → IsKept keys items next pushed handed
IsKept-started keys items table next accumulators pushed handed key first kept room absent wide put longer e =
    let more : length next.keys ≡ length table.keys + 1 = ap length (put ∙ entered-new key table.keys absent) ∙ length_push table.keys key in
    record {
      width = wide ∙ kept.width;
      whole = ap length longer ∙ length-append accumulators first ∙ ap (λ n. n + length first) kept.whole ∙ ap (λ n. length table.keys * length items + n) e
          ∙ step (length table.keys) (length items) ∙ ap (λ n. n * length items) (sym more);
      few = kept.few;
      small = omega (arith, more, room);
      within = omega (arith, kept.within, more);
    }
  where
    step : (n w : ℕ) → n * w + w ≡ (n + 1) * w
    step n w = grind arith

-- ---- one more row of the definition

grouped-map : (keys : List ℕ) (items : List Aggregate) (rows : List Row) → grouped keys items rows ≡ map (group_row keys items rows) (found_keys keys rows)
grouped-map [] items rows = grouped-side_by_side [] items rows
grouped-map (key ∷ keys) items rows = refl

pub length-grouped : (keys : List ℕ) (items : List Aggregate) (rows : List Row) → length (grouped keys items rows) ≡ length (found_keys keys rows)
length-grouped keys items rows = ap length (grouped-map keys items rows) ∙ length-map (found_keys keys rows) (group_row keys items rows)

group_row-other : (keys : List ℕ) (items : List Aggregate) (rows : List Row) (row key : Row) → key ≢ pick keys row → group_row keys items (rows ++ row ∷ []) key ≡ group_row keys items rows key
group_row-other keys items rows row key differ = ap (λ accumulators. key ++ accumulators) (same items)
  where
    same : (some : List Aggregate) → aggregates_of keys some (rows ++ row ∷ []) key ≡ aggregates_of keys some rows key
    same [] = refl
    same (item ∷ some) = ap (λ first. first ∷ aggregates_of keys some (rows ++ row ∷ []) key) (aggregate-other keys item rows row key differ) ∙ ap (λ rest. aggregate_of (rows_with keys key rows) item ∷ rest) (same some)

group_rows-others : (keys : List ℕ) (items : List Aggregate) (rows : List Row) (row : Row) (some : List Row) → ((i : ℕ) → i < length some → row_at some i ≢ pick keys row)
    → map (group_row keys items (rows ++ row ∷ [])) some ≡ map (group_row keys items rows) some
group_rows-others keys items rows row [] differ = refl
group_rows-others keys items rows row (key ∷ some) differ =
    ap (λ first. first ∷ map (group_row keys items (rows ++ row ∷ [])) some) (group_row-other keys items rows row key (differ 0 (omega arith)))
    ∙ ap (λ rest. group_row keys items rows key ∷ rest) (group_rows-others keys items rows row some (λ i h. differ (suc i) (omega arith)))

-- a new key puts a group at the end
pub grouped-new : (keys : List ℕ) (items : List Aggregate) (rows : List Row) (row : Row) → number_of (pick keys row) (found_keys keys rows) ≡ None
    → grouped keys items (rows ++ row ∷ []) ≡ grouped keys items rows ++ group_row keys items (rows ++ row ∷ []) (pick keys row) ∷ []
grouped-new keys items rows row absent =
    let key : Row = pick keys row in
    let more = group_row keys items (rows ++ row ∷ []) in
    grouped-map keys items (rows ++ row ∷ [])
    ∙ ap (map more) (sym (found_keys-more keys rows row) ∙ entered-new key (found_keys keys rows) absent)
    ∙ map_push more (found_keys keys rows) key
    ∙ ap (λ some. some ++ more key ∷ []) (group_rows-others keys items rows row (found_keys keys rows) (absent_nowhere key (found_keys keys rows) absent) ∙ sym (grouped-map keys items rows))

-- a key that is there changes its group alone
set-map : (f h : Row → Row) (keys : List Row) (n : ℕ) → n < length keys → ((i : ℕ) → i < length keys → i ≢ n → f (row_at keys i) ≡ h (row_at keys i)) → map f keys ≡ set (map h keys) n (f (row_at keys n))
set-map f h [] n within same = absurd (omega arith)
set-map f h (key ∷ keys) zero within same = ap (λ rest. f key ∷ rest) (others keys (λ i h. same (suc i) (omega arith) (λ e. absurd (omega (arith, e)))))
  where
    others : (some : List Row) → ((i : ℕ) → i < length some → f (row_at some i) ≡ h (row_at some i)) → map f some ≡ map h some
    others [] all = refl
    others (k ∷ some) all = ap (λ first. first ∷ map f some) (all 0 (omega arith)) ∙ ap (λ rest. h k ∷ rest) (others some (λ i g. all (suc i) (omega arith)))
set-map f h (key ∷ keys) (suc n) within same =
    ap (λ first. first ∷ map f keys) (same 0 (omega arith) (λ e. absurd (omega (arith, e))))
    ∙ ap (λ rest. h key ∷ rest) (set-map f h keys n (omega arith) (λ i g differ. same (suc i) (omega arith) (λ e. differ (omega (arith, e)))))

found_keys-differ : (keys : List ℕ) (rows : List Row) → AllPairs (λ a b. a ≢ b) (found_keys keys rows)
found_keys-differ [] rows = λ i j d h g. absurd (omega arith)
found_keys-differ (key ∷ keys) rows = different_keys_differ (keys_of (key ∷ keys) rows)

pub grouped-old : (keys : List ℕ) (items : List Aggregate) (rows : List Row) (row : Row) (n : ℕ) → number_of (pick keys row) (found_keys keys rows) ≡ Some n
    → grouped keys items (rows ++ row ∷ []) ≡ set (grouped keys items rows) n (group_row keys items (rows ++ row ∷ []) (pick keys row))
grouped-old keys items rows row n at =
    let key : Row = pick keys row in
    let found : List Row = found_keys keys rows in
    let more = group_row keys items (rows ++ row ∷ []) in
    let there = position-Some (same_values key) found n [] at in
    let same : key ≡ row_at found n = (same_values_equal key (row_at found n)).0 there.1 in
    grouped-map keys items (rows ++ row ∷ [])
    ∙ ap (map more) (sym (found_keys-more keys rows row) ∙ entered-old key found n at)
    ∙ set-map more (group_row keys items rows) found n there.0
    (λ i h differ. group_row-other keys items rows row (row_at found i) (λ e. apart found n i there.0 h differ (found_keys-differ keys rows) (e ∙ same)))
    ∙ ap (λ k. set (map (group_row keys items rows) found) n (more k)) (sym same) ∙ ap (λ some. set some n (more key)) (sym (grouped-map keys items rows))
  where
    apart : (found : List Row) (n i : ℕ) → n < length found → i < length found → i ≢ n → AllPairs (λ a b. a ≢ b) found → row_at found i ≡ row_at found n → ⊥
    apart found n i g h differ all e =
        elim (cases_order i n) [
          | inl same ↦ differ same
          | inr (inl before) ↦ all i n [] before g e
          | inr (inr after) ↦ all n i [] after h (sym e)
        ]
