-- one more row at the end: what the keys, aggregates, multiplicities and joins of the longer list are
use Rattle.std.proofs.Common.{◌≡◌, ◌⊎◌, inl, inr, ℕ, ◌+◌, Bool, true, false, not, ◌||◌, if◌then◌else◌, List, [], ◌∷◌, ◌++◌, length, map, filter, max, refl, sym, ap, ◌∙◌, subst, arith, length-append}
use Rattle.std.proofs.Math.IntN.{+ℤ_assoc}
use Rattle.std.proofs.lemmas.Bool.{false≢true}
use Rattle.std.proofs.lemmas.Grind.{flat_map-append}
use Rattle.std.proofs.lemmas.List.{append-nil, map-append}
use Rattle.std.proofs.lemmas.List.Elements.{filter-append}
use Rattle.std.proofs.lemmas.List.MinMax.{ranks_by, IsStrictWeakOrder-flip}
use Rattle.std.specs.Cmp.{IsStrictWeakOrder}
use Rattle.std.specs.List.{list_any}
use Rattle.std.specs.Prelude.{pos}
use Rattle.pm_values.specs.declared.value.Value.{Value}
use Rattle.pm_values.specs.declared.value.Value.TheVariants as value
use Rattle.pm_values.specs.Row.{Row, cell, pick}
use Rattle.pm_values.specs.Order.{value_cmp, is_less}
use Rattle.pm_values.specs.Equality.{is_null, same_key, same_values}
use Rattle.pm_values.specs.Keys.{multiplicity as key_multiplicity, greatest_multiplicity, worst as worst_key, once}
use Rattle.pm_values.proofs.ValueOrder.{value_cmp_total}
use Rattle.pm_values.proofs.Keys.{same_key_equal}
use Rattle.pm_plan.specs.declared.plan.Pair.{Pair}
use Rattle.pm_plan.specs.declared.plan.Aggregate.TheVariants as aggregate
use Rattle.pm_plan.specs.Tree.{Method}
use Rattle.pm_plan.specs.Joins.{left_columns, right_columns, keys_of, matches, joined_rows, rows_for, joined_by, join, multiplicity, worst}
use Rattle.pm_plan.specs.Grouping.{column_values, plus, lesser, greater, folded, aggregate_of, group_keys}
use Rattle.pm_plan.proofs.Tests.{split}

-- the item alone where the test passes
abbrev pub one_if : {A : Type 0} → Bool → A → List A
one_if b x = if b then x ∷ [] else []

-- ---- joins

-- of one more left row
pub joined_by-more_left : (method : Method) (pairs : List Pair) (width : ℕ) (lefts rights : List Row) (l : Row)
    → joined_by method pairs width (lefts ++ l ∷ []) rights ≡ joined_by method pairs width lefts rights ++ rows_for method pairs width rights l
joined_by-more_left method pairs width lefts rights l =
    flat_map-append (rows_for method pairs width rights) lefts (l ∷ []) ∙ ap (λ rows. joined_by method pairs width lefts rights ++ rows) (append-nil (rows_for method pairs width rights l))

pub join-more_left : (pairs : List Pair) (lefts rights : List Row) (l : Row) → join pairs (lefts ++ l ∷ []) rights ≡ join pairs lefts rights ++ joined_rows pairs rights l
join-more_left pairs lefts rights l =
    flat_map-append (joined_rows pairs rights) lefts (l ∷ []) ∙ ap (λ rows. join pairs lefts rights ++ rows) (append-nil (joined_rows pairs rights l))

-- of one more right row
pub matches-more_right : (pairs : List Pair) (l r : Row) (rights : List Row)
    → matches pairs l (rights ++ r ∷ []) ≡ matches pairs l rights ++ one_if (same_key (pick (left_columns pairs) l) (pick (right_columns pairs) r)) r
matches-more_right pairs l r rights = filter-append (λ q. same_key (pick (left_columns pairs) l) (pick (right_columns pairs) q)) rights (r ∷ [])

pub joined_rows-more_right : (pairs : List Pair) (l r : Row) (rights : List Row)
    → joined_rows pairs (rights ++ r ∷ []) l ≡ joined_rows pairs rights l ++ one_if (same_key (pick (left_columns pairs) l) (pick (right_columns pairs) r)) (l ++ r)
joined_rows-more_right pairs l r rights =
    ap (map (λ q. l ++ q)) (matches-more_right pairs l r rights)
    ∙ map-append (λ q. l ++ q) (matches pairs l rights) (one_if (same_key (pick (left_columns pairs) l) (pick (right_columns pairs) r)) r)
    ∙ ap (λ rows. joined_rows pairs rights l ++ rows) (mapped (same_key (pick (left_columns pairs) l) (pick (right_columns pairs) r)))
  where
    mapped : (b : Bool) → map (λ q. l ++ q) (one_if b r) ≡ one_if b (l ++ r)
    mapped true = refl
    mapped false = refl

-- ---- multiplicities

keys_of-append : (columns : List ℕ) (rows : List Row) (row : Row) → keys_of columns (rows ++ row ∷ []) ≡ keys_of columns rows ++ pick columns row ∷ []
keys_of-append columns rows row = map-append (pick columns) rows (row ∷ [])

key_multiplicity-more : (key k : Row) (keys : List Row) → key_multiplicity key (keys ++ k ∷ []) ≡ key_multiplicity key keys + (if same_key key k then 1 else 0)
key_multiplicity-more key k keys =
    ap length (filter-append (same_key key) keys (k ∷ [])) ∙ length-append (filter (same_key key) keys) (one_if (same_key key k) k)
    ∙ ap (λ n. key_multiplicity key keys + n) (counted (same_key key k))
  where
    counted : (b : Bool) → length (one_if b k) ≡ (if b then 1 else 0)
    counted true = refl
    counted false = refl

pub multiplicity-more : (columns : List ℕ) (key row : Row) (rows : List Row)
    → multiplicity columns key (rows ++ row ∷ []) ≡ multiplicity columns key rows + (if same_key key (pick columns row) then 1 else 0)
multiplicity-more columns key row rows = ap (key_multiplicity key) (keys_of-append columns rows row) ∙ key_multiplicity-more key (pick columns row) (keys_of columns rows)

-- a key that is not the new one is as often there as before
greatest-more : (k : Row) (some all : List Row)
    → max (greatest_multiplicity some (all ++ k ∷ [])) (key_multiplicity k (all ++ k ∷ [])) ≡ max (greatest_multiplicity some all) (key_multiplicity k (all ++ k ∷ []))
greatest-more k [] all = refl
greatest-more k (key ∷ some) all =
    split (same_key key k) (λ b. key_multiplicity key (all ++ k ∷ []) ≡ key_multiplicity key all + (if b then 1 else 0)
    → max (max (key_multiplicity key (all ++ k ∷ [])) (greatest_multiplicity some (all ++ k ∷ []))) (key_multiplicity k (all ++ k ∷ []))
    ≡ max (max (key_multiplicity key all) (greatest_multiplicity some all)) (key_multiplicity k (all ++ k ∷ [])))
    (λ e m. let same = ap (λ q. key_multiplicity q (all ++ k ∷ [])) ((same_key_equal key k).0 e).0 in omega (arith, greatest-more k some all))
    (λ e m. omega (arith, greatest-more k some all))
    (key_multiplicity-more key k all)

greatest-append : (k : Row) (some all : List Row) → greatest_multiplicity (some ++ k ∷ []) all ≡ max (greatest_multiplicity some all) (key_multiplicity k all)
greatest-append k [] all = omega arith
greatest-append k (key ∷ some) all = omega (arith, greatest-append k some all)

-- the greatest multiplicity is the one before, or that of the new row's key
pub worst-more : (columns : List ℕ) (row : Row) (rows : List Row)
    → worst columns (rows ++ row ∷ []) ≡ max (worst columns rows) (multiplicity columns (pick columns row) (rows ++ row ∷ []))
worst-more columns row rows =
    let keys : List Row = keys_of columns rows in
    let k : Row = pick columns row in
    ap worst_key (keys_of-append columns rows row) ∙ greatest-append k keys (keys ++ k ∷ []) ∙ greatest-more k keys keys
    ∙ ap (λ all. max (worst columns rows) (key_multiplicity k all)) (sym (keys_of-append columns rows row))

-- ---- groups

-- the key of one more row comes last, unless it was there
once-more : (same : Row → Row → Bool) (y : Row) (xs : List Row) → once same (xs ++ y ∷ []) ≡ once same xs ++ one_if (not (list_any (λ x. same x y) xs)) y
once-more same y [] = refl
once-more same y (x ∷ xs) =
    ap (λ rest. x ∷ filter (λ z. not (same x z)) rest) (once-more same y xs)
    ∙ ap (λ rest. x ∷ rest)
    (filter-append (λ z. not (same x z)) (once same xs) (one_if (not (list_any (λ z. same z y) xs)) y)
    ∙ ap (λ rest. filter (λ z. not (same x z)) (once same xs) ++ rest) (last (list_any (λ z. same z y) xs)))
  where
    apart : (c : Bool) → (if not c then y ∷ [] else []) ≡ one_if (not (c || false)) y
    apart true = refl
    apart false = refl

    last : (b : Bool) → filter (λ z. not (same x z)) (one_if (not b) y) ≡ one_if (not (same x y || b)) y
    last true = elim (same x y) as (λ c. [] ≡ one_if (not (c || true)) y) [ true ↦ refl | false ↦ refl ]
    last false = apart (same x y)

pub group_keys-more : (keys : List ℕ) (row : Row) (rows : List Row)
    → group_keys keys (rows ++ row ∷ []) ≡ group_keys keys rows ++ one_if (not (list_any (λ key. same_values key (pick keys row)) (keys_of keys rows))) (pick keys row)
group_keys-more keys row rows = ap (once same_values) (keys_of-append keys rows row) ∙ once-more same_values (pick keys row) (keys_of keys rows)

-- the rows of a key
pub rows_of_key-more : (keys : List ℕ) (key row : Row) (rows : List Row)
    → filter (λ r. same_values key (pick keys r)) (rows ++ row ∷ []) ≡ filter (λ r. same_values key (pick keys r)) rows ++ one_if (same_values key (pick keys row)) row
rows_of_key-more keys key row rows = filter-append (λ r. same_values key (pick keys r)) rows (row ∷ [])

-- ---- aggregates

-- an operation with NULL as its beginning may be done in parts
module _ (f : Value → Value → Value) (begins : (v : Value) → f value.Null v ≡ v) (joins : (a b c : Value) → f a (f b c) ≡ f (f a b) c) where
  folded-append : (xs ys : List Value) → folded f (xs ++ ys) ≡ f (folded f xs) (folded f ys)
  folded-append [] ys = sym (begins (folded f ys))
  folded-append (x ∷ xs) ys = ap (f x) (folded-append xs ys) ∙ joins x (folded f xs) (folded f ys)

plus-joins : (a b c : Value) → plus a (plus b c) ≡ plus (plus a b) c
plus-joins value.Null b c = refl
plus-joins (value.Text s) b c = refl
plus-joins (value.Int m) value.Null c = refl
plus-joins (value.Int m) (value.Text t) c = refl
plus-joins (value.Int m) (value.Int n) value.Null = refl
plus-joins (value.Int m) (value.Int n) (value.Text t) = refl
plus-joins (value.Int m) (value.Int n) (value.Int k) = ap value.Int (sym (+ℤ_assoc m n k))

-- of two values the one that is before the other, NULL put aside
abbrev chosen : (Value → Value → Bool) → Value → Value → Value
chosen before a b = if is_null a then b else (if is_null b then a else (if before b a then b else a))

module _ (before : Value → Value → Bool) (o : IsStrictWeakOrder before) where
  abbrev first : Value → Value → Value
  first a b = if before b a then b else a

  first-joins : (a b c : Value) → first a (first b c) ≡ first (first a b) c
  first-joins a b c =
      split (before c b) (λ p. first a (if p then c else b) ≡ first (first a b) c)
      (λ e. split (before b a) (λ q. first a c ≡ first (if q then b else a) c)
      (λ g. taken a c (through e g) ∙ sym (taken b c e)) (λ g. refl))
      (λ e. split (before b a) (λ q. (if q then b else a) ≡ first (if q then b else a) c)
      (λ g. sym (left b c e)) (λ g. sym (left a c (o.chain c b a e g))))
    where
      taken : (x y : Value) → before y x ≡ true → first x y ≡ y
      taken x y e = ap (λ b. if b then y else x) e

      left : (x y : Value) → before y x ≡ false → first x y ≡ x
      left x y e = ap (λ b. if b then y else x) e

      through : before c b ≡ true → before b a ≡ true → before c a ≡ true
      through e g = split (before c a) (λ p. p ≡ true) (λ k. refl) (λ k. absurd (false≢true (sym (o.chain c a b k (o.one_way b a g)) ∙ e)))

  here : (v : Value) → (v ≡ value.Null) ⊎ (is_null v ≡ false)
  here value.Null = inl refl
  here (value.Int n) = inr refl
  here (value.Text t) = inr refl

  to_null : (v : Value) → chosen before v value.Null ≡ v
  to_null value.Null = refl
  to_null (value.Int n) = refl
  to_null (value.Text t) = refl

  both_here : (a b : Value) → is_null a ≡ false → is_null b ≡ false → (chosen before a b ≡ first a b) × (is_null (first a b) ≡ false)
  both_here a b e g = (rw (e, g) refl, split (before b a) (λ p. is_null (if p then b else a) ≡ false) (λ k. g) (λ k. e))

  chosen-joins : (a b c : Value) → chosen before a (chosen before b c) ≡ chosen before (chosen before a b) c
  chosen-joins a b c =
      elim (here a) [
        | inl e ↦ subst (λ v. chosen before v (chosen before b c) ≡ chosen before (chosen before v b) c) (sym e) refl
        | inr ea ↦ elim (here b) [
          | inl e ↦ subst (λ v. chosen before a (chosen before v c) ≡ chosen before (chosen before a v) c) (sym e) (ap (λ v. chosen before v c) (sym (to_null a)))
          | inr eb ↦ elim (here c) [
            | inl e ↦ subst (λ v. chosen before a (chosen before b v) ≡ chosen before (chosen before a b) v) (sym e)
                (ap (chosen before a) (to_null b) ∙ sym (to_null (chosen before a b)))
            | inr ec ↦
                let bc = both_here b c eb ec in
                let ab = both_here a b ea eb in
                ap (chosen before a) bc.0 ∙ (both_here a (first b c) ea bc.1).0 ∙ first-joins a b c
                ∙ sym (ap (λ v. chosen before v c) ab.0 ∙ (both_here (first a b) c ab.1 ec).0)
          ]
        ]
      ]

less_order : IsStrictWeakOrder (λ (a b : Value). is_less (value_cmp a b))
less_order = ranks_by value_cmp_total (λ (v : Value). v)

lesser-joins : (a b c : Value) → lesser a (lesser b c) ≡ lesser (lesser a b) c
lesser-joins a b c = chosen-joins (λ x y. is_less (value_cmp x y)) less_order a b c

greater-joins : (a b c : Value) → greater a (greater b c) ≡ greater (greater a b) c
greater-joins a b c = chosen-joins (λ x y. is_less (value_cmp y x)) (IsStrictWeakOrder-flip (λ x y. is_less (value_cmp x y)) less_order) a b c

column_values-more : (column : ℕ) (rows : List Row) (row : Row) → column_values column (rows ++ row ∷ []) ≡ column_values column rows ++ cell row column ∷ []
column_values-more column rows row = map-append (λ r. cell r column) rows (row ∷ [])

pub count_all-more : (rows : List Row) (row : Row) → aggregate_of (rows ++ row ∷ []) aggregate.CountAll ≡ value.Int (pos (length rows + 1))
count_all-more rows row = ap (λ n. value.Int (pos n)) (length-append rows (row ∷ []))

pub count-more : (column : ℕ) (rows : List Row) (row : Row)
    → aggregate_of (rows ++ row ∷ []) (aggregate.Count column)
    ≡ value.Int (pos (length (filter (λ v. not (is_null v)) (column_values column rows)) + (if is_null (cell row column) then 0 else 1)))
count-more column rows row =
    let here : Value → Bool = λ v. not (is_null v) in
    ap (λ n. value.Int (pos n))
    (ap (λ values. length (filter here values)) (column_values-more column rows row)
    ∙ ap length (filter-append here (column_values column rows) (cell row column ∷ []))
    ∙ length-append (filter here (column_values column rows)) (one_if (here (cell row column)) (cell row column))
    ∙ ap (λ n. length (filter here (column_values column rows)) + n) (counted (is_null (cell row column))))
  where
    counted : (b : Bool) → length (one_if (not b) (cell row column)) ≡ (if b then 0 else 1)
    counted true = refl
    counted false = refl

pub sum-more : (column : ℕ) (rows : List Row) (row : Row)
    → aggregate_of (rows ++ row ∷ []) (aggregate.Sum column) ≡ plus (aggregate_of rows (aggregate.Sum column)) (plus (cell row column) value.Null)
sum-more column rows row =
    ap (folded plus) (column_values-more column rows row) ∙ folded-append plus (λ v. refl) plus-joins (column_values column rows) (cell row column ∷ [])

pub min-more : (column : ℕ) (rows : List Row) (row : Row)
    → aggregate_of (rows ++ row ∷ []) (aggregate.Min column) ≡ lesser (aggregate_of rows (aggregate.Min column)) (cell row column)
min-more column rows row =
    ap (folded lesser) (column_values-more column rows row) ∙ folded-append lesser (λ v. refl) lesser-joins (column_values column rows) (cell row column ∷ [])
    ∙ ap (lesser (folded lesser (column_values column rows))) (to_null (λ x y. is_less (value_cmp x y)) less_order (cell row column))

pub max-more : (column : ℕ) (rows : List Row) (row : Row)
    → aggregate_of (rows ++ row ∷ []) (aggregate.Max column) ≡ greater (aggregate_of rows (aggregate.Max column)) (cell row column)
max-more column rows row =
    ap (folded greater) (column_values-more column rows row) ∙ folded-append greater (λ v. refl) greater-joins (column_values column rows) (cell row column ∷ [])
    ∙ ap (greater (folded greater (column_values column rows)))
    (to_null (λ x y. is_less (value_cmp y x)) (IsStrictWeakOrder-flip (λ x y. is_less (value_cmp x y)) less_order) (cell row column))
