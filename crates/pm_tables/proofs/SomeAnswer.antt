-- bytes call for some answer: the rows of a table, or a fault
use Rattle.std.proofs.Common.{◌≡◌, ◌≢◌, ◌∙◌, ◌≤◌, ◌<◌, ◌+◌, ◌*◌, ◌^◌, ◌++◌, ◌⊎◌, ℕ, zero, suc, Bool, true, false, List, [], ◌∷◌, length, get_or, take, drop, refl, ap, subst, arith, inl, inr, Option, Some, None, ◌-◌, slice_range}
use Rattle.std.proofs.lemmas.Bool.{cases_order}
use Rattle.std.specs.Prelude.{ℤ, FitsSigned, IsUtf8}
use Rattle.std.specs.Int.{w64}
use Rattle.std.specs.Str.Parse.{digits_value, signed_digits_value, without_leading_sign}
use Rattle.std.specs.declared.cmp.Ordering.{Ordering}
use Rattle.std.specs.declared.cmp.Ordering.TheVariants as ordering
use Rattle.pm_values.specs.declared.value.Value.{Value}
use Rattle.pm_values.specs.declared.value.Value.TheVariants as value
use Rattle.pm_values.specs.declared.value.Kind.{Kind}
use Rattle.pm_values.specs.declared.value.Kind.TheVariants as kind
use Rattle.pm_values.specs.declared.table.ColumnDecl.{ColumnDecl}
use Rattle.pm_values.specs.Table.{Declaration}
use Rattle.pm_values.specs.Order.{IsKey, Ascends, KeyHolds, OrderHolds, key_at, values_cmp}
use Rattle.pm_tables.specs.declared.fault.DataBad.{DataBad}
use Rattle.pm_tables.specs.declared.fault.DataBad.TheVariants as bad
use Rattle.pm_tables.specs.Field.{HasNoValue, HasValue, Writes, IsDecimal, IsScaled, WritesInt, WritesScaled, point_of, with_sign_of}
use Rattle.pm_tables.specs.Typing.{FaultsFirst, FaultsRecord, LacksFirst, WritesRow, WritesRows}
use Rattle.pm_tables.specs.Reading.{IsList, names_of, records_of}
use Rattle.pm_tables.specs.Table.{FallsFirst, FaultsTable, RepeatsFirst}
use Rattle.pm_tables.specs.Loading.{Answer, Rows, Refused, CallsFor, WritesTable}
use Rattle.pm_tables.proofs.Decimals.{scaled_once}
use Rattle.pm_tables.proofs.Decided.{Decision, both_or_not, differ_or_same, first_below, fits_or_not, lt_or_not, numeral_or_not, quotient_or_not, same_key_or_not, same_or_not, text_or_front}

-- ---- fields

empty_or_none : (column : ColumnDecl) → ((v : Value) × HasValue column [] v) ⊎ HasNoValue column []
empty_or_none column = by column.nullable column.kind refl refl
  where
    by : (b : Bool) (k : Kind) → column.nullable ≡ b → column.kind ≡ k → ((v : Value) × HasValue column [] v) ⊎ HasNoValue column []
    by true k e f = inl (value.Null, e)
    by false kind.Text e f = inl (value.Text [], (λ yes. cc (yes, e), f, refl))
    by false kind.Int e f = inr none
      where
        none : HasNoValue column []
        none value.Null h = cc (h, e)
        none (value.Int n) h = h
        none (value.Text t) h = cc (h.1, f)
    by false (kind.Num scale) e f = inr none
      where
        none : HasNoValue column []
        none value.Null h = cc (h, e)
        none (value.Int n) h = h
        none (value.Text t) h = cc (h.1, f)

whole_or_none : (field : List ℕ) → ((n : ℤ) × WritesInt field n) ⊎ ((n : ℤ) → WritesInt field n → ⊥)
whole_or_none field = elim (both_or_not (numeral_or_not (without_leading_sign field)) (fits_or_not (signed_digits_value 10 field))) [
  | inl h ↦ inl (signed_digits_value 10 field, (h.0, h.1, refl))
  | inr other ↦ inr (λ n h. other (h.0, subst (FitsSigned w64) h.2 h.1))
]

power_some : (k : ℕ) → 0 < 10 ^ k
power_some zero = omega arith
power_some (suc k) = let step : 10 ^ suc k ≡ 10 * 10 ^ k = grind arith in rw step (omega (arith, power_some k))

decimal_or_none : (scale : ℕ) (whole decimals : List ℕ) → ((m : ℕ) × IsDecimal scale whole decimals m) ⊎ ((m : ℕ) → IsDecimal scale whole decimals m → ⊥)
decimal_or_none scale whole decimals = elim (both_or_not (numeral_or_not whole) (numeral_or_not decimals)) [
  | inr other ↦ inr (λ m h. other (h.0, h.1))
  | inl both ↦ elim (quotient_or_not (digits_value 10 (whole ++ decimals) * 10 ^ scale) (10 ^ length decimals) (power_some (length decimals))) [
    | inl found ↦ inl (found.0, (both.0, both.1, found.1))
    | inr none ↦ inr (λ m h. none m h.2)
  ]
]

scaled_or_none : (scale : ℕ) (digits : List ℕ) (point : Option ℕ) → ((m : ℕ) × IsScaled scale digits point m) ⊎ ((m : ℕ) → IsScaled scale digits point m → ⊥)
scaled_or_none scale digits None = elim (numeral_or_not digits) [
  | inl h ↦ inl (digits_value 10 digits * 10 ^ scale, (h, refl))
  | inr other ↦ inr (λ m h. other h.0)
]
scaled_or_none scale digits (Some point) = decimal_or_none scale (take point digits) (drop (point + 1) digits)

number_or_none : (scale : ℕ) (field : List ℕ) → ((n : ℤ) × WritesScaled scale field n) ⊎ ((n : ℤ) → WritesScaled scale field n → ⊥)
number_or_none scale field =
    let digits = without_leading_sign field in
    elim (scaled_or_none scale digits (point_of digits)) [
      | inr none ↦ inr (λ n h. none h.0 h.1)
      | inl found ↦ elim (fits_or_not (with_sign_of field found.0)) [
        | inl fits ↦ inl (with_sign_of field found.0, (found.0, found.1, refl, fits))
        | inr other ↦ inr (λ n h. other (subst (FitsSigned w64) (h.2 ∙ ap (with_sign_of field) (scaled_once scale digits (point_of digits) h.0 found.0 h.1 found.1)) h.3))
      ]
    ]

no_whole : (field : List ℕ) → ((n : ℤ) → WritesInt field n → ⊥) → (v : Value) → Writes kind.Int field v → ⊥
no_whole field none value.Null h = h
no_whole field none (value.Int n) h = none n h
no_whole field none (value.Text t) h = h

no_number : (scale : ℕ) (field : List ℕ) → ((n : ℤ) → WritesScaled scale field n → ⊥) → (v : Value) → Writes (kind.Num scale) field v → ⊥
no_number scale field none value.Null h = h
no_number scale field none (value.Int n) h = none n h
no_number scale field none (value.Text t) h = h

field_or_none : (column : ColumnDecl) (field : List ℕ) → ((v : Value) × HasValue column field v) ⊎ HasNoValue column field
field_or_none column [] = empty_or_none column
field_or_none column (b ∷ field) = by column.kind refl
  where
    by : (k : Kind) → column.kind ≡ k → ((v : Value) × HasValue column (b ∷ field) v) ⊎ HasNoValue column (b ∷ field)
    by kind.Text e = inl (value.Text (b ∷ field), rw e refl)
    by kind.Int e = elim (whole_or_none (b ∷ field)) [
      | inl found ↦ inl (value.Int found.0, rw e found.1)
      | inr none ↦ inr (λ v h. no_whole (b ∷ field) none v (rw e at h))
    ]
    by (kind.Num scale) e = elim (number_or_none scale (b ∷ field)) [
      | inl found ↦ inl (value.Int found.0, rw e found.1)
      | inr none ↦ inr (λ v h. no_number scale (b ∷ field) none v (rw e at h))
    ]

-- ---- records

fields_or_lack : (columns : List ColumnDecl) (fields : List (List ℕ)) → length fields ≡ length columns
    → ((row : List Value) × WritesRow columns fields row) ⊎ ((i : ℕ) × LacksFirst columns fields i)
fields_or_lack [] [] as_wide = inl ([], tt)
fields_or_lack [] (f ∷ fields) as_wide = absurd (omega arith)
fields_or_lack (c ∷ columns) [] as_wide = absurd (omega arith)
fields_or_lack (c ∷ columns) (f ∷ fields) as_wide = elim (field_or_none c f) [
  | inr none ↦ inr (zero, none)
  | inl found ↦ elim (fields_or_lack columns fields (omega arith)) [
    | inl rest ↦ inl (found.0 ∷ rest.0, (found.1, rest.1))
    | inr lack ↦ inr (suc lack.0, (found.0, found.1, lack.1))
  ]
]

row_or_fault : (columns : List ColumnDecl) (fields : List (List ℕ)) (r : ℕ)
    → ((row : List Value) × WritesRow columns fields row) ⊎ ((e : DataBad) × (e ≢ bad.Memory) × FaultsRecord columns fields r e)
row_or_fault columns fields r = elim (same_or_not (length fields) (length columns)) [
  | inr other ↦ inr (bad.Width r, (λ e. cc e), (refl, other))
  | inl as_wide ↦ elim (fields_or_lack columns fields as_wide) [
    | inl row ↦ inl row
    | inr lack ↦ inr (bad.Field r (lack.0 + 1), (λ e. cc e), (refl, as_wide, lack.0, refl, lack.1))
  ]
]

-- record number r + 1 is the first of the list
rows_or_fault : (columns : List ColumnDecl) (list : List (List (List ℕ))) (r : ℕ)
    → ((rows : List (List Value)) × WritesRows columns list rows)
    ⊎ ((i : ℕ) × (i < length list) × ((rows : List (List Value)) × WritesRows columns (take i list) rows)
    × ((e : DataBad) × (e ≢ bad.Memory) × FaultsRecord columns (get_or list i []) (r + i + 1) e))
rows_or_fault columns [] r = inl ([], tt)
rows_or_fault columns (f ∷ list) r = elim (row_or_fault columns f (r + 0 + 1)) [
  | inr fault ↦ inr (zero, omega arith, ([], tt), fault)
  | inl row ↦ elim (rows_or_fault columns list (r + 1)) [
    | inl rest ↦ inl (row.0 ∷ rest.0, (row.1, rest.1))
    | inr later ↦
        let number : r + 1 + later.0 + 1 ≡ r + suc later.0 + 1 = omega arith in
        inr (
          suc later.0,
          omega (arith, later.1),
          (row.0 ∷ later.2.0, (row.1, later.2.1)),
          (later.3.0, later.3.1, subst (λ n. FaultsRecord columns (get_or list later.0 []) n later.3.0) number later.3.2),
        )
  ]
]

-- ---- KEY and ORDER

repeat_or_key : (columns : List ℕ) (rows : List (List Value)) → ((i : ℕ) × (j : ℕ) × RepeatsFirst columns rows i j) ⊎ IsKey columns rows
repeat_or_key columns rows = elim (first_below repeats decide (length rows)) [
  | inr none ↦ inr (λ i j lt within same. none j within (i, lt, same))
  | inl found ↦ elim (first_below (λ i. key_at columns rows i ≡ key_at columns rows found.0) (λ i. same_key_or_not (key_at columns rows i) (key_at columns rows found.0)) found.0) [
    | inr none ↦ absurd (none found.2.0 found.2.1 found.2.2)
    | inl first ↦ inl (
      first.0,
      found.0,
      record {
        order = first.1;
        within = found.1;
        same = first.2;
        first = λ h k before below same. found.3 k below (h, before, same);
        least = first.3;
      },
    )
  ]
]
  where
    repeats : ℕ → Type 0
    repeats j = (i : ℕ) × (i < j) × (key_at columns rows i ≡ key_at columns rows j)

    decide : (j : ℕ) → Decision (repeats j)
    decide j = elim (first_below (λ i. key_at columns rows i ≡ key_at columns rows j) (λ i. same_key_or_not (key_at columns rows i) (key_at columns rows j)) j) [
      | inl found ↦ inl (found.0, found.1, found.2)
      | inr none ↦ inr (λ h. none h.0 h.1 h.2)
    ]

greater_or_not : (o : Ordering) → Decision (o ≡ ordering.Greater)
greater_or_not ordering.Less = inr (λ e. cc e)
greater_or_not ordering.Equal = inr (λ e. cc e)
greater_or_not ordering.Greater = inl refl

fall_or_order : (columns : List ℕ) (rows : List (List Value)) → ((i : ℕ) × FallsFirst columns rows i) ⊎ Ascends columns rows
fall_or_order columns rows = elim (first_below falls decide (length rows)) [
  | inr none ↦ inr (λ i within greater. none i (omega arith) (within, greater))
  | inl found ↦ inl (found.0, record { within = found.2.0; falls = found.2.1; first = λ k lt greater. found.3 k lt (omega (arith, found.2.0), greater) })
]
  where
    falls : ℕ → Type 0
    falls i = (suc i < length rows) × (values_cmp (key_at columns rows i) (key_at columns rows (suc i)) ≡ ordering.Greater)

    decide : (i : ℕ) → Decision (falls i)
    decide i = both_or_not (lt_or_not (suc i) (length rows)) (greater_or_not (values_cmp (key_at columns rows i) (key_at columns rows (suc i))))

key_or_fault : (decl : Declaration) (rows : List (List Value)) (some : Option (List ℕ)) → decl.key ≡ some
    → KeyHolds some rows ⊎ ((e : DataBad) × (e ≢ bad.Memory) × FaultsTable decl rows e)
key_or_fault decl rows None is = inl tt
key_or_fault decl rows (Some columns) is = elim (repeat_or_key columns rows) [
  | inr key ↦ inl key
  | inl found ↦ inr (bad.DoubleKey (found.0 + 1) (found.1 + 1), (λ e. cc e), (columns, is, found.0, found.1, refl, refl, found.2))
]

order_or_fault : (decl : Declaration) (rows : List (List Value)) (some : Option (List ℕ)) → decl.order ≡ some → KeyHolds decl.key rows
    → OrderHolds some rows ⊎ ((e : DataBad) × (e ≢ bad.Memory) × FaultsTable decl rows e)
order_or_fault decl rows None is keyed = inl tt
order_or_fault decl rows (Some columns) is keyed = elim (fall_or_order columns rows) [
  | inr order ↦ inl order
  | inl found ↦ inr (bad.OutOfOrder (found.0 + 2), (λ e. cc e), (keyed, columns, is, found.0, refl, found.1))
]

-- ---- the file

not_above : (m n : ℕ) → (m < n → ⊥) → n ≤ m
not_above m n other = elim (cases_order m n) [ inl e ↦ omega arith | inr apart ↦ elim apart [ inl lt ↦ absurd (other lt) | inr gt ↦ omega arith ] ]

module _ (decl : Declaration) (bytes : List ℕ) (most : ℕ) where
  of_rows : (rows : List (List Value)) → WritesTable decl bytes most rows → (a : Answer) × CallsFor decl bytes most a
  of_rows rows written = elim (key_or_fault decl rows decl.key refl) [
    | inr fault ↦ (Refused fault.0, (fault.1, inr (inr (record { rows = rows; written = written; first = fault.2 }))))
    | inl keyed ↦ elim (order_or_fault decl rows decl.order refl keyed) [
      | inr fault ↦ (Refused fault.0, (fault.1, inr (inr (record { rows = rows; written = written; first = fault.2 }))))
      | inl ordered ↦ (Rows rows, record { written = written; keyed = keyed; ordered = ordered })
    ]
  ]

  of_list : (list : List (List (List ℕ))) → IsList decl.columns bytes most list → (a : Answer) × CallsFor decl bytes most a
  of_list list listed = elim (rows_or_fault decl.columns list 0) [
    | inl rows ↦ of_rows rows.0 (record { list = list; listed = listed; typed = rows.1 })
    | inr fault ↦
        let all : fault.0 ≡ fault.0 - 0 = omega arith in
        let number : 0 + fault.0 + 1 ≡ fault.0 + 1 = omega arith in
        let before : WritesRows decl.columns (slice_range list 0 fault.0) fault.2.0 = subst (λ n. WritesRows decl.columns (take n list) fault.2.0) all fault.2.1 in
        let faulty = subst (λ n. FaultsRecord decl.columns (get_or list fault.0 []) n fault.3.0) number fault.3.2 in
        let first : FaultsFirst decl.columns list 0 (length list) fault.3.0 = inr (fault.0, omega arith, fault.1, (fault.2.0, before), faulty) in
        (Refused fault.3.0, (fault.3.1, inr (inl (record { list = list; listed = listed; first = first }))))
  ]

  of_records : (all : List (List (List ℕ))) → IsUtf8 bytes → records_of bytes ≡ all → (a : Answer) × CallsFor decl bytes most a
  of_records [] text is = (Refused bad.NoHeader, ((λ e. cc e), inl (text, is)))
  of_records (header ∷ list) text is = elim (differ_or_same header (names_of decl.columns)) [
    | inl other ↦ (Refused (bad.Header (other.0 + 1)), ((λ e. cc e), inl (text, header, list, is, other.0, refl, (other.1, other.2))))
    | inr same ↦ elim (lt_or_not most (length list)) [
      | inl late ↦ (Refused bad.TooManyRows, ((λ e. cc e), inl (text, list, rw same at is, late)))
      | inr few ↦ of_list list (text, rw same at is, not_above most (length list) few)
    ]
  ]

  pub some_answer : (a : Answer) × CallsFor decl bytes most a
  some_answer = elim (text_or_front bytes) [
    | inl text ↦ of_records (records_of bytes) text refl
    | inr other ↦ (Refused (bad.NotText other.1), ((λ e. cc e), inl (other.0, other.2)))
  ]
