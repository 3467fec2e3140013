-- what KEY and ORDER say of the rows of a declared table
use Rattle.std.proofs.Common.{◌≡◌, ◌≢◌, ℕ, zero, suc, ◌<◌, true, List, [], ◌∷◌, length, refl, sym, ap, ◌∙◌, inl, inr, arith}
use Rattle.std.specs.Prelude.{nat_lt, nat_eq, slice_get, get_or, Option, Some, None, All}
use Rattle.std.specs.List.{list_any, list_all}
use Rattle.std.proofs.lemmas.List.Elements.{All-head, All-tail}
use Rattle.std.proofs.lemmas.Bool.{cases_Bool, or_cases, and_from, eqb-true, lt-ltb}
use Rattle.pm_values.specs.declared.value.Value.{Value}
use Rattle.pm_values.specs.declared.value.Value.TheVariants as value
use Rattle.pm_values.specs.Row.{Row, cell, pick}
use Rattle.pm_values.specs.Order.{IsKey, KeyHolds, OrderHolds, NamesColumns, Ascends, key_at}
use Rattle.pm_values.specs.Equality.{same_key}
use Rattle.pm_values.specs.Table.{Declaration, Relation, IsRelation}
use Rattle.pm_values.proofs.Keys.{both_true, same_key_gives_equal}
use Rattle.pm_plan.specs.Rows.{Db, rows_or_none, table_rows, decls_of}
use Rattle.pm_plan.specs.Joins.{multiplicity}
use Rattle.pm_plan.specs.Kinds.{columns_or_none, table_width}
use Rattle.pm_plan.specs.Unique.{key_within, key_of, unique_table}
use Rattle.pm_plan.specs.Valid.{are_below, order_or_none, order_of}
use Rattle.pm_work.specs.Facts.{AtMostOne}

-- rows that agree in columns agree in those among them
abbrev first_of : Row → Value
first_of [] = value.Null
first_of (v ∷ row) = v

abbrev rest_of : Row → Row
rest_of [] = []
rest_of (v ∷ row) = row

cell_agrees : (columns : List ℕ) (c : ℕ) (a b : Row) → pick columns a ≡ pick columns b → list_any (nat_eq c) columns ≡ true → cell a c ≡ cell b c
cell_agrees [] c a b e h = absurd cc
cell_agrees (x ∷ columns) c a b e h =
    elim (or_cases (nat_eq c x) (list_any (nat_eq c) columns) h) [
      | inl i ↦ ap (cell a) (eqb-true c x i) ∙ ap first_of e ∙ ap (cell b) (sym (eqb-true c x i))
      | inr i ↦ cell_agrees columns c a b (ap rest_of e) i
    ]

pick_agrees : (columns key : List ℕ) (a b : Row) → pick columns a ≡ pick columns b
    → list_all (λ k. list_any (nat_eq k) columns) key ≡ true → pick key a ≡ pick key b
pick_agrees columns [] a b e h = refl
pick_agrees columns (k ∷ key) a b e h =
    let p : (list_any (nat_eq k) columns ≡ true) × (list_all (λ k. list_any (nat_eq k) columns) key ≡ true) = both_true (list_any (nat_eq k) columns) (list_all (λ k. list_any (nat_eq k) columns) key) h in
    ap (λ v. v ∷ pick key a) (cell_agrees columns k a b e p.0) ∙ ap (λ row. cell b k ∷ row) (pick_agrees columns key a b e p.1)

-- a KEY that stands among the columns
none_later : (key columns : List ℕ) (values first : Row) (rows : List Row) → list_all (λ k. list_any (nat_eq k) columns) key ≡ true
    → same_key values (pick columns first) ≡ true → ((j : ℕ) → j < length rows → pick key first ≢ key_at key rows j) → multiplicity columns values rows ≡ 0
none_later key columns values first [] h m differ = refl
none_later key columns values first (row ∷ rows) h m differ =
    elim (cases_Bool (same_key values (pick columns row))) [
      | inl e ↦
          let agree : pick columns first ≡ pick columns row = sym (same_key_gives_equal values (pick columns first) m) ∙ same_key_gives_equal values (pick columns row) e in
          absurd (differ 0 (omega arith) (pick_agrees columns key first row agree h))
      | inr e ↦ rw e (none_later key columns values first rows h m (λ j p. differ (suc j) (omega (arith, p))))
    ]

AtMostOne_key : (key columns : List ℕ) (rows : List Row) → list_all (λ k. list_any (nat_eq k) columns) key ≡ true → IsKey key rows → AtMostOne columns rows
AtMostOne_key key columns [] h differ values = omega arith
AtMostOne_key key columns (row ∷ rows) h differ values =
    elim (cases_Bool (same_key values (pick columns row))) [
      | inl e ↦ rw e (omega (arith, none_later key columns values row rows h e (λ j p. differ 0 (suc j) (omega arith) (omega (arith, p)))))
      | inr e ↦ rw e (AtMostOne_key key columns rows h (λ i j p q. differ (suc i) (suc j) (omega (arith, p)) (omega (arith, q))) values)
    ]

key_holds : (key : Option (List ℕ)) (columns : List ℕ) (rows : List Row) → KeyHolds key rows → key_within columns key ≡ true → AtMostOne columns rows
key_holds None columns rows holds h = absurd cc
key_holds (Some key) columns rows holds h = AtMostOne_key key columns rows h holds

-- an ORDER, and one of no columns
order_holds : (order : Option (List ℕ)) (rows : List Row) → OrderHolds order rows → Ascends (order_or_none order) rows
order_holds None rows holds = λ i p greater. cc
order_holds (Some order) rows holds = holds

below_named : (wide : ℕ) (columns : List ℕ) → ((k : ℕ) → k < length columns → get_or columns k 0 < wide) → are_below wide columns ≡ true
below_named wide [] named = refl
below_named wide (c ∷ columns) named =
    and_from (nat_lt c wide) (are_below wide columns) (lt-ltb c wide (named 0 (omega arith))) (below_named wide columns (λ k p. named (suc k) (omega (arith, p))))

order_named : (wide : ℕ) (order : Option (List ℕ)) → NamesColumns order wide → are_below wide (order_or_none order) ≡ true
order_named wide None named = refl
order_named wide (Some order) named = below_named wide order named

-- what holds of no table and of each declared one holds of the table at each place
pub at_place : (P : Option Relation → Option Declaration → Type 0) → P None None → ((table : Relation) → IsRelation table → P (Some table) (Some table.decl))
    → (db : Db) → All IsRelation db → (place : ℕ) → P (slice_get db place) (slice_get (decls_of db) place)
at_place P none some [] sound place = none
at_place P none some (table ∷ db) sound zero = some table (All-head IsRelation table db sound)
at_place P none some (table ∷ db) sound (suc place) = at_place P none some db (All-tail IsRelation table db sound) place

module _ (db : Db) (sound : All IsRelation db) where
  pub table_unique : (table : ℕ) (columns : List ℕ) → unique_table (decls_of db) table columns ≡ true → AtMostOne columns (table_rows db table)
  table_unique table columns =
      at_place (λ t d. key_within columns (key_of d) ≡ true → AtMostOne columns (rows_or_none t)) (λ h. absurd cc) (λ t r. key_holds t.decl.key columns t.rows r.keyed) db sound table

  pub table_ascends : (table : ℕ) → Ascends (order_of (slice_get (decls_of db) table)) (table_rows db table)
  table_ascends table = at_place (λ t d. Ascends (order_of d) (rows_or_none t)) (λ i p. absurd (omega (arith, p))) (λ t r. order_holds t.decl.order t.rows r.ordered) db sound table

  pub order_below : (table : ℕ) → are_below (table_width (decls_of db) table) (order_of (slice_get (decls_of db) table)) ≡ true
  order_below table = at_place (λ t d. are_below (length (columns_or_none d)) (order_of d) ≡ true) refl (λ t r. order_named (length t.decl.columns) t.decl.order r.declared.order_named) db sound table
