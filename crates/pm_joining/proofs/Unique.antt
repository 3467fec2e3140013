-- a tree is unique on columns as on those of them that it has
use Rattle.std.proofs.Common.{◌≡◌, ◌≤◌, ◌<◌, ◌+◌, ℕ, suc, zero, Bool, true, false, ◌&&◌, ◌||◌, List, [], ◌∷◌, length, map, Option, None, Some, get_or, slice_get, refl, sym, ap, ◌∙◌, subst, arith, length-append}
use Rattle.std.specs.Prelude.{All, nat_eq, nat_lt}
use Rattle.std.specs.List.{list_any, list_all}
use Rattle.std.proofs.lemmas.Bool.Decides.{nat_tests}
use Rattle.std.proofs.lemmas.List.{length-map}
use Rattle.std.proofs.lemmas.List.Elements.{All-head, All-tail}
use Rattle.pm_values.specs.declared.value.Kind.{Kind}
use Rattle.pm_values.specs.Table.{Declaration, IsDeclaration}
use Rattle.pm_values.specs.Order.{NamesColumns}
use Rattle.pm_plan.specs.Tree.{Unary, Filter, Project, Sort, Group, Tree, Scan, Over, Join, Index, keeps_columns}
use Rattle.pm_plan.specs.Joins.{right_columns}
use Rattle.pm_plan.specs.Kinds.{columns_of, columns_or_none, table_kinds, table_width, kinds_of, kinds_over, width}
use Rattle.pm_plan.specs.Unique.{key_within, key_of, unique_table, left_part, unique_on}

any_below : (w k : ℕ) → k < w → (columns : List ℕ) → list_any (nat_eq k) (left_part w columns) ≡ list_any (nat_eq k) columns
any_below w k h [] = refl
any_below w k h (x ∷ columns) =
    elim (nat_lt x w) as (λ b. nat_lt x w ≡ b → list_any (nat_eq k) (left_part w (x ∷ columns)) ≡ list_any (nat_eq k) (x ∷ columns)) [
      | true ↦ (λ e. rw e (ap (λ b. nat_eq k x || b) (any_below w k h columns)))
      | false ↦ (λ e. let far : nat_eq k x ≡ false = grind (arith, nat_tests) in rw (e, far) (any_below w k h columns))
    ] refl

part_of_part : (v w : ℕ) → v ≤ w → (columns : List ℕ) → left_part v (left_part w columns) ≡ left_part v columns
part_of_part v w h [] = refl
part_of_part v w h (x ∷ columns) =
    elim (nat_lt x w) as (λ b. nat_lt x w ≡ b → left_part v (left_part w (x ∷ columns)) ≡ left_part v (x ∷ columns)) [
      | true ↦ (λ e. let more = part_of_part v w h columns in rw e (
          elim (nat_lt x v) as (λ b. nat_lt x v ≡ b → left_part v (x ∷ left_part w columns) ≡ left_part v (x ∷ columns)) [
            | true ↦ (λ k. rw k (ap (λ s. x ∷ s) more))
            | false ↦ (λ k. rw k more)
          ] refl))
      | false ↦ (λ e. let far : nat_lt x v ≡ false = grind (arith, nat_tests) in rw (e, far) (part_of_part v w h columns))
    ] refl

key_part : (w : ℕ) (columns key : List ℕ) → ((k : ℕ) → k < length key → get_or key k 0 < w)
    → list_all (λ k. list_any (nat_eq k) (left_part w columns)) key ≡ list_all (λ k. list_any (nat_eq k) columns) key
key_part w columns [] low = refl
key_part w columns (k ∷ key) low =
    let here : k < w = low 0 (omega arith) in
    let one : list_any (nat_eq k) (left_part w columns) ≡ list_any (nat_eq k) columns = any_below w k here columns in
    let more = key_part w columns key (λ i h. low (suc i) (omega arith)) in cc

within_part : (w wide : ℕ) → wide ≤ w → (columns : List ℕ) (key : Option (List ℕ)) → NamesColumns key wide → key_within (left_part w columns) key ≡ key_within columns key
within_part w wide h columns None named = refl
within_part w wide h columns (Some key) named = key_part w columns key (λ k l. let low = named k l in omega (arith, low, h))

table_part : (w : ℕ) (columns : List ℕ) (decl : Option Declaration) → length (columns_or_none decl) ≤ w → ((d : Declaration) → decl ≡ Some d → IsDeclaration d)
    → key_within (left_part w columns) (key_of decl) ≡ key_within columns (key_of decl)
table_part w columns None h declared = refl
table_part w columns (Some d) h declared = within_part w (length d.columns) h columns d.key (declared d refl).key_named

declared_at : (decls : List Declaration) → All IsDeclaration decls → (table : ℕ) (d : Declaration) → slice_get decls table ≡ Some d → IsDeclaration d
declared_at [] all table d e = absurd (cc e)
declared_at (x ∷ decls) all zero d e = let same : x ≡ d = cc e in subst IsDeclaration same (All-head IsDeclaration x decls all)
declared_at (x ∷ decls) all (suc table) d e = declared_at decls (All-tail IsDeclaration x decls all) table d e

kept_width : (op : Unary) (kinds : List Kind) → keeps_columns op ≡ true → kinds_over op kinds ≡ kinds
kept_width (Filter cond) kinds e = refl
kept_width (Project columns) kinds e = absurd (cc e)
kept_width (Sort keys) kinds e = refl
kept_width (Group keys items) kinds e = absurd (cc e)

under : (a b c : Bool) → (a ≡ true → b ≡ c) → (a && b) ≡ (a && c)
under true b c e = e refl
under false b c e = refl

module _ (decls : List Declaration) (declared : All IsDeclaration decls) where
  unique_table-part : (w table : ℕ) (columns : List ℕ) → table_width decls table ≤ w → unique_table decls table (left_part w columns) ≡ unique_table decls table columns
  unique_table-part w table columns h = table_part w columns (slice_get decls table) h (λ d e. declared_at decls declared table d e)

  pub unique_on-part : (tree : Tree) (w : ℕ) (columns : List ℕ) → width decls tree ≤ w → unique_on decls tree (left_part w columns) ≡ unique_on decls tree columns
  unique_on-part (Scan table label) w columns h =
      unique_table-part w table columns (let e : width decls (Scan table label) ≡ table_width decls table = length-map (columns_of decls table) (λ column. column.kind) in omega (arith, e, h))
  unique_on-part (Over op child) w columns h =
      under (keeps_columns op) (unique_on decls child (left_part w columns)) (unique_on decls child columns)
      (λ e. unique_on-part child w columns (let k = ap length (kept_width op (kinds_of decls child) e) in omega (arith, k, h)))
  unique_on-part (Join method on left right) w columns h =
      let more = length-append (kinds_of decls left) (kinds_of decls right) in
      ap (λ s. unique_on decls right (right_columns on.pairs) && unique_on decls left s) (part_of_part (width decls left) w (omega (arith, more, h)) columns)
  unique_on-part (Index left seek cond) w columns h =
      let more = length-append (kinds_of decls left) (table_kinds decls seek.table) in
      ap (λ s. unique_table decls seek.table (right_columns seek.on.pairs) && unique_on decls left s) (part_of_part (width decls left) w (omega (arith, more, h)) columns)

  -- so the columns of a join need not be cut to those of its left side
  pub unique_on_left : (tree : Tree) (columns : List ℕ) → unique_on decls tree (left_part (width decls tree) columns) ≡ unique_on decls tree columns
  unique_on_left tree columns = unique_on-part tree (width decls tree) columns (omega arith)
