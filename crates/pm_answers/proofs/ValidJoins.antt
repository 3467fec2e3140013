-- a joined source keeps the rules of a valid plan
use Rattle.std.proofs.Common.{◌≡◌, ◌∙◌, ℕ, zero, suc, ◌+◌, ◌<◌, ◌^◌, true, false, List, [], ◌∷◌, ◌++◌, length, take, refl, sym, ap, subst, arith, Option, None, Some, length-append}
use Rattle.std.specs.Prelude.{slice_get}
use Rattle.std.proofs.lemmas.Bool.{and_from, or_from}
use Rattle.std.proofs.lemmas.List.{length-map}
use Rattle.pm_values.specs.declared.value.Kind.{Kind}
use Rattle.pm_values.specs.declared.condition.Cond.{Cond}
use Rattle.pm_values.specs.Table.{Declaration}
use Rattle.pm_plan.specs.declared.plan.Pair.{Pair}
use Rattle.pm_plan.specs.Joins.{left_columns, right_columns}
use Rattle.pm_plan.specs.Tree.{Method, On, Tree, Index}
use Rattle.pm_plan.specs.Kinds.{kinds_of, width, table_kinds, table_width, columns_of, condition_fits, condition_fits_if}
use Rattle.pm_plan.specs.References.{paired}
use Rattle.pm_plan.specs.Flags.{join_flags}
use Rattle.pm_plan.specs.Valid.{IsTable, IsNamed, IsValidRoot, IsValidTree, IsValidJoin, IsValidSeek, IsValidIndex, MethodFits, PairsFit, is_joinable, has_group, is_source, leftmost_table, tables_of}
use Rattle.pm_plan.proofs.Walks.{Each-root}
use Rattle.pm_query.specs.declared.query.QuerySource.{QuerySource}
use Rattle.pm_query.specs.Build.{name_of, scan_of, label_of, filtered, join_of, seek_of}

-- the tree of some sources: valid, of so many tables, with columns of these kinds, and the table of the first source
pub record Stands (decls : List Declaration) (tree : Tree) (kinds : List Kind) (first count : ℕ) : Type 0 where
  pub valid : IsValidTree decls tree
  pub columns : kinds_of decls tree ≡ kinds
  pub joinable : is_joinable tree ≡ true
  pub ungrouped : has_group tree ≡ false
  pub leftmost : leftmost_table tree ≡ first
  pub tables : length (tables_of tree) ≡ count

abbrev pub IsNarrow : List Kind → Type 0
IsNarrow kinds = length kinds < 2 ^ 32

named : (decls : List Declaration) (table : ℕ) (alias : List ℕ) → table < length decls → IsNamed (slice_get decls table) (record { table = name_of (slice_get decls table); alias = alias })
named [] table alias low = absurd (omega arith)
named (decl ∷ decls) zero alias low = refl
named (decl ∷ decls) (suc table) alias low = named decls table alias (omega arith)

module _ (decls : List Declaration) where
  pub is_table : (source : QuerySource) → source.table < length decls → IsTable decls source.table (label_of decls source)
  is_table source low = named decls source.table source.alias low

  pub stands-scan : (source : QuerySource) → source.table < length decls → IsNarrow (table_kinds decls source.table)
      → Stands decls (scan_of decls source) (table_kinds decls source.table) source.table 1
  stands-scan source low narrow =
      record { valid = (is_table source low, narrow); columns = refl; joinable = refl; ungrouped = refl; leftmost = refl; tables = refl }

  module _ (kinds : List Kind) (first count : ℕ) where
    pub stands-filtered : (c : Option Cond) (tree : Tree) → condition_fits_if kinds c ≡ true → Stands decls tree kinds first count → Stands decls (filtered c tree) kinds first count
    stands-filtered None tree fit s = s
    stands-filtered (Some c) tree fit s =
        let root = Each-root (λ t. IsValidRoot decls t × (width decls t < 2 ^ 32)) (λ left seek. IsValidSeek decls left seek) tree s.valid in
        record {
          valid = ((ap (λ ks. condition_fits ks c) s.columns ∙ fit, root.1), s.valid);
          columns = s.columns;
          joinable = s.joinable;
          ungrouped = s.ungrouped;
          leftmost = s.leftmost;
          tables = s.tables;
        }

  -- a source with its own conditions is one for a join
  pub source-filtered : (c : Option Cond) (source : QuerySource) → is_source (filtered c (scan_of decls source)) ≡ true
  source-filtered None source = refl
  source-filtered (Some c) source = refl

  module _ (lefts rights : List Kind) (first count : ℕ) (left : Tree) (s : Stands decls left lefts first count) (pairs : List Pair)
      (fit : PairsFit lefts rights pairs) (narrow : IsNarrow (lefts ++ rights)) where
    pub stands-join : (method : Method) (side : Tree) (table : ℕ) → Stands decls side rights table 1 → is_source side ≡ true → MethodFits decls method left side pairs
        → Stands decls (join_of decls method left side pairs) (lefts ++ rights) first (count + 1)
    stands-join method side table r source ordered =
        let both : kinds_of decls left ++ kinds_of decls side ≡ lefts ++ rights = ap (λ ks. ks ++ kinds_of decls side) s.columns ∙ ap (λ ks. lefts ++ ks) r.columns in
        let on : On = record { pairs = pairs; unique = join_flags decls method left side pairs } in
        let join : IsValidJoin decls method on left side =
        record {
          pairs = subst (λ ks. PairsFit ks (kinds_of decls side) pairs) (sym s.columns) (subst (λ ks. PairsFit lefts ks pairs) (sym r.columns) fit);
          flags = refl;
          joinable = s.joinable;
          source = source;
          ordered = ordered;
        } in
        record {
          valid = ((join, subst (λ ks. length ks < 2 ^ 32) (sym both) narrow), s.valid, r.valid);
          columns = both;
          joinable = and_from (is_joinable left) (is_joinable side) s.joinable r.joinable;
          ungrouped = or_from (has_group left) (has_group side) s.ungrouped r.ungrouped;
          leftmost = s.leftmost;
          tables = length-append (tables_of left) (tables_of side) ∙ omega (arith, s.tables, r.tables);
        }

    pub stands-index : (source : QuerySource) (c : Option Cond) → rights ≡ table_kinds decls source.table → source.table < length decls → condition_fits_if (lefts ++ rights) c ≡ true
        → Stands decls (Index left (seek_of decls left source pairs) c) (lefts ++ rights) first (count + 1)
    stands-index source c is low fits =
        let both : kinds_of decls left ++ table_kinds decls source.table ≡ lefts ++ rights = ap (λ ks. ks ++ table_kinds decls source.table) s.columns ∙ ap (λ ks. lefts ++ ks) (sym is) in
        let index : IsValidIndex decls left (seek_of decls left source pairs) c = record { fits = ap (λ ks. condition_fits_if ks c) both ∙ fits; joinable = s.joinable } in
        let all : length (lefts ++ rights) ≡ length lefts + length rights = length-append lefts rights in
        let wide : table_width decls source.table ≡ length rights = sym (length-map (columns_of decls source.table) (λ column. column.kind)) ∙ ap length (sym is) in
        let seek : IsValidSeek decls left (seek_of decls left source pairs) =
        record {
          named = is_table source low;
          pairs = subst (λ ks. PairsFit ks (table_kinds decls source.table) pairs) (sym s.columns) (subst (λ ks. PairsFit lefts ks pairs) is fit);
          flags = refl;
          narrow = omega (arith, narrow, all, wide);
        } in
        record {
          valid = ((index, subst (λ ks. length ks < 2 ^ 32) (sym both) narrow), seek, s.valid);
          columns = both;
          joinable = s.joinable;
          ungrouped = s.ungrouped;
          leftmost = s.leftmost;
          tables = length-append (tables_of left) (source.table ∷ []) ∙ omega (arith, s.tables);
        }

-- ---- the pairs of a merge join are the first columns of two ORDERs

pub lefts-paired : (n : ℕ) (xs ys : List ℕ) → length (take n (paired xs ys)) ≡ n → left_columns (take n (paired xs ys)) ≡ take n xs
lefts-paired zero xs ys e = refl
lefts-paired (suc n) [] ys e = absurd (omega (arith, e))
lefts-paired (suc n) (x ∷ xs) [] e = absurd (omega (arith, e))
lefts-paired (suc n) (x ∷ xs) (y ∷ ys) e = ap (λ s. x ∷ s) (lefts-paired n xs ys (omega (arith, e)))

pub rights-paired : (n : ℕ) (xs ys : List ℕ) → length (take n (paired xs ys)) ≡ n → right_columns (take n (paired xs ys)) ≡ take n ys
rights-paired zero xs ys e = refl
rights-paired (suc n) [] ys e = absurd (omega (arith, e))
rights-paired (suc n) (x ∷ xs) [] e = absurd (omega (arith, e))
rights-paired (suc n) (x ∷ xs) (y ∷ ys) e = ap (λ s. y ∷ s) (rights-paired n xs ys (omega (arith, e)))
