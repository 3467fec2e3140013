-- One turn of the search for a breach.
use Rattle.std.proofs.Common.{◌≡◌, ◌+◌, ℕ, Bool, true, false, List, [], ◌∷◌, ◌++◌, take, length, ◌==◌, fold, Option, Some, None, refl, if◌then◌else◌, arith}
use Rattle.std.proofs.lemmas.Bool.Decides.{nat_tests}
use Rattle.std.proofs.lemmas.List.Sums.{fold-append}
use Rattle.std.specs.Option.{is_none}
use Rattle.pm_grammar.specs.declared.names.PlacedName.{PlacedName}
use Rattle.pm_schema.specs.declared.rules.Rule.{Rule}
use Rattle.pm_schema.specs.declared.rules.Fault.{Fault}
use Rattle.pm_schema.specs.declared.rules.Breach.{Breach}
use Rattle.pm_schema.specs.declared.tree.ColumnText.{ColumnText}
use Rattle.pm_schema.specs.declared.tree.ReferenceText.{ReferenceText}
use Rattle.pm_schema.specs.declared.tree.TableText.{TableText}
use Rattle.pm_schema.specs.Rules.{column_named, is_faulty, breach_at, breaches_from, is_before, earlier}
use Rattle.pm_schema.specs.References.{table_named, may_refer, may_all_refer, reference_breaches, all_reference_breaches, table_breaches, all_table_breaches, is_none as has_none}

pub folds : (found : Option Breach) (xs ys : List Breach) → fold earlier found (xs ++ ys) ≡ fold earlier (fold earlier found xs) ys
folds found xs ys = fold-append earlier found xs ys

pub breaches_step : {A : Type 0} (name_of : A → PlacedName) (rule : Rule) (fault : Fault) (columns : List ColumnText) (items : List A) (i : ℕ) (x : A) (after rest : List A) (found : Option Breach) → rest ≡ x ∷ after
    → fold earlier found (breaches_from name_of rule fault columns items i rest)
    ≡ fold earlier (fold earlier found (breach_at (is_faulty name_of fault columns (take i items) (name_of x)) (name_of x).at rule)) (breaches_from name_of rule fault columns items (i + 1) after)
unfolding breaches_from
breaches_step name_of rule fault columns items i x after rest found is =
    rw is (folds found (breach_at (is_faulty name_of fault columns (take i items) (name_of x)) (name_of x).at rule) (breaches_from name_of rule fault columns items (i + 1) after))

pub breaches_end : {A : Type 0} (name_of : A → PlacedName) (rule : Rule) (fault : Fault) (columns : List ColumnText) (items : List A) (i : ℕ) (rest : List A) (found : Option Breach) → rest ≡ []
    → fold earlier found (breaches_from name_of rule fault columns items i rest) ≡ found
unfolding breaches_from
breaches_end name_of rule fault columns items i rest found is = rw is refl

pub references_step : (tables : List TableText) (columns : List ColumnText) (reference : ReferenceText) (after rest : List ReferenceText) (found : Option Breach) → rest ≡ reference ∷ after
    → fold earlier found (all_reference_breaches tables columns rest)
    ≡ fold earlier (fold earlier found (reference_breaches columns reference (table_named tables reference.target.text))) (all_reference_breaches tables columns after)
unfolding all_reference_breaches
references_step tables columns reference after rest found is = rw is (folds found (reference_breaches columns reference (table_named tables reference.target.text)) (all_reference_breaches tables columns after))

pub references_end : (tables : List TableText) (columns : List ColumnText) (rest : List ReferenceText) (found : Option Breach) → rest ≡ [] → fold earlier found (all_reference_breaches tables columns rest) ≡ found
unfolding all_reference_breaches
references_end tables columns rest found is = rw is refl

pub tables_step : (tables : List TableText) (table : TableText) (after rest : List TableText) (found : Option Breach) → rest ≡ table ∷ after
    → fold earlier found (all_table_breaches tables rest) ≡ fold earlier (fold earlier found (table_breaches tables table)) (all_table_breaches tables after)
unfolding all_table_breaches
tables_step tables table after rest found is = rw is (folds found (table_breaches tables table) (all_table_breaches tables after))

pub tables_end : (tables rest : List TableText) (found : Option Breach) → rest ≡ [] → fold earlier found (all_table_breaches tables rest) ≡ found
unfolding all_table_breaches
tables_end tables rest found is = rw is refl

-- a breach that was found stays one
kept : (xs : List Breach) (b : Breach) → is_none (fold earlier (Some b) xs) ≡ false
kept [] b = refl
kept (x ∷ xs) b = of (is_before x b) (kept xs x) (kept xs b)
  where
    of : (first : Bool) → is_none (fold earlier (Some x) xs) ≡ false → is_none (fold earlier (Some b) xs) ≡ false → is_none (fold earlier (if first then Some x else Some b) xs) ≡ false
    of true new old = new
    of false new old = old

-- there is no first breach exactly where there is none
pub none_first : (xs : List Breach) → is_none (fold earlier None xs) ≡ has_none xs
none_first [] = refl
none_first (x ∷ xs) = kept xs x

-- pairs of names and keys
pub pairs_step : (columns targets : List ColumnText) (name key : PlacedName) (names keys rest beside : List PlacedName) → rest ≡ name ∷ names → beside ≡ key ∷ keys
    → may_refer (column_named columns name.text) (column_named targets key.text) ≡ true → may_all_refer columns targets rest beside ≡ may_all_refer columns targets names keys
unfolding may_all_refer
pairs_step columns targets name key names keys rest beside is at e = rw (is, at, e) refl

pub pairs_refused : (columns targets : List ColumnText) (name key : PlacedName) (names keys rest beside : List PlacedName) → rest ≡ name ∷ names → beside ≡ key ∷ keys
    → may_refer (column_named columns name.text) (column_named targets key.text) ≡ false → may_all_refer columns targets rest beside ≡ false
unfolding may_all_refer
pairs_refused columns targets name key names keys rest beside is at e = rw (is, at, e) refl

pub pairs_unlike : (columns targets : List ColumnText) (name : PlacedName) (names rest beside : List PlacedName) → rest ≡ name ∷ names → beside ≡ [] → may_all_refer columns targets rest beside ≡ false
unfolding may_all_refer
pairs_unlike columns targets name names rest beside is at = rw (is, at) refl

pub pairs_end : (columns targets : List ColumnText) (rest beside : List PlacedName) → rest ≡ [] → may_all_refer columns targets rest beside ≡ (length beside == 0)
unfolding may_all_refer
pairs_end columns targets rest [] is = rw is refl
pairs_end columns targets rest (key ∷ keys) is = rw is (grind (arith, nat_tests))
