-- the plans of the tests fit their tables
use Rattle.std.proofs.Common.{◌≡◌, ◌≢◌, ℕ, zero, suc, ◌≤◌, [], length, refl, sym, ap, ◌∙◌, subst, arith}
use Rattle.std.specs.Prelude.{None, slice_get, codes}
use Rattle.pm_values.specs.declared.condition.Comparison.TheVariants as comparison
use Rattle.pm_values.specs.declared.condition.Operand.TheVariants as operand
use Rattle.pm_values.proofs.Folds.{fold_compare}
use Rattle.pm_plan.specs.declared.plan.Plan.{Plan}
use Rattle.pm_plan.specs.Rows.{Db, decls_of}
use Rattle.pm_plan.specs.Tree.{Tree, Scan}
use Rattle.pm_plan.specs.Preorder.{nodes_of, tree_of}
use Rattle.pm_plan.specs.References.{references_or_none}
use Rattle.pm_plan.specs.Kinds.{kinds_of, width, condition_layer}
use Rattle.pm_plan.specs.Valid.{IsValidTree, tables_of}
use Rattle.pm_plan.specs.Worked.{keyless, number, label, pair}
use Rattle.pm_plan.proofs.Preorders.{tree_of-nodes_of}
use Rattle.pm_work.specs.First.{too_wide}
use Rattle.pm_work.specs.Fits.{sizes_of, ReferencesBetween, ReferencesHold, Fits}
use Rattle.pm_work.proofs.Examples.{IsPlanOf}
use Rattle.pm_operator_tests.specs.Worked.{ascending, joined_with_none, merged_pairs}

fits_of : (plan : Plan) (db : Db) (tree : Tree) → IsPlanOf plan (decls_of db) tree → IsValidTree (decls_of db) tree → length (tables_of tree) ≤ 8 → too_wide (sizes_of db) tree ≡ None
    → ReferencesHold db tree → Fits plan db
fits_of plan db tree is operators few narrow references =
    let same : tree ≡ tree_of plan.nodes = sym (ap tree_of is.nodes ∙ tree_of-nodes_of tree) in
    record {
      valid = record {
        numbered = is.nodes ∙ ap (λ t. nodes_of t 1) same;
        operators = subst (IsValidTree (decls_of db)) same operators;
        few = subst (λ t. length (tables_of t) ≤ 8) same few;
        heads = is.heads ∙ ap (width (decls_of db)) same;
        kinds = is.kinds ∙ ap (kinds_of (decls_of db)) same;
      };
      narrow = subst (λ t. too_wide (sizes_of db) t ≡ None) same narrow;
      references = subst (ReferencesHold db) same references;
    }

-- tables without references
no_references : (k : ℕ) → references_or_none (slice_get (decls_of keyless) k) ≡ []
no_references zero = refl
no_references (suc zero) = refl
no_references (suc (suc k)) = refl

none_between : (child parent : ℕ) → ReferencesBetween keyless child parent
none_between child parent = λ k d h. absurd (omega (arith, h, ap length (no_references child)))

one_pair : (left right : ℕ) → pair left right ≢ []
one_pair left right e = cc

pub joined_fits : (plan : Plan) → IsPlanOf plan (decls_of keyless) joined_with_none → Fits plan keyless
joined_fits plan is =
    fits_of plan keyless joined_with_none is (
      (record { pairs = record { some = one_pair 0 0; few = omega arith; fit = refl }; flags = refl; joinable = refl; source = refl; ordered = tt }, omega arith),
      (refl, omega arith),
      ((fold_compare (condition_layer (kinds_of (decls_of keyless) (Scan 1 (label (codes "b") (codes "b"))))) comparison.Greater (operand.Column 0 0) (operand.Literal (number 9) 0), omega arith), (refl, omega arith)),
    )
    (omega arith) refl (λ k child h j parent g. none_between _ _)

-- of tables whose rows ascend
no_references_there : (k : ℕ) → references_or_none (slice_get (decls_of ascending) k) ≡ []
no_references_there zero = refl
no_references_there (suc zero) = refl
no_references_there (suc (suc k)) = refl

none_between_there : (child parent : ℕ) → ReferencesBetween ascending child parent
none_between_there child parent = λ k d h. absurd (omega (arith, h, ap length (no_references_there child)))

pub merged_fits : (plan : Plan) → IsPlanOf plan (decls_of ascending) merged_pairs → Fits plan ascending
merged_fits plan is =
    fits_of plan ascending merged_pairs is (
      (record { pairs = record { some = one_pair 0 0; few = omega arith; fit = refl }; flags = refl; joinable = refl; source = refl; ordered = record { lefts = refl; rights = refl } }, omega arith),
      (refl, omega arith),
      (refl, omega arith),
    )
    (omega arith) refl (λ k child h j parent g. none_between_there _ _)
