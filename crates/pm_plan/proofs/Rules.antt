-- what the tests of a valid plan say
use Rattle.std.proofs.Common.{◌≡◌, ◌↔◌, ◌≤◌, ◌<◌, ℕ, suc, zero, ◌+◌, Bool, true, false, ◌&&◌, cond, List, [], ◌∷◌, ◌++◌, length, take, get_or, count_by, Some, refl, sym, ap, ◌∙◌, subst, arith, add-one, length-append}
use Rattle.std.proofs.Math.Bool.{beq}
use Rattle.std.proofs.lemmas.Bool.Decides.{nat_tests}
use Rattle.std.proofs.lemmas.Bool.{false≢true}
use Rattle.std.proofs.lemmas.List.{take_all}
use Rattle.std.proofs.lemmas.List.Sums.{sum_by-append}
use Rattle.std.specs.Prelude.{slice_get, IsTrue}
use Rattle.pm_values.specs.declared.value.Kind.{Kind}
use Rattle.pm_values.specs.declared.value.Kind.TheVariants as kind
use Rattle.pm_values.specs.Table.{Declaration}
use Rattle.pm_values.proofs.Keys.{both_true}
use Rattle.pm_plan.specs.declared.plan.Node.{Node}
use Rattle.pm_plan.specs.declared.plan.Unique.{Unique}
use Rattle.pm_plan.specs.declared.plan.Plan.{Plan}
use Rattle.pm_plan.specs.Tree.{Unary, Filter, Project, Sort, Group, Method, Hash, Merge, On, Tree, Scan, Over, Join, Index, right_number}
use Rattle.pm_plan.specs.Preorder.{unary_node, join_node, seek_node, nodes_of, tree_of, IsNumbered}
use Rattle.pm_plan.specs.Kinds.{kinds_of, width, same_kind}
use Rattle.pm_plan.specs.Valid.{IsValidRoot, IsValidTree, IsValid, tables_of}
use Rattle.pm_plan.specs.Fitting.{HasSeek, AreBelow, reads_table}

pub same_bool : (a b : Bool) → IsTrue (beq a b) ↔ (a ≡ b)
same_bool true true = (λ e. refl, λ e. refl)
same_bool true false = (λ e. absurd (false≢true e), λ e. absurd (false≢true (sym e)))
same_bool false true = (λ e. absurd (false≢true e), λ e. absurd (false≢true e))
same_bool false false = (λ e. refl, λ e. refl)

pub empty_list : {A : Type 0} (xs : List A) → length xs ≡ 0 → xs ≡ []
empty_list [] e = refl
empty_list (x ∷ xs) e = absurd (omega arith)

-- a test that failed, and a rule that asks for it
pub fails : {P : Type 0} → (P → ⊥) → IsTrue false ↔ P
fails wrong = (λ e. absurd (false≢true e), λ p. absurd (wrong p))

-- flags are tested one by one
pub same_flags : (u v : Unique) → IsTrue (beq u.left v.left && (beq u.right v.right && beq u.total v.total)) ↔ (u ≡ v)
same_flags u v = (
  λ yes. let one = both_true (beq u.left v.left) (beq u.right v.right && beq u.total v.total) yes in
      let two = both_true (beq u.right v.right) (beq u.total v.total) one.1 in
      ap (λ b. record { left = b; right = u.right; total = u.total }) ((same_bool u.left v.left).0 one.0)
      ∙ ap (λ b. record { left = v.left; right = b; total = u.total }) ((same_bool u.right v.right).0 two.0)
      ∙ ap (λ b. record { left = v.left; right = v.right; total = b }) ((same_bool u.total v.total).0 two.1),
  λ e. subst (λ (w : Unique). IsTrue (beq u.left w.left && (beq u.right w.right && beq u.total w.total))) e
      (rw ((same_bool u.left u.left).1 refl, (same_bool u.right u.right).1 refl, (same_bool u.total u.total).1 refl) refl),
)

-- the root, its width, and what stands below
pub valid_split : (decls : List Declaration) (t : Tree) → IsValidTree decls t ↔ ((IsValidRoot decls t × HasSeek decls t) × (width decls t < 4294967296) × AreBelow decls t)
valid_split decls (Scan table label) = (λ a. ((a.0, tt), a.1, tt), λ b. (b.0.0, b.1))
valid_split decls (Over op child) = (λ a. ((a.0.0, tt), a.0.1, a.1), λ b. ((b.0.0, b.1), b.2))
valid_split decls (Join method on left right) = (λ a. ((a.0.0, tt), a.0.1, (a.1, a.2)), λ b. ((b.0.0, b.1), b.2.0, b.2.1))
valid_split decls (Index left seek cond) = (λ a. ((a.0.0, a.1), a.0.1, a.2), λ b. ((b.0.0, b.1), b.0.1, b.2))

-- how many tables it reads
count_append : (xs ys : List Node) → count_by reads_table (xs ++ ys) ≡ count_by reads_table xs + count_by reads_table ys
count_append xs ys = sum_by-append (λ x. cond (reads_table x) 1 0) xs ys

count-unary : (op : Unary) (child : ℕ) (nodes : List Node) → count_by reads_table (unary_node op child ∷ nodes) ≡ count_by reads_table nodes
count-unary (Filter cond) child nodes = refl
count-unary (Project columns) child nodes = refl
count-unary (Sort keys) child nodes = refl
count-unary (Group keys items) child nodes = refl

count-join : (method : Method) (on : On) (left right : ℕ) (nodes : List Node) → count_by reads_table (join_node method on left right ∷ nodes) ≡ count_by reads_table nodes
count-join (Hash pad) on left right nodes = refl
count-join Merge on left right nodes = refl

tables_are : (t : Tree) (n : ℕ) → length (tables_of t) ≡ count_by reads_table (nodes_of t n)
tables_are (Scan table label) n = refl
tables_are (Over op child) n = tables_are child (n + 1) ∙ sym (count-unary op (n + 1) (nodes_of child (n + 1)))
tables_are (Join method on left right) n =
    let ls = nodes_of left (n + 1) in
    let rs = nodes_of right (right_number n left) in
    length-append (tables_of left) (tables_of right)
    ∙ omega (arith, tables_are left (n + 1), tables_are right (right_number n left), count_append ls rs, count-join method on (n + 1) (right_number n left) (ls ++ rs))
tables_are (Index left seek cond) n =
    length-append (tables_of left) (seek.table ∷ [])
    ∙ omega (arith, tables_are left (n + 1), count_append (nodes_of left (n + 1)) (seek_node seek (n + 1) ∷ []))

pub count_tables : (nodes : List Node) → IsNumbered nodes → length (tables_of (tree_of nodes)) ≡ count_by reads_table nodes
count_tables nodes e = tables_are (tree_of nodes) 1 ∙ ap (count_by reads_table) (sym e)

-- one more element of two lists
pub take_same : {A : Type 0} (a b : List A) (i : ℕ) (d : A) → i < length a → take i a ≡ take i b → slice_get b i ≡ Some (get_or a i d) → take (i + 1) a ≡ take (i + 1) b
take_same a b i d h same e = rw add-one (next a b i d h same e)
  where
    next : {A : Type 0} (a b : List A) (i : ℕ) (d : A) → i < length a → take i a ≡ take i b → slice_get b i ≡ Some (get_or a i d) → take (suc i) a ≡ take (suc i) b
    next [] b i d h same e = absurd (omega arith)
    next (x ∷ a) [] i d h same e = absurd cc
    next (x ∷ a) (y ∷ b) zero d h same e = let k : y ≡ x = cc in ap (λ z. z ∷ []) (sym k)
    next (x ∷ a) (y ∷ b) (suc i) d h same e =
        let heads : x ≡ y = cc in let tails : take i a ≡ take i b = cc in let more = next a b i d (omega arith) tails e in cc

-- kinds that can be compared are equal
pub kinds_equal : (a b : Kind) → IsTrue (same_kind a b) ↔ (a ≡ b)
kinds_equal kind.Int kind.Int = (λ e. refl, λ e. refl)
kinds_equal kind.Text kind.Text = (λ e. refl, λ e. refl)
kinds_equal (kind.Num s) (kind.Num t) =
    (λ e. let k : s ≡ t = grind (arith, nat_tests) in ap (λ x. kind.Num x) k, λ e. let k : s ≡ t = cc in grind (arith, nat_tests))
kinds_equal kind.Int (kind.Num t) = (λ e. absurd (false≢true e), λ e. absurd cc)
kinds_equal kind.Int kind.Text = (λ e. absurd (false≢true e), λ e. absurd cc)
kinds_equal (kind.Num s) kind.Int = (λ e. absurd (false≢true e), λ e. absurd cc)
kinds_equal (kind.Num s) kind.Text = (λ e. absurd (false≢true e), λ e. absurd cc)
kinds_equal kind.Text kind.Int = (λ e. absurd (false≢true e), λ e. absurd cc)
kinds_equal kind.Text (kind.Num t) = (λ e. absurd (false≢true e), λ e. absurd cc)

-- a valid plan, from what is tested
pub valid_of : (plan : Plan) (decls : List Declaration) → IsNumbered plan.nodes → count_by reads_table plan.nodes ≤ 8 → IsValidTree decls (tree_of plan.nodes)
    → length plan.heads ≡ width decls (tree_of plan.nodes) → length plan.kinds ≡ width decls (tree_of plan.nodes)
    → plan.kinds ≡ take (length plan.kinds) (kinds_of decls (tree_of plan.nodes)) → IsValid plan decls
valid_of plan decls numbered few operators heads wide kinds =
    let tables = count_tables plan.nodes numbered in
    record {
      numbered = numbered;
      operators = operators;
      few = omega (arith, tables);
      heads = heads;
      kinds = kinds ∙ take_all (length plan.kinds) (kinds_of decls (tree_of plan.nodes)) (omega (arith, wide));
    }

pub width_small : (decls : List Declaration) (t : Tree) → IsValidTree decls t → width decls t < 4294967296
width_small decls t a = ((valid_split decls t).0 a).1
