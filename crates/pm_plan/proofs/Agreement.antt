-- columns that agree below a width
use Rattle.std.proofs.Common.{◌≡◌, ◌≤◌, ◌<◌, ℕ, suc, true, false, ◌||◌, List, [], ◌∷◌, length, get_or, refl, sym, ap, ◌∙◌, arith}
use Rattle.std.specs.Prelude.{nat_eq, nat_lt}
use Rattle.std.specs.List.{list_any, list_all}
use Rattle.std.proofs.lemmas.Bool.Decides.{nat_tests}
use Rattle.pm_values.specs.declared.value.Kind.{Kind}
use Rattle.pm_plan.specs.declared.plan.Pair.{Pair}
use Rattle.pm_plan.specs.declared.uniqueness.Side.{Side}
use Rattle.pm_plan.specs.Tree.{Unary, Filter, Project, Sort, Group, keeps_columns}
use Rattle.pm_plan.specs.Kinds.{kinds_over}
use Rattle.pm_plan.specs.Unique.{left_part}
use Rattle.pm_plan.specs.Standing.{side_column, side_columns, AgreeBelow}

any-map : (k : ℕ) (s : Side) (pairs : List Pair) → list_any (λ pair. nat_eq k (side_column s pair)) pairs ≡ list_any (nat_eq k) (side_columns s pairs)
any-map k s [] = refl
any-map k s (pair ∷ pairs) = ap (λ b. nat_eq k (side_column s pair) || b) (any-map k s pairs)

any_below : (w k : ℕ) → k < w → (columns : List ℕ) → list_any (nat_eq k) (left_part w columns) ≡ list_any (nat_eq k) columns
any_below w k h [] = refl
any_below w k h (x ∷ columns) =
    elim (nat_lt x w) as (λ b. nat_lt x w ≡ b → list_any (nat_eq k) (left_part w (x ∷ columns)) ≡ list_any (nat_eq k) (x ∷ columns)) [
      | true ↦ (λ e. rw e (ap (λ b. nat_eq k x || b) (any_below w k h columns)))
      | false ↦ (λ e. let far : nat_eq k x ≡ false = grind (arith, nat_tests) in rw (e, far) (any_below w k h columns))
    ] refl

pub key_same : (w : ℕ) (key a : List ℕ) (s : Side) (pairs : List Pair) → ((k : ℕ) → k < length key → get_or key k 0 < w) → AgreeBelow w a (side_columns s pairs)
    → list_all (λ k. list_any (λ pair. nat_eq k (side_column s pair)) pairs) key ≡ list_all (λ k. list_any (nat_eq k) a) key
key_same w [] a s pairs low same = refl
key_same w (k ∷ key) a s pairs low same =
    let here : k < w = low 0 (omega arith) in
    let one : list_any (λ pair. nat_eq k (side_column s pair)) pairs ≡ list_any (nat_eq k) a =
    any-map k s pairs ∙ sym (any_below w k here (side_columns s pairs)) ∙ ap (list_any (nat_eq k)) (sym same) ∙ any_below w k here a in
    let more = key_same w key a s pairs (λ i h. low (suc i) (omega arith)) same in cc

part_of_part : (v w : ℕ) → v ≤ w → (columns : List ℕ) → left_part v (left_part w columns) ≡ left_part v columns
part_of_part v w h [] = refl
part_of_part v w h (x ∷ columns) =
    elim (nat_lt x w) as (λ b. nat_lt x w ≡ b → left_part v (left_part w (x ∷ columns)) ≡ left_part v (x ∷ columns)) [
      | true ↦ (λ e. let more = part_of_part v w h columns in rw e (
          elim (nat_lt x v) as (λ b. nat_lt x v ≡ b → left_part v (x ∷ left_part w columns) ≡ left_part v (x ∷ columns)) [
            | true ↦ (λ k. rw k (ap (λ s. x ∷ s) more))
            | false ↦ (λ k. rw k more)
          ] refl))
      | false ↦ (λ e. let far : nat_lt x v ≡ false = grind (arith, nat_tests) in rw (e, far) (part_of_part v w h columns))
    ] refl

pub agree_left : (v w : ℕ) (a b : List ℕ) → v ≤ w → AgreeBelow w a b → AgreeBelow v (left_part v a) b
agree_left v w a b h same =
    part_of_part v v (omega arith) a ∙ sym (part_of_part v w h a) ∙ ap (left_part v) same ∙ part_of_part v w h b

-- an operator that keeps its child's columns has as many
pub agree_over : (op : Unary) (kinds : List Kind) (a b : List ℕ) → keeps_columns op ≡ true → AgreeBelow (length (kinds_over op kinds)) a b → AgreeBelow (length kinds) a b
agree_over (Filter cond) kinds a b e same = same
agree_over (Project columns) kinds a b e same = absurd cc
agree_over (Sort keys) kinds a b e same = same
agree_over (Group keys items) kinds a b e same = absurd cc
