-- tests along a list, and lists of tables
use Rattle.std.proofs.Common.{◌≡◌, ◌<◌, ◌+◌, ℕ, Bool, ◌&&◌, ◌||◌, List, [], ◌∷◌, ◌++◌, length, get_or, take, map, refl, sym, ap, ◌∙◌, subst}
use Rattle.std.specs.Prelude.{All, nat_eq}
use Rattle.std.specs.List.{list_any, list_all}
use Rattle.std.proofs.lemmas.List.{map_more}
use Rattle.std.proofs.lemmas.List.Elements.{All-push}
use Rattle.pm_values.specs.Table.{Declaration, IsDeclaration}
use Rattle.pm_plan.specs.declared.plan.Pair.{Pair}
use Rattle.pm_query.specs.declared.query.QueryTable.{QueryTable}
use Rattle.pm_joining.specs.declared.uniqueness.Side.{Side}
use Rattle.pm_joining.specs.Sides.{side_column, side_columns}
use Rattle.pm_joining.specs.Tables.{table_decls}

pub any_map : {A : Type 0} (f : A → Bool) (xs : List A) → list_any (λ m. m) (map f xs) ≡ list_any f xs
any_map f [] = refl
any_map f (x ∷ xs) = ap (λ r. f x || r) (any_map f xs)

pub all_map : {A : Type 0} (f : A → Bool) (xs : List A) → list_all (λ m. m) (map f xs) ≡ list_all f xs
all_map f [] = refl
all_map f (x ∷ xs) = ap (λ r. f x && r) (all_map f xs)

any_side : (k : ℕ) (s : Side) (pairs : List Pair) → list_any (λ pair. nat_eq k (side_column s pair)) pairs ≡ list_any (nat_eq k) (side_columns s pairs)
any_side k s [] = refl
any_side k s (pair ∷ pairs) = ap (λ b. nat_eq k (side_column s pair) || b) (any_side k s pairs)

pub key_side : (s : Side) (pairs : List Pair) (key : List ℕ)
    → list_all (λ k. list_any (λ pair. nat_eq k (side_column s pair)) pairs) key ≡ list_all (λ k. list_any (nat_eq k) (side_columns s pairs)) key
key_side s pairs [] = refl
key_side s pairs (k ∷ key) =
    ap (λ b. b && list_all (λ k. list_any (λ pair. nat_eq k (side_column s pair)) pairs) key) (any_side k s pairs)
    ∙ ap (λ b. list_any (nat_eq k) (side_columns s pairs) && b) (key_side s pairs key)

abbrev decl_of : QueryTable → Declaration
decl_of table = table.decl

pub declared_more : (tables : List QueryTable) (i : ℕ) (x : QueryTable) → i < length tables → x ≡ get_or tables i x
    → All IsDeclaration (table_decls (take i tables)) → IsDeclaration x.decl → All IsDeclaration (table_decls (take (i + 1) tables))
declared_more tables i x within is before here =
    subst (All IsDeclaration) (sym (map_more decl_of tables i x within ∙ ap (λ z. map decl_of (take i tables) ++ decl_of z ∷ []) (sym is)))
    (All-push IsDeclaration (map decl_of (take i tables)) x.decl before here)
