-- rows that ascend by neighbours ascend throughout: no later row is less than an earlier one
use Rattle.std.proofs.Common.{◌≡◌, ◌≢◌, ℕ, zero, suc, Bool, true, false, ◌||◌, List, [], ◌∷◌, refl, sym, ap, ◌∙◌, arith}
use Rattle.std.specs.List.{list_any}
use Rattle.std.specs.Ordering.{ordering_reverse}
use Rattle.std.specs.declared.cmp.Ordering.{Ordering}
use Rattle.std.specs.declared.cmp.Ordering.TheVariants as ordering
use Rattle.pm_values.specs.Row.{Row, pick}
use Rattle.pm_values.specs.Order.{values_cmp, is_less, Ascends}
use Rattle.pm_values.proofs.ValueOrder.{values_cmp_itself, values_cmp_reversed, values_cmp_chains}

pub or_false : (a b : Bool) → (a || b) ≡ false → (a ≡ false) × (b ≡ false)
or_false true b e = absurd cc
or_false false b e = (refl, e)

pub or_intro : (a b : Bool) → a ≡ false → b ≡ false → (a || b) ≡ false
or_intro true b e f = absurd cc
or_intro false b e f = f

-- no row and a later one are so related
abbrev pub NoPair : (Row → Row → Bool) → List Row → Type 0
NoPair related [] = Unit {0}
NoPair related (row ∷ rows) = (list_any (related row) rows ≡ false) × NoPair related rows

-- the second row is less than the first in these columns
abbrev pub falls : List ℕ → Row → Row → Bool
falls columns a b = is_less (values_cmp (pick columns b) (pick columns a))

reversed_less : (o : Ordering) → o ≢ ordering.Greater → is_less (ordering_reverse o) ≡ false
reversed_less ordering.Less h = refl
reversed_less ordering.Equal h = refl
reversed_less ordering.Greater h = absurd (h refl)

reversed_greater : (o : Ordering) → is_less (ordering_reverse o) ≡ false → o ≢ ordering.Greater
reversed_greater ordering.Less h g = cc
reversed_greater ordering.Equal h g = cc
reversed_greater ordering.Greater h g = cc

pub not_less : (a b : Row) → values_cmp a b ≢ ordering.Greater → is_less (values_cmp b a) ≡ false
not_less a b h = ap is_less (values_cmp_reversed a b) ∙ reversed_less (values_cmp a b) h

pub not_greater : (a b : Row) → is_less (values_cmp b a) ≡ false → values_cmp a b ≢ ordering.Greater
not_greater a b h = reversed_greater (values_cmp a b) (ap is_less (sym (values_cmp_reversed a b)) ∙ h)

-- what is not greater than the first row's key is not greater than a later one's
none_below : (columns : List ℕ) (key first : Row) (rows : List Row) → values_cmp key (pick columns first) ≢ ordering.Greater → Ascends columns (first ∷ rows)
    → list_any (λ b. is_less (values_cmp (pick columns b) key)) rows ≡ false
none_below columns key first [] h up = refl
none_below columns key first (next ∷ rows) h up =
    let later : values_cmp key (pick columns next) ≢ ordering.Greater = values_cmp_chains key (pick columns first) (pick columns next) h (up 0 (omega arith)) in
    or_intro (is_less (values_cmp (pick columns next) key)) (list_any (λ b. is_less (values_cmp (pick columns b) key)) rows)
    (not_less key (pick columns next) later)
    (none_below columns key next rows later (λ i p. up (suc i) (omega (arith, p))))

pub not_greater_itself : (key : Row) → values_cmp key key ≢ ordering.Greater
not_greater_itself key greater = absurd (let e : ordering.Equal ≡ ordering.Greater = sym (values_cmp_itself key) ∙ greater in cc)

pub none_falls : (columns : List ℕ) (rows : List Row) → Ascends columns rows → NoPair (falls columns) rows
none_falls columns [] up = tt
none_falls columns (row ∷ rows) up = (
  none_below columns (pick columns row) row rows (not_greater_itself (pick columns row)) up,
  none_falls columns rows (λ i p. up (suc i) (omega (arith, p))),
)

pub ascends_of : (columns : List ℕ) (rows : List Row) → NoPair (falls columns) rows → Ascends columns rows
ascends_of columns [] none i p = absurd (omega (arith, p))
ascends_of columns (row ∷ []) none i p = absurd (omega (arith, p))
ascends_of columns (row ∷ next ∷ rows) none zero p =
    not_greater (pick columns row) (pick columns next) (or_false (falls columns row next) (list_any (falls columns row) rows) none.0).0
ascends_of columns (row ∷ next ∷ rows) none (suc i) p = ascends_of columns (next ∷ rows) none.1 i (omega (arith, p))
