-- aggregates with one more row, and why their numbers fit
use Rattle.std.proofs.Common.{◌≡◌, ℕ, suc, ◌+◌, ◌*◌, ◌<◌, ◌≤◌, ◌^◌, Bool, true, false, not, if◌then◌else◌, List, [], ◌∷◌, ◌++◌, length, filter, refl, ap, ◌∙◌, arith}
use Rattle.std.specs.Prelude.{pos, ◌≤ℤ◌}
use Rattle.std.specs.List.{AllByRecursion}
use Rattle.std.proofs.Math.IntN.{neg_ℤ}
use Rattle.std.proofs.lemmas.Int.{ints}
use Rattle.std.proofs.lemmas.List.{length_push, length-map}
use Rattle.std.proofs.lemmas.List.Elements.{recursion_from_All}
use Rattle.pm_values.specs.declared.value.Value.{Value}
use Rattle.pm_values.specs.declared.value.Value.TheVariants as value
use Rattle.pm_values.specs.Row.{Row, cell}
use Rattle.pm_values.specs.Equality.{is_null}
use Rattle.pm_values.proofs.KeyCounts.{length-filter_le}
use Rattle.pm_plan.specs.declared.plan.Aggregate.{Aggregate}
use Rattle.pm_plan.specs.declared.plan.Aggregate.TheVariants as aggregate
use Rattle.pm_plan.specs.Grouping.{column_values, plus, aggregate_of}
use Rattle.pm_plan.proofs.Appends.{count_all-more, count-more, sum-more, min-more, max-more}
use Rattle.pm_blocks.specs.Limits.{IsShort, IsSummable}
use Rattle.pm_blocks.specs.Accumulators.{one_more, with_row, IsCount, SumFits, HasRoom}

-- ---- one more row

counted : (n : ℕ) (b : Bool) → value.Int (pos (n + (if b then 0 else 1))) ≡ (if b then value.Int (pos n) else one_more (value.Int (pos n)))
counted n true = ap (λ k. value.Int (pos k)) (omega arith)
counted n false = refl

pub aggregate_of-more : (item : Aggregate) (rows : List Row) (row : Row) → aggregate_of (rows ++ row ∷ []) item ≡ with_row row item (aggregate_of rows item)
aggregate_of-more aggregate.CountAll rows row = count_all-more rows row
aggregate_of-more (aggregate.Count column) rows row =
    count-more column rows row ∙ counted (length (filter (λ v. not (is_null v)) (column_values column rows))) (is_null (cell row column))
aggregate_of-more (aggregate.Sum column) rows row = sum-more column rows row
aggregate_of-more (aggregate.Min column) rows row = min-more column rows row
aggregate_of-more (aggregate.Max column) rows row = max-more column rows row

-- ---- numbers that fit

pub filter-all : {X : Type 0} (P : X → Type 0) (p : X → Bool) (xs : List X) → AllByRecursion P xs → AllByRecursion P (filter p xs)
filter-all P p [] all = tt
filter-all P p (x ∷ xs) all =
    elim (p x) as (λ b. AllByRecursion P (if b then x ∷ filter p xs else filter p xs)) [ true ↦ (all.0, filter-all P p xs all.1) | false ↦ filter-all P p xs all.1 ]

-- NULL, or a sum of so many numbers of 64 bits
abbrev IsSumOf : ℕ → Value → Type 0
IsSumOf n value.Null = Unit {0}
IsSumOf n (value.Int z) = (neg_ℤ (pos (n * 2 ^ 63)) ≤ℤ z) × (z ≤ℤ pos (n * 2 ^ 63))
IsSumOf n (value.Text t) = ⊥

IsSumOf-more : (n : ℕ) (v so_far : Value) → IsShort v → IsSumOf n so_far → IsSumOf (suc n) (plus v so_far)
IsSumOf-more n value.Null value.Null short sum = tt
IsSumOf-more n value.Null (value.Int z) short sum = (omega (arith, ints), omega (arith, ints))
IsSumOf-more n value.Null (value.Text t) short sum = sum
IsSumOf-more n (value.Int m) value.Null short sum = (omega (arith, ints), omega (arith, ints))
IsSumOf-more n (value.Int m) (value.Int z) short sum = (omega (arith, ints), omega (arith, ints))
IsSumOf-more n (value.Int m) (value.Text t) short sum = absurd sum
IsSumOf-more n (value.Text t) so_far short sum = absurd short

IsSumOf-rows : (column : ℕ) (rows : List Row) → AllByRecursion (λ row. IsShort (cell row column)) rows → IsSumOf (length rows) (aggregate_of rows (aggregate.Sum column))
IsSumOf-rows column [] all = tt
IsSumOf-rows column (row ∷ rows) all =
    IsSumOf-more (length rows) (cell row column) (aggregate_of rows (aggregate.Sum column)) all.0 (IsSumOf-rows column rows all.1)

SumFits-few : (n : ℕ) (so_far v : Value) → n < 10 ^ 18 → IsSumOf n so_far → IsShort v → SumFits so_far v
SumFits-few n value.Null v few sum short = tt
SumFits-few n (value.Int m) value.Null few sum short = tt
SumFits-few n (value.Int m) (value.Int k) few sum short = omega (arith, ints)
SumFits-few n (value.Int m) (value.Text t) few sum short = tt
SumFits-few n (value.Text t) v few sum short = absurd sum

IsCount-few : (n : ℕ) → n ≤ 10 ^ 34 → IsCount (value.Int (pos n))
IsCount-few n few = (omega (arith, ints), omega (arith, ints))

all-pushed : {X : Type 0} (P : X → Type 0) (xs : List X) (y : X) → AllByRecursion P (xs ++ y ∷ []) → AllByRecursion P xs × P y
all-pushed P [] y all = (tt, all.0)
all-pushed P (x ∷ xs) y all = let rest = all-pushed P xs y all.1 in ((all.0, rest.0), rest.1)

-- the aggregates of some of the rows can take one more
pub HasRoom-some : (p : Row → Bool) (item : Aggregate) (rows : List Row) (row : Row) → length (rows ++ row ∷ []) ≤ 10 ^ 34 → IsSummable (rows ++ row ∷ []) item
    → HasRoom row item (aggregate_of (filter p rows) item)
HasRoom-some p aggregate.CountAll rows row few sums = IsCount-few (length (filter p rows)) (omega (arith, length-filter_le p rows, length_push rows row))
HasRoom-some p (aggregate.Count column) rows row few sums =
    let some = filter p rows in
    let here = λ (v : Value). not (is_null v) in
    IsCount-few (length (filter here (column_values column some)))
    (omega (arith, length-filter_le here (column_values column some), length-map some (λ (r : Row). cell r column), length-filter_le p rows, length_push rows row))
HasRoom-some p (aggregate.Sum column) rows row few sums =
    let short = λ (r : Row). IsShort (cell r column) in
    let each = all-pushed short rows row (recursion_from_All short (rows ++ row ∷ []) sums.1) in
    SumFits-few (length (filter p rows)) (aggregate_of (filter p rows) (aggregate.Sum column)) (cell row column) (omega (arith, sums.0, length-filter_le p rows, length_push rows row))
    (IsSumOf-rows column (filter p rows) (filter-all short p rows each.0)) each.1
HasRoom-some p (aggregate.Min column) rows row few sums = tt
HasRoom-some p (aggregate.Max column) rows row few sums = tt
