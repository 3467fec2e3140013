-- the upper bounds of a join's rows as plain numbers: k of the left rows and j of the right rows are read, hl and hr bound both sides, s is
-- settled
use Rattle.std.proofs.Common.{◌≡◌, ℕ, suc, ◌+◌, ◌-◌, ◌*◌, ◌≤◌, Bool, true, false, min, refl, ap, ◌∙◌, arith}
use Rattle.std.proofs.Math.Nat.{mul-le-mul, le_refl}
use Rattle.pm_work.specs.Formulas.{capped_if}

-- ---- caps

pub capped_above : (flag : Bool) (a cap x : ℕ) → (flag ≡ true → a ≤ cap) → a ≤ x → a ≤ capped_if flag cap x
capped_above true a cap x c h = omega (arith, c refl, h)
capped_above false a cap x c h = h

pub capped_mono : (flag : Bool) (cap x cap' x' : ℕ) → cap' ≤ cap → x' ≤ x → capped_if flag cap' x' ≤ capped_if flag cap x
capped_mono true cap x cap' x' c h = omega (arith, c, h)
capped_mono false cap x cap' x' c h = h

pub capped_below : (flag : Bool) (cap x : ℕ) → capped_if flag cap x ≤ x
capped_below true cap x = omega arith
capped_below false cap x = omega arith

pub min_mono : (a b c d : ℕ) → a ≤ c → b ≤ d → min a b ≤ min c d
min_mono a b c d p q = omega arith

-- ---- products

one_more : (u v h : ℕ) → v ≡ suc u → v * h ≡ u * h + h
one_more u v h e = rw e (omega arith)

one_more_times : (u v h : ℕ) → v ≡ suc u → h * v ≡ h * u + h
one_more_times u v h e = rw e (omega arith)

sum_times : (a b c h : ℕ) → c ≡ a + b → a * h + b * h ≡ c * h
sum_times a b c h e = rw e (omega arith)

times_sum : (a b c h : ℕ) → c ≡ a + b → h * a + h * b ≡ h * c
times_sum a b c h e = rw e (omega arith)

pub nothing_left : (h k m : ℕ) → h ≤ k → (h - k) * m ≡ 0
nothing_left h k m le = let none : h - k ≡ 0 = omega arith in ap (λ x. x * m) none ∙ (omega arith)

-- ---- pairs: a row to come pairs with each of the other side

abbrev pub pairs_sum : ℕ → ℕ → ℕ → ℕ → ℕ → ℕ
pairs_sum s k hl j hr = s + ((hl - k) * hr + k * (hr - j))

pub pairs_above : (all s first rest l hl r hr k j : ℕ)
    → all ≡ first + rest → first ≤ s + k * (r - j) → rest ≤ (l - k) * r → l ≤ hl → r ≤ hr → all ≤ pairs_sum s k hl j hr
pairs_above all s first rest l hl r hr k j e a b c d =
    let p : (l - k) * r ≤ (hl - k) * hr = mul-le-mul (omega arith) d in
    let q : k * (r - j) ≤ k * (hr - j) = mul-le-mul (le_refl k) (omega arith) in
    omega arith

-- from one moment to the next: one left row more, one right row more, or neither
pub pairs_left : (s s' k j hl hr hl' hr' : ℕ) → s' ≤ s + j → suc k ≤ hl' → hl' ≤ hl → hr' ≤ hr → j ≤ hr' → pairs_sum s' (suc k) hl' j hr' ≤ pairs_sum s k hl j hr
pairs_left s s' k j hl hr hl' hr' a b c d e =
    let p : (hl' - k) * hr' ≤ (hl - k) * hr = mul-le-mul (omega arith) d in
    let q : k * (hr' - j) ≤ k * (hr - j) = mul-le-mul (le_refl k) (omega arith) in
    let x : (hl' - k) * hr' ≡ (hl' - suc k) * hr' + hr' = one_more (hl' - suc k) (hl' - k) hr' (omega arith) in
    let y : suc k * (hr' - j) ≡ k * (hr' - j) + (hr' - j) = omega arith in
    omega arith

pub pairs_right : (s s' k j hl hr hl' hr' : ℕ) → s' ≤ s + k → suc j ≤ hr' → hl' ≤ hl → hr' ≤ hr → pairs_sum s' k hl' (suc j) hr' ≤ pairs_sum s k hl j hr
pairs_right s s' k j hl hr hl' hr' a b c d =
    let p : (hl' - k) * hr' ≤ (hl - k) * hr = mul-le-mul (omega arith) d in
    let q : k * (hr' - j) ≤ k * (hr - j) = mul-le-mul (le_refl k) (omega arith) in
    let x : k * (hr' - j) ≡ k * (hr' - suc j) + k = one_more_times (hr' - suc j) (hr' - j) k (omega arith) in
    omega arith

pub pairs_still : (s k j hl hr hl' hr' : ℕ) → hl' ≤ hl → hr' ≤ hr → pairs_sum s k hl' j hr' ≤ pairs_sum s k hl j hr
pairs_still s k j hl hr hl' hr' c d =
    let p : (hl' - k) * hr' ≤ (hl - k) * hr = mul-le-mul (omega arith) d in
    let q : k * (hr' - j) ≤ k * (hr - j) = mul-le-mul (le_refl k) (omega arith) in
    omega arith

-- no more than where nothing is read
pub pairs_first : (s k hl j hr fl fr : ℕ) → s ≤ k * j → k ≤ hl → j ≤ hr → hl ≤ fl → hr ≤ fr → pairs_sum s k hl j hr ≤ pairs_sum 0 0 fl 0 fr
pairs_first s k hl j hr fl fr a b c d e =
    let rows : k * j + k * (hr - j) ≡ k * hr = times_sum j (hr - j) hr k (omega arith) in
    let sides : k * hr + (hl - k) * hr ≡ hl * hr = sum_times k (hl - k) hl hr (omega arith) in
    let top : hl * hr ≤ fl * fr = mul-le-mul d e in
    let less : fl - 0 ≡ fl = omega arith in
    let none : (fl - 0) * fr ≡ fl * fr = ap (λ x. x * fr) less in
    omega arith

-- nothing is to come
pub pairs_end : (s k hl j hr : ℕ) → hl ≤ k → hr ≤ j → pairs_sum s k hl j hr ≤ s
pairs_end s k hl j hr a b =
    let p : (hl - k) * hr ≡ 0 = nothing_left hl k hr a in
    let z : hr - j ≡ 0 = omega arith in
    let q : k * (hr - j) ≡ 0 = ap (λ x. k * x) z ∙ times k in
    omega arith
  where
    times : (k : ℕ) → k * 0 ≡ 0
    times k = omega arith

-- ---- rates: a left row to come gives m rows at most

abbrev pub rated : ℕ → ℕ → ℕ → ℕ → ℕ
rated s k hl m = s + (hl - k) * m

pub rate_above : (all s l k hl m m' : ℕ) → all ≤ rated s k l m → l ≤ hl → m ≤ m' → all ≤ rated s k hl m'
rate_above all s l k hl m m' a b c =
    let p : (l - k) * m ≤ (hl - k) * m' = mul-le-mul (omega arith) c in
    omega arith

pub rate_left : (s s' k hl hl' m m' : ℕ) → s' ≤ s + m' → suc k ≤ hl' → hl' ≤ hl → m' ≤ m → rated s' (suc k) hl' m' ≤ rated s k hl m
rate_left s s' k hl hl' m m' a b c d =
    let p : (hl' - k) * m' ≤ (hl - k) * m = mul-le-mul (omega arith) d in
    let x : (hl' - k) * m' ≡ (hl' - suc k) * m' + m' = one_more (hl' - suc k) (hl' - k) m' (omega arith) in
    omega arith

pub rate_still : (s k hl hl' m m' : ℕ) → hl' ≤ hl → m' ≤ m → rated s k hl' m' ≤ rated s k hl m
rate_still s k hl hl' m m' c d =
    let p : (hl' - k) * m' ≤ (hl - k) * m = mul-le-mul (omega arith) d in
    omega arith

pub rate_first : (s k h first m first_m : ℕ) → s ≤ k * m → k ≤ h → h ≤ first → m ≤ first_m → rated s k h m ≤ rated 0 0 first first_m
rate_first s k h first m first_m a b c d =
    let sides : k * m + (h - k) * m ≡ h * m = sum_times k (h - k) h m (omega arith) in
    let top : h * m ≤ first * first_m = mul-le-mul c d in
    let less : first - 0 ≡ first = omega arith in
    let none : (first - 0) * first_m ≡ first * first_m = ap (λ x. x * first_m) less in
    omega arith
