-- numbers compare as before when both are multiplied by one positive number
use Rattle.std.proofs.Common.{◌≡◌, ◌∙◌, ◌<◌, ◌≤◌, ◌+◌, ◌*◌, ◌-◌, ◌^◌, ℕ, zero, suc, refl, sym, ap, arith}
use Rattle.std.specs.Prelude.{ℤ, pos, negsuc, ◌*ℤ◌, ◌<ℤ◌, neg_ℤ}
use Rattle.std.proofs.Math.Nat.{mul-lt-mul_of_pos_right, mul_assoc, one-le-pow, zero-mul}
use Rattle.std.proofs.lemmas.Nat.{pow-add}
use Rattle.std.proofs.lemmas.Cmp.{int_cmp_total}
use Rattle.std.proofs.lemmas.Int.{ints}
use Rattle.std.specs.declared.cmp.Ordering.{Ordering}
use Rattle.std.specs.declared.cmp.Ordering.TheVariants as ordering
use Rattle.std.specs.Ordering.{int_cmp, ordering_reverse, MatchOrdering}
use Rattle.std.specs.Cmp.{int_cmp_is, int_ranks}

less_scaled : (a b : ℤ) (k : ℕ) → 0 < k → a <ℤ b → (a *ℤ pos k) <ℤ (b *ℤ pos k)
less_scaled (pos a) (pos b) k some h =
    let less : a < b = omega (arith, ints) in
    let k₁ = mul-lt-mul_of_pos_right {m = a} {n = b} {k = k} less some in
    omega (arith, ints)
less_scaled (pos a) (negsuc b) k some h = absurd (omega (arith, ints))
less_scaled (negsuc a) (pos b) k some h =
    let k₁ = mul-lt-mul_of_pos_right {m = zero} {n = suc a} {k = k} (omega arith) some in
    omega (arith, ints)
less_scaled (negsuc a) (negsuc b) k some h =
    let less : b < a = omega (arith, ints) in
    let k₁ = mul-lt-mul_of_pos_right {m = suc b} {n = suc a} {k = k} (omega arith) some in
    omega (arith, ints)

ranked_scaled : (a b : ℤ) (k : ℕ) → 0 < k → (o : Ordering) → MatchOrdering o (a <ℤ b) (a ≡ b) (b <ℤ a)
    → MatchOrdering o ((a *ℤ pos k) <ℤ (b *ℤ pos k)) ((a *ℤ pos k) ≡ (b *ℤ pos k)) ((b *ℤ pos k) <ℤ (a *ℤ pos k))
ranked_scaled a b k some ordering.Less h = less_scaled a b k some h
ranked_scaled a b k some ordering.Equal h = ap (λ z. z *ℤ pos k) h
ranked_scaled a b k some ordering.Greater h = less_scaled b a k some h

pub int_cmp_scaled : (a b : ℤ) (k : ℕ) → 0 < k → int_cmp (a *ℤ pos k) (b *ℤ pos k) ≡ int_cmp a b
int_cmp_scaled a b k some = sym (int_cmp_is (a *ℤ pos k) (b *ℤ pos k) (int_cmp a b) (ranked_scaled a b k some (int_cmp a b) (int_ranks a b)))

neg-mul : (n k : ℕ) → neg_ℤ (pos n) *ℤ pos k ≡ neg_ℤ (pos (n * k))
neg-mul zero k = rw (zero-mul k) refl
neg-mul (suc n) k = refl

mul_mul : (a : ℤ) (j k : ℕ) → (a *ℤ pos j) *ℤ pos k ≡ a *ℤ pos (j * k)
mul_mul (pos a) j k = ap pos (mul_assoc a j k)
mul_mul (negsuc a) j k = neg-mul (suc a * j) k ∙ ap (λ x. neg_ℤ (pos x)) (mul_assoc (suc a) j k)

pub ten-positive : (n : ℕ) → 0 < 10 ^ n
ten-positive n = one-le-pow n 10 (omega arith)

-- the side with fewer decimals alone is brought to the other's scale
pub int_cmp_fewer : (a b : ℤ) (s t : ℕ) → s ≤ t → int_cmp (a *ℤ pos (10 ^ (t - s))) b ≡ int_cmp (a *ℤ pos (10 ^ t)) (b *ℤ pos (10 ^ s))
int_cmp_fewer a b s t within =
    let split : t ≡ (t - s) + s = omega arith in
    let whole : 10 ^ t ≡ 10 ^ (t - s) * 10 ^ s = ap (λ n. 10 ^ n) split ∙ pow-add 10 (t - s) s in
    sym (int_cmp_scaled (a *ℤ pos (10 ^ (t - s))) b (10 ^ s) (ten-positive s))
    ∙ ap (λ x. int_cmp x (b *ℤ pos (10 ^ s))) (mul_mul a (10 ^ (t - s)) (10 ^ s) ∙ ap (λ n. a *ℤ pos n) (sym whole))

pub int_cmp_more : (a b : ℤ) (s t : ℕ) → t ≤ s → ordering_reverse (int_cmp (b *ℤ pos (10 ^ (s - t))) a) ≡ int_cmp (a *ℤ pos (10 ^ t)) (b *ℤ pos (10 ^ s))
int_cmp_more a b s t within =
    ap ordering_reverse (int_cmp_fewer b a t s within) ∙ sym (int_cmp_total.antisymm (a *ℤ pos (10 ^ t)) (b *ℤ pos (10 ^ s)))
