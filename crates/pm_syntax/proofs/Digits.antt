-- How large a number of so many digits may be.
use Rattle.std.proofs.Common.{◌≡◌, ◌<◌, ◌≤◌, ◌+◌, ◌-◌, ◌*◌, ◌^◌, ℕ, suc, zero, true, length, refl, arith}
use Rattle.std.specs.Char.{is_ascii_digit}
use Rattle.std.proofs.Math.Nat.{pow-succ'}
use Rattle.std.proofs.lemmas.Bool.Decides.{nat_tests}
use Rattle.pm_lexer.specs.declared.token.Token.{Token}
use Rattle.pm_lexer.specs.declared.symbol.Symbol.TheVariants as symbol
use Rattle.pm_lexer.specs.Symbol.{symbol_of, is}
use Rattle.pm_lexer.proofs.TokenKinds.{number_at}

pub power_step : (i : ℕ) → 10 ^ (i + 1) ≡ 10 * 10 ^ i
power_step i = let e : i + 1 ≡ suc i = omega arith in rw (e, pow-succ') refl

power_grows : (i k : ℕ) → 10 ^ i ≤ 10 ^ (i + k)
power_grows i zero = let e : i + 0 ≡ i = omega arith in rw e (omega arith)
power_grows i (suc k) = let e : i + suc k ≡ i + k + 1 = omega arith in rw e (let ih = power_grows i k in omega (arith, power_step (i + k)))

pub power_below : (i : ℕ) → i ≤ 31 → 10 ^ i ≤ 10 ^ 31
power_below i h = let e : i + (31 - i) ≡ 31 = omega arith in rw e at (power_grows i (31 - i))

-- a digit more still fits
pub digit_fits : (value i b : ℕ) → value < 10 ^ i → i + 1 ≤ 31 → is_ascii_digit b ≡ true → 10 * value + (b - 48) < 10 ^ 31
digit_fits value i b h le e = let small : b - 48 ≤ 9 = grind (arith, nat_tests) in omega (arith, power_step i, power_below (i + 1) le)

-- a number has at most 31 bytes
pub number_is_short : (t : Token) → is symbol.Number t ≡ true → length t.slice ≤ 31
unfolding symbol_of
number_is_short t e = (number_at t.kind t.slice e).1
