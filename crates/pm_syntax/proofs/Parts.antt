-- The cases of the reading of a part.
use Rattle.std.proofs.Common.{◌≡◌, ◌<◌, ◌-◌, ℕ, zero, suc, Bool, true, false, List, [], ◌∷◌, drop, Ok, Err, refl, arith, sub-one, ◌||◌}
use Rattle.pm_lexer.specs.declared.token.Token.{Token}
use Rattle.pm_lexer.specs.declared.symbol.Symbol.TheVariants as symbol
use Rattle.pm_lexer.specs.Symbol.{is}
use Rattle.pm_grammar.specs.Reading.{too_deep, ◌>>=◌, place_of, sees, token_at}
use Rattle.pm_syntax.specs.declared.tree.Test.TheVariants as test
use Rattle.pm_syntax.specs.Reading.{part_at, part_peek, cond_at, test_at}
use Rattle.pm_syntax.specs.Terminals.{opens, begins_test}

pub peek_deep : (ts : List Token) → sees opens ts ≡ true → part_peek 0 ts ≡ Err (too_deep (place_of ts))
unfolding part_peek
peek_deep ts s = rw s refl

pub peek_opens : (d : ℕ) (ts : List Token) → 0 < d → sees opens ts ≡ true → part_peek d ts ≡ token_at opens ts
unfolding part_peek
peek_opens zero ts h s = absurd (omega arith)
peek_opens (suc d) ts h s = rw s refl

pub peek_test : (d : ℕ) (ts : List Token) → sees opens ts ≡ false → part_peek d ts ≡ token_at begins_test ts
unfolding part_peek
peek_test zero ts s = rw s refl
peek_test (suc d) ts s = rw s refl

pub no_not : (ts : List Token) → sees opens ts ≡ false → sees (is symbol.Not) ts ≡ false
no_not [] s = refl
no_not (t ∷ ts) s = first (is symbol.Not t) (is symbol.Open t) s
  where
    first : (a b : Bool) → (a || b) ≡ false → a ≡ false
    first true b e = e
    first false b e = refl

pub no_open : (ts : List Token) → sees opens ts ≡ false → sees (is symbol.Open) ts ≡ false
no_open [] s = refl
no_open (t ∷ ts) s = second (is symbol.Not t) (is symbol.Open t) s
  where
    second : (a b : Bool) → (a || b) ≡ false → b ≡ false
    second true b e = absurd (cc e)
    second false b e = e

open_next : (ts : List Token) → sees opens ts ≡ true → sees (is symbol.Not) ts ≡ false → sees (is symbol.Open) ts ≡ true
open_next [] s n = absurd (cc s)
open_next (t ∷ ts) s n = other (is symbol.Not t) (is symbol.Open t) s n
  where
    other : (a b : Bool) → (a || b) ≡ true → a ≡ false → b ≡ true
    other true b e f = absurd (cc f)
    other false b e f = e

pub part_is_test : (g : Bool) (d : ℕ) (ts : List Token) → sees opens ts ≡ false → part_at g d ts ≡ test_at g ts
unfolding part_at
part_is_test g zero ts s = rw s refl
part_is_test g (suc d) ts s = let n = no_not ts s in let o = no_open ts s in rw (n, o) refl

pub part_is_deep : (g : Bool) (ts : List Token) → sees opens ts ≡ true → part_at g 0 ts ≡ Err (too_deep (place_of ts))
unfolding part_at
part_is_deep g ts s = rw s refl

pub part_is_not : (g : Bool) (d : ℕ) (ts : List Token) → 0 < d → sees (is symbol.Not) ts ≡ true → part_at g d ts ≡ (part_at g (d - 1) (drop 1 ts) >>= λ part. Ok (test.Not part.0, part.1))
unfolding part_at
part_is_not g zero ts h s = absurd (omega arith)
part_is_not g (suc d) ts h s = rw (s, sub-one) refl

pub part_is_cond : (g : Bool) (d : ℕ) (ts : List Token) → 0 < d → sees opens ts ≡ true → sees (is symbol.Not) ts ≡ false
    → part_at g d ts ≡ (token_at (is symbol.Open) ts >>= λ paren. (cond_at (part_peek (d - 1)) (part_at g (d - 1)) paren.1 >>= λ cond. (token_at (is symbol.Close) cond.1 >>= λ close. Ok (cond.0, close.1))))
unfolding part_at
part_is_cond g zero ts h s n = absurd (omega arith)
part_is_cond g (suc d) [] h s n = absurd (cc s)
part_is_cond g (suc d) (t ∷ ts) h s n = let o = open_next (t ∷ ts) s n in rw (n, o, sub-one) refl
