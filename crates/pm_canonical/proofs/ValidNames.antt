-- Names and numbers that tokens stand for are valid.
use Rattle.std.proofs.Common.{◌≡◌, ◌<◌, ◌^◌, ℕ, suc, zero, ℤ, pos, neg_ℤ, Bool, true, false, List, [], ◌∷◌, length, filter, cond, if◌then◌else◌, unsigned_abs, refl, sym, ◌∙◌, subst, arith, nat_le}
use Rattle.std.specs.List.{list_all}
use Rattle.std.specs.Char.{is_ascii_digit}
use Rattle.pm_lexer.specs.declared.token.Token.{Token}
use Rattle.pm_lexer.specs.declared.token.TokenKind.{TokenKind}
use Rattle.pm_lexer.specs.declared.token.TokenKind.TheVariants as kind
use Rattle.pm_lexer.specs.declared.symbol.Symbol.TheVariants as symbol
use Rattle.pm_lexer.specs.Symbol.{is, symbol_of, symbol_at, same_symbol}
use Rattle.pm_lexer.specs.Pieces.{content_at, decimals_len}
use Rattle.pm_grammar.specs.Reading.{named}
use Rattle.pm_syntax.specs.Terminals.{magnitude, magnitude_of}
use Rattle.pm_lexer.specs.Quoting.{is_plain}
use Rattle.pm_lexer.specs.declared.symbol.TheConstants.{NUMBER_BYTES}
use Rattle.pm_lexer.proofs.TokenKinds.{name_kind, no_word, no_sign, number_at}
use Rattle.pm_canonical.proofs.Valid.{ValidName, ValidPlaced, ValidNumber}
use Rattle.pm_canonical.proofs.Formed.{IsFormed, IsFormedAt, IsNumber}
use Rattle.pm_canonical.proofs.Runs.{all_both}
use Rattle.pm_canonical.proofs.Values.{value_small, padded_length}

-- a name's token
plain_some : (name : List ℕ) → is_plain name ≡ true → 0 < length name
plain_some [] e = absurd (cc e)
plain_some (b ∷ rest) e = omega arith

number_no_name : (slice : List ℕ) → same_symbol (symbol_at kind.Number slice) symbol.Name ≡ true → ⊥
unfolding same_symbol
number_no_name slice same = elim (nat_le (length slice) NUMBER_BYTES) as (λ b. same_symbol (if b then symbol.Number else symbol.Other) symbol.Name ≡ true → ⊥) [ true ↦ λ e. cc e | false ↦ λ e. cc e ] same

name_valid : (k : TokenKind) (slice : List ℕ) → IsFormedAt k slice → same_symbol (symbol_at k slice) symbol.Name ≡ true → ValidName (content_at k slice)
unfolding same_symbol
name_valid kind.Name slice formed same = record { some = plain_some slice formed.plain; short = formed.short; clean = λ e. absurd (let bad : true ≡ false = sym formed.plain ∙ e in cc bad) }
name_valid kind.Reserved slice formed same = absurd (no_word symbol.Name name_kind slice same)
name_valid kind.Quoted slice formed same = record { some = formed.some; short = formed.short; clean = λ _. formed.clean }
name_valid kind.Number slice formed same = absurd (number_no_name slice same)
name_valid kind.Text slice formed same = absurd (cc same)
name_valid kind.Sign slice formed same = absurd (no_sign symbol.Name name_kind slice same)
name_valid kind.End slice formed same = absurd (cc same)

pub placed_valid : (t : Token) → IsFormed t → is symbol.Name t ≡ true → ValidPlaced (named t)
unfolding symbol_of
placed_valid t formed e = name_valid t.kind t.slice formed e

-- a number's token
number_formed_at : (k : TokenKind) (slice : List ℕ) → IsFormedAt k slice → k ≡ kind.Number → IsNumber slice
number_formed_at k slice formed e = subst (λ k. IsFormedAt k slice) e formed

filtered : (p : ℕ → Bool) (xs : List ℕ) → list_all p (filter p xs) ≡ true
filtered p [] = refl
filtered p (x ∷ xs) = elim (p x) as (λ b. p x ≡ b → list_all p (cond b (x ∷ filter p xs) (filter p xs)) ≡ true) [ true ↦ λ e. all_both p x (filter p xs) e (filtered p xs) | false ↦ λ e. filtered p xs ] refl

magnitude_small : (slice : List ℕ) → IsNumber slice → magnitude_of slice < 10 ^ 30
magnitude_small slice n = value_small (filter is_ascii_digit slice) 30 (filtered is_ascii_digit slice) (let short = n.short in omega (arith, n.digits, short))

abs_neg : (m : ℕ) → unsigned_abs (neg_ℤ (pos m)) ≡ m
abs_neg zero = refl
abs_neg (suc m) = refl

number_is_valid : (value : ℤ) (m : ℕ) (slice : List ℕ) → unsigned_abs value ≡ m → m ≡ magnitude_of slice → IsNumber slice → ValidNumber value (decimals_len slice)
number_is_valid value m slice e f n =
    let small : m < 10 ^ 30 = rw f (magnitude_small slice n) in
    record { few = n.decimals; small = rw e small; short = rw e (padded_length m (decimals_len slice) small n.decimals) }

pub number_valid : (t : Token) → IsFormed t → is symbol.Number t ≡ true → ValidNumber (pos (magnitude t)) (decimals_len t.slice) × ValidNumber (neg_ℤ (pos (magnitude t))) (decimals_len t.slice)
unfolding symbol_of
number_valid t formed e =
    let n = number_formed_at t.kind t.slice formed (number_at t.kind t.slice e).0 in
    (number_is_valid (pos (magnitude t)) (magnitude t) t.slice refl refl n, number_is_valid (neg_ℤ (pos (magnitude t))) (magnitude t) t.slice (abs_neg (magnitude t)) refl n)
