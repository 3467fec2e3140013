-- What the kind of a token is that a grammar sees as a name or a number.
use Rattle.std.proofs.Common.{◌≡◌, ◌≤◌, ℕ, Bool, true, false, not, List, [], ◌∷◌, length, cond, Some, unwrap_or, if◌then◌else◌, codes, refl, sym, ◌∙◌, ap, arith, nat_le}
use Rattle.std.proofs.lemmas.Bool.{and_parts}
use Rattle.std.proofs.lemmas.Bool.Decides.{nat_tests}
use Rattle.std.specs.List.{find, list_all}
use Rattle.std.specs.Str.{bytes_eq, str_eq_ignore_ascii_case}
use Rattle.pm_lexer.specs.declared.token.TokenKind.{TokenKind}
use Rattle.pm_lexer.specs.declared.token.TokenKind.TheVariants as kind
use Rattle.pm_lexer.specs.declared.symbol.Symbol.{Symbol}
use Rattle.pm_lexer.specs.declared.symbol.Symbol.TheVariants as symbol
use Rattle.pm_lexer.specs.declared.symbol.TheConstants.{NUMBER_BYTES, RESERVED, SIGNS}
use Rattle.pm_lexer.specs.Symbol.{symbol_at, same_symbol, reserved_word, canonical_sign, spelling}

-- no reserved word and no sign is of this kind
abbrev Apart : Symbol → Symbol → Bool
Apart s w = not (same_symbol w s)

found_apart : (s : Symbol) (p : Symbol → Bool) (xs : List Symbol) → list_all (Apart s) xs ≡ true → Apart s symbol.Other ≡ true → Apart s (unwrap_or (find p xs) symbol.Other) ≡ true
found_apart s p [] all other = other
found_apart s p (x ∷ xs) all other =
    let both = and_parts (Apart s x) (list_all (Apart s) xs) all in
    elim (p x) as (λ b. Apart s (unwrap_or (cond b (Some x) (find p xs)) symbol.Other) ≡ true) [ true ↦ both.0 | false ↦ found_apart s p xs both.1 other ]

no_symbol : (s w : Symbol) → Apart s w ≡ true → same_symbol w s ≡ true → ⊥
no_symbol s w apart same = let bad : false ≡ true = sym (ap not same) ∙ apart in absurd (cc bad)

pub record Kind (s : Symbol) : Type 0 where
  pub words : list_all (Apart s) RESERVED ≡ true
  pub signs : list_all (Apart s) SIGNS ≡ true
  pub unequal : Apart s symbol.Unequal ≡ true
  pub other : Apart s symbol.Other ≡ true

pub name_kind : Kind symbol.Name
unfolding same_symbol
name_kind = record { words = refl; signs = refl; unequal = refl; other = refl }

number_kind : Kind symbol.Number
unfolding same_symbol
number_kind = record { words = refl; signs = refl; unequal = refl; other = refl }

pub no_word : (s : Symbol) → Kind s → (slice : List ℕ) → same_symbol (symbol_at kind.Reserved slice) s ≡ true → ⊥
unfolding reserved_word
no_word s k slice same = no_symbol s (symbol_at kind.Reserved slice) (found_apart s (λ word. str_eq_ignore_ascii_case slice (spelling word)) RESERVED k.words k.other) same

pub no_sign : (s : Symbol) → Kind s → (slice : List ℕ) → same_symbol (symbol_at kind.Sign slice) s ≡ true → ⊥
unfolding canonical_sign
no_sign s k slice same = no_symbol s (symbol_at kind.Sign slice) apart same
  where
    apart : Apart s (unwrap_or (if bytes_eq slice (codes "!=") then Some symbol.Unequal else canonical_sign slice) symbol.Other) ≡ true
    apart = elim (bytes_eq slice (codes "!=")) as (λ b. Apart s (unwrap_or (if b then Some symbol.Unequal else canonical_sign slice) symbol.Other) ≡ true) [
      | true ↦ k.unequal
      | false ↦ found_apart s (λ sign. bytes_eq slice (spelling sign)) SIGNS k.signs k.other
    ]

-- a number is of a number's kind, and short
pub number_at : (k : TokenKind) (slice : List ℕ) → same_symbol (symbol_at k slice) symbol.Number ≡ true → (k ≡ kind.Number) × (length slice ≤ NUMBER_BYTES)
unfolding same_symbol
number_at kind.Name slice same = absurd (cc same)
number_at kind.Reserved slice same = absurd (no_word symbol.Number number_kind slice same)
number_at kind.Quoted slice same = absurd (cc same)
number_at kind.Number slice same = (
  refl,
  elim (nat_le (length slice) NUMBER_BYTES) as (λ b. nat_le (length slice) NUMBER_BYTES ≡ b → same_symbol (if b then symbol.Number else symbol.Other) symbol.Number ≡ true → length slice ≤ NUMBER_BYTES) [
    | true ↦ λ e _. short (length slice) e
    | false ↦ λ _ other. absurd (cc other)
  ] refl same,
)
  where
    short : (n : ℕ) → nat_le n NUMBER_BYTES ≡ true → n ≤ NUMBER_BYTES
    short n e = grind (arith, nat_tests)
number_at kind.Text slice same = absurd (cc same)
number_at kind.Sign slice same = absurd (no_sign symbol.Number number_kind slice same)
number_at kind.End slice same = absurd (cc same)
